-- The changes of a delta are at keys that are in an order, and what they make has their keys.
use Rattle.std.proofs.Common.{◌≡◌, ◌∙◌, ℕ, Bool, true, false, if◌then◌else◌, length, take, Option, Some, None, refl, sym, subst}
use Rattle.std.specs.Option.{ForSome, option_map}
use Rattle.std.specs.Ordering.{nat_cmp}
use Rattle.std.specs.Prelude.{nat_le}
use Rattle.std.specs.Cmp.{nat_cmp_is}
use Rattle.std.specs.Cmp.Lexicographic.{slice_cmp, nat_list_cmp_total}
use Rattle.std.specs.declared.cmp.Ordering.TheVariants.{Less, Equal}
use Rattle.std.proofs.lemmas.Cmp.{nat_cmp_total}
use Rattle.model_values.specs.declared.cell.Binding.{Binding}
use Rattle.model_run.specs.declared.request.Request.{Request}
use Rattle.model_run.specs.declared.request.OpenRequest.{OpenRequest}
use Rattle.image_form.specs.declared.image.ImageThread.{ImageThread}
use Rattle.delta_form.specs.Changes.{Keyed, by_number}
use Rattle.delta_form.specs.After.{binding_changes, gone, grown, frames_of, new_binding, request_changes, thread_changes, thread_with, written_request, written_thread}
use Rattle.delta_form.specs.Numbers.{written_number}
use Rattle.delta_form.specs.declared.delta.WrittenRequest.TheVariants as written

-- what a change makes has its number
abbrev pub KeepsNumber : {C X : Type 0} → (X → ℕ) → (C → ℕ) → (C → Option X → Option (Option X)) → Type 0
KeepsNumber {C} {X} item_number number made = (c : C) (stood : Option X) (y : X) → ForSome stood (λ x. nat_cmp (item_number x) (number c) ≡ Equal) → made c stood ≡ Some (Some y) → nat_cmp (item_number y) (number c) ≡ Equal

same_number : (n : ℕ) → nat_cmp n n ≡ Equal
same_number n = sym (nat_cmp_is n n Equal refl)

pub by_number_keyed : {C X : Type 0} (item_number : X → ℕ) (number : C → ℕ) (made : C → Option X → Option (Option X)) → KeepsNumber item_number number made → Keyed (by_number item_number number made)
by_number_keyed item_number number made keeps = record {
  chain = λ c d e. nat_cmp_total.trans (number c) (number d) (number e);
  front = λ x c d. nat_cmp_total.trans (item_number x) (number c) (number d);
  keeps = λ c d stood y at is less. nat_cmp_total.congr (item_number y) (number c) (number d) (keeps c stood y at is) ∙ less;
}

-- nothing is made where one is gone
none_left : {X : Type 0} (item_number : X → ℕ) → KeepsNumber item_number (λ n. n) gone
none_left item_number n None y at is = absurd cc
none_left item_number n (Some x) y at is = absurd cc

pub gone_keyed : {X : Type 0} (item_number : X → ℕ) → Keyed (by_number item_number (λ n. n) gone)
gone_keyed item_number = by_number_keyed item_number (λ n. n) gone (none_left item_number)

request_kept : KeepsNumber (λ r. r.number) written_number written_request
request_kept (written.Whole r) stood y at is = let same : r ≡ y = cc in subst (λ (q : OpenRequest). nat_cmp q.number r.number ≡ Equal) same (same_number r.number)
request_kept (written.Grown number taken added) None y at is = absurd cc
request_kept (written.Grown number taken added) (Some r) y at is = go (grown taken added r.request) is
  where
    go : (o : Option Request) → option_map (λ q. Some (record r { request = q })) o ≡ Some (Some y) → nat_cmp y.number number ≡ Equal
    go None e = absurd cc
    go (Some q) e = let same : record r { request = q } ≡ y = cc in subst (λ (z : OpenRequest). nat_cmp z.number number ≡ Equal) same (at r refl)

pub requests_keyed : Keyed request_changes
requests_keyed = by_number_keyed (λ r. r.number) written_number written_request request_kept

thread_kept : KeepsNumber (λ t. t.number) (λ w. w.number) written_thread
thread_kept w stood y at is = go (nat_le w.kept (length (frames_of stood))) is
  where
    go : (b : Bool) → (if b then Some (Some (thread_with w (take w.kept (frames_of stood)))) else None) ≡ Some (Some y) → nat_cmp y.number w.number ≡ Equal
    go true e = let same : thread_with w (take w.kept (frames_of stood)) ≡ y = cc in subst (λ (t : ImageThread). nat_cmp t.number w.number ≡ Equal) same (same_number w.number)
    go false e = absurd cc

pub threads_keyed : Keyed thread_changes
threads_keyed = by_number_keyed (λ t. t.number) (λ w. w.number) written_thread thread_kept

binding_kept : (c d : Binding) (stood : Option Binding) (y : Binding) → new_binding c stood ≡ Some (Some y) → slice_cmp nat_cmp c.name d.name ≡ Less → slice_cmp nat_cmp y.name d.name ≡ Less
binding_kept c d None y is less = let same : c ≡ y = cc in subst (λ (b : Binding). slice_cmp nat_cmp b.name d.name ≡ Less) same less
binding_kept c d (Some x) y is less = absurd cc

pub bindings_keyed : Keyed binding_changes
bindings_keyed = record {
  chain = λ c d e. nat_list_cmp_total.trans c.name d.name e.name;
  front = λ x c d. nat_list_cmp_total.trans x.name c.name d.name;
  keeps = λ c d stood y at is less. binding_kept c d stood y is less;
}
