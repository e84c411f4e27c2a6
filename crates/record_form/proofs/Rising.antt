-- Lists that rise: what each item is behind those before it.
use Rattle.std.proofs.Common.{◌≡◌, ◌+◌, ◌-◌, ◌∙◌, ℕ, suc, Bool, true, List, [], ◌∷◌, ◌++◌, length, Option, Some, refl, sym, subst, arith, length-append, slice_get}
use Rattle.std.specs.Prelude.{IsTrue, map, nat_lt}
use Rattle.field_form.specs.Forms.{AllBehind}
use Rattle.std.specs.Option.{option_map_or}
use Rattle.std.specs.List.{AllByRecursion as AllAre}
use Rattle.std.proofs.lemmas.Bool.{lt-ltb}
use Rattle.field_form.specs.Rules.{rises}
use Rattle.image_form.specs.Images.{lower_name}
use Rattle.model_values.specs.declared.cell.Binding.{Binding}
use Rattle.model_run.specs.declared.flow.FlowNode.{FlowNode}
use Rattle.model_run.specs.Fitting.{NamesRise, NodesFit, Rises}

-- each item is below the next one
abbrev pub EachBelow : {V K : Type 0} → (V → K → Bool) → (V → K) → List V → Type 0
EachBelow below key [] = Unit {0}
EachBelow below key (x ∷ []) = Unit {0}
EachBelow below key (x ∷ y ∷ ys) = IsTrue (below x (key y)) × EachBelow below key (y ∷ ys)

at_end : {V : Type 0} (before : List V) (x : V) → slice_get (before ++ x ∷ []) (length before) ≡ Some x
at_end [] x = refl
at_end (y ∷ ys) x = at_end ys x

last_behind : {V : Type 0} (before : List V) (x : V) → slice_get (before ++ x ∷ []) (length (before ++ x ∷ []) - 1) ≡ Some x
last_behind before x =
    let last : length (before ++ x ∷ []) - 1 ≡ length before = omega (arith, length-append before (x ∷ [])) in
    subst (λ (n : ℕ). slice_get (before ++ x ∷ []) n ≡ Some x) (sym last) (at_end before x)

module _ {V K : Type 0} (below : V → K → Bool) (key : V → K) where
  rising_behind : (before : List V) (x : V) (xs : List V) → EachBelow below key (x ∷ xs) → AllBehind (λ b y. IsTrue (rises below b (key y))) (before ++ x ∷ []) xs
  rising_behind before x [] each = tt
  rising_behind before x (y ∷ ys) each =
      (subst (λ (o : Option V). IsTrue (option_map_or (λ last. below last (key y)) o true)) (sym (last_behind before x)) each.0, rising_behind (before ++ x ∷ []) y ys each.1)

  pub all_rise : (xs : List V) → EachBelow below key xs → AllBehind (λ b y. IsTrue (rises below b (key y))) [] xs
  all_rise [] each = tt
  all_rise (x ∷ xs) each = (refl, rising_behind [] x xs each)

-- by numbers
pub below_numbers : {V : Type 0} (number : V → ℕ) (xs : List V) → Rises (map number xs) → EachBelow (λ x n. nat_lt (number x) n) number xs
below_numbers number [] rise = tt
below_numbers number (x ∷ []) rise = tt
below_numbers number (x ∷ y ∷ ys) rise = (lt-ltb (number x) (number y) rise.0, below_numbers number (y ∷ ys) rise.1)

-- by names
pub below_names : (bs : List Binding) → NamesRise bs → EachBelow lower_name (λ b. b.name) bs
below_names [] rise = tt
below_names (b ∷ []) rise = tt
below_names (b ∷ c ∷ bs) rise = (rise.0, below_names (c ∷ bs) rise.1)

-- flow nodes by their places
pub counted_behind : (before ns : List FlowNode) (id : ℕ) → id ≡ length before + 2 → NodesFit id ns → AllBehind (λ b n. n.id ≡ length b + 2) before ns
counted_behind before [] id is fit = tt
counted_behind before (n ∷ ns) id is fit =
    (fit.0 ∙ is, counted_behind (before ++ n ∷ []) ns (suc id) (omega (arith, is, length-append before (n ∷ []))) fit.3)

-- two facts of each item
pub all_both : {V : Type 0} (P Q : List V → V → Type 0) (before xs : List V) → AllBehind P before xs → AllBehind Q before xs → AllBehind (λ b x. P b x × Q b x) before xs
all_both P Q before [] p q = tt
all_both P Q before (x ∷ xs) p q = ((p.0, q.0), all_both P Q (before ++ x ∷ []) xs p.1 q.1)

pub all_to : {V : Type 0} (P Q : List V → V → Type 0) → ((b : List V) (x : V) → P b x → Q b x) → (before xs : List V) → AllBehind P before xs → AllBehind Q before xs
all_to P Q to before [] p = tt
all_to P Q to before (x ∷ xs) p = (to before x p.0, all_to P Q to (before ++ x ∷ []) xs p.1)

pub all_items : {V : Type 0} (P : V → Type 0) (before xs : List V) → AllAre P xs → AllBehind (λ b x. P x) before xs
all_items P before [] p = tt
all_items P before (x ∷ xs) p = (p.0, all_items P (before ++ x ∷ []) xs p.1)
