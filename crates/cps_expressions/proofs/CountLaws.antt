-- How many values a node keeps, from part to part.
use Rattle.std.proofs.Common.{◌≡◌, ◌∙◌, ◌<◌, ◌≤◌, ◌+◌, ◌-◌, ◌&&◌, ◌++◌, ◌∷◌, [], ℕ, zero, suc, Bool, true, false, not, List, Option, Some, None, if◌then◌else◌, length, length-append, drop, take, refl, ap, sym, arith}
use Rattle.std.specs.Prelude.{is_some}
use Rattle.std.proofs.Math.Seq.{drop-cons}
use Rattle.model_syntax.specs.declared.node.NodeForm.{NodeForm}
use Rattle.model_syntax.specs.declared.node.NodeForm.TheVariants as form
use Rattle.model_values.specs.declared.value.Value.{Value}
use Rattle.model_run.specs.declared.ending.Ending.{Ending}
use Rattle.model_run.specs.declared.frame.Frame.{Frame}
use Rattle.model_run.specs.declared.frame.FrameKind.TheVariants as kind
use Rattle.model_run.specs.Around.{Shape, arity, form_at}
use Rattle.model_run.specs.Calls.{called_value}
use Rattle.model_run.specs.Fitting.{known}
use Rattle.model_run.specs.FrameTable.{No_more, any_values, count_before, count_behind, count_closed, count_of, count_with, current, gathers, is_method, is_name_call, is_plain, key_count}
use Rattle.model_run.specs.Gathering.{closes_named, is_call, is_named, named_keys}
use Rattle.model_run.specs.Names.{look}
use Rattle.model_run.specs.Nesting.{ValuesFit}
use Rattle.model_run.specs.State.{Common, Env, World}
use Rattle.cps_calls.specs.Meanings.{name_at}
use Rattle.cps_frames.specs.Places.{MayGoOn}
use Rattle.cps_frames.specs.Standing.{Standing, shape_at}
use Rattle.cps_operators.proofs.FrameLaws.{row_left, row_stands, row_values}
use Rattle.cps_values.specs.Values.{values_given}
use Rattle.cps_values.proofs.CountLaws.{no_fewer}

-- behind one part more
pub count_next : (sh : Shape) (env : Env) (m : ℕ) → m < arity sh → count_of sh env (arity sh - m) ≡ count_behind sh m (count_of sh env (current sh m))
count_next sh env m lt =
    let e : arity sh - m ≡ suc (arity sh - suc m) = omega arith in
    let j : arity sh - suc (arity sh - suc m) ≡ m = omega arith in
    ap (count_of sh env) e ∙ ap (λ j. count_behind sh j (count_of sh env (arity sh - suc m))) j

and_false : (b : Bool) → (b && false) ≡ false
and_false true = refl
and_false false = refl

plain_count : (sh : Shape) (m : ℕ) (t : List ℕ) → form_at sh.parts (arity sh - suc m) ≡ form.PlainPart t → (n : ℕ) → count_behind sh m n ≡ n
plain_count sh m t is n =
    ap (λ q. count_closed (is_call sh.form && (is_named q && not (is_named (form_at sh.parts (arity sh - m))))) (length (named_keys sh.parts)) (count_with q n)) is ∙ ap (λ b. count_closed b (length (named_keys sh.parts)) n) (and_false (is_call sh.form))

-- a plain part keeps nothing
pub count_plain : (sh : Shape) (env : Env) (n : ℕ) (t : List ℕ) → 0 < n → n ≤ arity sh → form_at sh.parts (arity sh - n) ≡ form.PlainPart t → count_of sh env (arity sh - n) ≡ count_of sh env (arity sh - (n - 1))
count_plain sh env n t some le is =
    let m : ℕ = n - 1 in
    let e : suc m ≡ n = omega arith in
    let lt : m < arity sh = omega arith in
    let here : form_at sh.parts (arity sh - suc m) ≡ form.PlainPart t = ap (λ i. form_at sh.parts (arity sh - i)) e ∙ is in
    ap (λ i. count_of sh env (arity sh - i)) (sym e) ∙ sym (plain_count sh m t here (count_of sh env (arity sh - suc m))) ∙ sym (count_next sh env m lt)

-- What stands before the parts: the value that is called.
pub called_count : (w : World) (o : Option ℕ) → length (called_value w o) ≡ (if is_some o then 1 else 0)
called_count w (Some c) = refl
called_count w None = refl

pub call_before : (f : NodeForm) (x : List ℕ) (env : Env) → f ≡ form.Call x → count_before f env ≡ (if is_some (look x env) then 1 else 0)
call_before f x env is = ap (λ g. count_before g env) is

pub method_before : (f : NodeForm) (env : Env) → is_method f ≡ true → count_before f env ≡ 1
method_before (form.Method access x) env is = refl
method_before f env is = absurd (cc is)

pub name_before : (f : NodeForm) (env : Env) → is_name_call f ≡ true → is_some (look (name_at f) env) ≡ true → count_before f env ≡ 1
name_before (form.Call x) env is some = ap (λ b. if b then 1 else 0) some
name_before f env is some = absurd (cc is)

-- it stays there, or is in the map of the arguments with names
closed_some : (b : Bool) (names n : ℕ) → 0 < n → 0 < count_closed b names n
closed_some true names n some = omega arith
closed_some false names n some = some

pub count_some : (sh : Shape) (env : Env) (n : ℕ) → count_before sh.form env ≡ 1 → 0 < count_of sh env n
count_some sh env zero before = omega (arith, before)
count_some sh env (suc n) before =
    let m : ℕ = arity sh - suc n in
    let p : NodeForm = form_at sh.parts (current sh m) in
    let some : 0 < count_of sh env n = count_some sh env n before in
    let le : count_of sh env n ≤ count_with p (count_of sh env n) = no_fewer p (count_of sh env n) in
    let more : 0 < count_with p (count_of sh env n) = omega (arith, some, le) in
    closed_some (closes_named sh m) (length (named_keys sh.parts)) (count_with p (count_of sh env n)) more

-- Where there are no arguments, each part adds what it gives.
with_more : (f : NodeForm) (a b : ℕ) → count_with f a + b ≡ a + count_with f b
with_more (form.PlainPart t) a b = refl
with_more form.ComputedEntry a b = omega arith
with_more f a b = omega arith

count_apart : (sh : Shape) (env : Env) (n : ℕ) → is_call sh.form ≡ false → n < arity sh → count_of sh env (suc n) ≡ count_with (form_at sh.parts n) (count_of sh env n)
count_apart sh env n none lt =
    let m : ℕ = arity sh - suc n in
    let here : arity sh - suc m ≡ n = omega arith in
    ap (λ b. count_closed (b && (is_named (form_at sh.parts (arity sh - suc m)) && not (is_named (form_at sh.parts (arity sh - m))))) (length (named_keys sh.parts)) (count_with (form_at sh.parts (arity sh - suc m)) (count_of sh env n))) none
    ∙ ap (λ i. count_with (form_at sh.parts i) (count_of sh env n)) here

so_far : (sh : Shape) (env : Env) (n : ℕ) → is_call sh.form ≡ false → count_before sh.form env ≡ 0 → n ≤ arity sh → count_of sh env n + values_given (drop n sh.parts) ≡ values_given sh.parts
so_far sh env zero none before le = let z : 0 + values_given sh.parts ≡ values_given sh.parts = omega arith in ap (λ i. i + values_given sh.parts) before ∙ z
so_far sh env (suc n) none before le =
    let lt : n < arity sh = omega arith in
    let p : NodeForm = form_at sh.parts n in
    let rest : List NodeForm = drop (suc n) sh.parts in
    ap (λ i. i + values_given rest) (count_apart sh env n none lt) ∙ with_more p (count_of sh env n) (values_given rest)
    ∙ ap (λ fs. count_of sh env n + values_given fs) (sym (drop-cons sh.parts n form.Block lt))
    ∙ so_far sh env n none before (omega arith)

drop_all : (fs : List NodeForm) → drop (length fs) fs ≡ []
drop_all [] = refl
drop_all (f ∷ fs) = drop_all fs

pub all_given : (sh : Shape) (env : Env) → is_call sh.form ≡ false → count_before sh.form env ≡ 0 → values_given sh.parts ≡ count_of sh env (arity sh)
all_given sh env none before =
    let e : count_of sh env (arity sh) + values_given (drop (arity sh) sh.parts) ≡ values_given sh.parts = so_far sh env (arity sh) none before (omega arith) in
    let z : values_given (drop (arity sh) sh.parts) ≡ 0 = ap values_given (drop_all sh.parts) in
    omega (arith, e, z)

-- Behind the value of a part.
as_many : (u : Common) (n : ℕ) (vs : List Value) → ValuesFit (known u) No_more (any_values n) vs → length vs ≡ n
as_many u zero [] fits = refl
as_many u zero (v ∷ vs) fits = absurd fits
as_many u (suc n) [] fits = absurd fits
as_many u (suc n) (v ∷ vs) fits = ap suc (as_many u n vs fits.1)

second : (a b : Bool) → (a && not b) ≡ true → b ≡ false
second true true e = absurd (cc e)
second true false e = refl
second false b e = absurd (cc e)

part_value : (p : NodeForm) → is_plain p ≡ false → (n : ℕ) → n + key_count p + 1 ≡ count_with p n
part_value (form.PlainPart t) h n = absurd (cc h)
part_value form.ComputedEntry h n = omega arith
part_value f h n = omega arith

longer : (vs : List Value) (v : Value) → length (vs ++ v ∷ []) ≡ length vs + 1
longer vs v = omega (arith, length-append vs (v ∷ []))

taken : (n : ℕ) (vs : List Value) → n ≤ length vs → length (take n vs) ≡ n
taken zero vs h = refl
taken (suc n) [] h = absurd (omega arith)
taken (suc n) (v ∷ vs) h = let e : length (take n vs) ≡ n = taken n vs (omega arith) in omega (arith, e)

module _ (u : Standing) (f : Frame) (e : Ending) (v : Value) (ks : List Value) (may : MayGoOn u f e) (is : f.kind ≡ kind.Gathered) (kept : ks ≡ f.values ++ v ∷ []) where
  with_value : length ks ≡ count_with (form_at (shape_at u.world f.node).parts (current (shape_at u.world f.node) f.left)) (count_of (shape_at u.world f.node) f.env (current (shape_at u.world f.node) f.left))
  with_value =
      let sh : Shape = shape_at u.world f.node in
      let p : NodeForm = form_at sh.parts (current sh f.left) in
      let n : ℕ = count_of sh f.env (current sh f.left) in
      let plain : is_plain p ≡ false = second (gathers sh.form) (is_plain p) (row_stands u f e kind.Gathered may is) in
      let many : length f.values ≡ n + key_count p = as_many u.world.shared (n + key_count p) f.values (row_values u f e kind.Gathered may is) in
      let one : n + key_count p + 1 ≡ count_with p n = part_value p plain n in
      ap length kept ∙ longer f.values v ∙ ap (λ i. i + 1) many ∙ one

  closed : (b : Bool) → b ≡ closes_named (shape_at u.world f.node) f.left → count_of (shape_at u.world f.node) f.env (arity (shape_at u.world f.node) - f.left) ≡ count_closed b (length (named_keys (shape_at u.world f.node).parts)) (length ks)
  closed b closes =
      let sh : Shape = shape_at u.world f.node in
      count_next sh f.env f.left (row_left u f e kind.Gathered may is)
      ∙ ap (λ c. count_closed c (length (named_keys sh.parts)) (count_with (form_at sh.parts (current sh f.left)) (count_of sh f.env (current sh f.left)))) (sym closes)
      ∙ ap (count_closed b (length (named_keys sh.parts))) (sym with_value)

  -- no map is made of arguments with names
  pub kept_count : false ≡ closes_named (shape_at u.world f.node) f.left → length ks ≡ count_of (shape_at u.world f.node) f.env (arity (shape_at u.world f.node) - f.left)
  kept_count closes = sym (closed false closes)

  -- the map of the arguments with names stands in their place
  pub map_count : (x : Value) (xs : List Value) → true ≡ closes_named (shape_at u.world f.node) f.left → xs ≡ take (length ks - length (named_keys (shape_at u.world f.node).parts)) ks ++ x ∷ [] → length xs ≡ count_of (shape_at u.world f.node) f.env (arity (shape_at u.world f.node) - f.left)
  map_count x xs closes same =
      let n : ℕ = length ks - length (named_keys (shape_at u.world f.node).parts) in
      let some : length (take n ks) ≡ n = taken n ks (omega arith) in
      let one : length xs ≡ length (take n ks) + 1 = ap length same ∙ longer (take n ks) x in
      let e : length xs ≡ suc n = omega (arith, one, some) in
      e ∙ sym (closed true closes)
