-- The method table by names: `method_call` is the call of a method without a closure where there is one, else that of
-- one with a closure, else the throw; and there is one without a closure exactly where the table of numbers of
-- arguments says so, whatever the values are.
use Rattle.std.proofs.Common.{◌≡◌, refl, sym, ◌∙◌, arith, ◌&&◌, nat_lt, nat_eq, ℕ, suc, Bool, true, false, List, [], ◌∷◌, length, Option, Some, None}
use Rattle.std.specs.Prelude.{is_some}
use Rattle.std.specs.List.{list_any}
use Rattle.std.proofs.lemmas.Bool.Decides.{nat_tests}
use Rattle.model_values.specs.Kinds.{Kind, text, kind}
use Rattle.model_values.specs.Limits.{Limits}
use Rattle.model_values.specs.MethodNames.{Method, method_named, ToString}
use Rattle.model_values.specs.Methods.{named_call, call_by, method_call}
use Rattle.model_values.specs.Types.{Value, Cell}
use Rattle.model_values.specs.MethodTable.{own_method, own_by, own_call, closure_method, closure_by, closure_call, called_or_none, arities, has_method, has_named}

-- no row has more than two arguments
few : List ℕ → Bool
few [] = true
few (k ∷ ks) = nat_lt k 3 && few ks

few_front : (b c : Bool) → (b && c) ≡ true → (b ≡ true) × (c ≡ true)
few_front true c e = (refl, e)
few_front false c e = cc

not_among : (n : ℕ) (ks : List ℕ) → few ks ≡ true → list_any (nat_eq (suc (suc (suc n)))) ks ≡ false
unfolding few
not_among n [] e = refl
not_among n (k ∷ ks) e =
    let p = few_front (nat_lt k 3) (few ks) e in
    let q : nat_eq (suc (suc (suc n))) k ≡ false = grind (arith, nat_tests) in
    simp (q, not_among n ks p.1)

few_arities : (on : Kind) (m : Method) → few (arities on m) ≡ true
unfolding few
few_arities (text s) ToString = refl
few_arities on ToString = refl
few_arities on m = refl

module _ (l : Limits) (h : List Cell) where
  -- by the number of arguments
  has_none : (a : Value) (on : Kind) (m : Method) (n : ℕ) → is_some (own_method l h a on m [] n) ≡ has_method on (Some m) 0
  has_none a (text s) ToString n = refl
  has_none a on ToString n = refl
  has_none a on m n = refl

  has_one : (a : Value) (on : Kind) (m : Method) (x : Value) (n : ℕ) → is_some (own_method l h a on m (x ∷ []) n) ≡ has_method on (Some m) 1
  has_one a (text s) ToString x n = refl
  has_one a on ToString x n = refl
  has_one a on m x n = refl

  has_two : (a : Value) (on : Kind) (m : Method) (x y : Value) (n : ℕ) → is_some (own_method l h a on m (x ∷ y ∷ []) n) ≡ has_method on (Some m) 2
  has_two a (text s) ToString x y n = refl
  has_two a on ToString x y n = refl
  has_two a on m x y n = refl

  has_more : (a : Value) (on : Kind) (m : Method) (x y z : Value) (zs : List Value) (n : ℕ) → is_some (own_method l h a on m (x ∷ y ∷ z ∷ zs) n) ≡ false
  has_more a (text s) ToString x y z zs n = refl
  has_more a on ToString x y z zs n = refl
  has_more a on m x y z zs n = refl

  own_method_has : (a : Value) (on : Kind) (m : Method) (args : List Value) (n : ℕ) → is_some (own_method l h a on m args n) ≡ has_method on (Some m) (length args)
  own_method_has a on m [] n = has_none a on m n
  own_method_has a on m (x ∷ []) n = has_one a on m x n
  own_method_has a on m (x ∷ y ∷ []) n = has_two a on m x y n
  own_method_has a on m (x ∷ y ∷ z ∷ zs) n = has_more a on m x y z zs n ∙ sym (not_among (length zs) (arities on m) (few_arities on m))

  own_by_has : (o : Option Method) (a : Value) (args : List Value) (n : ℕ) → is_some (own_by l h o a args n) ≡ has_method (kind h a) o (length args)
  own_by_has None a args n = refl
  own_by_has (Some m) a args n = own_method_has a (kind h a) m args n

  -- whether there is a method without a closure does not hang on the cells, the limits, the arguments or the count
  pub own_call_has : (a : Value) (name : List ℕ) (args : List Value) (n : ℕ) → is_some (own_call l h a name args n) ≡ has_named (kind h a) name (length args)
  own_call_has a name args n = own_by_has (method_named name) a args n

  call_none : (a : Value) (on : Kind) (name : List ℕ) (m : Method) (n : ℕ) → named_call l h a on name m [] n ≡ called_or_none l h (own_method l h a on m [] n) (closure_method l h on m [] n) on name n
  call_none a (text s) name ToString n = refl
  call_none a on name ToString n = refl
  call_none a on name m n = refl

  call_one : (a : Value) (on : Kind) (name : List ℕ) (m : Method) (x : Value) (n : ℕ) → named_call l h a on name m (x ∷ []) n ≡ called_or_none l h (own_method l h a on m (x ∷ []) n) (closure_method l h on m (x ∷ []) n) on name n
  call_one a (text s) name ToString x n = refl
  call_one a on name ToString x n = refl
  call_one a on name m x n = refl

  call_two : (a : Value) (on : Kind) (name : List ℕ) (m : Method) (x y : Value) (n : ℕ) → named_call l h a on name m (x ∷ y ∷ []) n ≡ called_or_none l h (own_method l h a on m (x ∷ y ∷ []) n) (closure_method l h on m (x ∷ y ∷ []) n) on name n
  call_two a (text s) name ToString x y n = refl
  call_two a on name ToString x y n = refl
  call_two a on name m x y n = refl

  call_more : (a : Value) (on : Kind) (name : List ℕ) (m : Method) (x y z : Value) (zs : List Value) (n : ℕ) → named_call l h a on name m (x ∷ y ∷ z ∷ zs) n ≡ called_or_none l h (own_method l h a on m (x ∷ y ∷ z ∷ zs) n) (closure_method l h on m (x ∷ y ∷ z ∷ zs) n) on name n
  call_more a (text s) name ToString x y z zs n = refl
  call_more a on name ToString x y z zs n = refl
  call_more a on name m x y z zs n = refl

  named_call_is : (a : Value) (on : Kind) (name : List ℕ) (m : Method) (args : List Value) (n : ℕ) → named_call l h a on name m args n ≡ called_or_none l h (own_method l h a on m args n) (closure_method l h on m args n) on name n
  named_call_is a on name m [] n = call_none a on name m n
  named_call_is a on name m (x ∷ []) n = call_one a on name m x n
  named_call_is a on name m (x ∷ y ∷ []) n = call_two a on name m x y n
  named_call_is a on name m (x ∷ y ∷ z ∷ zs) n = call_more a on name m x y z zs n

  call_by_is : (o : Option Method) (a : Value) (name : List ℕ) (args : List Value) (n : ℕ) → call_by l h o a name args n ≡ called_or_none l h (own_by l h o a args n) (closure_by l h o a args n) (kind h a) name n
  call_by_is None a name args n = refl
  call_by_is (Some m) a name args n = named_call_is a (kind h a) name m args n

  -- `method_call` uses just these
  pub method_call_is : (a : Value) (name : List ℕ) (args : List Value) (n : ℕ) → method_call l h a name args n ≡ called_or_none l h (own_call l h a name args n) (closure_call l h a name args n) (kind h a) name n
  method_call_is a name args n = call_by_is (method_named name) a name args n
