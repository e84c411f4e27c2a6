-- What stands at a place of the bytes, and what a reading that did not fail went through.
use Rattle.std.proofs.Common.{◌≡◌, ℕ, ◌+◌, ◌<◌, ◌≤◌, Bool, true, false, cond, List, ◌++◌, length, take, drop, Result, Ok, Err, refl, sym, ap, ◌∙◌, arith, length-append}
use Rattle.std.proofs.lemmas.List.{length-take, length-drop, drop-drop}
use Rattle.byte_form.specs.Fields.{StandsAt}
use Rattle.byte_form.proofs.FieldLemmas.{StandsAt-join, StandsAt-front, StandsAt-back}
use Rattle.field_form.specs.Reading.{◌>>=◌}

pub bind_ok : {A B : Type 0} (r : Result A ℕ) (f : A → Result B ℕ) (y : B) → (r >>= f) ≡ Ok y → (x : A) × (r ≡ Ok x) × (f x ≡ Ok y)
bind_ok (Ok x) f y e = (x, refl, e)
bind_ok (Err d) f y e = absurd cc

pub guard_ok : {A : Type 0} (b : Bool) (d : ℕ) (x y : A) → cond b (Err d) (Ok x) ≡ Ok y → (b ≡ false) × (x ≡ y)
guard_ok true d x y e = absurd cc
guard_ok false d x y e = (refl, cc)

pub test_ok : {A : Type 0} (b : Bool) (d : ℕ) (r : Result A ℕ) (y : A) → cond b r (Err d) ≡ Ok y → (b ≡ true) × (r ≡ Ok y)
test_ok true d r y e = (refl, e)
test_ok false d r y e = absurd cc

abbrev done : {A : Type 0} → A → Result A ℕ
done x = Ok x

pub ok_is : {A : Type 0} (x y : A) → done x ≡ done y → x ≡ y
ok_is x y e = cc

pub stands_join : (x y bytes : List ℕ) (at : ℕ) → StandsAt x at bytes → StandsAt y (at + length x) bytes → StandsAt (x ++ y) at bytes
stands_join x y bytes at first next = StandsAt-join x y bytes at (length x) refl first next

pub stands_front : (x y bytes : List ℕ) (at : ℕ) → StandsAt (x ++ y) at bytes → StandsAt x at bytes
stands_front x y bytes at both = StandsAt-front x y bytes at both

pub stands_back : (x y bytes : List ℕ) (at : ℕ) → StandsAt (x ++ y) at bytes → StandsAt y (at + length x) bytes
stands_back x y bytes at both = ap (take (length y)) (sym (drop-drop (length x) at bytes)) ∙ StandsAt-back x y bytes at both

pub stands_length : (x bytes : List ℕ) (at : ℕ) → 0 < length x → StandsAt x at bytes → at + length x ≤ length bytes
stands_length x bytes at some stands =
    let e : length (take (length x) (drop at bytes)) ≡ length x = ap length stands in
    omega (arith, e, length-take (length x) (drop at bytes), length-drop at bytes, some)

pub behind_two : (at : ℕ) (x y : List ℕ) → at + length x + length y ≡ at + length (x ++ y)
behind_two at x y = omega (arith, length-append x y)
