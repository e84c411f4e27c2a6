-- Tests and what they test.
use Rattle.std.proofs.Common.{◌≡◌, ◌∙◌, ◌<◌, ◌≤◌, ℕ, Bool, true, false, not, Option, Some, None, refl, ap}
use Rattle.std.specs.Prelude.{◌&&◌, nat_eq, nat_lt}
use Rattle.std.proofs.lemmas.Bool.{ltb-true, ltb-false, lt-ltb, le-ltb, eqb-true, eq-eqb}
use Rattle.image_check.specs.declared.finding.Finding.{Finding}
use Rattle.image_check.specs.Scans.{need, ◌then◌}

-- a test of something, which says just whether it holds
pub record Tests (b : Bool) (P : Type 0) : Type 0 where
  pub holds : b ≡ true → P
  pub told : P → b ≡ true

pub left_true : (a b : Bool) → (a && b) ≡ true → a ≡ true
left_true true b e = refl
left_true false b e = e

pub right_true : (a b : Bool) → (a && b) ≡ true → b ≡ true
right_true true b e = e
right_true false b e = absurd (cc e)

pub both_true : (a b : Bool) → a ≡ true → b ≡ true → (a && b) ≡ true
both_true a b e d = ap (λ x. x && b) e ∙ d

pub not_true : (a : Bool) → not a ≡ true → a ≡ false
not_true true e = absurd (cc e)
not_true false e = refl

pub both : {P Q : Type 0} (a b : Bool) → Tests a P → Tests b Q → Tests (a && b) (P × Q)
both a b p q = record {
  holds = λ e. (p.holds (left_true a b e), q.holds (right_true a b e));
  told = λ h. both_true a b (p.told h.0) (q.told h.1);
}

pub alike : {P Q : Type 0} (b : Bool) → Tests b P → (P → Q) → (Q → P) → Tests b Q
alike b p to from = record { holds = λ e. to (p.holds e); told = λ h. p.told (from h) }

pub flag : (b : Bool) → Tests b (b ≡ true)
flag b = record { holds = λ e. e; told = λ h. h }

pub less : (n m : ℕ) → Tests (nat_lt n m) (n < m)
less n m = record { holds = ltb-true n m; told = lt-ltb n m }

pub at_most : (n m : ℕ) → Tests (not (nat_lt m n)) (n ≤ m)
at_most n m = record { holds = λ e. ltb-false m n (not_true (nat_lt m n) e); told = λ h. ap not (le-ltb m n h) }

pub same : (n m : ℕ) → Tests (nat_eq n m) (n ≡ m)
same n m = record { holds = eqb-true n m; told = eq-eqb n m }

pub need_none : (b : Bool) (f : Finding) → need b f ≡ None → b ≡ true
need_none true f e = refl
need_none false f e = absurd (cc e)

pub none_need : (b : Bool) (f : Finding) → b ≡ true → need b f ≡ None
none_need b f e = ap (λ c. need c f) e

pub then_none : (o u : Option Finding) → (o then u) ≡ None → (o ≡ None) × (u ≡ None)
then_none None u e = (refl, e)
then_none (Some f) u e = absurd (cc e)

pub none_then : (o u : Option Finding) → o ≡ None → u ≡ None → (o then u) ≡ None
none_then o u e d = ap (λ x. x then u) e ∙ d

-- what holds exactly where a test tells no fault
pub record Passes (o : Option Finding) (P : Type 0) : Type 0 where
  pub holds : o ≡ None → P
  pub told : P → o ≡ None

pub needed : {P : Type 0} (b : Bool) (f : Finding) → Tests b P → Passes (need b f) P
needed b f t = record { holds = λ e. t.holds (need_none b f e); told = λ h. none_need b f (t.told h) }

pub after : {P Q : Type 0} (o u : Option Finding) → Passes o P → Passes u Q → Passes (o then u) (P × Q)
after o u p q = record {
  holds = λ e. (let h = then_none o u e in (p.holds h.0, q.holds h.1));
  told = λ h. none_then o u (p.told h.0) (q.told h.1);
}

pub alike_passes : {P Q : Type 0} (o : Option Finding) → Passes o P → (P → Q) → (Q → P) → Passes o Q
alike_passes o p to from = record { holds = λ e. to (p.holds e); told = λ h. p.told (from h) }
