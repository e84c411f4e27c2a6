-- What an entry is asked for can be tested: variables, values, and what is called.
use Rattle.std.proofs.Common.{◌≡◌, ℕ, ◌<◌, Bool, true, false, List, [], ◌∷◌, length, Option, Some, refl, ap₂}
use Rattle.std.specs.Prelude.{nat_eq, nat_lt, ◌&&◌, slice_get}
use Rattle.std.specs.List.{AllByRecursion as AllAre}
use Rattle.std.proofs.lemmas.Bool.{eqb-true, eq-eqb, ltb-true, lt-ltb}
use Rattle.model_values.specs.Fitting.{There, HasVariable}
use Rattle.model_values.specs.declared.cell.Cell.{Cell}
use Rattle.model_values.specs.declared.cell.Cell.TheVariants.{Variable}
use Rattle.model_values.specs.declared.value.Value.{Value}
use Rattle.model_values.specs.declared.value.Value.TheVariants.{Cell as InCell}
use Rattle.model_run.specs.State.{Env}
use Rattle.model_run.specs.Scoping.{Names, names_of}
use Rattle.model_run.specs.Fitting.{EnvFits}
use Rattle.model_run.proofs.Under.{both, first_of_both, second_of_both}

-- a test of something, which says just whether it holds
pub record Tests (b : Bool) (P : Type 0) : Type 0 where
  pub holds : b ≡ true → P
  pub told : P → b ≡ true

pub both_test : (a b : Bool) (P Q : Type 0) → Tests a P → Tests b Q → Tests (a && b) (P × Q)
both_test a b P Q p q = record { holds = λ e. (p.holds (first_of_both a b e), q.holds (second_of_both a b e)); told = λ h. both a b (p.told h.0) (q.told h.1) }

pub flag_test : (b : Bool) → Tests b (b ≡ true)
flag_test b = record { holds = λ e. e; told = λ e. e }

abbrev all_pass : {A : Type 0} → (A → Bool) → List A → Bool
all_pass t [] = true
all_pass t (x ∷ xs) = t x && all_pass t xs

pub all_test : {A : Type 0} (t : A → Bool) (P : A → Type 0) → ((x : A) → Tests (t x) (P x)) → (xs : List A) → Tests (all_pass t xs) (AllAre P xs)
all_test t P h [] = record { holds = λ e. tt; told = λ e. refl }
all_test t P h (x ∷ xs) = both_test (t x) (all_pass t xs) (P x) (AllAre P xs) (h x) (all_test t P h xs)

pub below_test : (n m : ℕ) → Tests (nat_lt n m) (n < m)
below_test n m = record { holds = ltb-true n m; told = lt-ltb n m }

-- names
abbrev same_name : List ℕ → List ℕ → Bool
same_name [] [] = true
same_name [] (y ∷ ys) = false
same_name (x ∷ xs) [] = false
same_name (x ∷ xs) (y ∷ ys) = nat_eq x y && same_name xs ys

name_test : (xs ys : List ℕ) → Tests (same_name xs ys) (xs ≡ ys)
name_test [] [] = record { holds = λ e. refl; told = λ e. refl }
name_test [] (y ∷ ys) = record { holds = λ e. absurd (cc e); told = λ e. absurd (cc e) }
name_test (x ∷ xs) [] = record { holds = λ e. absurd (cc e); told = λ e. absurd (cc e) }
name_test (x ∷ xs) (y ∷ ys) =
    let rest : Tests (same_name xs ys) (xs ≡ ys) = name_test xs ys in
    record {
      holds = λ e. ap₂ (λ z zs. z ∷ zs) (eqb-true x y (first_of_both _ _ e)) (rest.holds (second_of_both (nat_eq x y) _ e));
      told = λ e. both _ _ (eq-eqb x y (cc e)) (rest.told (cc e));
    }

abbrev same_names : Names → Names → Bool
same_names [] [] = true
same_names [] (y ∷ ys) = false
same_names (x ∷ xs) [] = false
same_names (x ∷ xs) (y ∷ ys) = same_name x y && same_names xs ys

names_test : (xs ys : Names) → Tests (same_names xs ys) (xs ≡ ys)
names_test [] [] = record { holds = λ e. refl; told = λ e. refl }
names_test [] (y ∷ ys) = record { holds = λ e. absurd (cc e); told = λ e. absurd (cc e) }
names_test (x ∷ xs) [] = record { holds = λ e. absurd (cc e); told = λ e. absurd (cc e) }
names_test (x ∷ xs) (y ∷ ys) =
    let first : Tests (same_name x y) (x ≡ y) = name_test x y in
    let rest : Tests (same_names xs ys) (xs ≡ ys) = names_test xs ys in
    record {
      holds = λ e. ap₂ (λ z zs. z ∷ zs) (first.holds (first_of_both _ _ e)) (rest.holds (second_of_both (same_name x y) _ e));
      told = λ e. both _ _ (first.told (cc e)) (rest.told (cc e));
    }

-- variables
abbrev is_variable : Option Cell → Bool
is_variable (Some (Variable v)) = true
is_variable o = false

variable_test : (o : Option Cell) → Tests (is_variable o) (HasVariable o)
variable_test (Some (Variable v)) = record { holds = λ e. tt; told = λ e. refl }
variable_test o = record { holds = λ e. absurd (cc e); told = λ h. absurd h }

abbrev pub env_passes : List Cell → Names → Env → Bool
env_passes h xs env = same_names (names_of env) xs && all_pass (λ b. is_variable (slice_get h b.cell)) env

pub env_test : (h : List Cell) (xs : Names) (env : Env) → Tests (env_passes h xs env) (EnvFits h xs env)
env_test h xs env =
    let names : Tests (same_names (names_of env) xs) (names_of env ≡ xs) = names_test (names_of env) xs in
    let variables : Tests (all_pass (λ b. is_variable (slice_get h b.cell)) env) (AllAre (λ b. HasVariable (slice_get h b.cell)) env) = all_test (λ b. is_variable (slice_get h b.cell)) (λ b. HasVariable (slice_get h b.cell)) (λ b. variable_test (slice_get h b.cell)) env in
    record {
      holds = λ e. record { names = names.holds (first_of_both _ _ e); variables = variables.holds (second_of_both (same_names (names_of env) xs) _ e) };
      told = λ fit. both _ _ (names.told fit.names) (variables.told fit.variables);
    }

-- values
abbrev pub value_passes : List Cell → Value → Bool
value_passes h (InCell c) = nat_lt c (length h)
value_passes h v = true

pub value_test : (h : List Cell) (v : Value) → Tests (value_passes h v) (There h v)
value_test h (InCell c) = below_test c (length h)
value_test h v = record { holds = λ e. tt; told = λ e. refl }

abbrev pub values_pass : List Cell → List Value → Bool
values_pass h vs = all_pass (value_passes h) vs

pub values_test : (h : List Cell) (vs : List Value) → Tests (values_pass h vs) (AllAre (There h) vs)
values_test h vs = all_test (value_passes h) (There h) (value_test h) vs
