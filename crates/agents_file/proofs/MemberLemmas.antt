-- Names, roots and control characters.
use Rattle.std.proofs.Common.{arith, ◌≡◌, ℕ, zero, suc, ◌+◌, ◌-◌, ◌<◌, sym, refl, ap, ◌∙◌, subst, ◌||◌, List, [], ◌∷◌, length, drop, get_or, Option, Some, None, Result, Ok, Err, MatchResult, IfOk, IfErr, IsErrAnd}
use Rattle.std.specs.Prelude.{slice_get}
use Rattle.std.specs.List.{last_or}
use Rattle.std.proofs.lemmas.List.{drop_more}
use Rattle.serde_json.specs.Data.{Data}
use Rattle.model_run.specs.declared.agents.AgentsKind.{AgentsKind}
use Rattle.model_run.specs.AgentsFaults.{Fault, begins_control, first_of, has_control}
use Rattle.agents_file.specs.declared.refusal.AgentsRefusal.{AgentsRefusal}
use Rattle.agents_file.specs.FirstFault.{first, Tells, TellsFirst}
use Rattle.agents_file.specs.Members.{FailsBy, Passes}
use Rattle.agents_file.proofs.FirstLemmas.{TellsFirst-one}

-- what stands behind an element is the first of the rest
pub slice_get-drop : {A : Type 0} (xs : List A) (n : ℕ) → slice_get xs n ≡ slice_get (drop n xs) 0
slice_get-drop [] zero = refl
slice_get-drop [] (suc n) = refl
slice_get-drop (x ∷ xs) zero = refl
slice_get-drop (x ∷ xs) (suc n) = slice_get-drop xs n

-- a loop that has come to byte i
pub control_here : (bytes : List ℕ) (i b : ℕ) → i < length bytes → b ≡ get_or bytes i b → has_control (drop i bytes) ≡ (begins_control b (drop (i + 1) bytes) || has_control (drop (i + 1) bytes))
control_here bytes i b within is = ap has_control (drop_more bytes i b within ∙ ap (λ x. x ∷ drop (i + 1) bytes) (sym is))

last_from : (x : ℕ) (xs : List ℕ) → last_or (Some x) xs ≡ slice_get (x ∷ xs) (length xs)
last_from x [] = refl
last_from x (y ∷ ys) = last_from y ys

pub last_is : (xs : List ℕ) → last_or None xs ≡ slice_get xs (length xs - 1)
last_is [] = refl
last_is (x ∷ xs) = let e : length xs ≡ suc (length xs) - 1 = omega arith in last_from x xs ∙ ap (slice_get (x ∷ xs)) e

pub first_is : (xs : List ℕ) → first_of xs ≡ slice_get xs 0
first_is [] = refl
first_is (x ∷ xs) = refl

-- what was read without a fault, and with one, where the fault is told with its path
pub told_passes : {T : Type 0} (check : List ℕ → Option Data → List Fault) (path : List ℕ) (o : Option Data) (read : Result T AgentsKind) (told : Result T AgentsRefusal) (x : T)
    → IfOk read (λ _. Passes check o) → MatchResult read (λ v. told ≡ Ok v) (λ kind. IsErrAnd told (Tells path kind)) → told ≡ Ok x → first (check path o) ≡ None
told_passes check path o (Ok v) told x form tells is = ap first (form path)
told_passes check path o (Err kind) (Ok v) x form tells is = absurd tells
told_passes check path o (Err kind) (Err e) x form tells is = cc

pub told_fails : {T : Type 0} (check : List ℕ → Option Data → List Fault) (path : List ℕ) (o : Option Data) (read : Result T AgentsKind) (told : Result T AgentsRefusal) (e : AgentsRefusal)
    → IfErr read (FailsBy check o) → MatchResult read (λ v. told ≡ Ok v) (λ kind. IsErrAnd told (Tells path kind)) → told ≡ Err e → TellsFirst (check path o) e
told_fails check path o (Ok v) told e fault tells is = cc
told_fails check path o (Err kind) (Ok v) e fault tells is = absurd tells
told_fails check path o (Err kind) (Err d) e fault tells is =
    let same : d ≡ e = cc in subst (TellsFirst (check path o)) same (TellsFirst-one (check path o) d (ap first (fault path)) tells)
