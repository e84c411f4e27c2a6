-- Threads by their places in the list of a group, as the code finds them.
use Rattle.std.specs.Prelude.{ℕ, suc, nat_eq, Bool, true, false, List, [], ◌∷◌, Option, Some, None, option_map}
use Rattle.green_threads.specs.WaitTypes.{Wait, Ready, RequestWait, BranchesWait}
use Rattle.green_threads.specs.declared.runner.Seated.{Seated}

-- the place of the first ready thread
abbrev pub place_if : Wait → Option ℕ → Option ℕ
place_if (Ready a) rest = Some 0
place_if (RequestWait r) rest = option_map suc rest
place_if (BranchesWait js) rest = option_map suc rest

abbrev pub ready_place : {T : Type 0} → List (Seated T) → Option ℕ
ready_place [] = None
ready_place (x ∷ xs) = place_if x.wait (ready_place xs)

-- the place of the thread of this number
abbrev pub found_if : Bool → Option ℕ → Option ℕ
found_if true rest = Some 0
found_if false rest = option_map suc rest

abbrev pub place_of : {T : Type 0} → ℕ → List (Seated T) → Option ℕ
place_of n [] = None
place_of n (x ∷ xs) = found_if (nat_eq x.number n) (place_of n xs)
