-- What holds of the threads of every group.
use Rattle.std.specs.Prelude.{◌≡◌, ◌≤◌, ℕ, suc, ◌+◌, Bool, List, [], ◌∷◌, length, Option, is_some}
use Rattle.green_threads.specs.WaitTypes.{Wait, Ready, RequestWait, BranchesWait}
use Rattle.green_threads.specs.declared.runner.Seated.{Seated}

-- A wait for branches is for fewer than 2 ^ 32 of them, so that the place of each end among the ends is a `u32`.
abbrev pub FewBranches : Wait → Type 0
FewBranches (Ready a) = Unit {0}
FewBranches (RequestWait r) = Unit {0}
FewBranches (BranchesWait js) = length js ≤ 4294967295

-- A thread has the number and the parent under which it stands, and has a parent exactly where it is a branch.
pub record IsSeated {T : Type 0} (number : T → ℕ) (parent : T → Option ℕ) (branch : T → Bool) (x : Seated T) : Type 0 where
  pub number_is : number x.thread ≡ x.number
  pub parent_is : parent x.thread ≡ x.parent
  pub branch_is : branch x.thread ≡ is_some x.parent
  pub few_branches : FewBranches x.wait

-- Numbers rise, from the lowest allowed one on, and the next one is above all.
abbrev pub Grouped : {T : Type 0} → (T → ℕ) → (T → Option ℕ) → (T → Bool) → ℕ → List (Seated T) → ℕ → Type 0
Grouped number parent branch low [] next = low ≤ next
Grouped number parent branch low (x ∷ xs) next = (low ≤ x.number) × IsSeated number parent branch x × Grouped number parent branch (suc x.number) xs next

-- how many threads are ready
abbrev pub one_ready : Wait → ℕ
one_ready (Ready a) = 1
one_ready (RequestWait r) = 0
one_ready (BranchesWait js) = 0

abbrev pub ready_count : {T : Type 0} → List (Seated T) → ℕ
ready_count [] = 0
ready_count (x ∷ xs) = one_ready x.wait + ready_count xs
