-- What a thread owes that is resumed with an answer.
use Rattle.std.specs.Prelude.{◌≡◌, ◌≤◌, ◌<◌, ℕ, suc, ◌+◌, Bool, true, false, List, length, slice_get, Option, Some}
use Rattle.std.specs.List.{AllByRecursion as AllAre}
use Rattle.green_threads.specs.WaitTypes.{Answer, Ready}
use Rattle.green_threads.specs.declared.runner.Stop.{Stop}
use Rattle.green_threads.specs.declared.runner.Stop.TheVariants as stop
use Rattle.green_threads.specs.declared.runner.NewBranch.{NewBranch}
use Rattle.green_threads.specs.declared.runner.Seated.{Seated}
use Rattle.green_threads.specs.Threads.{Threads, turned, GoesOn}

-- How many branches may still begin or end: k new branches lower it by k at least, the end of a branch by one at least, and
-- nothing raises it. So a group comes to rest.
abbrev pub Lowers : {T : Type 0} → Stop T → Bool → ℕ → ℕ → Type 0
Lowers (stop.Waits r) is_branch old new = new ≤ old
Lowers (stop.Forks bs) is_branch old new = (1 ≤ length bs) × (new + length bs ≤ old)
Lowers (stop.Ended o) true old new = suc new ≤ old
Lowers (stop.Ended o) false old new = new ≤ old
Lowers (stop.Limit k) is_branch old new = new ≤ old

-- The threads that a turn begins are branches.
abbrev pub AllBranches : {T : Type 0} → (T → Bool) → List (NewBranch T) → Type 0
AllBranches {T} branch bs = AllAre (λ (b : NewBranch T). branch b.thread ≡ true) bs

abbrev pub Begins : {T : Type 0} → (T → Bool) → Stop T → Type 0
Begins branch (stop.Waits r) = Unit {0}
Begins branch (stop.Forks bs) = AllBranches branch bs
Begins branch (stop.Ended o) = Unit {0}
Begins branch (stop.Limit k) = Unit {0}

-- A thread may be resumed with this answer: it is ready with it among threads that fit the shared state.
abbrev pub MayResume : {T S : Type 0} → (List (Seated T) → S → Type 0) → T → S → Answer → Type 0
MayResume {T} fits t s a = (xs : List (Seated T)) × (x : Seated T) × (i : ℕ) × fits xs s × (slice_get xs i ≡ Some x) × (x.thread ≡ t) × (x.wait ≡ Ready a)

-- every number is below this one
abbrev pub AllBelow : {T : Type 0} → ℕ → List (Seated T) → Type 0
AllBelow {T} n xs = AllAre (λ (x : Seated T). x.number < n) xs

-- Its turn keeps the fit: whatever fitting threads it was ready among, they fit the new shared state as they are after its
-- stop, if they go on.
abbrev pub Keeps : {T S : Type 0} → (T → ℕ → Option ℕ → T) → (T → ℕ) → (List (Seated T) → S → Type 0) → T → S → Answer → Stop T → T → S → Type 0
Keeps {T} seated head fits t s a stopped t' s' =
    (g : Threads T) (x : Seated T) (i : ℕ) → fits g.seats s → AllBelow g.next g.seats → slice_get g.seats i ≡ Some x → x.thread ≡ t → x.wait ≡ Ready a → GoesOn x.parent stopped →
    fits (turned seated head g x stopped t').seats s'

-- Both threads have the same number and the same parent, and are branches alike.
pub record IsSameSeat {T : Type 0} (number : T → ℕ) (parent : T → Option ℕ) (branch : T → Bool) (t t' : T) : Type 0 where
  pub number_same : number t' ≡ number t
  pub parent_same : parent t' ≡ parent t
  pub branch_same : branch t' ≡ branch t
