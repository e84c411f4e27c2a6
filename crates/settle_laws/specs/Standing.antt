-- The threads of a group that stand for those of a build of the definitions, and what that build comes to where they have settled.
use Rattle.std.specs.Prelude.{◌≡◌, ◌≤◌, ℕ, suc, true, List, [], ◌∷◌, map, slice_get, None}
use Rattle.std.specs.List.{AllByRecursion as AllAre}
use Rattle.model_values.specs.declared.value.Outcome.{Outcome}
use Rattle.model_values.specs.declared.value.Outcome.TheVariants as outcome
use Rattle.model_values.specs.declared.cell.Cell.{Cell}
use Rattle.model_values.specs.Limits.{limit_line}
use Rattle.model_run.specs.declared.result.BuildResult.{BuildResult}
use Rattle.model_run.specs.declared.result.BuildResult.TheVariants.{Failure}
use Rattle.model_run.specs.declared.flow.FlowNode.{FlowNode}
use Rattle.model_run.specs.Fitting.{IsFlowNode}
use Rattle.model_run.specs.Results.{worse}
use Rattle.model_run.specs.State.{Setting, Common}
use Rattle.model_run.specs.Threads.{Thread}
use Rattle.model_run.specs.World.{Build, finished, uncaught, uncaught_result}
use Rattle.green_threads.specs.declared.runner.Seated.{Seated}
use Rattle.green_threads.specs.declared.settled.Settled.{Settled}
use Rattle.green_threads.specs.declared.settled.Settled.TheVariants.{AllWait, Ended, Limit}
use Rattle.green_threads.specs.Threads.{Threads, first_ready}
use Rattle.settle_laws.specs.Stances.{Stance, StandsFor}

-- numbers rise, from the lowest allowed one on, and the next one is above all
abbrev pub Rising : {T : Type 0} → ℕ → List (Seated T) → ℕ → Type 0
Rising low [] next = low ≤ next
Rising low (x ∷ xs) next = (low ≤ x.number) × Rising (suc x.number) xs next

-- only thread 0 has no parent
abbrev pub OnlyScript : {T : Type 0} → List (Seated T) → Type 0
OnlyScript [] = Unit {0}
OnlyScript (x ∷ xs) = (x.parent ≡ None → x.number ≡ 0) × OnlyScript xs

-- a thread in its seat, and a thread of the definitions
pub record Same {T : Type 0} (stance : T → Stance) (setting : Setting) (x : Seated T) (h : Thread) : Type 0 where
  pub number : x.number ≡ h.own.number
  pub parent : x.parent ≡ h.parent
  pub wait : x.wait ≡ h.wait
  pub stands : StandsFor setting (stance x.thread) h

-- each in its place
abbrev pub Matches : {T : Type 0} → (T → Stance) → Setting → List (Seated T) → List Thread → Type 0
Matches stance setting [] [] = Unit {0}
Matches stance setting [] (h ∷ hs) = ⊥
Matches stance setting (x ∷ xs) [] = ⊥
Matches stance setting (x ∷ xs) (h ∷ hs) = Same stance setting x h × Matches stance setting xs hs

-- The threads of a group, over this shared state, stand for a build of the definitions.
pub record Stand {T : Type 0} (stance : T → Stance) (setting : Setting) (g : Threads T) (u : Common) (b : Build) : Type 0 where
  pub shared : b.shared ≡ u
  pub next : b.next_thread ≡ g.next
  pub rising : Rising 0 g.seats g.next
  pub script : OnlyScript g.seats
  pub threads : Matches stance setting g.seats b.threads

-- the last lines of a build whose script ended so, and its result
abbrev pub causes : Outcome → List Cell → List (List ℕ)
causes (outcome.Thrown c) cells = uncaught (slice_get cells c)
causes (outcome.Value v) cells = []

abbrev pub end_result : Outcome → BuildResult → List Cell → BuildResult
end_result (outcome.Thrown c) result cells = worse result (uncaught_result (slice_get cells c))
end_result (outcome.Value v) result cells = result

-- a build that is over
abbrev pub over : Build → ℕ → Common → Build
over b next u = record { shared = u; threads = []; next_thread = next; started = b.started; ended = true }

-- the last flow nodes of threads, and that of the first
abbrev pub heads : {T : Type 0} → (T → Stance) → List (Seated T) → List ℕ
heads stance xs = map (λ x. (stance x.thread).own.head) xs

abbrev pub first_head : {T : Type 0} → (T → Stance) → List (Seated T) → ℕ
first_head stance [] = 0
first_head stance (x ∷ xs) = (stance x.thread).own.head

-- the last flow node of each thread is there
abbrev pub HeadsStand : {T : Type 0} → (T → Stance) → List FlowNode → List (Seated T) → Type 0
HeadsStand {T} stance nodes xs = AllAre (λ (x : Seated T). IsFlowNode nodes (stance x.thread).own.head) xs

-- What a build of the definitions comes to where its threads have settled so: it goes on with threads that wait, or is over.
abbrev pub Comes : {T : Type 0} → (T → Stance) → Setting → Settled → Threads T → Common → Build → Build → Type 0
Comes stance setting AllWait g u b c = Stand stance setting g u c × (c.started ≡ b.started) × (c.ended ≡ b.ended) × (first_ready g.seats ≡ None)
Comes stance setting (Ended o) g u b c =
    c ≡ over b g.next (finished (first_head stance g.seats ∷ []) (causes o u.cells) (end_result o u.result u.cells) u)
Comes stance setting (Limit k) g u b c = c ≡ over b g.next (finished (heads stance g.seats) (limit_line k ∷ []) (worse u.result Failure) u)
