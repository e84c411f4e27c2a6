-- How the machine stops that makes moves until the thread waits, ends or meets a limit.
use Rattle.std.specs.Prelude.{◌≡◌, ◌≤◌, ◌+◌, ◌-◌, ℕ, suc, [], length}
use Rattle.model_run.specs.declared.context.Context.{Context}
use Rattle.model_run.specs.declared.ending.Ending.TheVariants.{Answered}
use Rattle.model_run.specs.declared.ending.Entry.TheVariants.{Inside}
use Rattle.model_run.specs.Nesting.{Any_branch, Spot, innermost}
use Rattle.model_run.specs.Since.{Follows}
use Rattle.model_run.specs.State.{World}
use Rattle.run_laws.specs.Soundness.{SoundWorld, branching}
use Rattle.cps_frames.specs.Standing.{Standing}
use Rattle.cps_frames.specs.Places.{HasFolders, Holding, Poised}
use Rattle.cps_frames.specs.Runs.{Onward}
use Rattle.cps_frames.specs.declared.thread.Move.{Move}
use Rattle.cps_frames.specs.declared.thread.Move.TheVariants.{Ends, Hits, Enter, Asks}
use Rattle.cps_machine.specs.Turns.{HasPart, WaitsSo}
use Rattle.cps_machine.specs.declared.machine.Stopped.{Stopped}
use Rattle.cps_machine.specs.declared.machine.Stopped.TheVariants as stopped

-- the last move, which the machine does not make
abbrev pub last_move : Stopped → Move
last_move (stopped.Ended e) = Ends e
last_move (stopped.Limit k) = Hits k
last_move (stopped.Waits asked) = Asks asked

-- a thread begins with an answer, or enters a node
abbrev pub Begins : Move → Type 0
Begins (Ends (Answered x)) = Unit {0}
Begins (Enter (Inside j) p env) = ⊥
Begins (Enter e p env) = Unit {0}
Begins m = ⊥

-- how many flow nodes may still be made
abbrev pub nodes_left : World → ℕ
nodes_left w = w.setting.limits.flow_nodes - length w.shared.nodes

-- the flow nodes that a move has made: for branches one for each and one for the block
abbrev pub made_for : Move → ℕ
made_for (Asks asked) = branching asked
made_for m = 0

-- what a thread runs has ended
abbrev pub IsEnd : Standing → Move → Type 0
IsEnd v (Ends e) = v.stack ≡ []
IsEnd v m = ⊥

-- The thread stands where this move may be made, under some context with a folder for each request of that, and from some spot on; and it
-- holds the executors of the requests in its context, which differ, that of an executor about to be given included.
pub record MayRun (u : Standing) (m : Move) : Type 0 where
  pub above : Context
  pub at : Spot
  pub poised : Poised u.world.setting above at u m
  pub begins : Begins m
  pub holds : Holding u.world m
  pub enough : HasFolders above

-- What a thread leaves to the others by its moves: the shared state is a later one, in which it has opened the request that it waits
-- for, and no other; and each branch that begins or ends has made a flow node.
pub record Leaves (u v : Standing) (m : Move) : Type 0 where
  pub follows : Follows u.world.shared v.world.shared
  pub number : v.world.own.number ≡ u.world.own.number
  pub waits : (at : Spot) → WaitsSo (innermost u.world.setting.script at v.stack) u.world.shared.requests v m
  pub spent : nodes_left v.world + made_for m ≤ nodes_left u.world
  pub inside : HasPart u.world.setting.script m

-- a thread that has ended has no frames
abbrev pub IsOver : Stopped → Standing → Type 0
IsOver (stopped.Ended e) v = v.stack ≡ []
IsOver s v = Unit {0}

-- where no limit was met the thread still stands soundly, and where one was met the shared state is sound
abbrev pub StandsStill : Context → Spot → Stopped → Standing → Type 0
StandsStill above at (stopped.Limit k) v = SoundWorld v.world.setting v.world
StandsStill above at s v = Poised v.world.setting above at v (last_move s)

-- The machine comes from the thread and the first move to where it stops.
pub record Stops (u : Standing) (first : Move) (s : Stopped) (v : Standing) : Type 0 where
  pub onward : Onward u.world.setting.script u first v (last_move s)
  pub over : IsOver s v
  pub leaves : Leaves u v (last_move s)
  pub branch_ends : (above : Context) → Poised u.world.setting above Any_branch u first → IsEnd v (last_move s) → suc (nodes_left v.world) ≤ nodes_left u.world
  pub stands : (above : Context) (at : Spot) → Poised u.world.setting above at u first → StandsStill above at s v
