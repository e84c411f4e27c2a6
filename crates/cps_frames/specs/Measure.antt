-- What is left to do at most before something is counted: a number that each move lowers, so that the moves of a turn come to an end.
-- The frames that one move puts up rank below 2 ^ 72 together (Moves). What stands below a node weighs no more than these frames and what is
-- entered, each by the reach of the next node and 2: 2 ^ 70 times that reach is above them all; and one count is worth 2 ^ 76 times the
-- reach of the whole script.
use Rattle.std.specs.Prelude.{ℕ, zero, suc, ◌+◌, ◌-◌, ◌*◌, ◌^◌, List, [], ◌∷◌, length}
use Rattle.model_run.specs.declared.frame.Frame.{Frame}
use Rattle.model_run.specs.Terms.{Term, nodes_of}
use Rattle.model_run.specs.State.{World}
use Rattle.cps_frames.specs.Standing.{Standing, room_of}
use Rattle.cps_frames.specs.Order.{rank}
use Rattle.cps_frames.specs.declared.thread.Move.{Move}
use Rattle.cps_frames.specs.declared.thread.Move.TheVariants.{Enter}

unfoldable pub power : ℕ → ℕ
power zero = 1
power (suc d) = 2 ^ 70 * power d

-- a node that is entered, whose parts have higher numbers: it weighs more than all that its own move leaves to do
unfoldable pub reach : Term → ℕ → ℕ
reach root k = power (length (nodes_of root) - k)

unfoldable pub frame_weight : Term → Frame → ℕ
frame_weight root f = rank f * (reach root (suc f.node) + 2)

abbrev pub frames_weight : Term → List Frame → ℕ
frames_weight root [] = 0
frames_weight root (f ∷ fs) = frame_weight root f + frames_weight root fs

abbrev pub move_weight : Term → Move → ℕ
move_weight root (Enter e p env) = reach root p + 1
move_weight root m = 0

-- what one count is worth
unfoldable pub spending : Term → ℕ
spending root = 2 ^ 76 * (reach root 0 + 2)

unfoldable pub budget : Term → World → ℕ
budget root w = room_of w * spending root

-- the whole thread with its next move
abbrev pub weight : Term → Standing → Move → ℕ
weight root u m = budget root u.world + frames_weight root u.stack + move_weight root m
