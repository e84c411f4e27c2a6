-- How a frame goes on, where a walk goes into its next turn at once.
use Rattle.std.specs.Prelude.{ℕ, ◌^◌, ◌⊎◌, List, Result as Outcome, IfSome}
use Rattle.model_values.specs.declared.value.Value.{Value}
use Rattle.model_run.specs.declared.ending.Ending.{Ending}
use Rattle.model_run.specs.declared.ending.Entry.TheVariants.{Turn}
use Rattle.model_run.specs.declared.frame.Frame.{Frame}
use Rattle.model_run.specs.Forms.{after, enter}
use Rattle.cps_frames.specs.Halts.{move_of}
use Rattle.cps_frames.specs.Moves.{Comes}
use Rattle.cps_frames.specs.Order.{rank}
use Rattle.cps_frames.specs.Standing.{Standing}
use Rattle.cps_frames.specs.declared.halt.Halt.{Halt}
use Rattle.cps_frames.specs.declared.thread.Move.{Move}
use Rattle.cps_frames.specs.declared.thread.Move.TheVariants.{Enter}

-- Two moves as one: the frame enters its node again, for a turn with these kept values, and the node does what it does so entered. What
-- is kept need not be put together in between.
pub record TurnsOn (f : Frame) (e : Ending) (u : Standing) (move : Move) (v : Standing) : Type 0 where
  pub at : ℕ
  pub kept : List Value
  pub again : Comes f.node (rank f) (λ sh a. after f sh a e) u (Enter (Turn at kept) f.node f.env) u
  pub turn : Comes f.node (2 ^ 66) (λ sh a. enter (Turn at kept) a f.node sh f.env) u move v

-- a frame goes on by one move, or by two
abbrev pub GoesOn : Frame → Ending → Standing → Move → Standing → Type 0
GoesOn f e u move v = Comes f.node (rank f) (λ sh a. after f sh a e) u move v ⊎ TurnsOn f e u move v

-- What a function answers goes on so: nothing is said where the memory was refused.
abbrev pub GoesOnTo : Frame → Ending → Standing → Outcome Move Halt → Standing → Type 0
GoesOnTo f e u result v = IfSome (move_of result) (λ move. GoesOn f e u move v)
