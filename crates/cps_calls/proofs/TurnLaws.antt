-- Frames that go on by one move or by two.
use Rattle.std.proofs.Common.{ℕ, ◌^◌, List, inl, inr}
use Rattle.std.specs.Prelude.{Result as Outcome}
use Rattle.model_values.specs.declared.value.Value.{Value}
use Rattle.model_run.specs.declared.ending.Ending.{Ending}
use Rattle.model_run.specs.declared.ending.Entry.TheVariants.{Turn}
use Rattle.model_run.specs.declared.frame.Frame.{Frame}
use Rattle.model_run.specs.Forms.{after, enter}
use Rattle.cps_frames.specs.Halts.{move_of}
use Rattle.cps_frames.specs.Moves.{Comes, ComesTo}
use Rattle.cps_frames.specs.Order.{rank}
use Rattle.cps_frames.specs.Standing.{Standing}
use Rattle.cps_frames.specs.declared.halt.Halt.{Halt}
use Rattle.cps_frames.specs.declared.thread.Move.{Move}
use Rattle.cps_frames.specs.declared.thread.Move.TheVariants.{Enter}
use Rattle.cps_frames.proofs.MoveLaws.{each_move}
use Rattle.cps_calls.specs.Turns.{GoesOnTo}

pub by_one : (f : Frame) (e : Ending) (u : Standing) (result : Outcome Move Halt) (v : Standing) → ComesTo f.node (rank f) (λ sh a. after f sh a e) u result v → GoesOnTo f e u result v
by_one f e u result v = each_move (λ move c. inl c) (move_of result)

pub by_two : (f : Frame) (e : Ending) (i : ℕ) (kept : List Value) (u : Standing) (result : Outcome Move Halt) (v : Standing) → Comes f.node (rank f) (λ sh a. after f sh a e) u (Enter (Turn i kept) f.node f.env) u → ComesTo f.node (2 ^ 66) (λ sh a. enter (Turn i kept) a f.node sh f.env) u result v → GoesOnTo f e u result v
by_two f e i kept u result v again = each_move (λ move c. inr (record { at = i; kept = kept; again = again; turn = c })) (move_of result)
