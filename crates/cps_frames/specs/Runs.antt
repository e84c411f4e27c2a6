-- What a move comes to in the whole script, and moves one behind the other.
use Rattle.std.specs.Prelude.{◌≡◌, ◌≤◌, ◌+◌, ℕ, suc, []}
use Rattle.model_run.specs.Terms.{Term, term_at}
use Rattle.model_run.specs.State.{State, Result, Ended, Limited, awaiting}
use Rattle.model_run.specs.Meaning.{ev, unwind}
use Rattle.model_run.specs.Below.{Below}
use Rattle.cps_frames.specs.Standing.{Standing, Beside, state, room_of}
use Rattle.cps_frames.specs.Moves.{forked}
use Rattle.cps_frames.specs.declared.thread.Move.{Move}
use Rattle.cps_frames.specs.declared.thread.Move.TheVariants.{Ends, Hits, Enter, Asks}

abbrev pub move_result : Term → ℕ → Move → State → Result
move_result root n (Ends e) s = Ended e s
move_result root n (Hits k) s = Limited k s
move_result root n (Enter e k env) s = ev root (suc n) e (term_at root k) env s
move_result root n (Asks asked) s = awaiting asked s

-- From one thread and its next move the machine comes to another: with whatever fuel, what the first comes to is what the second comes
-- to, as far as it is not out of fuel; what may still be counted has not grown, and has paid for the branches that begin; the
-- thread that waits for this one is the same, and changed cells are marked.
pub record Onward (root : Term) (u : Standing) (m : Move) (v : Standing) (m' : Move) : Type 0 where
  pub by : (n : ℕ) → Below (unwind root n u.stack (move_result root n m (state u.world []))) (unwind root n v.stack (move_result root n m' (state v.world [])))
  pub setting : v.world.setting ≡ u.world.setting
  pub beside : Beside u v
  pub less : room_of v.world + forked m' ≤ room_of u.world + forked m
