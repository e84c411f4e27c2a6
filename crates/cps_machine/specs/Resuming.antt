-- Where a thread stands that goes on with an answer: as direct evaluation does of all answers that it was given.
use Rattle.std.specs.Prelude.{◌≡◌, List, [], ◌∷◌, ◌++◌}
use Rattle.model_run.specs.declared.ending.Asked.{Asked}
use Rattle.model_run.specs.declared.wait.Answer.{Answer}
use Rattle.model_run.specs.State.{Own, Reply, State, Result, Ended, Waits, Limited}
use Rattle.model_run.specs.Threads.{Runs, stands_from}
use Rattle.cps_frames.specs.Standing.{Standing, state}
use Rattle.cps_machine.specs.declared.machine.Stopped.{Stopped}
use Rattle.cps_machine.specs.declared.machine.Stopped.TheVariants as stopped

-- how it stops, as the definitions say it: a wait stands inside its frames
abbrev pub stopping : Stopped → Standing → Result
stopping (stopped.Ended e) v = Ended e (state v.world [])
stopping (stopped.Limit k) v = Limited k (state v.world [])
stopping (stopped.Waits asked) v = Waits asked v.stack (state v.world [])

-- the answer, with the state that the threads share as it is given
abbrev pub reply : Standing → Answer → Reply
reply u x = record { shared = u.world.shared; answer = x }

-- Whatever it runs, and whatever answers it was given: where the thread's frames are the path at which it waits, it stops with one answer
-- more as it stops here, with the same state, and with frames that are the new path.
abbrev pub ResumesAs : Standing → Answer → Stopped → Standing → Type 0
ResumesAs u x stop v =
    (runs : Runs) (own : Own) (first : Reply) (rs : List Reply) (asked : Asked) (s : State) → s.world.own ≡ u.world.own → stands_from u.world.setting runs own (first ∷ rs) ≡ Waits asked u.stack s
    → stands_from u.world.setting runs own (first ∷ (rs ++ reply u x ∷ [])) ≡ stopping stop v

-- so it stops with its first answer
abbrev pub BeginsAs : Runs → Standing → Stopped → Standing → Type 0
BeginsAs runs u stop v = (x : Answer) → stands_from u.world.setting runs u.world.own (reply u x ∷ []) ≡ stopping stop v
