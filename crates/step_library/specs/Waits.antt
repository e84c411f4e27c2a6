-- The answers to the waits of steps.
use Rattle.model_run.specs.declared.ending.Ending.{Ending}
use Rattle.model_run.specs.declared.ending.Ending.TheVariants.{Answered}
use Rattle.model_run.specs.declared.wait.Answer.TheVariants.{Done, Decided, Granted, Joined}

abbrev pub IsDecided : Ending → Type 0
IsDecided (Answered (Decided proceed name)) = Unit {0}
IsDecided e = ⊥

abbrev pub IsDone : Ending → Type 0
IsDone (Answered (Done code out)) = Unit {0}
IsDone e = ⊥

abbrev pub IsGranted : Ending → Type 0
IsGranted (Answered (Granted x)) = Unit {0}
IsGranted e = ⊥

abbrev pub IsJoined : Ending → Type 0
IsJoined (Answered (Joined ends)) = Unit {0}
IsJoined e = ⊥
