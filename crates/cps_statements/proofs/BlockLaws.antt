-- Inside `finally` stands what ends as a block does, and an ending that a `try` passes on is one of a block.
use Rattle.std.proofs.Common.{◌≡◌, true, refl, sym, ap}
use Rattle.std.specs.Prelude.{Err}
use Rattle.model_run.specs.declared.ending.Ending.{Ending}
use Rattle.model_run.specs.declared.ending.Ending.TheVariants.{Normal, Thrown, Returned, Broke, Continued, Declared, Answered}
use Rattle.model_run.specs.declared.frame.FrameKind.{FrameKind}
use Rattle.model_run.specs.declared.frame.FrameKind.TheVariants as kind
use Rattle.cps_frames.specs.Ways.{is_block_ending, thrown_of}
use Rattle.cps_frames.proofs.EndLaws.{is_quiet}
use Rattle.cps_statements.specs.Finals.{is_final}

pub final_quiet : (d : FrameKind) → is_final d ≡ true → is_quiet d ≡ true
final_quiet kind.FinallyAfterValue is = refl
final_quiet kind.FinallyAfterThrow is = refl
final_quiet kind.FinallyAfterReturn is = refl
final_quiet kind.FinallyAfterBreak is = refl
final_quiet kind.FinallyAfterContinue is = refl
final_quiet d is = absurd (cc is)

-- an ending that is passed on is the same
pub passed_on : (e x : Ending) → thrown_of e ≡ Err x → is_block_ending e ≡ true → is_block_ending x ≡ true
passed_on (Normal v) x h block = let same : Normal v ≡ x = cc h in ap is_block_ending (sym same)
passed_on (Thrown c) x h block = absurd (cc h)
passed_on (Returned v) x h block = let same : Returned v ≡ x = cc h in ap is_block_ending (sym same)
passed_on Broke x h block = let same : Broke ≡ x = cc h in ap is_block_ending (sym same)
passed_on Continued x h block = let same : Continued ≡ x = cc h in ap is_block_ending (sym same)
passed_on (Declared b) x h block = absurd (cc block)
passed_on (Answered y) x h block = absurd (cc block)
