use Rattle.std.proofs.Common.{◌-◌, ◌≤◌, length}
use Rattle.model_syntax.specs.Source.{byte_at, Passed}
use Rattle.groovy_lex.specs.Comments.{Ends}
use Rattle.groovy_lex.proofs.comments.comment_end.Given as goal

abbrev pub invariant-characters : goal.invariant-characters
invariant-characters l = record {
  passed : Passed (byte_at l.src) (Ends (byte_at l.src) l.comment) l.from l.at;
  later : l.from ≤ l.at;
  inside : l.at ≤ length l.src;
}

abbrev pub decreases-characters : goal.decreases-characters
decreases-characters l = length l.src - l.at
