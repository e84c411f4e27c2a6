use Rattle.std.proofs.Common.{◌≡◌, ◌-◌, ◌≤◌, [], length}
use Rattle.model_syntax.specs.Source.{byte_at}
use Rattle.model_syntax.specs.Places.{mark_end, place_at}
use Rattle.model_syntax.specs.Tokens.{Raw}
use Rattle.groovy_lex.proofs.raw.raw_tokens.Given as goal

abbrev pub invariant-steps : goal.invariant-steps
invariant-steps l = record {
  inside : l.at ≤ length l.src;
  placed : l.place ≡ place_at (byte_at l.src) l.at;
  reads : Raw (byte_at l.src) l.tokens [] l.stack (mark_end (byte_at l.src)) l.at;
}

abbrev pub decreases-steps : goal.decreases-steps
decreases-steps l = length l.src - l.at
