use Rattle.std.proofs.Common.{◌≡◌, length}
use Rattle.model_values.specs.Characters.{characters}
use Rattle.model_values.specs.Searching.{is_among}
use Rattle.text_methods.proofs.parts.is_cut.Given as goal

abbrev pub invariant-loop-character : goal.invariant-loop-character
invariant-loop-character l = is_among (characters l.rest) l.character ≡ is_among (characters l.cuts) l.character

abbrev pub decreases-loop-character : goal.decreases-loop-character
decreases-loop-character l = length l.rest
