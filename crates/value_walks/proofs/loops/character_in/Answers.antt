use Rattle.std.proofs.Common.{◌<◌, ◌≤◌, length, ap, sym, ◌∙◌, arith}
use Rattle.model_values.specs.Limits.{product_limits}
use Rattle.model_values.specs.Walks.{character_turn}
use Rattle.value_walks.proofs.PlaceLemmas.{at_place, past_place}
use Rattle.value_walks.proofs.loops.character_in.Goals as goal

pub returns-then-byte-text-clause-place : goal.returns-then-byte-text-clause-place
returns-then-byte-text-clause-place c = λ n begins h two.
    let past : length c.args.text.now ≤ c.args.byte = omega arith in
    sym (ap (λ o. character_turn product_limits h o) (past_place c.args.text.now n c.args.byte begins past))

pub returns-clause-place : goal.returns-clause-place
returns-clause-place c = λ n begins h two.
    let within : c.args.byte < length c.args.text.now = omega arith in
    sym (ap (λ o. character_turn product_limits h o) (at_place c.args.text.now n c.args.byte c.in_ok-character.character begins within (c.in_ok-character.ensures ∙ c.character_at.ensures)))
