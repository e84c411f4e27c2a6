use Rattle.std.proofs.Common.{rules, ◌∙◌}
use Rattle.std.proofs.lemmas.Int.{to_z-of_z}
use Rattle.value_operators.proofs.PlaceLemmas.{character_at}
use Rattle.value_operators.proofs.index.character.Goals as goal

pub returns-in_ok-from_slice-in-At-clause-read : goal.returns-in_ok-from_slice-in-At-clause-read
returns-in_ok-from_slice-in-At-clause-read c = λ h.
    let place = rw c.character_count-count.ensures at c.in-At.ensures in
    character_at h c.args.text.now c.args.index c.in-At.at c.in_ok-from_slice-in-At.field-0 (search (rules, to_z-of_z, place)) (c.in_ok-from_slice-in-At.ensures ∙ c.character_range-character.ensures)
