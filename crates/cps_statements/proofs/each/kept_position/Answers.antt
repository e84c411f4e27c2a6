use Rattle.std.proofs.Common.{◌∙◌, sym}
use Rattle.cps_statements.proofs.EachLaws.{cast_position, not_position}
use Rattle.cps_statements.proofs.each.kept_position.Goals as goal

pub unreachable-requires : goal.unreachable-requires
unreachable-requires c = not_position _ c.requires.place (λ z e. c.in_default.not-Int z (c.kept_value.ensures ∙ e))

pub returns-clause-position : goal.returns-clause-position
returns-clause-position c = (cast_position _ c.in-Int.at c.requires.place (sym c.kept_value.ensures ∙ c.in-Int.is)).0

pub returns-clause-low : goal.returns-clause-low
returns-clause-low c = (cast_position _ c.in-Int.at c.requires.place (sym c.kept_value.ensures ∙ c.in-Int.is)).1
