use Rattle.std.proofs.Common.{◌≡◌, sym, ◌∙◌, false, ◌==◌}
use Rattle.std.proofs.lemmas.Bool.{ne_eqb}
use Rattle.model_syntax.specs.Source.{byte_at}
use Rattle.groovy_lex.proofs.PlaceLemmas.{place_newline, place_inner, place_behind}
use Rattle.groovy_lex.proofs.place.next_place.Goals as goal

pub returns-then-is_at : goal.returns-then-is_at
returns-then-is_at c = place_newline (byte_at c.args.src.now) c.args.at c.saturating_add.result c.args.place c.requires c.if-is_at.ensures.0 c.saturating_add.ensures

pub returns-then-is_inner : goal.returns-then-is_inner
returns-then-is_inner c = place_inner (byte_at c.args.src.now) c.args.at c.args.place c.requires (ne_eqb _ _ c.if-is_at.ensures) (sym c.is_inner.ensures ∙ c.if-is_inner.true)

pub returns : goal.returns
returns c = place_behind (byte_at c.args.src.now) c.args.at c.saturating_add-2.result c.args.place c.requires (ne_eqb _ _ c.if-is_at.ensures) (sym c.is_inner.ensures ∙ c.if-is_inner.false) c.saturating_add-2.ensures
