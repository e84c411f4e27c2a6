use Rattle.std.proofs.Common.{sym, ◌∙◌, arith}
use Rattle.std.proofs.lemmas.List.{length-drop, take_rest}
use Rattle.text_methods.proofs.PartLemmas.{cut_none, cut_step}
use Rattle.text_methods.proofs.parts.first_cut.Goals as goal

pub loop-at-init : goal.loop-at-init
loop-at-init c = record { within = omega arith; rest = cut_none c.args.cuts.now c.args.text.now }

pub loop-at-preserved : goal.loop-at-preserved
loop-at-preserved c =
    let text = c.args.text.now in
    let at = c.loop-at.at in
    let rest = take_rest text at in
    let e = c.first_character-character.ensures in
    let first = rw rest at e.first in
    let front = rw rest at e.front in
    let within = rw rest at e.within in
    record {
      within = omega (arith, within, length-drop at text, c.loop-at.invariant.within);
      rest = c.loop-at.invariant.rest ∙ cut_step c.args.cuts.now text c.first_character-character.result.now at c.loop-at.invariant.within first front (sym c.is_cut.ensures ∙ c.if-is_cut.false);
    }
