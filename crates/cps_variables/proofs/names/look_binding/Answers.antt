use Rattle.std.proofs.Common.{◌∙◌, Some, None, sym, ap, subst, if◌then◌else◌}
use Rattle.model_run.specs.Names.{same_text}
use Rattle.cps_variables.specs.Places.{IsPlace}
use Rattle.cps_variables.proofs.PlaceLaws.{found, none_there}
use Rattle.cps_variables.proofs.names.look_binding.Goals as goal

pub returns-then-at-eq0 : goal.returns-then-at-eq0
returns-then-at-eq0 c = sym (none_there c.args.name.now c.args.binding.now (subst (IsPlace c.args.name.now c.args.binding.now) c.if-at-eq0.true c.place-at.ensures))

pub returns-then-eq : goal.returns-then-eq
returns-then-eq c =
    ap (λ t. if t then Some c.index-binding-at.result.cell else None) (sym c.if-eq.true)
    ∙ found c.args.name.now c.args.binding.now c.place-at.result c.index-binding-at.result c.eq.result c.requires c.place-at.ensures c.if-at-eq0.false c.index-binding-at.is
    (c.eq.ensures ∙ ap (λ s. same_text s c.args.name.now) c.as_slice.ensures)

pub returns-else-eq : goal.returns-else-eq
returns-else-eq c =
    ap (λ t. if t then Some c.index-binding-at.result.cell else None) (sym c.if-eq.false)
    ∙ found c.args.name.now c.args.binding.now c.place-at.result c.index-binding-at.result c.eq.result c.requires c.place-at.ensures c.if-at-eq0.false c.index-binding-at.is
    (c.eq.ensures ∙ ap (λ s. same_text s c.args.name.now) c.as_slice.ensures)
