use Rattle.std.proofs.Common.{◌∙◌}
use Rattle.std.proofs.lemmas.Result.{err_from_is_err_and}
use Rattle.delta_form.proofs.Walks.{walk_ends, walk_refused}
use Rattle.delta_form.proofs.merge.changed.Goals as goal

pub returns-in_err-merge : goal.returns-in_err-merge
returns-in_err-merge g c =
    let p = err_from_is_err_and c.from_residual.result c.from_residual.ensures.1 in
    rw (p.1, p.2) (walk_refused g.C.Change.changing g.met.C.Change.keyed c.args.changes c.new-done.result c.from_vec-rest.result.items c.args.items c.in_err-merge.field-0.0 c.new-done.ensures (c.from_vec-rest.ensures.items ∙ c.into_vec.ensures) c.requires c.in_err-merge.ensures)

pub returns : goal.returns
returns g c = walk_ends g.C.Change.changing g.met.C.Change.keyed c.args.changes c.new-done.result c.from_vec-rest.result.items c.args.items c.merge.new.done c.merge.new.rest.items c.in_ok-joined.field-0 c.new-done.ensures (c.from_vec-rest.ensures.items ∙ c.into_vec.ensures) c.requires c.in_ok-merge.ensures c.in_ok-joined.ensures
