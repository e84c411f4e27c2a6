use Rattle.std.proofs.Common.{◌≡◌, [], ◌∷◌, ◌++◌, ◌∙◌}
use Rattle.std.proofs.lemmas.Result.{err_from_is_err_and}
use Rattle.field_form.specs.Cells.{entry_behind}
use Rattle.field_form.proofs.Lists.{goes_on, ends}
use Rattle.field_form.proofs.NewKeys.{goes_last}
use Rattle.field_form.proofs.entries.take_entries.Goals as goal

pub loop-preserved : goal.loop-preserved
loop-preserved c =
    let put : c.put.new.self ≡ c.loop.entries ++ (c.in_ok-key.key, c.in_ok-key.value) ∷ [] = c.in_ok-put.ensures.put ∙ goes_last c.loop.entries c.in_ok-key.key c.in_ok-key.value c.in_ok-key.ensures.is_new in
    rw put (goes_on entry_behind c.args.count c.loop.counter c.loop.entries c.args.bytes.now c.loop.at c.loop-test.true (c.in_ok-key.key, c.in_ok-key.value) c.in_ok-key.behind _ c.in_ok-key.ensures.read c.loop.invariant)

pub returns-in_err-key : goal.returns-in_err-key
returns-in_err-key c =
    let p = err_from_is_err_and c.from_residual.result c.from_residual.ensures.1 in
    rw (p.1, p.2) (ends entry_behind c.args.count c.loop.counter c.loop.entries c.args.bytes.now c.loop.at c.loop-test.true c.in_err-key.field-0.0 _ c.in_err-key.ensures.read c.loop.invariant)
