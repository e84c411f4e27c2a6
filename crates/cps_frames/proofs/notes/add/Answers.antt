use Rattle.std.proofs.lemmas.Result.{err_from_is_err_and}
use Rattle.cps_frames.proofs.NoteLaws.{line_refused}
use Rattle.cps_frames.proofs.notes.add.Goals as goal

pub returns-in_err-check_room-clause-added : goal.returns-in_err-check_room-clause-added
returns-in_err-check_room-clause-added c = λ t.
    let p = err_from_is_err_and c.from_residual.result c.from_residual.ensures.1 in
    rw (p.1, p.2) (c.in_err-check_room.ensures t)

pub returns-in_err-line-clause-added : goal.returns-in_err-line-clause-added
returns-in_err-line-clause-added c = λ t.
    let p = err_from_is_err_and c.from_residual-in_err-line.result c.from_residual-in_err-line.ensures.1 in
    rw (p.1, p.2) (line_refused _ (λ w. w) _ _ _ c.in_err-line.field-0.0 (c.in_ok-check_room.ensures t).line_fits c.in_err-line.ensures.refusal)
