use Rattle.std.proofs.Common.{◌++◌, ℕ, sym}
use Rattle.std.specs.Prelude.{slice_get}
use Rattle.model_values.specs.Kinds.{kind}
use Rattle.model_values.specs.declared.value.Value.{Value}
use Rattle.model_run.specs.Around.{cells}
use Rattle.model_run.specs.State.{State, Result, changed, seeing}
use Rattle.model_run.specs.Steps.{catch_end, caught, caught_lines, logging_all, message_lines, result_at, worsened}
use Rattle.cps_frames.specs.Standing.{standing, state}
use Rattle.cps_frames.proofs.MoveLaws.{to_as}
use Rattle.cps_frames.proofs.WayLaws.{throw_err, throw_ok}
use Rattle.step_library.proofs.catch_error.caught.Goals as goal

-- what is done behind a throw
abbrev behind : ℕ → ℕ → Value → ℕ → State → Result
behind start least message thrown = seeing (λ w. logging_all (message_lines (kind (cells w) message) ++ caught_lines (slice_get (cells w) thrown)) (changed (worsened (result_at least)) (catch_end start)))

pub returns-in-Ok : goal.returns-in-Ok
returns-in-Ok c = λ k r pos.
    let u = standing c.args.shared.now c.args.state.now in
    let h = u.world.shared.cells in
    let over = catch_end c.args.start in
    to_as k r (λ sh a. caught c.args.start c.args.least c.args.message.now c.args.ending) (λ sh a. logging_all (message_lines (kind h c.args.message.now) ++ caught_lines (slice_get h c.in-Ok.cell)) (changed (worsened (result_at c.args.least)) over)) u _ _
    (λ a rs. throw_ok (behind c.args.start c.args.least c.args.message.now) (λ x. over) c.args.ending c.in-Ok.cell (state u.world rs) (sym c.in-Ok.ensures)) (c.go_on_behind.ensures k r pos)

pub returns-in-Err : goal.returns-in-Err
returns-in-Err c = λ k r pos.
    let u = standing c.args.shared.now c.args.state.now in
    let over = catch_end c.args.start in
    to_as k r (λ sh a. caught c.args.start c.args.least c.args.message.now c.args.ending) (λ sh a. over) u _ _
    (λ a rs. throw_err (behind c.args.start c.args.least c.args.message.now) (λ x. over) c.args.ending c.in-Err._other (state u.world rs) (sym c.in-Err.ensures)) (c.catch_end.ensures k r pos)
