use Rattle.std.proofs.Common.{◌≡◌, ◌<◌, ap, true, length, subst, sym}
use Rattle.std.proofs.lemmas.Result.{err_from_is_err_and}
use Rattle.model_run.specs.Nesting.{shape_at}
use Rattle.model_run.specs.State.{World}
use Rattle.model_run.specs.Terms.{nodes_of}
use Rattle.cps_code.specs.Script.{IsScript}
use Rattle.cps_frames.specs.Standing.{standing}
use Rattle.cps_assignments.specs.Kinds.{starts_here}
use Rattle.cps_assignments.proofs.AssignLaws.{to_uncounted}
use Rattle.cps_assignments.proofs.TargetLaws.{entered_sees}
use Rattle.cps_assignments.proofs.dispatch.start.Goals as goal

pub returns-in_err-tick : goal.returns-in_err-tick
returns-in_err-tick c =
    let p = err_from_is_err_and c.from_residual.result c.from_residual.ensures.1 in
    rw (p.1, p.2) (to_uncounted c.args.node c.args.env c.in_err-tick.field-0.0 _ _ c.requires.form (c.in_err-tick.ensures c.args.state.now))

pub begin-requires : goal.begin-requires
begin-requires c =
    let p = c.in_ok-tick.ensures c.args.state.now in
    let same = sym (ap (λ (w : World). w.setting.script) p.made) in
    record {
      script = subst IsScript same c.requires.may.script;
      node = subst (λ root. c.args.node < length (nodes_of root)) same c.requires.may.node;
      form = subst (λ root. starts_here (shape_at root c.args.node).form ≡ true) same c.requires.form;
      sees = entered_sees (standing c.args.shared.now c.args.state.now) (standing c.tick.new.shared c.args.state.now) c.args.node c.args.env c.requires.may c.requires.form p;
    }

pub returns : goal.returns
returns c = c.begin.ensures _ (c.in_ok-tick.ensures c.args.state.now)
