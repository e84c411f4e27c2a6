use Rattle.std.proofs.Common.{refl}
use Rattle.model_run.specs.World as W
use Rattle.cps_code.specs.Script.{script_of}
use Rattle.script_trials.proofs.images.checked.Goals as goal

pub restored-requires-clause-told : goal.restored-requires-clause-told
restored-requires-clause-told g c = (c.in_ok-check.ensures.stands (W.setting_of W.run_limits (script_of c.args.code) c.args.site) refl refl).told

pub restored-requires-clause-fits : goal.restored-requires-clause-fits
restored-requires-clause-fits g c = (c.in_ok-check.ensures.stands (W.setting_of W.run_limits (script_of c.args.code) c.args.site) refl refl).fits
