use Rattle.std.proofs.Common.{[], ◌∷◌, ◌≡◌, ◌<◌, ◌≤◌, ◌+◌, ℕ, refl, ap, length, arith}
use Rattle.model_values.specs.Limits.{limit_line}
use Rattle.model_run.specs.declared.result.BuildResult.TheVariants.{Failure}
use Rattle.model_run.specs.Results.{worse}
use Rattle.model_values.specs.declared.limit.LimitKind.TheVariants.{TextLength}
use Rattle.model_run.specs.Taking.{request_of}
use Rattle.model_run.proofs.Front.{front_itself}
use Rattle.model_run.proofs.RequestLaws.{change_goes_on, kept_same}
use Rattle.model_run.specs.World as W
use Rattle.cps_frames.specs.declared.shared.Shared.{Shared}
use Rattle.cps_frames.specs.Standing.{setting_of, common_of}
use Rattle.settle_laws.specs.Standing.{heads}
use Rattle.settle_laws.proofs.Heads.{heads_are}
use Rattle.script_thread.specs.Names.{OutputEvent, OutStream}
use Rattle.script_thread.specs.Events.{shared_after}
use Rattle.build_core.proofs.Changes.{anew, uncounted_stand, kept_is, text_limit_is}
use Rattle.build_core.proofs.Answering.{rests_after, rests_on, is_limited, map_ok}
use Rattle.build_core.proofs.Ended.{counted_fits, over_sound}
use Rattle.build_core.proofs.Stepping.{steps_rested, steps_limited}
use Rattle.build_core.proofs.Marks.{but_for, rests, same_requests}
use Rattle.build_core.proofs.events.keep_out.Goals as goal

pub returns-then-saturating_add-gt-MAX_TEXT-clause-stands : goal.returns-then-saturating_add-gt-MAX_TEXT-clause-stands
returns-then-saturating_add-gt-MAX_TEXT-clause-stands g c =
    let u : Shared = c.args.shared.now in
    let u0 : Shared = record u { count = 0 } in
    let many : W.run_limits.values.text < length (W.kept_output (request_of u.requests c.args.task)) + length c.args.bytes.now = omega (arith, c.if-saturating_add-gt-MAX_TEXT.true, c.saturating_add.ensures, c.kept_len-kept.ensures) in
    map_ok c.end_by_limit.result c.end_by_limit.ensures.over
    (λ p o from. is_limited g.R.ScriptThread.stance c.args.group.now u (OutputEvent c.args.task OutStream from c.args.bytes.now) TextLength u0 refl
    (λ w st. text_limit_is g.R.ScriptThread.stance (setting_of u) c.args.group.now (anew (common_of u)) (W.uncounted w) c.args.task c.args.bytes.now (uncounted_stand g.R.ScriptThread.stance c.args.group.now u w st) many)
    p _ _ o)

pub returns-clause-stands : goal.returns-clause-stands
returns-clause-stands g c = λ from.
    let u : Shared = c.args.shared.now in
    let few : length (W.kept_output (request_of u.requests c.args.task)) + length c.args.bytes.now ≤ W.run_limits.values.text = omega (arith, c.if-saturating_add-gt-MAX_TEXT.false, c.saturating_add.ensures, c.kept_len-kept.ensures) in
    let u2 : Shared = record u { requests = c.keep_output.new.requests; count = 0 } in
    let same : u2 ≡ shared_after (OutputEvent c.args.task OutStream from c.args.bytes.now) u = ap (λ rs. record u { requests = rs; count = 0 }) c.in_ok-keep_output.ensures in
    rests_on g.R.ScriptThread.stance c.args.group.now u (OutputEvent c.args.task OutStream from c.args.bytes.now) c.requires.go.few u2 same
    (λ w st. kept_is g.R.ScriptThread.stance (setting_of u) c.args.group.now (anew (common_of u)) (W.uncounted w) c.args.task c.args.bytes.now (uncounted_stand g.R.ScriptThread.stance c.args.group.now u w st) few)

pub returns-clause-sound : goal.returns-clause-sound
returns-clause-sound g c =
    let u : Shared = c.args.shared.now in
    let from : ℕ = c.requires.accepted.0 in
    let few : length (W.kept_output (request_of u.requests c.args.task)) + length c.args.bytes.now ≤ W.run_limits.values.text = omega (arith, c.if-saturating_add-gt-MAX_TEXT.false, c.saturating_add.ensures, c.kept_len-kept.ensures) in
    let u2 : Shared = record u { requests = c.keep_output.new.requests; count = 0 } in
    let same : u2 ≡ shared_after (OutputEvent c.args.task OutStream from c.args.bytes.now) u = ap (λ rs. record u { requests = rs; count = 0 }) c.in_ok-keep_output.ensures in
    rests_after g.R.Runner.number g.R.Runner.parent g.R.Runner.branch g.R.Runner.fits g.met.R.ScriptThread.awaited g.met.R.ScriptThread.event_fits c.args.group.now u c.requires.go
    (OutputEvent c.args.task OutStream from c.args.bytes.now) c.requires.accepted.1 few refl u2 same

pub returns-then-saturating_add-gt-MAX_TEXT-clause-sound : goal.returns-then-saturating_add-gt-MAX_TEXT-clause-sound
returns-then-saturating_add-gt-MAX_TEXT-clause-sound g c =
    let u : Shared = c.args.shared.now in
    map_ok c.end_by_limit.result c.end_by_limit.ensures.over
    (λ p o. over_sound g.R.Runner.number g.R.Runner.parent g.R.Runner.branch g.R.Runner.fits p c.args.group.now (record u { count = 0 }) (heads g.R.ScriptThread.stance c.args.group.now.seats) (limit_line TextLength ∷ []) (worse u.result Failure) _ _ o
    (counted_fits (setting_of u) (common_of u) 0 (g.met.R.ScriptThread.shared_fits _ _ c.requires.go.fit))
    (heads_are g.R.ScriptThread.stance _ _ (g.met.R.ScriptThread.heads_stand _ _ c.requires.go.fit)) c.requires.go.few_threads)

pub returns-clause-steps : goal.returns-clause-steps
returns-clause-steps g c = λ from.
    let u : Shared = c.args.shared.now in
    let few : length (W.kept_output (request_of u.requests c.args.task)) + length c.args.bytes.now ≤ W.run_limits.values.text = omega (arith, c.if-saturating_add-gt-MAX_TEXT.false, c.saturating_add.ensures, c.kept_len-kept.ensures) in
    let u2 : Shared = record u { requests = c.keep_output.new.requests; count = 0 } in
    let same : u2 ≡ shared_after (OutputEvent c.args.task OutStream from c.args.bytes.now) u = ap (λ rs. record u { requests = rs; count = 0 }) c.in_ok-keep_output.ensures in
    steps_rested g.R.ScriptThread.stance g.R.Runner.seated g.R.Runner.head g.R.Runner.turns g.R.Runner.room (OutputEvent c.args.task OutStream from c.args.bytes.now) c.args.group.now u refl c.requires.go.few (λ j passes. omega (arith, passes.1, few)) u2 same

pub returns-then-saturating_add-gt-MAX_TEXT-clause-steps : goal.returns-then-saturating_add-gt-MAX_TEXT-clause-steps
returns-then-saturating_add-gt-MAX_TEXT-clause-steps g c =
    let u : Shared = c.args.shared.now in
    let u0 : Shared = record u { count = 0 } in
    let many : W.run_limits.values.text < length (W.kept_output (request_of u.requests c.args.task)) + length c.args.bytes.now = omega (arith, c.if-saturating_add-gt-MAX_TEXT.true, c.saturating_add.ensures, c.kept_len-kept.ensures) in
    map_ok c.end_by_limit.result c.end_by_limit.ensures.over
    (λ p o from. steps_limited g.R.ScriptThread.stance g.R.Runner.seated g.R.Runner.head g.R.Runner.turns g.R.Runner.room (OutputEvent c.args.task OutStream from c.args.bytes.now) c.args.group.now u TextLength (λ few. omega (arith, few, many)) (λ j passes. passes.0) u0 refl refl p _ _ o)

pub returns-then-saturating_add-gt-MAX_TEXT-clause-marks : goal.returns-then-saturating_add-gt-MAX_TEXT-clause-marks
returns-then-saturating_add-gt-MAX_TEXT-clause-marks g c = map_ok c.end_by_limit.result c.end_by_limit.ensures.marks (λ p k. but_for c.args.shared.now (record c.args.shared.now { count = 0 }) _ refl refl refl refl (same_requests _ _ refl refl) k)

pub returns-clause-marks : goal.returns-clause-marks
returns-clause-marks g c = rests c.args.shared.now (record c.args.shared.now { requests = c.keep_output.new.requests; count = 0 }) refl refl refl (front_itself c.args.shared.now.log)
    (change_goes_on (W.with_kept c.args.bytes.now) (kept_same c.args.bytes.now) c.args.task _ _ refl c.in_ok-keep_output.ensures)
