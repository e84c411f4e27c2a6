use Rattle.std.proofs.Common.{[], ◌∷◌, ◌≡◌, ◌<◌, ◌≤◌, ◌+◌, ◌∙◌, ℕ, false, refl, sym, ap, subst, length, arith}
use Rattle.model_values.specs.Limits.{limit_line}
use Rattle.model_run.specs.declared.result.BuildResult.TheVariants.{Failure}
use Rattle.model_run.specs.Results.{worse}
use Rattle.model_values.specs.declared.limit.LimitKind.TheVariants.{LogSize}
use Rattle.model_run.specs.Fitting.{SharedFits}
use Rattle.model_run.specs.World as W
use Rattle.model_run.specs.LogText.{raw}
use Rattle.model_run.proofs.RequestLaws.{change_goes_on, taken_same}
use Rattle.cps_frames.specs.declared.shared.Shared.{Shared}
use Rattle.cps_frames.specs.Standing.{setting_of, common_of}
use Rattle.build_log.specs.Refusals.{limit_of}
use Rattle.settle_laws.specs.Standing.{heads}
use Rattle.settle_laws.proofs.Heads.{heads_are}
use Rattle.script_thread.specs.Names.{OutputEvent, LogStream}
use Rattle.script_thread.specs.Events.{shared_after}
use Rattle.build_core.proofs.Changes.{anew, uncounted_stand, logged_is, log_limit_is}
use Rattle.build_core.proofs.Fitting.{log_over, log_within, room_to_take}
use Rattle.build_core.proofs.Answering.{rests_after, rests_on, is_limited, map_ok}
use Rattle.build_core.proofs.Ended.{counted_fits, over_sound}
use Rattle.build_core.proofs.Stepping.{steps_rested, steps_limited}
use Rattle.build_core.proofs.Marks.{but_for, rests, same_requests}
use Rattle.build_core.proofs.events.log_output.Goals as goal

pub returns-in-Err-LogLimit-clause-stands : goal.returns-in-Err-LogLimit-clause-stands
returns-in-Err-LogLimit-clause-stands g c =
    let u : Shared = c.args.shared.now in
    let u0 : Shared = record u { log = c.raw.new.self; count = 0 } in
    map_ok c.end_by_limit.result c.end_by_limit.ensures.over
    (λ p o from. is_limited g.R.ScriptThread.stance c.args.group.now u (OutputEvent c.args.task LogStream from c.args.bytes.now) LogSize u0 (ap (λ l. record (common_of u) { log = l; count = 0 }) c.in-Err-LogLimit.ensures.unchanged)
    (λ w st. log_limit_is g.R.ScriptThread.stance (setting_of u) c.args.group.now (anew (common_of u)) (W.uncounted w) c.args.task c.args.bytes.now (uncounted_stand g.R.ScriptThread.stance c.args.group.now u w st) (log_over u.log c.args.bytes.now (c.in-Err-LogLimit.ensures.refusal ∙ ap limit_of c.in-Err-LogLimit.field-0-is)))
    p _ _ o)

pub count_taken-requires : goal.count_taken-requires
count_taken-requires g c =
    let u : Shared = c.args.shared.now in
    room_to_take (setting_of u) (common_of u) (length c.args.bytes.now) (g.met.R.ScriptThread.shared_fits _ _ c.requires.go.fit) (log_within u.log c.args.bytes.now c.in-Ok.ensures.refusal)

pub returns-clause-stands : goal.returns-clause-stands
returns-clause-stands g c = λ from.
    let u : Shared = c.args.shared.now in
    let u2 : Shared = record u { log = c.raw.new.self; requests = c.count_taken.new.requests; count = 0 } in
    let same : u2 ≡ shared_after (OutputEvent c.args.task LogStream from c.args.bytes.now) u =
    ap (λ l. record u { log = l; requests = c.count_taken.new.requests; count = 0 }) c.in-Ok.ensures.written
    ∙ ap (λ rs. record u { log = raw c.args.bytes.now u.log; requests = rs; count = 0 }) c.count_taken.ensures in
    rests_on g.R.ScriptThread.stance c.args.group.now u (OutputEvent c.args.task LogStream from c.args.bytes.now) c.requires.go.few u2 same
    (λ w st. logged_is g.R.ScriptThread.stance (setting_of u) c.args.group.now (anew (common_of u)) (W.uncounted w) c.args.task c.args.bytes.now (uncounted_stand g.R.ScriptThread.stance c.args.group.now u w st) (log_within u.log c.args.bytes.now c.in-Ok.ensures.refusal))

pub returns-clause-sound : goal.returns-clause-sound
returns-clause-sound g c =
    let u : Shared = c.args.shared.now in
    let from : ℕ = c.requires.accepted.0 in
    let u2 : Shared = record u { log = c.raw.new.self; requests = c.count_taken.new.requests; count = 0 } in
    let same : u2 ≡ shared_after (OutputEvent c.args.task LogStream from c.args.bytes.now) u =
    ap (λ l. record u { log = l; requests = c.count_taken.new.requests; count = 0 }) c.in-Ok.ensures.written
    ∙ ap (λ rs. record u { log = raw c.args.bytes.now u.log; requests = rs; count = 0 }) c.count_taken.ensures in
    rests_after g.R.Runner.number g.R.Runner.parent g.R.Runner.branch g.R.Runner.fits g.met.R.ScriptThread.awaited g.met.R.ScriptThread.event_fits c.args.group.now u c.requires.go
    (OutputEvent c.args.task LogStream from c.args.bytes.now) c.requires.accepted.1 (log_within u.log c.args.bytes.now c.in-Ok.ensures.refusal) refl u2 same

pub returns-in-Err-LogLimit-clause-sound : goal.returns-in-Err-LogLimit-clause-sound
returns-in-Err-LogLimit-clause-sound g c =
    let u : Shared = c.args.shared.now in
    map_ok c.end_by_limit.result c.end_by_limit.ensures.over
    (λ p o. over_sound g.R.Runner.number g.R.Runner.parent g.R.Runner.branch g.R.Runner.fits p c.args.group.now (record u { log = c.raw.new.self; count = 0 }) (heads g.R.ScriptThread.stance c.args.group.now.seats) (limit_line LogSize ∷ []) (worse u.result Failure) _ _ o
    (subst (λ l. SharedFits (setting_of u) false (record (common_of u) { log = l; count = 0 })) (sym c.in-Err-LogLimit.ensures.unchanged) (counted_fits (setting_of u) (common_of u) 0 (g.met.R.ScriptThread.shared_fits _ _ c.requires.go.fit)))
    (heads_are g.R.ScriptThread.stance _ _ (g.met.R.ScriptThread.heads_stand _ _ c.requires.go.fit)) c.requires.go.few_threads)

pub returns-clause-steps : goal.returns-clause-steps
returns-clause-steps g c = λ from.
    let u : Shared = c.args.shared.now in
    let u2 : Shared = record u { log = c.raw.new.self; requests = c.count_taken.new.requests; count = 0 } in
    let same : u2 ≡ shared_after (OutputEvent c.args.task LogStream from c.args.bytes.now) u =
    ap (λ l. record u { log = l; requests = c.count_taken.new.requests; count = 0 }) c.in-Ok.ensures.written
    ∙ ap (λ rs. record u { log = raw c.args.bytes.now u.log; requests = rs; count = 0 }) c.count_taken.ensures in
    let few : length u.log + length c.args.bytes.now ≤ W.run_limits.log = log_within u.log c.args.bytes.now c.in-Ok.ensures.refusal in
    steps_rested g.R.ScriptThread.stance g.R.Runner.seated g.R.Runner.head g.R.Runner.turns g.R.Runner.room (OutputEvent c.args.task LogStream from c.args.bytes.now) c.args.group.now u refl c.requires.go.few (λ j passes. omega (arith, passes.1, few)) u2 same

pub returns-in-Err-LogLimit-clause-steps : goal.returns-in-Err-LogLimit-clause-steps
returns-in-Err-LogLimit-clause-steps g c =
    let u : Shared = c.args.shared.now in
    let u0 : Shared = record u { log = c.raw.new.self; count = 0 } in
    let many : W.run_limits.log < length u.log + length c.args.bytes.now = log_over u.log c.args.bytes.now (c.in-Err-LogLimit.ensures.refusal ∙ ap limit_of c.in-Err-LogLimit.field-0-is) in
    map_ok c.end_by_limit.result c.end_by_limit.ensures.over
    (λ p o from. steps_limited g.R.ScriptThread.stance g.R.Runner.seated g.R.Runner.head g.R.Runner.turns g.R.Runner.room (OutputEvent c.args.task LogStream from c.args.bytes.now) c.args.group.now u LogSize (λ few. omega (arith, few, many)) (λ j passes. passes.0)
    u0 (ap (λ l. record (common_of u) { log = l; count = 0 }) c.in-Err-LogLimit.ensures.unchanged) refl p _ _ o)

pub returns-in-Err-LogLimit-clause-marks : goal.returns-in-Err-LogLimit-clause-marks
returns-in-Err-LogLimit-clause-marks g c = map_ok c.end_by_limit.result c.end_by_limit.ensures.marks (λ p k. but_for c.args.shared.now (record c.args.shared.now { log = c.raw.new.self; count = 0 }) _ refl refl refl c.in-Err-LogLimit.ensures.unchanged (same_requests _ _ refl refl) k)

pub returns-clause-marks : goal.returns-clause-marks
returns-clause-marks g c = rests c.args.shared.now (record c.args.shared.now { log = c.raw.new.self; requests = c.count_taken.new.requests; count = 0 }) refl refl refl (c.args.bytes.now, c.in-Ok.ensures.written)
    (change_goes_on (W.with_taken (length c.args.bytes.now)) (taken_same (length c.args.bytes.now)) c.args.task _ _ refl c.count_taken.ensures)
