use Rattle.std.proofs.Common.{ℕ, Result, refl, sym, subst}
use Rattle.build_commands.specs.declared.plan.Plan.{Plan}
use Rattle.build_commands.specs.declared.refusal.Refusal.{Refusal}
use Rattle.build_commands.specs.Beginning.{Runs, refused, built}
use Rattle.build_commands.specs.Plans.{Plans}
use Rattle.build_commands.proofs.running.build_planned.Goals as goal

pub returns-in-Ok : goal.returns-in-Ok
returns-in-Ok g c = λ script agents plans. built (subst (λ (r : Result Plan Refusal). Plans script agents r) c.in-Ok.is plans) c.begin.ensures

pub returns-in-Err : goal.returns-in-Err
returns-in-Err g c = λ script agents plans.
    let D = g.D.Disk in
    let A = g.A.Source in
    let H = g.H.Host in
    let K = g.K.Sink in
    subst (λ (n : ℕ). Runs D g.R.ScriptThread.stance H A c.args.disk c.args.disk
    c.args.hosts.items c.args.hosts.items c.args.answers c.args.answers c.new.result.items c.args.kind (K.written c.args.out.now) (K.written c.tell-status.new.out) (K.faults c.args.out.now) (K.faults c.tell-status.new.out) script agents n) (sym c.tell-status.ensures.status)
    (refused (subst (λ (r : Result Plan Refusal). Plans script agents r) c.in-Err.is plans) refl (refl, refl, c.new.ensures.items) c.tell-status.ensures.text)
