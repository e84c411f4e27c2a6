use Rattle.std.proofs.Common.{◌≡◌, ◌∙◌, sym, ap, subst}
use Rattle.device_faults.specs.Faults.{CountsFault}
use Rattle.journal_core.specs.declared.faults.TakeFault.TheVariants.{Disk}
use Rattle.member_turns.specs.Lower.locked_build.Facts.{Facts}
use Rattle.member_turns.specs.Lower.locked_build.Histories.{kept_fault}
use Rattle.build_life.proofs.CloseLemmas.{disk_counts, err_tells, failed_so, known_from, opening_counts, opening_tells, same_start}
use Rattle.build_life.proofs.FactLemmas.{facts_all, rests_keep}
use Rattle.build_life.proofs.FitLemmas.{life_serves}
use Rattle.build_life.proofs.HeardLemmas.{life_heard}
use Rattle.build_life.proofs.WholeLemmas.{life_ends, opening_refused}
use Rattle.member_turns.proofs.SeatLemmas.{zip_length}
use Rattle.build_life.proofs.going.go_on.Goals as goal

pub returns-in-Ok-clause-lives : goal.returns-in-Ok-clause-lives
returns-in-Ok-clause-lives g c =
    let D = g.D.Disk in
    let H = g.H.Host in
    let A = g.A.Source in
    let stance = g.R.ScriptThread.stance in
    let e = c.live_on.ensures.lives in
    let l = c.live_on.result in
    let site = c.in-Ok.site in
    let made = c.in-Ok.ensures.grants in
    let life = same_start H A c.args.looks _ site.base l.site.base c.args.members.now.items c.live_on.new.members.items l.site.history.items e.0 e.1 in
    record {
      opened = (made.0, made.1, made.2, subst (λ k. Facts D stance c.args.durable k made.0) (sym (ap (λ b. b.value) e.1.base_stays ∙ c.in-Ok.ensures.fresh.1)) made.3);
      how = e.0;
      life = life;
      told = e.2;
      heard = life_heard H A c.args.looks stance (λ b. b.value.build) l.site.base l.site.base c.args.members.now.items c.live_on.new.members.items l.site.history.items e.0 life l.ended e.2;
      whole = facts_all D stance c.args.durable site.durable l.site.durable made.0 l.site.history.items _ made.2 made.3
          (known_from D stance (λ b. b.value) site.base l.site.base site.durable l.site.durable l.site.history.items _ e.1.base_stays c.in-Ok.ensures.fresh.1 l.site.stands);
      comes = λ setting entry origin before events lasts.
          life_ends D stance (let met = g.met.D.Disk g.world.𝓛 g.world.𝓜 g.world.𝓡 ((λ s x. x), (λ x. x), (λ x. x), λ x. x) in record { told_end = met.told_end; told_image = met.told_image; counts_now = met.counts_now; only_now = met.only_now }) setting entry origin before events c.args.durable lasts made.0 made.1 site.durable made.3 made.2
          H A c.args.looks (λ b. b.value.build) l.site.base l.site.base c.args.members.now.items c.live_on.new.members.items l.site.history.items e.0 life
          (ap (λ b. b.value.build) e.1.base_stays ∙ ap (λ k. k.build) c.in-Ok.ensures.fresh.1) l.site.durable _
          (known_from D stance (λ b. b.value) site.base l.site.base site.durable l.site.durable l.site.history.items _ e.1.base_stays c.in-Ok.ensures.fresh.1 l.site.stands)
          l.ended e.2;
    }

pub returns-in-Ok-clause-len : goal.returns-in-Ok-clause-len
returns-in-Ok-clause-len g c = zip_length _ c.args.members.now.items c.live_on.new.members.items c.live_on.ensures.lives.1.ways

pub returns-in-Ok-clause-served : goal.returns-in-Ok-clause-served
returns-in-Ok-clause-served g c =
    let H = g.H.Host in
    let A = g.A.Source in
    let e = c.live_on.ensures.lives in
    let l = c.live_on.result in
    life_serves H A c.args.looks g.R.ScriptThread.stance (λ b. b.value.build) c.in-Ok.site.base l.site.base c.args.members.now.items c.live_on.new.members.items l.site.history.items e.0 e.1

pub returns-in-Ok-clause-keeps : goal.returns-in-Ok-clause-keeps
returns-in-Ok-clause-keeps g c =
    let D = g.D.Disk in
    let stance = g.R.ScriptThread.stance in
    let e = c.live_on.ensures.lives in
    let l = c.live_on.result in
    let site = c.in-Ok.site in
    let made = c.in-Ok.ensures.grants in
    rests_keep D stance c.args.durable site.durable l.site.durable made.0 l.site.history.items _ made.2 made.3
    (known_from D stance (λ b. b.value) site.base l.site.base site.durable l.site.durable l.site.history.items _ e.1.base_stays c.in-Ok.ensures.fresh.1 l.site.stands)
    c.live_on.new.members.items e.0 l.ended e.2

pub returns-in-Ok-clause-faults : goal.returns-in-Ok-clause-faults
returns-in-Ok-clause-faults g c =
    let D = g.D.Disk in
    let stance = g.R.ScriptThread.stance in
    let e = c.live_on.ensures.lives in
    let l = c.live_on.result in
    err_tells D stance l.site.base.value l.site.durable l.site.history.items _ c.live_on.new.members.items e.0 l.ended l.site.stands e.2

pub returns-in-Ok-clause-failed : goal.returns-in-Ok-clause-failed
returns-in-Ok-clause-failed g c = λ is.
    let e = c.live_on.ensures.lives in
    failed_so c.live_on.new.members.items e.0 (kept_fault c.live_on.result.site.history.items) c.live_on.result.ended e.2 is

pub returns-in-Ok-clause-disk : goal.returns-in-Ok-clause-disk
returns-in-Ok-clause-disk g c =
    let D = g.D.Disk in
    let stance = g.R.ScriptThread.stance in
    let e = c.live_on.ensures.lives in
    let l = c.live_on.result in
    let site = c.in-Ok.site in
    let made = c.in-Ok.ensures.grants in
    disk_counts D stance c.args.durable site.durable l.site.durable made.0 l.site.history.items _ c.live_on.new.members.items e.0 l.ended made.3 made.2
    (known_from D stance (λ b. b.value) site.base l.site.base site.durable l.site.durable l.site.history.items _ e.1.base_stays c.in-Ok.ensures.fresh.1 l.site.stands) e.2

pub returns-in-Err-clause-refused : goal.returns-in-Err-clause-refused
returns-in-Err-clause-refused g c =
    let D = g.D.Disk in
    let e = c.in-Err.ensures.refused in
    (e.0, e.1, e.2, e.3, e.4, opening_tells D g.R.ScriptThread.stance c.args.durable e.1 e.0 _ e.2 e.3)

pub returns-in-Err-clause-breaks : goal.returns-in-Err-clause-breaks
returns-in-Err-clause-breaks g c = λ setting entry origin before events lasts.
    let D = g.D.Disk in
    let e = c.in-Err.ensures.refused in
    opening_refused D g.R.ScriptThread.stance (let met = g.met.D.Disk g.world.𝓛 g.world.𝓜 g.world.𝓡 ((λ s x. x), (λ x. x), (λ x. x), λ x. x) in record { told_end = met.told_end; told_image = met.told_image; counts_now = met.counts_now; only_now = met.only_now }) setting entry origin before events c.args.durable lasts e.0 e.1 _ _ e.2 e.3 e.4

pub returns-in-Err-clause-disk : goal.returns-in-Err-clause-disk
returns-in-Err-clause-disk g c =
    let D = g.D.Disk in
    let e = c.in-Err.ensures.refused in
    subst (λ d. CountsFault (D.faults c.args.durable.journal.disk) (D.faults d) (c.in-Err.refused.0 ≡ Disk)) (sym e.4) (opening_counts D g.R.ScriptThread.stance c.args.durable e.1 e.0 _ e.2 e.3)
