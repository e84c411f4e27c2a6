use Rattle.std.proofs.Common.{◌≡◌, ◌≤◌, ◌+◌, length, ◌∙◌, ℕ, List, [], ◌∷◌, max, sym, ap, subst, reverse, arith}
use Rattle.agent_worker.specs.declared.member.Member.{Member}
use Rattle.build_life.specs.Lower.build_core.Builds.{Parts, setting_in}
use Rattle.model_run.specs.declared.site.Executor.{Executor as SiteExecutor}
use Rattle.model_run.specs.declared.site.Site.{Site}
use Rattle.model_run.specs.State.{Setting}
use Rattle.agent_worker.specs.Crews.{members_of, others_of}
use Rattle.build_commands.specs.Launching.{LaunchedOnce}
use Rattle.build_commands.specs.Leading.{IsLed}
use Rattle.build_commands.specs.Living.{Finished, HostsStay}
use Rattle.build_commands.specs.Reporting.{KeepsRecords, Reports}
use Rattle.build_commands.specs.Reporting as report
use Rattle.build_commands.proofs.FinishLemmas.{finished_wanting}
use Rattle.build_commands.proofs.KeepLemmas.{nothing_kept}
use Rattle.build_commands.proofs.LaunchLemmas.{none_launched}
use Rattle.build_life.specs.Lower.member_turns.Lives.{LifeOf, any_reply}
use Rattle.build_life.specs.Lower.locked_build.declared.ask.Entry.{Entry}
use Rattle.build_life.proofs.CloseLemmas.{no_turns}
use Rattle.build_commands.proofs.LivingLemmas.{hosts_all, no_events, one_answer, stay_same, still_served}
use Rattle.build_commands.proofs.finishing.finish.Goals as goal

pub returns-in-Err-clause-stay : goal.returns-in-Err-clause-stay
returns-in-Err-clause-stay g c =
    let A = g.A.Source in
    let H = g.H.Host in
    subst (λ (hs : List g.row.H.Denot). HostsStay H c.args.hosts.items hs) (sym c.in-Err.ensures.back.0) (stay_same H A c.args.hosts.items)

pub returns-in-Err-clause-reports : goal.returns-in-Err-clause-reports
returns-in-Err-clause-reports g c =
    subst (λ (n : ℕ). Reports (g.D.Disk.faults c.args.durable.journal.disk) (g.D.Disk.faults c.close.result) (g.A.Source.faults c.args.answers) (g.A.Source.faults c.in-Err.answers) (g.K.Sink.written c.args.out.now) (g.K.Sink.written c.tell-status.new.out) (g.K.Sink.faults c.args.out.now) (g.K.Sink.faults c.tell-status.new.out) n)
    (sym c.tell-status.ensures.status) (report.no_memory (ap g.D.Disk.faults c.close.ensures) c.tell-status.ensures.text)

pub returns-in-Err-clause-finishes : goal.returns-in-Err-clause-finishes
returns-in-Err-clause-finishes g c = λ setting entry origin before lasts counts.
    let A = g.A.Source in
    let H = g.H.Host in
    let D = g.D.Disk in
    let K = g.K.Sink in
    let back = c.in-Err.ensures.back in
    let begun = members_of setting.site.executors c.args.hosts.items c.args.answers in
    let looks = max setting.site.looks 1 in
    let hosts_are = back.0 ∙ sym (hosts_all setting.site.executors c.args.hosts.items c.args.answers) in
    let are = one_answer setting.site.executors c.args.hosts.items c.args.answers ∙ ap (λ (a : g.row.A.Denot). a ∷ []) (sym back.1) in
    ∣ finished_wanting D g.R.ScriptThread.stance H A looks
    c.args.kind setting entry origin before c.args.hosts.items c.in-Err.hosts.items c.args.answers c.in-Err.answers (K.written c.args.out.now) (K.written c.tell-status.new.out) (K.faults c.args.out.now) (K.faults c.tell-status.new.out) c.tell-status.result (D.faults c.args.durable.journal.disk)
    c.new.result.items c.args.durable c.close.result c.close.ensures c.new.ensures.items (no_turns H A looks any_reply tt begun)
    (still_served H A looks begun) hosts_are are
    (no_events H A looks g.R.ScriptThread.stance setting lasts.goes.proper before lasts.goes.begun begun) lasts c.tell-status.ensures.status c.tell-status.ensures.text ∣₁

pub returns-in-Err-clause-last : goal.returns-in-Err-clause-last
returns-in-Err-clause-last g c = λ log payloads keeps.
    let D = g.D.Disk in
    let K = g.K.Sink in
    ∣ subst (λ (d : g.row.D.Denot). KeepsRecords D (setting_in c.args.durable.build) c.args.durable.journal.disk payloads c.new.result.items d (K.written c.args.out.now) (K.written c.tell-status.new.out) (K.faults c.args.out.now) (K.faults c.tell-status.new.out) c.tell-status.result) (sym c.close.ensures)
    (nothing_kept D (let met = g.met.D.Disk g.world.𝓛 g.world.𝓜 g.world.𝓡 ((λ s x. x), (λ x. x), (λ x. x), λ x. x) in record { told_end = met.told_end; told_image = met.told_image; counts_now = met.counts_now; only_now = met.only_now }) g.R.ScriptThread.stance c.args.durable payloads c.new.result.items
    (K.written c.args.out.now) (K.written c.tell-status.new.out) (K.faults c.args.out.now) (K.faults c.tell-status.new.out) c.tell-status.result c.requires.begun (c.build.ensures.whole c.requires.running c.requires.begun) keeps c.new.ensures.items c.tell-status.ensures.status) ∣₁

pub returns-in-Err-clause-launched : goal.returns-in-Err-clause-launched
returns-in-Err-clause-launched g c =
    let H = g.H.Host in
    subst (λ (hs : List g.row.H.Denot). LaunchedOnce H c.args.hosts.items hs) (sym c.in-Err.ensures.back.0) (none_launched H c.args.hosts.items)

pub returns-in-Err-clause-led : goal.returns-in-Err-clause-led
returns-in-Err-clause-led g c =
    let A = g.A.Source in
    let H = g.H.Host in
    let back = c.in-Err.ensures.back in
    let setting = setting_in c.args.durable.build in
    let begun = members_of setting.site.executors c.args.hosts.items c.args.answers in
    let hosts_are = back.0 ∙ sym (hosts_all setting.site.executors c.args.hosts.items c.args.answers) in
    let are = one_answer setting.site.executors c.args.hosts.items c.args.answers ∙ ap (λ (a : g.row.A.Denot). a ∷ []) (sym back.1) in
    record {
      lived = record {
        new = begun;
        turns = [];
        life = subst (λ (es : List Entry). LifeOf H A (max setting.site.looks 1) any_reply tt begun begun [] es) (sym c.new.ensures.items)
            (no_turns H A (max setting.site.looks 1) any_reply tt begun);
        served = still_served H A (max setting.site.looks 1) begun;
        hosts_are = hosts_are;
        answers_are = are;
      };
      too_long = λ fourteen. let eight : c.tell-status.result ≡ 8 = c.tell-status.ensures.status in absurd (omega (arith, eight, fourteen));
    }

-- the members are made of the hosts and the answers, and the number of looks is the site's
record Gathered {H A : Type 0} (setting : Setting) (members : List (Member H A)) (others hosts : List H) (answers : A) (looks : ℕ) : Type 0 where
  made : members ≡ members_of setting.site.executors hosts answers
  rest : others ≡ reverse (others_of setting.site.executors hosts)
  at_least : looks ≡ max setting.site.looks 1

gathered : {H A : Type 0} (setting : Setting) (site other : Site) (executors : List SiteExecutor) (members : List (Member H A)) (others hosts : List H) (answers : A) (looks : ℕ) → site ≡ setting.site → other ≡ setting.site → executors ≡ other.executors
    → looks ≡ max site.looks 1 → members ≡ members_of executors hosts answers → others ≡ reverse (others_of executors hosts) → Gathered setting members others hosts answers looks
gathered {H} {A} setting site other executors members others hosts answers looks same_site same_other are at_least made rest =
    let all : executors ≡ setting.site.executors = are ∙ ap (λ (s : Site). s.executors) same_other in
    record {
      made = made ∙ ap (λ (xs : List SiteExecutor). members_of xs hosts answers) all;
      rest = rest ∙ ap (λ (xs : List SiteExecutor). reverse (others_of xs hosts)) all;
      at_least = at_least ∙ ap (λ (s : Site). max s.looks 1) same_site;
    }

again : {H A : Type 0} (setting later : Setting) (members : List (Member H A)) (others hosts : List H) (answers : A) (looks : ℕ) → setting ≡ later → Gathered setting members others hosts answers looks → Gathered later members others hosts answers looks
again setting later members others hosts answers looks same g = subst (λ (s : Setting). Gathered s members others hosts answers looks) same g

-- there is a member for each host at most, and the operator
members_few : {H A : Type 0} (executors : List SiteExecutor) (hosts : List H) (answers : A) → length (members_of executors hosts answers) ≤ length hosts + 1
members_few [] hosts answers = omega arith
members_few (x ∷ executors) [] answers = omega arith
members_few (x ∷ executors) (host ∷ hosts) answers = let more = members_few executors hosts answers in omega (arith, more)

crew_few : {H A : Type 0} (executors : List SiteExecutor) (hosts : List H) (answers : A) (members : List (Member H A)) → members ≡ members_of executors hosts answers → length hosts ≤ 126 → length members ≤ 127
crew_few executors hosts answers members made few = let some = members_few executors hosts answers in subst (λ (n : ℕ). n ≤ 127) (ap length (sym made)) (omega (arith, some, few))

pub live-requires-clause-few : goal.live-requires-clause-few
live-requires-clause-few g c κs within = crew_few c.as_slice-executors.result.now c.args.hosts.items c.args.answers c.in-Ok.crew.members.items c.in-Ok.ensures.members c.requires.few

pub live-requires-clause-whole : goal.live-requires-clause-whole
live-requires-clause-whole g c κs within = c.build.ensures.whole c.requires.running c.requires.begun

pub returns-in-Ok-clause-led : goal.returns-in-Ok-clause-led
returns-in-Ok-clause-led g c =
    let A = g.A.Source in
    let H = g.H.Host in
    let K = g.K.Sink in
    let setting = setting_in c.args.durable.build in
    let site = c.site.ensures ∙ ap (λ (b : Parts g.row.R.Denot). (setting_in b).site) c.build.ensures.is in
    let other = c.site-2.ensures ∙ ap (λ (b : Parts g.row.R.Denot). (setting_in b).site) c.build-2.ensures.is in
    let crew = gathered setting c.site.result.now c.site-2.result.now c.as_slice-executors.result.now c.in-Ok.crew.members.items c.in-Ok.crew.others.items c.args.hosts.items c.args.answers c.max-looks.result
    site other c.as_slice-executors.ensures c.max-looks.ensures c.in-Ok.ensures.members c.in-Ok.ensures.others in
    subst (λ (n : ℕ). IsLed H A n setting c.args.hosts.items c.live.result.hosts.items c.args.answers c.live.result.answers c.live.result.history.items
    (K.written c.args.out.now) (K.written c.live.new.out) (K.faults c.args.out.now) (K.faults c.live.new.out) c.live.result.status) crew.at_least
    (c.live.ensures.led setting c.args.hosts.items c.args.answers crew.made crew.rest)

pub returns-in-Ok-clause-finishes : goal.returns-in-Ok-clause-finishes
returns-in-Ok-clause-finishes g c = λ setting entry origin before lasts counts.
    let A = g.A.Source in
    let H = g.H.Host in
    let D = g.D.Disk in
    let K = g.K.Sink in
    let here = setting_in c.args.durable.build in
    let site = c.site.ensures ∙ ap (λ (b : Parts g.row.R.Denot). (setting_in b).site) c.build.ensures.is in
    let other = c.site-2.ensures ∙ ap (λ (b : Parts g.row.R.Denot). (setting_in b).site) c.build-2.ensures.is in
    let crew = again here setting c.in-Ok.crew.members.items c.in-Ok.crew.others.items c.args.hosts.items c.args.answers c.max-looks.result lasts.goes.same
    (gathered here c.site.result.now c.site-2.result.now c.as_slice-executors.result.now c.in-Ok.crew.members.items c.in-Ok.crew.others.items c.args.hosts.items c.args.answers c.max-looks.result
    site other c.as_slice-executors.ensures c.max-looks.ensures c.in-Ok.ensures.members c.in-Ok.ensures.others) in
    subst (λ (n : ℕ). ∥ Finished D H A n
    c.args.kind setting entry origin before c.args.hosts.items c.live.result.hosts.items c.args.answers c.live.result.answers c.live.result.history.items c.live.result.disk (D.faults c.args.durable.journal.disk) (D.faults c.live.result.disk)
    (K.written c.args.out.now) (K.written c.live.new.out) (K.faults c.args.out.now) (K.faults c.live.new.out) c.live.result.status ∥₁) crew.at_least
    (c.live.ensures.finishes c.args.hosts.items c.args.answers setting entry origin before crew.made crew.rest lasts counts)
