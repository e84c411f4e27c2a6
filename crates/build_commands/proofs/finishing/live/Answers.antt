use Rattle.std.proofs.Common.{◌≡◌, ◌≤◌, ◌∙◌, ◌++◌, ℕ, List, [], ◌∷◌, Err, sym, ap, subst, length, reverse, refl}
use Rattle.std.specs.Prelude.{IfOk}
use Rattle.std.proofs.lemmas.List.{reverse-reverse}
use Rattle.std.proofs.Math.Logic.{∥∥₁_map}
use Rattle.device_faults.specs.Faults.{Rose}
use Rattle.agent_worker.specs.declared.member.Member.{Member}
use Rattle.agent_worker.specs.Gate.{Told}
use Rattle.build_life.specs.Lower.build_core.Builds.{Parts, StandsFor, setting_in}
use Rattle.build_life.specs.Lower.build_images.Images.{image_in}
use Rattle.build_life.specs.Lower.locked_build.declared.ask.Entry.{Entry}
use Rattle.build_life.specs.Lower.locked_build.Histories.{lines, tooks}
use Rattle.build_life.specs.Lower.locked_build.Says.{Says}
use Rattle.build_life.specs.Lower.member_turns.Lives.{LifeOf, any_reply}
use Rattle.build_life.proofs.Lower.member_turns.OverLemmas.{life_over}
use Rattle.build_life.specs.Lower.member_turns.Rounds.{turns_of}
use Rattle.build_life.specs.Lower.member_turns.Turns.{Explains, HoldsOfOne}
use Rattle.build_life.specs.Lower.member_turns.Waiting.{operators}
use Rattle.build_life.specs.Serving.{AreServed}
use Rattle.build_life.specs.Telling.{AreHeard}
use Rattle.build_life.proofs.CloseLemmas.{no_turns}
use Rattle.agent_worker.specs.Crews.{answers_in, hosts_in, IsCrew, members_of, others_of}
use Rattle.build_commands.specs.Finishing.{TellsEnd}
use Rattle.build_commands.specs.Launching.{LaunchedOnce}
use Rattle.build_commands.specs.Leading.{IsLed}
use Rattle.build_commands.specs.Living.{HostsStay, IsRefused, TakesBy}
use Rattle.build_commands.specs.Reporting.{KeepsRecords, Reports}
use Rattle.build_commands.proofs.FinishLemmas.{counts_then, ended_long, finished_by, reports, reports_broken, told_long}
use Rattle.build_commands.proofs.KeepLemmas.{life_kept, life_long, opening_kept, opening_long}
use Rattle.build_commands.proofs.LaunchLemmas.{life_launched, none_launched}
use Rattle.build_commands.proofs.LivingLemmas.{crew_failed, crew_stay, hosts_all, life_events, one_operator, opening_events, rest_heard, served_crew, served_length, stay_same, still_served}
use Rattle.build_commands.proofs.finishing.live.Goals as goal

pub dismiss-hosts-requires-clause-crew : goal.dismiss-hosts-requires-clause-crew
dismiss-hosts-requires-clause-crew g c =
    let A = g.A.Source in
    let new = c.go_on.new.members.items in
    let old = c.args.crew.members.items in
    let here : new ≡ new = refl in
    subst (λ (ms : List (Member g.row.H.Denot g.row.A.Denot)). IsCrew ms) (sym here)
    (served_crew g.H.Host A old new c.in-Ok.ensures.served c.requires.crew)

pub returns-in-Ok-clause-stay : goal.returns-in-Ok-clause-stay
returns-in-Ok-clause-stay g c = λ executors hosts answers made others.
    let A = g.A.Source in
    let H = g.H.Host in
    let Members = List (Member g.row.H.Denot g.row.A.Denot) in
    let new = c.go_on.new.members.items in
    let old = c.args.crew.members.items in
    let here : new ≡ new = refl in
    let back : c.dismiss-hosts.result.0.items ≡ hosts_in new ++ others_of executors hosts =
    c.dismiss-hosts.ensures.hosts ∙ ap (λ (ms : Members). hosts_in ms ++ reverse c.args.crew.others.items) here
    ∙ ap (λ (hs : List g.row.H.Denot). hosts_in new ++ hs) (ap (λ (hs : List g.row.H.Denot). reverse hs) others ∙ reverse-reverse (others_of executors hosts)) in
    subst (λ (hs : List g.row.H.Denot). HostsStay H hosts hs) (sym back)
    (crew_stay H A executors hosts answers new (subst (λ (ms : Members). AreServed H A ms new) made c.in-Ok.ensures.served))

pub returns-in-Err-clause-stay : goal.returns-in-Err-clause-stay
returns-in-Err-clause-stay g c = λ executors hosts answers made others.
    let A = g.A.Source in
    let H = g.H.Host in
    let Members = List (Member g.row.H.Denot g.row.A.Denot) in
    let new = c.go_on.new.members.items in
    let here : new ≡ new = refl in
    let is : new ≡ members_of executors hosts answers = c.in-Err.ensures.back ∙ made in
    let back : c.dismiss-hosts-in-Err.result.0.items ≡ hosts =
    c.dismiss-hosts-in-Err.ensures.hosts ∙ ap (λ (ms : Members). hosts_in ms ++ reverse c.args.crew.others.items) (here ∙ is)
    ∙ ap (λ (hs : List g.row.H.Denot). hosts_in (members_of executors hosts answers) ++ hs) (ap (λ (hs : List g.row.H.Denot). reverse hs) others ∙ reverse-reverse (others_of executors hosts))
    ∙ hosts_all executors hosts answers in
    subst (λ (hs : List g.row.H.Denot). HostsStay H hosts hs) (sym back) (stay_same H A hosts)

pub returns-in-Ok-clause-reports : goal.returns-in-Ok-clause-reports
returns-in-Ok-clause-reports g c = λ executors hosts answers made.
    let A = g.A.Source in
    let D = g.D.Disk in
    let K = g.K.Sink in
    let new = c.go_on.new.members.items in
    let old = c.args.crew.members.items in
    let here : new ≡ new = refl in
    let are : answers_in new ≡ c.dismiss-hosts.result.1 ∷ [] = ap (λ (ms : List (Member g.row.H.Denot g.row.A.Denot)). answers_in ms) (sym here) ∙ c.dismiss-hosts.ensures.answers in
    let served = subst (λ (ms : List (Member g.row.H.Denot g.row.A.Denot)). AreServed g.H.Host A ms new) made c.in-Ok.ensures.served in
    subst (λ (d : g.row.D.Denot). Reports (D.faults c.args.durable.journal.disk) (D.faults d) (A.faults answers) (A.faults c.dismiss-hosts.result.1) (K.written c.args.out.now) (K.written c.tell_end-status.new.out) (K.faults c.args.out.now) (K.faults c.tell_end-status.new.out) c.tell_end-status.result)
    (sym c.close-disk.ensures.disk)
    (reports (D.faults c.args.durable.journal.disk) (D.faults c.in-Ok.field-0.site.durable.journal.disk) (A.faults answers) (A.faults c.dismiss-hosts.result.1) (K.written c.args.out.now) (K.written c.tell_end-status.new.out) (K.faults c.args.out.now) (K.faults c.tell_end-status.new.out)
    c.args.kind c.records.result (StandsFor g.R.ScriptThread.stance c.build.result.now) (image_in g.R.ScriptThread.stance c.build.result.now) c.in-Ok.field-0.ended c.tell_end-status.result c.tell_end-status.ensures
    (λ is. crew_failed g.H.Host A executors hosts answers c.dismiss-hosts.result.1 new served are (c.in-Ok.ensures.failed is)) c.in-Ok.ensures.disk
    (ended_long g.R.ScriptThread.stance c.in-Ok.field-0.site.durable c.in-Ok.field-0.ended c.in-Ok.ensures.faults))

pub returns-in-Ok-clause-finishes : goal.returns-in-Ok-clause-finishes
returns-in-Ok-clause-finishes g c = λ hosts answers setting entry origin before made others lasts counts.
    let A = g.A.Source in
    let H = g.H.Host in
    let D = g.D.Disk in
    let K = g.K.Sink in
    let Members = List (Member g.row.H.Denot g.row.A.Denot) in
    let new = c.go_on.new.members.items in
    let old = c.args.crew.members.items in
    let begun = members_of setting.site.executors hosts answers in
    let site = c.in-Ok.field-0.site in
    let here : new ≡ new = refl in
    let are : answers_in new ≡ c.dismiss-hosts.result.1 ∷ [] = ap (λ (ms : Members). answers_in ms) (sym here) ∙ c.dismiss-hosts.ensures.answers in
    let hosts_are : c.dismiss-hosts.result.0.items ≡ hosts_in new ++ others_of setting.site.executors hosts =
    c.dismiss-hosts.ensures.hosts ∙ ap (λ (ms : Members). hosts_in ms ++ reverse c.args.crew.others.items) here
    ∙ ap (λ (hs : List g.row.H.Denot). hosts_in new ++ hs) (ap (λ (hs : List g.row.H.Denot). reverse hs) others ∙ reverse-reverse (others_of setting.site.executors hosts)) in
    let is : old ≡ begun = made in
    let served = subst (λ (ms : Members). AreServed g.H.Host A ms new) is c.in-Ok.ensures.served in
    let lives = c.in-Ok.ensures.lives in
    let told = subst (λ (n : ℕ). TellsEnd c.args.kind n (StandsFor g.R.ScriptThread.stance site.durable.build) (image_in g.R.ScriptThread.stance site.durable.build) (K.written c.args.out.now) (K.written c.tell_end-status.new.out) (K.faults c.args.out.now) (K.faults c.tell_end-status.new.out) c.in-Ok.field-0.ended c.tell_end-status.result)
    c.records.ensures (subst (λ (b : Parts g.row.R.Denot). TellsEnd c.args.kind c.records.result (StandsFor g.R.ScriptThread.stance b) (image_in g.R.ScriptThread.stance b) (K.written c.args.out.now) (K.written c.tell_end-status.new.out) (K.faults c.args.out.now) (K.faults c.tell_end-status.new.out) c.in-Ok.field-0.ended c.tell_end-status.result)
    c.build.ensures.build c.tell_end-status.ensures) in
    let turns = turns_of lives.life.rounds ++ lives.life.last in
    let life : LifeOf H A c.args.looks any_reply tt begun new turns site.history.items =
    subst (λ (ms : Members). LifeOf H A c.args.looks any_reply tt ms new turns site.history.items) is
    (life_over (λ base history ask reply more. Says g.R.ScriptThread.stance base.value.build history ask reply more) any_reply site.base tt (λ history ask reply more says. tt) H A c.args.looks
    site.base old new site.history.items lives.how lives.life) in
    ∥∥₁_map (lives.comes setting entry origin before before lasts) (λ e.
    finished_by D g.R.ScriptThread.stance H A c.args.looks
    c.args.kind setting entry origin before hosts c.dismiss-hosts.result.0.items answers c.dismiss-hosts.result.1 (K.written c.args.out.now) (K.written c.tell_end-status.new.out) (K.faults c.args.out.now) (K.faults c.tell_end-status.new.out) c.tell_end-status.result (D.faults c.args.durable.journal.disk)
    new turns site.history.items c.close-disk.result.1.items site.durable c.close-disk.result.0 c.close-disk.ensures.disk c.close-disk.ensures.history life served hosts_are are e.now c.in-Ok.field-0.ended
    (rest_heard H A (lines site.history.items) setting.site.executors hosts answers c.dismiss-hosts.result.1 new served are c.in-Ok.field-0.ended
    (subst (λ (ms : Members). IfOk c.in-Ok.field-0.ended (λ rest. ∥ AreHeard A (lines site.history.items) ms new ∥₁)) is lives.heard))
    (subst (λ (ms : Members). TakesBy H A c.args.looks setting before ms new turns site.history.items e.now) is
    (life_events H A c.args.looks D g.R.ScriptThread.stance turns setting entry origin before before old new site.history.items site.durable c.in-Ok.field-0.ended e lasts.goes.begun (subst (λ (ms : Members). operators ms ≤ 1) (sym is) (one_operator setting.site.executors hosts answers))))
    (counts_then c.in-Ok.field-0.ended c.args.kind c.args.durable.records site.durable.records before e.granted (tooks site.history.items) e.now counts e.counted e.is) e.ends
    told (λ failed. crew_failed g.H.Host A setting.site.executors hosts answers c.dismiss-hosts.result.1 new served are (c.in-Ok.ensures.failed failed)) c.in-Ok.ensures.disk.failed)

pub returns-in-Err-clause-reports : goal.returns-in-Err-clause-reports
returns-in-Err-clause-reports g c = λ executors hosts answers made.
    let A = g.A.Source in
    let D = g.D.Disk in
    let K = g.K.Sink in
    subst (λ (n : ℕ). Reports (D.faults c.args.durable.journal.disk) (D.faults c.in-Err.disk) (A.faults answers) (A.faults c.dismiss-hosts-in-Err.result.1) (K.written c.args.out.now) (K.written c.tell-status.new.out) (K.faults c.args.out.now) (K.faults c.tell-status.new.out) n) (sym c.tell-status.ensures.status)
    (reports_broken (D.faults c.args.durable.journal.disk) (D.faults c.in-Err.disk) (A.faults answers) (A.faults c.dismiss-hosts-in-Err.result.1) (K.written c.args.out.now) (K.written c.tell-status.new.out) (K.faults c.args.out.now) (K.faults c.tell-status.new.out)
    c.in-Err.fault c.of_take.result c.of_take.ensures c.in-Err.ensures.disk
    (λ at add is. told_long g.R.ScriptThread.stance c.in-Err.ensures.refused.1 c.in-Err.fault at add is c.in-Err.ensures.refused.5) c.tell-status.ensures.text)

pub returns-in-Err-clause-finishes : goal.returns-in-Err-clause-finishes
returns-in-Err-clause-finishes g c = λ hosts answers setting entry origin before made others lasts counts.
    let A = g.A.Source in
    let H = g.H.Host in
    let D = g.D.Disk in
    let K = g.K.Sink in
    let Members = List (Member g.row.H.Denot g.row.A.Denot) in
    let new = c.go_on.new.members.items in
    let old = c.args.crew.members.items in
    let begun = members_of setting.site.executors hosts answers in
    let here : new ≡ new = refl in
    let is : new ≡ begun = c.in-Err.ensures.back ∙ made in
    let are : answers_in begun ≡ c.dismiss-hosts-in-Err.result.1 ∷ [] = ap (λ (ms : Members). answers_in ms) (sym (here ∙ is)) ∙ c.dismiss-hosts-in-Err.ensures.answers in
    let hosts_are : c.dismiss-hosts-in-Err.result.0.items ≡ hosts_in begun ++ others_of setting.site.executors hosts =
    c.dismiss-hosts-in-Err.ensures.hosts ∙ ap (λ (ms : Members). hosts_in ms ++ reverse c.args.crew.others.items) (here ∙ is)
    ∙ ap (λ (hs : List g.row.H.Denot). hosts_in begun ++ hs) (ap (λ (hs : List g.row.H.Denot). reverse hs) others ∙ reverse-reverse (others_of setting.site.executors hosts)) in
    let b = c.in-Err.ensures.breaks setting entry origin before before lasts in
    ∣ finished_by D g.R.ScriptThread.stance H A c.args.looks
    c.args.kind setting entry origin before hosts c.dismiss-hosts-in-Err.result.0.items answers c.dismiss-hosts-in-Err.result.1 (K.written c.args.out.now) (K.written c.tell-status.new.out) (K.faults c.args.out.now) (K.faults c.tell-status.new.out) c.tell-status.result (D.faults c.args.durable.journal.disk)
    begun [] [] c.new.result.items b.kept c.in-Err.disk b.same c.new.ensures.items (no_turns H A c.args.looks any_reply tt begun)
    (still_served H A c.args.looks begun) hosts_are are (before ++ b.granted) (Err c.in-Err.fault) tt
    (opening_events H A c.args.looks D g.R.ScriptThread.stance setting entry origin before before c.in-Err.fault c.in-Err.disk b lasts.goes.begun begun) tt b.breaks
    (c.of_take.result, c.of_take.ensures, c.tell-status.ensures.status, c.tell-status.ensures.text) (λ failed. absurd (cc)) (λ is_disk. subst (λ (d : g.row.D.Denot). Rose (D.faults c.args.durable.journal.disk) (D.faults d)) b.same (c.in-Err.ensures.disk.failed (cc))) ∣₁

pub returns-in-Ok-clause-last : goal.returns-in-Ok-clause-last
returns-in-Ok-clause-last g c = λ log payloads keeps.
    let D = g.D.Disk in
    let K = g.K.Sink in
    let stance = g.R.ScriptThread.stance in
    let site = c.in-Ok.field-0.site in
    let lives = c.in-Ok.ensures.lives in
    let told = subst (λ (b : Parts g.row.R.Denot). TellsEnd c.args.kind c.records.result (StandsFor stance b) (image_in stance b) (K.written c.args.out.now) (K.written c.tell_end-status.new.out) (K.faults c.args.out.now) (K.faults c.tell_end-status.new.out) c.in-Ok.field-0.ended c.tell_end-status.result)
    c.build.ensures.build c.tell_end-status.ensures in
    let Kept = λ (d : g.row.D.Denot) (es : List Entry). ∥ KeepsRecords D (setting_in c.args.durable.build) c.args.durable.journal.disk payloads es d (K.written c.args.out.now) (K.written c.tell_end-status.new.out) (K.faults c.args.out.now) (K.faults c.tell_end-status.new.out) c.tell_end-status.result ∥₁ in
    subst (λ (d : g.row.D.Denot). Kept d c.close-disk.result.1.items) (sym c.close-disk.ensures.disk)
    (subst (λ (es : List Entry). Kept site.durable.journal.disk es) (sym c.close-disk.ensures.history)
    (∥∥₁_map lives.whole (λ facts.
    life_kept D stance c.args.durable site.durable payloads c.args.kind c.records.result (K.written c.args.out.now) (K.written c.tell_end-status.new.out) (K.faults c.args.out.now) (K.faults c.tell_end-status.new.out) c.tell_end-status.result
    lives.opened.0 site.history.items lives.opened.1 lives.opened.2 facts lives.how c.go_on.new.members.items c.in-Ok.field-0.ended lives.told told log c.requires.begun c.requires.whole c.build.ensures.whole keeps)))

pub returns-in-Err-clause-last : goal.returns-in-Err-clause-last
returns-in-Err-clause-last g c = λ log payloads keeps.
    let D = g.D.Disk in
    let K = g.K.Sink in
    let refused = c.in-Err.ensures.refused in
    ∣ subst (λ (d : g.row.D.Denot). KeepsRecords D (setting_in c.args.durable.build) c.args.durable.journal.disk payloads c.new.result.items d (K.written c.args.out.now) (K.written c.tell-status.new.out) (K.faults c.args.out.now) (K.faults c.tell-status.new.out) c.tell-status.result) (sym refused.4)
    (opening_kept D g.R.ScriptThread.stance c.args.durable refused.1 payloads c.args.kind 0 (K.written c.args.out.now) (K.written c.tell-status.new.out) (K.faults c.args.out.now) (K.faults c.tell-status.new.out) c.tell-status.result
    refused.0 refused.3 c.in-Err.fault refused.2 c.of_take.result c.of_take.ensures c.tell-status.ensures.status c.tell-status.ensures.text c.requires.begun c.requires.whole c.new.result.items c.new.ensures.items keeps) ∣₁

pub returns-in-Ok-clause-launched : goal.returns-in-Ok-clause-launched
returns-in-Ok-clause-launched g c = λ executors hosts answers made others.
    let A = g.A.Source in
    let H = g.H.Host in
    let Members = List (Member g.row.H.Denot g.row.A.Denot) in
    let new = c.go_on.new.members.items in
    let site = c.in-Ok.field-0.site in
    let lives = c.in-Ok.ensures.lives in
    let here : new ≡ new = refl in
    let back : c.dismiss-hosts.result.0.items ≡ hosts_in new ++ others_of executors hosts =
    c.dismiss-hosts.ensures.hosts ∙ ap (λ (ms : Members). hosts_in ms ++ reverse c.args.crew.others.items) here
    ∙ ap (λ (hs : List g.row.H.Denot). hosts_in new ++ hs) (ap (λ (hs : List g.row.H.Denot). reverse hs) others ∙ reverse-reverse (others_of executors hosts)) in
    life_launched H A c.args.looks _ site.base site.base c.args.crew.members.items new site.history.items lives.how lives.life
    executors hosts c.dismiss-hosts.result.0.items answers made back

pub returns-in-Err-clause-launched : goal.returns-in-Err-clause-launched
returns-in-Err-clause-launched g c = λ executors hosts answers made others.
    let H = g.H.Host in
    let Members = List (Member g.row.H.Denot g.row.A.Denot) in
    let new = c.go_on.new.members.items in
    let here : new ≡ new = refl in
    let is : new ≡ members_of executors hosts answers = c.in-Err.ensures.back ∙ made in
    let back : c.dismiss-hosts-in-Err.result.0.items ≡ hosts =
    c.dismiss-hosts-in-Err.ensures.hosts ∙ ap (λ (ms : Members). hosts_in ms ++ reverse c.args.crew.others.items) (here ∙ is)
    ∙ ap (λ (hs : List g.row.H.Denot). hosts_in (members_of executors hosts answers) ++ hs) (ap (λ (hs : List g.row.H.Denot). reverse hs) others ∙ reverse-reverse (others_of executors hosts))
    ∙ hosts_all executors hosts answers in
    subst (λ (hs : List g.row.H.Denot). LaunchedOnce H hosts hs) (sym back) (none_launched H hosts)

pub returns-in-Ok-clause-led : goal.returns-in-Ok-clause-led
returns-in-Ok-clause-led g c = λ setting hosts answers made others.
    let A = g.A.Source in
    let H = g.H.Host in
    let D = g.D.Disk in
    let K = g.K.Sink in
    let stance = g.R.ScriptThread.stance in
    let Members = List (Member g.row.H.Denot g.row.A.Denot) in
    let new = c.go_on.new.members.items in
    let site = c.in-Ok.field-0.site in
    let lives = c.in-Ok.ensures.lives in
    let here : new ≡ new = refl in
    let are : answers_in new ≡ c.dismiss-hosts.result.1 ∷ [] = ap (λ (ms : Members). answers_in ms) (sym here) ∙ c.dismiss-hosts.ensures.answers in
    let hosts_are : c.dismiss-hosts.result.0.items ≡ hosts_in new ++ others_of setting.site.executors hosts =
    c.dismiss-hosts.ensures.hosts ∙ ap (λ (ms : Members). hosts_in ms ++ reverse c.args.crew.others.items) here
    ∙ ap (λ (hs : List g.row.H.Denot). hosts_in new ++ hs) (ap (λ (hs : List g.row.H.Denot). reverse hs) others ∙ reverse-reverse (others_of setting.site.executors hosts)) in
    let turns = turns_of lives.life.rounds ++ lives.life.last in
    let served = subst (λ (ms : Members). AreServed H A ms new) made c.in-Ok.ensures.served in
    let life : LifeOf H A c.args.looks any_reply tt (members_of setting.site.executors hosts answers) new turns site.history.items =
    subst (λ (ms : Members). LifeOf H A c.args.looks any_reply tt ms new turns site.history.items) made
    (life_over (λ base history ask reply more. Says stance base.value.build history ask reply more) any_reply site.base tt (λ history ask reply more says. tt) H A c.args.looks
    site.base c.args.crew.members.items new site.history.items lives.how lives.life) in
    let told = subst (λ (b : Parts g.row.R.Denot). TellsEnd c.args.kind c.records.result (StandsFor stance b) (image_in stance b) (K.written c.args.out.now) (K.written c.tell_end-status.new.out) (K.faults c.args.out.now) (K.faults c.tell_end-status.new.out) c.in-Ok.field-0.ended c.tell_end-status.result)
    c.build.ensures.build c.tell_end-status.ensures in
    subst (λ (es : List Entry). IsLed H A c.args.looks setting hosts c.dismiss-hosts.result.0.items answers c.dismiss-hosts.result.1 es
    (K.written c.args.out.now) (K.written c.tell_end-status.new.out) (K.faults c.args.out.now) (K.faults c.tell_end-status.new.out) c.tell_end-status.result) (sym c.close-disk.ensures.history)
    (record {
      lived = record { new = new; turns = turns; life = life; served = served; hosts_are = hosts_are; answers_are = are };
      too_long = λ fourteen. ∥∥₁_map lives.whole (λ facts.
          life_long D stance c.args.durable site.durable [] c.args.kind c.records.result (K.written c.args.out.now) (K.written c.tell_end-status.new.out) (K.faults c.args.out.now) (K.faults c.tell_end-status.new.out) c.tell_end-status.result
          lives.opened.0 site.history.items lives.opened.1 lives.opened.2 facts lives.how new c.in-Ok.field-0.ended lives.told told
          (λ (t : Told). HoldsOfOne (Explains H A c.args.looks t.accepted t.event) turns) _ lives.life.told fourteen);
    })

pub returns-in-Err-clause-led : goal.returns-in-Err-clause-led
returns-in-Err-clause-led g c = λ setting hosts answers made others.
    let A = g.A.Source in
    let H = g.H.Host in
    let D = g.D.Disk in
    let K = g.K.Sink in
    let Members = List (Member g.row.H.Denot g.row.A.Denot) in
    let new = c.go_on.new.members.items in
    let begun = members_of setting.site.executors hosts answers in
    let here : new ≡ new = refl in
    let is : new ≡ begun = c.in-Err.ensures.back ∙ made in
    let are : answers_in begun ≡ c.dismiss-hosts-in-Err.result.1 ∷ [] = ap (λ (ms : Members). answers_in ms) (sym (here ∙ is)) ∙ c.dismiss-hosts-in-Err.ensures.answers in
    let hosts_are : c.dismiss-hosts-in-Err.result.0.items ≡ hosts_in begun ++ others_of setting.site.executors hosts =
    c.dismiss-hosts-in-Err.ensures.hosts ∙ ap (λ (ms : Members). hosts_in ms ++ reverse c.args.crew.others.items) (here ∙ is)
    ∙ ap (λ (hs : List g.row.H.Denot). hosts_in begun ++ hs) (ap (λ (hs : List g.row.H.Denot). reverse hs) others ∙ reverse-reverse (others_of setting.site.executors hosts)) in
    let refused = c.in-Err.ensures.refused in
    record {
      lived = record {
        new = begun;
        turns = [];
        life = subst (λ (es : List Entry). LifeOf H A c.args.looks any_reply tt begun begun [] es) (sym c.new.ensures.items)
            (no_turns H A c.args.looks any_reply tt begun);
        served = still_served H A c.args.looks begun;
        hosts_are = hosts_are;
        answers_are = are;
      };
      too_long = λ fourteen. ∣ opening_long D g.R.ScriptThread.stance c.args.durable refused.1 [] c.args.kind 0 (K.written c.args.out.now) (K.written c.tell-status.new.out) (K.faults c.args.out.now) (K.faults c.tell-status.new.out) c.tell-status.result
          refused.0 refused.3 c.in-Err.fault refused.2 c.of_take.result c.of_take.ensures c.tell-status.ensures.status c.tell-status.ensures.text (IsRefused H A c.args.looks []) _ refl c.new.result.items c.new.ensures.items fourteen ∣₁;
    }
