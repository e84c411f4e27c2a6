use Rattle.std.proofs.Common.{rules, ◌≡◌, ◌∙◌, refl, sym, ap, subst, append-nil, List, None, []}
use Rattle.model_run.specs.declared.request.OpenRequest.{OpenRequest}
use Rattle.locked_build.specs.Claims.{ClaimSays}
use Rattle.locked_build.specs.Histories.{kept_fault}
use Rattle.journal_core.specs.declared.faults.TakeFault.TheVariants.{Memory}
use Rattle.locked_build.specs.declared.ask.Ask.TheVariants as ask
use Rattle.locked_build.proofs.HistoryLaws.{fault_not_none}
use Rattle.locked_build.proofs.FactLaws.{facts_wanting, facts_quiet}
use Rattle.locked_build.proofs.SiteLaws.{is_none, site_running, site_begun, site_room, site_settled, site_shown, site_after, says_now}
use Rattle.locked_build.proofs.site.SiteStateStepped.step.Goals as goal

pub take_all-requires-clause-running : goal.take_all-requires-clause-running
take_all-requires-clause-running g c =
    let D = g.D.Disk in
    let s = c.args.self.now in
    let none : kept_fault s.history.items ≡ None = is_none (kept_fault s.history.items) (search rules) in
    site_running D g.R.ScriptThread.stance s.base.value s.durable s.history.items _ s.stands none

pub take_all-requires-clause-begun : goal.take_all-requires-clause-begun
take_all-requires-clause-begun g c =
    let D = g.D.Disk in
    let s = c.args.self.now in
    let none : kept_fault s.history.items ≡ None = is_none (kept_fault s.history.items) (search rules) in
    site_begun D g.R.ScriptThread.stance s.base.value s.durable s.history.items _ s.stands none

pub take_all-requires-clause-settled : goal.take_all-requires-clause-settled
take_all-requires-clause-settled g c =
    let D = g.D.Disk in
    let s = c.args.self.now in
    let none : kept_fault s.history.items ≡ None = is_none (kept_fault s.history.items) (search rules) in
    site_settled D g.R.ScriptThread.stance s.base.value s.durable s.history.items _ s.stands none

pub take_all-requires-clause-room : goal.take_all-requires-clause-room
take_all-requires-clause-room g c =
    let D = g.D.Disk in
    let s = c.args.self.now in
    let none : kept_fault s.history.items ≡ None = is_none (kept_fault s.history.items) (search rules) in
    site_room D g.R.ScriptThread.stance s.base.value s.durable s.history.items _ s.stands none

pub hear-requires-clause-running : goal.hear-requires-clause-running
hear-requires-clause-running g c =
    let D = g.D.Disk in
    let s = c.args.self.now in
    let none : kept_fault s.history.items ≡ None = is_none (kept_fault s.history.items) (search rules) in
    site_running D g.R.ScriptThread.stance s.base.value s.durable s.history.items _ s.stands none

pub hear-requires-clause-begun : goal.hear-requires-clause-begun
hear-requires-clause-begun g c =
    let D = g.D.Disk in
    let s = c.args.self.now in
    let none : kept_fault s.history.items ≡ None = is_none (kept_fault s.history.items) (search rules) in
    site_begun D g.R.ScriptThread.stance s.base.value s.durable s.history.items _ s.stands none

pub hear-requires-clause-settled : goal.hear-requires-clause-settled
hear-requires-clause-settled g c =
    let D = g.D.Disk in
    let s = c.args.self.now in
    let none : kept_fault s.history.items ≡ None = is_none (kept_fault s.history.items) (search rules) in
    site_settled D g.R.ScriptThread.stance s.base.value s.durable s.history.items _ s.stands none

pub hear-requires-clause-room : goal.hear-requires-clause-room
hear-requires-clause-room g c =
    let D = g.D.Disk in
    let s = c.args.self.now in
    let none : kept_fault s.history.items ≡ None = is_none (kept_fault s.history.items) (search rules) in
    site_room D g.R.ScriptThread.stance s.base.value s.durable s.history.items _ s.stands none

pub claim-requires : goal.claim-requires
claim-requires g c =
    let D = g.D.Disk in
    let s = c.args.self.now in
    let none : kept_fault s.history.items ≡ None = is_none (kept_fault s.history.items) (search rules) in
    record { room = site_room D g.R.ScriptThread.stance s.base.value s.durable s.history.items _ s.stands none }

pub note_want-requires : goal.note_want-requires
note_want-requires g c =
    let D = g.D.Disk in
    let s = c.args.self.now in
    let none : kept_fault s.history.items ≡ None = is_none (kept_fault s.history.items) (search rules) in
    site_room D g.R.ScriptThread.stance s.base.value s.durable s.history.items _ s.stands none

pub invariant_of-self-in-Take : goal.invariant_of-self-in-Take
invariant_of-self-in-Take g c =
    let D = g.D.Disk in
    let s = c.args.self.now in
    let none : kept_fault s.history.items ≡ None = is_none (kept_fault s.history.items) (search rules) in
    record {
      stands = site_after D g.R.ScriptThread.stance s.base.value s.durable s.history.items _ s.stands
          c.take_all.new.durable c.take_all.new.history.items _ (c.take_all.ensures.facts s.base.value) c.take_all.ensures.room c.take_all.ensures.settled;
    }

pub invariant_of-self-in-Answer : goal.invariant_of-self-in-Answer
invariant_of-self-in-Answer g c =
    let D = g.D.Disk in
    let s = c.args.self.now in
    let none : kept_fault s.history.items ≡ None = is_none (kept_fault s.history.items) (search rules) in
    record {
      stands = site_after D g.R.ScriptThread.stance s.base.value s.durable s.history.items _ s.stands
          c.hear.new.durable c.hear.new.history.items _ (c.hear.ensures.facts s.base.value) c.hear.ensures.room c.hear.ensures.settled;
    }

pub invariant_of-self-in-Claim : goal.invariant_of-self-in-Claim
invariant_of-self-in-Claim g c =
    let D = g.D.Disk in
    let s = c.args.self.now in
    let none : kept_fault s.history.items ≡ None = is_none (kept_fault s.history.items) (search rules) in
    let says = c.claim.ensures.says in
    record {
      stands = site_after D g.R.ScriptThread.stance s.base.value s.durable s.history.items _ s.stands
          s.durable c.claim.new.history.items _ (λ k. rw says.1 (facts_quiet D g.R.ScriptThread.stance s.base.value s.durable s.history.items none k says.0 says.2)) (λ kept. c.claim.ensures.room)
          (λ kept. site_settled D g.R.ScriptThread.stance s.base.value s.durable s.history.items _ s.stands none);
    }

pub invariant_of-self-in-Halt : goal.invariant_of-self-in-Halt
invariant_of-self-in-Halt g c =
    let D = g.D.Disk in
    let s = c.args.self.now in
    let none : kept_fault s.history.items ≡ None = is_none (kept_fault s.history.items) (search rules) in
    let failed : kept_fault c.note_want.new.history.items ≡ None → ⊥ = λ kept. fault_not_none s.history.items Memory None none (ap kept_fault (sym c.note_want.ensures) ∙ kept) in
    record {
      stands = site_after D g.R.ScriptThread.stance s.base.value s.durable s.history.items _ s.stands
          s.durable c.note_want.new.history.items _ (λ k. rw c.note_want.ensures (facts_wanting D g.R.ScriptThread.stance s.base.value s.durable s.history.items none k)) (λ kept. absurd (failed kept)) (λ kept. absurd (failed kept));
    }

pub returns-in-Take-clause-entries : goal.returns-in-Take-clause-entries
returns-in-Take-clause-entries g c =
    let D = g.D.Disk in
    let s = c.args.self.now in
    let none : kept_fault s.history.items ≡ None = is_none (kept_fault s.history.items) (search rules) in
    let says = c.take_all.ensures.says in
    (says.0, says.1, says_now g.R.ScriptThread.stance s.base.value.build s.history.items c.args.ask _ (ask.Take c.in-Take.event) c.in-Take.is says.0 none (s.durable.build, (site_shown D g.R.ScriptThread.stance s.base.value s.durable s.history.items _ s.stands none), ((site_settled D g.R.ScriptThread.stance s.base.value s.durable s.history.items _ s.stands none), says.2)))

pub returns-in-Answer-clause-entries : goal.returns-in-Answer-clause-entries
returns-in-Answer-clause-entries g c =
    let D = g.D.Disk in
    let s = c.args.self.now in
    let none : kept_fault s.history.items ≡ None = is_none (kept_fault s.history.items) (search rules) in
    let says = c.hear.ensures.says in
    (says.0, says.1, says_now g.R.ScriptThread.stance s.base.value.build s.history.items c.args.ask _ (ask.Answer c.in-Answer.line) c.in-Answer.is says.0 none (s.durable.build, (site_shown D g.R.ScriptThread.stance s.base.value s.durable s.history.items _ s.stands none), ((site_settled D g.R.ScriptThread.stance s.base.value s.durable s.history.items _ s.stands none), says.2)))

pub returns-in-Claim-clause-entries : goal.returns-in-Claim-clause-entries
returns-in-Claim-clause-entries g c =
    let D = g.D.Disk in
    let s = c.args.self.now in
    let none : kept_fault s.history.items ≡ None = is_none (kept_fault s.history.items) (search rules) in
    let at : c.requests.result.now ≡ s.durable.build.shared.requests = search rules in
    let says = c.claim.ensures.says in
    (says.0, says.1, says_now g.R.ScriptThread.stance s.base.value.build s.history.items c.args.ask _ (ask.Claim c.in-Claim.executor) c.in-Claim.is says.0 none (s.durable.build, (site_shown D g.R.ScriptThread.stance s.base.value s.durable s.history.items _ s.stands none), subst (λ (rs : List OpenRequest). ClaimSays rs s.history.items c.in-Claim.executor c.claim.result says.0) at says.3))

pub returns-in-Inputs-clause-entries : goal.returns-in-Inputs-clause-entries
returns-in-Inputs-clause-entries g c =
    let D = g.D.Disk in
    let s = c.args.self.now in
    let none : kept_fault s.history.items ≡ None = is_none (kept_fault s.history.items) (search rules) in
    ([], sym (append-nil s.history.items), says_now g.R.ScriptThread.stance s.base.value.build s.history.items c.args.ask _ (ask.Inputs) c.in-Inputs.is [] none ((s.durable.build, (site_shown D g.R.ScriptThread.stance s.base.value s.durable s.history.items _ s.stands none), (search rules, search rules)), refl))

pub returns-in-Look-clause-entries : goal.returns-in-Look-clause-entries
returns-in-Look-clause-entries g c =
    let D = g.D.Disk in
    let s = c.args.self.now in
    let none : kept_fault s.history.items ≡ None = is_none (kept_fault s.history.items) (search rules) in
    ([], sym (append-nil s.history.items), says_now g.R.ScriptThread.stance s.base.value.build s.history.items c.args.ask _ (ask.Look) c.in-Look.is [] none ((s.durable.build, (site_shown D g.R.ScriptThread.stance s.base.value s.durable s.history.items _ s.stands none), search rules), refl))
