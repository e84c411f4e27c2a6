use Rattle.std.proofs.Common.{◌≡◌, ◌∙◌, ◌<◌, [], List, length, None, Some, inl, inr, refl, sym, ap, subst}
use Rattle.locked_build.specs.declared.ask.Entry.{Entry}
use Rattle.locked_build.specs.Histories.{kept_fault}
use Rattle.locked_build.specs.Facts.{Facts}
use Rattle.locked_build.proofs.FactLaws.{facts_start}
use Rattle.locked_build.proofs.SiteLaws.{at_least_one, only_new, said_ok, site_begins}
use Rattle.locked_build.proofs.site.SiteState.open.Goals as goal

pub returns-then-is_err-clause-refused : goal.returns-then-is_err-clause-refused
returns-then-is_err-clause-refused g c =
    let D = g.D.Disk in
    let start = facts_start D g.R.ScriptThread.stance (let met = g.met.D.Disk in record { told_end = met.told_end; told_image = met.told_image; counts_now = met.counts_now; only_now = met.only_now }) c.args.durable c.requires.running c.requires.begun in
    ([], c.args.durable, inr (refl, refl, refl), start, c.close.ensures)

pub grant_all-requires-clause-none : goal.grant_all-requires-clause-none
grant_all-requires-clause-none g c = ap kept_fault (c.reserve.ensures.items ∙ c.new-made.ensures.items)

pub returns-in-Some-clause-refused : goal.returns-in-Some-clause-refused
returns-in-Some-clause-refused g c =
    let D = g.D.Disk in
    let start = facts_start D g.R.ScriptThread.stance (let met = g.met.D.Disk in record { told_end = met.told_end; told_image = met.told_image; counts_now = met.counts_now; only_now = met.only_now }) c.args.durable c.requires.running c.requires.begun in
    let none : c.reserve.new.self.items ≡ [] = c.reserve.ensures.items ∙ c.new-made.ensures.items in
    let says = c.grant_all.ensures.grants in
    let is = only_new c.reserve.new.self.items says.0 c.grant_all.new.history.items none says.1 in
    let made = c.grant_all.ensures.facts c.args.durable (subst (λ (es : List Entry). Facts D g.R.ScriptThread.stance c.args.durable c.args.durable es) (sym none) start) in
    let facts = subst (λ (es : List Entry). Facts D g.R.ScriptThread.stance c.args.durable c.grant_all.new.durable es) is made in
    let kept : kept_fault c.grant_all.new.history.items ≡ Some c.in-Some.fault = sym c.fault.ensures ∙ c.in-Some.is in
    (says.0, c.grant_all.new.durable, inl (says.2, ap kept_fault (sym is) ∙ kept), facts, c.close-in-Some.ensures)

pub returns-then-is_err-2-clause-refused : goal.returns-then-is_err-2-clause-refused
returns-then-is_err-2-clause-refused g c =
    let D = g.D.Disk in
    let start = facts_start D g.R.ScriptThread.stance (let met = g.met.D.Disk in record { told_end = met.told_end; told_image = met.told_image; counts_now = met.counts_now; only_now = met.only_now }) c.args.durable c.requires.running c.requires.begun in
    ([], c.args.durable, inr (refl, refl, refl), start, c.close-then-is_err-2.ensures)

pub invariant_of-result : goal.invariant_of-result
invariant_of-result g c =
    let D = g.D.Disk in
    let start = facts_start D g.R.ScriptThread.stance (let met = g.met.D.Disk in record { told_end = met.told_end; told_image = met.told_image; counts_now = met.counts_now; only_now = met.only_now }) c.args.durable c.requires.running c.requires.begun in
    let none : c.reserve.new.self.items ≡ [] = c.reserve.ensures.items ∙ c.new-made.ensures.items in
    let says = c.grant_all.ensures.grants in
    let is = only_new c.reserve.new.self.items says.0 c.grant_all.new.history.items none says.1 in
    let made = c.grant_all.ensures.facts c.args.durable (subst (λ (es : List Entry). Facts D g.R.ScriptThread.stance c.args.durable c.args.durable es) (sym none) start) in
    let facts = subst (λ (es : List Entry). Facts D g.R.ScriptThread.stance c.args.durable c.grant_all.new.durable es) is made in
    let kept : kept_fault c.grant_all.new.history.items ≡ None = sym c.fault.ensures ∙ c.in_default.is in
    let none_kept : kept_fault says.0 ≡ None = ap kept_fault (sym is) ∙ kept in
    let empty : c.reserve-2.new.self.items ≡ [] = c.reserve-2.ensures.items ∙ c.new-history.ensures.items in
    let room : length c.reserve-2.new.self.items < c.reserve-2.new.self.capacity =
    at_least_one (said_ok c.reserve-2.result (sym c.is_err-2.ensures.value ∙ c.if-is_err-2.false) c.reserve-2.ensures.ok) in
    record {
      stands = site_begins D g.R.ScriptThread.stance (let met = g.met.D.Disk in record { told_end = met.told_end; told_image = met.told_image; counts_now = met.counts_now; only_now = met.only_now }) c.args.durable c.grant_all.new.durable c.of-base.result.value
          says.0 c.reserve-2.new.self.items _ facts none_kept (c.grant_all.ensures.settled kept) c.of-base.ensures empty room;
    }

pub returns-clause-grants : goal.returns-clause-grants
returns-clause-grants g c =
    let D = g.D.Disk in
    let start = facts_start D g.R.ScriptThread.stance (let met = g.met.D.Disk in record { told_end = met.told_end; told_image = met.told_image; counts_now = met.counts_now; only_now = met.only_now }) c.args.durable c.requires.running c.requires.begun in
    let none : c.reserve.new.self.items ≡ [] = c.reserve.ensures.items ∙ c.new-made.ensures.items in
    let says = c.grant_all.ensures.grants in
    let is = only_new c.reserve.new.self.items says.0 c.grant_all.new.history.items none says.1 in
    let made = c.grant_all.ensures.facts c.args.durable (subst (λ (es : List Entry). Facts D g.R.ScriptThread.stance c.args.durable c.args.durable es) (sym none) start) in
    let facts = subst (λ (es : List Entry). Facts D g.R.ScriptThread.stance c.args.durable c.grant_all.new.durable es) is made in
    let kept : kept_fault c.grant_all.new.history.items ≡ None = sym c.fault.ensures ∙ c.in_default.is in
    (says.0, says.2, ap kept_fault (sym is) ∙ kept, facts)
