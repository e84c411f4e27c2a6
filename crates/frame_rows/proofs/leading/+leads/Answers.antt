use Rattle.std.proofs.Common.{◌≡◌, ◌∙◌, Some, ap, sym, subst, arith, inl, inr}
use Rattle.std.proofs.lemmas.Bool.{cases_lt}
use Rattle.model_run.specs.Nesting.{itself}
use Rattle.cps_code.specs.Script.{script_of}
use Rattle.frame_rows.specs.Leading.{Decides, LeadsTo, passed}
use Rattle.frame_rows.proofs.LeadLaws.{leads_nowhere, leads_on}
use Rattle.frame_rows.proofs.leading.+leads.Goals as goal
use Rattle.frame_rows.proofs.leading.+leads.Goals.{in-Some+else-leads, in_default}

pub returns-then-is_wanted : goal.returns-then-is_wanted
returns-then-is_wanted t c = (c.args.node, itself, sym c.is_wanted.ensures ∙ c.if-is_wanted.true)

pub returns-then-leads : goal.returns-then-leads
returns-then-leads t c =
    let root = script_of c.args.code.now in
    leads_on root c.args.wanted c.args.node c.loop-at.at c.in-Some.next (sym c.passed.ensures.passed ∙ c.in-Some.is)
    (subst (λ b. Decides b (LeadsTo root c.args.wanted c.in-Some.next)) c.if-leads.true c.leads.ensures)

pub loop-at-preserved : goal.loop-at-preserved
loop-at-preserved t c = λ i n lt e.
    let root = script_of c.args.code.now in
    elim (cases_lt i c.loop-at.at) [
      | inl below ↦ c.loop-at.invariant i n below e
      | inr above ↦
          let same : c.loop-at.at ≡ i = omega (arith, lt, above) in
          let here : passed root c.args.node c.loop-at.at ≡ Some n = ap (passed root c.args.node) same ∙ e in
          elim c.match-passed.branch [
            | in-Some+else-leads w ↦
                let next : w.in-Some.next ≡ n = cc (sym w.in-Some.is ∙ c.passed.ensures.passed ∙ here) in
                λ h. (subst (λ b. Decides b (LeadsTo root c.args.wanted w.in-Some.next)) w.if-leads.false w.leads.ensures) (subst (LeadsTo root c.args.wanted) (sym next) h)
            | in_default w ↦ absurd (w.in_default.not-Some n (c.passed.ensures.passed ∙ here))
          ]
    ]

pub returns : goal.returns
returns t c =
    leads_nowhere (script_of c.args.code.now) c.args.wanted c.args.node c.requires.wanted (sym c.is_wanted.ensures ∙ c.if-is_wanted.false)
    (λ i n lt. c.loop-at.invariant i n (omega (arith, lt, c.parts-at-end.ensures)))
