use Rattle.std.proofs.Common.{arith, ◌∙◌, sym, ap, subst, Some, IfOk, IfErr, None, ◌≡◌}
use Rattle.serde_json.specs.View.{view, items_view}
use Rattle.model_run.specs.AgentsFaults.{labels_faults, optional}
use Rattle.agents_file.specs.Agents.{labels_path}
use Rattle.agents_file.specs.FirstFault.{first, TellsFirst}
use Rattle.agents_file.specs.Members.{seen}
use Rattle.agents_file.proofs.FirstLemmas.{TellsFirst-one}
use Rattle.agents_file.proofs.LabelLemmas.{labels_many, labels_few}
use Rattle.agents_file.proofs.agent.labels.Goals as goal

pub returns-then-len-gt-LABEL_LIMIT-clause-fault : goal.returns-then-len-gt-LABEL_LIMIT-clause-fault
returns-then-len-gt-LABEL_LIMIT-clause-fault c =
    let path = labels_path c.args.agent in
    let items = c.in-Some-as_array.labels.now.items in
    TellsFirst-one (optional labels_faults path (seen c.args.value)) c.refusal-then-len-gt-LABEL_LIMIT.result
    (ap (λ o. first (optional labels_faults path (seen o))) c.in-Some.is ∙ labels_many path (view c.in-Some.value.now) items (sym c.in-Some-as_array.ensures) (omega (arith, c.in-Some-as_array.labels.now.ok.0)))
    c.refusal-then-len-gt-LABEL_LIMIT.ensures

pub returns-clause-form : goal.returns-clause-form
returns-clause-form c =
    let path = labels_path c.args.agent in
    subst (λ fs. IfOk c.names.result (λ _. first fs ≡ None))
    (sym (ap (λ o. optional labels_faults path (seen o)) c.in-Some.is
    ∙ labels_few path (view c.in-Some.value.now) c.deref.result.now (sym c.in-Some-as_array.ensures ∙ ap (λ vs. Some (items_view vs)) (sym c.deref.ensures.value)) (omega arith)))
    c.names.ensures.form

pub returns-clause-fault : goal.returns-clause-fault
returns-clause-fault c =
    let path = labels_path c.args.agent in
    subst (λ fs. IfErr c.names.result (TellsFirst fs))
    (sym (ap (λ o. optional labels_faults path (seen o)) c.in-Some.is
    ∙ labels_few path (view c.in-Some.value.now) c.deref.result.now (sym c.in-Some-as_array.ensures ∙ ap (λ vs. Some (items_view vs)) (sym c.deref.ensures.value)) (omega arith)))
    c.names.ensures.fault
