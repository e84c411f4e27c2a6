use Rattle.std.proofs.Common.{codes, sym, ap, ◌∙◌, ◌≡◌, subst, None}
use Rattle.serde_json.specs.View.{view}
use Rattle.model_run.specs.AgentsFaults.{agent_faults, at_item, at_member, labels_faults, name_faults, number_faults, optional, required, root_faults}
use Rattle.agents_file.specs.Agents.{labels_path}
use Rattle.agents_file.specs.FirstFault.{TellsFirst, first}
use Rattle.agents_file.specs.Members.{seen}
use Rattle.agents_file.proofs.FirstLemmas.{passed_on}
use Rattle.agents_file.proofs.LabelLemmas.{executors_told, labels_part, labels_told, names_part, roots_part}
use Rattle.agents_file.proofs.MemberLemmas.{told_fails, told_passes}
use Rattle.agents_file.proofs.agent.read_agent.Goals as goal

pub returns-in_err-labels-clause-fault : goal.returns-in_err-labels-clause-fault
returns-in_err-labels-clause-fault c =
    let path = at_item (codes "agents") c.args.at in
    let d = view c.args.value.now in
    let e = c.in_err-labels.field-0.0 in
    let own_name : first (names_part path d) ≡ None =
    ap (λ o. first (required name_faults (at_member path (codes "name")) o)) (sym c.get.ensures)
    ∙ told_passes (required name_faults) (at_member path (codes "name")) (seen c.get.result) c.name.result c.told.result c.in_ok-name.name c.name.ensures.form c.told.ensures c.in_ok-name.was
    in
    let own_root : first (roots_part path d) ≡ None =
    ap (λ o. first (required root_faults (at_member path (codes "root")) o)) (sym c.get-2.ensures)
    ∙ told_passes (required root_faults) (at_member path (codes "root")) (seen c.get-2.result) c.root.result c.told-2.result c.in_ok-root.root c.root.ensures.form c.told-2.ensures c.in_ok-root.was
    in
    passed_on c.from_residual-in_err-labels.result e (TellsFirst (agent_faults path d)) c.from_residual-in_err-labels.ensures.1
    (labels_told path d (sym c.if-not-is_object.ensures) own_name own_root e
    (subst (λ o. TellsFirst (optional labels_faults (labels_path c.args.at) o) e) c.get-3.ensures c.in_err-labels.ensures.fault))

pub returns-in_err-executors-clause-fault : goal.returns-in_err-executors-clause-fault
returns-in_err-executors-clause-fault c =
    let path = at_item (codes "agents") c.args.at in
    let d = view c.args.value.now in
    let e = c.in_err-executors.field-0.0 in
    let own_name : first (names_part path d) ≡ None =
    ap (λ o. first (required name_faults (at_member path (codes "name")) o)) (sym c.get.ensures)
    ∙ told_passes (required name_faults) (at_member path (codes "name")) (seen c.get.result) c.name.result c.told.result c.in_ok-name.name c.name.ensures.form c.told.ensures c.in_ok-name.was
    in
    let own_root : first (roots_part path d) ≡ None =
    ap (λ o. first (required root_faults (at_member path (codes "root")) o)) (sym c.get-2.ensures)
    ∙ told_passes (required root_faults) (at_member path (codes "root")) (seen c.get-2.result) c.root.result c.told-2.result c.in_ok-root.root c.root.ensures.form c.told-2.ensures c.in_ok-root.was
    in
    let own_labels : first (labels_part path d) ≡ None =
    ap (λ o. first (optional labels_faults (labels_path c.args.at) o)) (sym c.get-3.ensures) ∙ c.in_ok-labels.ensures.form
    in
    passed_on c.from_residual-in_err-executors.result e (TellsFirst (agent_faults path d)) c.from_residual-in_err-executors.ensures.1
    (executors_told path d (sym c.if-not-is_object.ensures) own_name own_root own_labels e
    (subst (λ o. TellsFirst (required (number_faults 1 64) (at_member path (codes "executors")) o) e) c.get-4.ensures
    (told_fails (required (number_faults 1 64)) (at_member path (codes "executors")) (seen c.get-4.result) c.executors.result c.told-3.result e c.executors.ensures.fault c.told-3.ensures c.in_err-executors.was)))
