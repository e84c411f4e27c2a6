use Rattle.std.proofs.Common.{◌∙◌, ◌<◌, ◌≤◌, [], ap, codes, subst, sym}
use Rattle.serde_json.specs.View.{members_view, view}
use Rattle.model_run.specs.AgentsFaults.{agent_keys_faults, file_faults, items_faults}
use Rattle.model_run.specs.AgentsMembers.{items_of}
use Rattle.agents_file.specs.Agents.{executor_sum, repeats}
use Rattle.agents_file.specs.FirstFault.{TellsFirst, first}
use Rattle.agents_file.proofs.FirstLemmas.{passed_on}
use Rattle.agents_file.proofs.FileLemmas.{agent_keys_told, file_keys_told, file_none, names_told, sum_told}
use Rattle.agents_file.proofs.file.read_file.Goals as goal

pub returns-in_err-check_keys-clause-fault : goal.returns-in_err-check_keys-clause-fault
returns-in_err-check_keys-clause-fault c =
    let d = view c.args.value.now in
    let e = c.in_err-check_keys.field-0.0 in
    passed_on c.from_residual-in_err-check_keys.result e (TellsFirst (file_faults d)) c.from_residual-in_err-check_keys.ensures.1
    (file_keys_told d (members_view c.in-Some.members.now.entries) (sym c.in-Some.ensures) c.in_ok-file.ensures.form e c.in_err-check_keys.ensures.fault)

pub returns-in_err-check_agent_keys-clause-fault : goal.returns-in_err-check_agent_keys-clause-fault
returns-in_err-check_agent_keys-clause-fault c =
    let d = view c.args.value.now in
    let e = c.in_err-check_agent_keys.field-0.0 in
    passed_on c.from_residual-in_err-check_agent_keys.result e (TellsFirst (file_faults d)) c.from_residual-in_err-check_agent_keys.ensures.1
    (agent_keys_told d (members_view c.in-Some.members.now.entries) (sym c.in-Some.ensures) c.in_ok-file.ensures.form c.in_ok-check_keys.ensures.form e
    (subst (λ o. TellsFirst (items_faults agent_keys_faults (codes "agents") 0 (items_of o)) e) c.get.ensures c.in_err-check_agent_keys.ensures.fault))

pub returns-in_err-check_names-clause-fault : goal.returns-in_err-check_names-clause-fault
returns-in_err-check_names-clause-fault c =
    let d = view c.args.value.now in
    let e = c.in_err-check_names.field-0.0 in
    passed_on c.from_residual-in_err-check_names.result e (TellsFirst (file_faults d)) c.from_residual-in_err-check_names.ensures.1
    (names_told d (members_view c.in-Some.members.now.entries) (sym c.in-Some.ensures) c.in_ok-file.ensures.form c.in_ok-check_keys.ensures.form
    (ap (λ o. first (items_faults agent_keys_faults (codes "agents") 0 (items_of o))) (sym c.get.ensures) ∙ c.in_ok-check_agent_keys.ensures.form) e
    (subst (λ xs. TellsFirst (repeats [] 0 xs) e) (c.as_slice.ensures ∙ ap (λ f. f.agents) c.in_ok-file.ensures.value) c.in_err-check_names.ensures.fault))

pub returns-in_err-check_executors-clause-fault : goal.returns-in_err-check_executors-clause-fault
returns-in_err-check_executors-clause-fault c =
    let d = view c.args.value.now in
    let e = c.in_err-check_executors.field-0.0 in
    passed_on c.from_residual-in_err-check_executors.result e (TellsFirst (file_faults d)) c.from_residual-in_err-check_executors.ensures.1
    (sum_told d (members_view c.in-Some.members.now.entries) (sym c.in-Some.ensures) c.in_ok-file.ensures.form c.in_ok-check_keys.ensures.form
    (ap (λ o. first (items_faults agent_keys_faults (codes "agents") 0 (items_of o))) (sym c.get.ensures) ∙ c.in_ok-check_agent_keys.ensures.form)
    (ap (λ xs. first (repeats [] 0 xs)) (sym (c.as_slice.ensures ∙ ap (λ f. f.agents) c.in_ok-file.ensures.value)) ∙ c.in_ok-check_names.ensures.form) e
    (subst (λ xs. 64 < executor_sum xs) (c.as_slice-2.ensures ∙ ap (λ f. f.agents) c.in_ok-file.ensures.value) c.in_err-check_executors.ensures.fault.0)
    c.in_err-check_executors.ensures.fault.1)

pub returns-clause-form : goal.returns-clause-form
returns-clause-form c =
    let d = view c.args.value.now in
    file_none d (members_view c.in-Some.members.now.entries) (sym c.in-Some.ensures) c.in_ok-file.ensures.form c.in_ok-check_keys.ensures.form
    (ap (λ o. first (items_faults agent_keys_faults (codes "agents") 0 (items_of o))) (sym c.get.ensures) ∙ c.in_ok-check_agent_keys.ensures.form)
    (ap (λ xs. first (repeats [] 0 xs)) (sym (c.as_slice.ensures ∙ ap (λ f. f.agents) c.in_ok-file.ensures.value)) ∙ c.in_ok-check_names.ensures.form)
    (subst (λ xs. executor_sum xs ≤ 64) (c.as_slice-2.ensures ∙ ap (λ f. f.agents) c.in_ok-file.ensures.value) c.in_ok-check_executors.ensures.form)
