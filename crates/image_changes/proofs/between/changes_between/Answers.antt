use Rattle.std.proofs.Common.{◌∙◌, ◌++◌, ℕ, List, refl, ap, subst}
use Rattle.std.proofs.lemmas.List.{map-id}
use Rattle.model_values.specs.declared.cell.Binding.{Binding}
use Rattle.model_values.specs.declared.cell.Cell.{Cell}
use Rattle.model_run.specs.declared.flow.FlowNode.{FlowNode}
use Rattle.model_run.specs.declared.request.OpenRequest.{OpenRequest}
use Rattle.image_form.specs.declared.image.ImageThread.{ImageThread}
use Rattle.delta_form.specs.After.{request_changes, thread_changes}
use Rattle.delta_form.specs.Numbers.{written_number}
use Rattle.delta_form.specs.declared.delta.Delta.{Delta}
use Rattle.image_changes.specs.Parts.{PutsBindings, PutsCells, PutsNodes, Renews}
use Rattle.image_changes.specs.Seen.{image_seen}
use Rattle.image_changes.proofs.Leading.{leads}
use Rattle.image_changes.proofs.between.changes_between.Goals as goal

-- the parts of the image before, as they are read
pub returns-clause-leads : goal.returns-clause-leads
returns-clause-leads c =
    let now = image_seen c.args.now.now in
    let requests = c.in_ok-requests.requests in
    let threads = c.in_ok-threads.threads in
    let delta : Delta = record {
      next_request = now.next_request;
      next_thread = now.next_thread;
      result = now.result;
      ended = now.ended;
      bindings = c.in_ok-new_bindings.field-0;
      cells = c.in_ok-changed_cells.field-0;
      nodes = c.in_ok-new_nodes.field-0;
      log = c.in_ok-added_bytes.field-0;
      closed_requests = requests.gone;
      requests = requests.written;
      held = c.in_ok-from_slice.field-0;
      ended_threads = threads.gone;
      threads = threads.written;
    } in
    leads c.args.before.now now delta refl refl refl refl c.in_ok-from_slice.ensures
    (subst (λ (bs : List Binding). PutsBindings bs now.bindings delta.bindings) c.as_slice-3.ensures c.in_ok-new_bindings.ensures)
    (subst (λ (cs : List Cell). PutsCells cs now.cells delta.cells) c.as_slice-4.ensures c.in_ok-changed_cells.ensures.puts)
    (subst (λ (ns : List FlowNode). PutsNodes ns now.nodes delta.nodes) c.as_slice-5.ensures c.in_ok-new_nodes.ensures)
    (c.in_ok-added_bytes.ensures ∙ ap (λ (l : List ℕ). l ++ delta.log) c.as_slice-6.ensures)
    (subst (λ (rs : List OpenRequest). Renews (λ r. r.number) written_number request_changes rs now.requests requests.gone requests.written) c.as_slice.ensures
    (subst (λ (rs : List OpenRequest). Renews (λ (r : OpenRequest). r.number) written_number request_changes c.as_slice.result.now rs requests.gone requests.written) (map-id now.requests) c.in_ok-requests.ensures.renews))
    (subst (λ (ts : List ImageThread). Renews (λ t. t.number) (λ w. w.number) thread_changes ts now.threads threads.gone threads.written) c.as_slice-2.ensures c.in_ok-threads.ensures.renews)
    c.requires.now.held
