-- What every delta needs that leads from one image to another: of each part, that the part now can be made of the part before.
use Rattle.std.proofs.Common.{◌≡◌, ◌∙◌, Bool, true, false, ◌++◌, Option, Some, None, refl, sym, ap}
use Rattle.std.specs.Prelude.{if◌then◌else◌}
use Rattle.image_form.specs.declared.image.Image.{Image}
use Rattle.delta_form.specs.Applying.{◌>>=◌, in_turn}
use Rattle.delta_form.specs.Changes.{changed}
use Rattle.delta_form.specs.After.{after, binding_changes, in_order, put_cell, put_node, requests_after, threads_after, with_changes}
use Rattle.delta_form.specs.declared.delta.Delta.{Delta}

-- what is defined was defined step by step
pub bound : {A B : Type 0} (o : Option A) (f : A → Option B) (b : B) → (o >>= f) ≡ Some b → (a : A) × (o ≡ Some a) × (f a ≡ Some b)
bound None f b e = absurd cc
bound (Some a) f b e = (a, refl, e)

-- what a delta makes of each part that only gets more
pub record Makes (before now : Image) (d : Delta) : Type 0 where
  pub bindings : changed binding_changes d.bindings before.bindings ≡ Some now.bindings
  pub cells : in_turn put_cell d.cells before.cells ≡ Some now.cells
  pub nodes : in_turn put_node d.nodes before.nodes ≡ Some now.nodes
  pub log : now.log ≡ before.log ++ d.log
  pub requests : requests_after d.closed_requests d.requests before.requests ≡ Some now.requests
  pub threads : threads_after d.ended_threads d.threads before.threads ≡ Some now.threads
  pub next_request : d.next_request ≡ now.next_request
  pub next_thread : d.next_thread ≡ now.next_thread
  pub result : d.result ≡ now.result
  pub ended : d.ended ≡ now.ended
  pub held : d.held ≡ now.held

in_order_is : (before now : Image) (d : Delta) (t : Bool) → (if t then with_changes before d else None) ≡ Some now → (t ≡ true) × (with_changes before d ≡ Some now)
in_order_is before now d true e = (refl, e)
in_order_is before now d false e = absurd cc

pub ordered : (before now : Image) (d : Delta) → after before d ≡ Some now → in_order d ≡ true
ordered before now d e = (in_order_is before now d (in_order d) e).0

pub makes : (before now : Image) (d : Delta) → after before d ≡ Some now → Makes before now d
makes before now d e =
    let bindings = bound (changed binding_changes d.bindings before.bindings) _ now (in_order_is before now d (in_order d) e).1 in
    let cells = bound (in_turn put_cell d.cells before.cells) _ now bindings.2 in
    let nodes = bound (in_turn put_node d.nodes before.nodes) _ now cells.2 in
    let requests = bound (requests_after d.closed_requests d.requests before.requests) _ now nodes.2 in
    let threads = bound (threads_after d.ended_threads d.threads before.threads) _ now requests.2 in
    let made : Image = record {
      next_request = d.next_request;
      next_thread = d.next_thread;
      result = d.result;
      ended = d.ended;
      bindings = bindings.0;
      cells = cells.0;
      nodes = nodes.0;
      log = before.log ++ d.log;
      requests = requests.0;
      held = d.held;
      threads = threads.0;
    } in
    let all : Some made ≡ Some now = threads.2 in
    let is : made ≡ now = cc in
    record {
      bindings = bindings.1 ∙ ap (λ (i : Image). Some i.bindings) is;
      cells = cells.1 ∙ ap (λ (i : Image). Some i.cells) is;
      nodes = nodes.1 ∙ ap (λ (i : Image). Some i.nodes) is;
      log = sym (ap (λ (i : Image). i.log) is);
      requests = requests.1 ∙ ap (λ (i : Image). Some i.requests) is;
      threads = threads.1 ∙ ap (λ (i : Image). Some i.threads) is;
      next_request = ap (λ (i : Image). i.next_request) is;
      next_thread = ap (λ (i : Image). i.next_thread) is;
      result = ap (λ (i : Image). i.result) is;
      ended = ap (λ (i : Image). i.ended) is;
      held = ap (λ (i : Image). i.held) is;
    }
