-- What leads from part to part leads from image to image.
use Rattle.std.proofs.Common.{◌≡◌, ◌∙◌, Bool, true, List, ◌++◌, ℕ, map, Option, Some, None, sym, ap}
use Rattle.std.specs.Prelude.{◌&&◌, if◌then◌else◌}
use Rattle.std.specs.Ordering.{nat_cmp, on}
use Rattle.model_run.specs.Fitting.{Rises}
use Rattle.model_run.specs.declared.held.Held.{Held}
use Rattle.model_run.specs.declared.result.BuildResult.{BuildResult}
use Rattle.image_form.specs.declared.image.Image.{Image}
use Rattle.delta_form.specs.Applying.{◌>>=◌}
use Rattle.delta_form.specs.Changes.{rising}
use Rattle.delta_form.specs.After.{in_order, request_changes, thread_changes, with_changes}
use Rattle.delta_form.specs.Numbers.{written_number}
use Rattle.delta_form.specs.declared.delta.Delta.{Delta}
use Rattle.image_changes.specs.Parts.{LeadsTo, PutsBindings, PutsCells, PutsNodes, Renews}
use Rattle.image_changes.proofs.Rising.{rises_rising}

bound : {A B : Type 0} (o : Option A) (f : A → Option B) (a : A) → o ≡ Some a → (o >>= f) ≡ f a
bound o f a e = ap (λ p. p >>= f) e

and_true : (a b : Bool) → a ≡ true → b ≡ true → (a && b) ≡ true
and_true a b p q = ap (λ (t : Bool). t && b) p ∙ q

module _ (before now : Image) (d : Delta) where
  pub leads : d.next_request ≡ now.next_request → d.next_thread ≡ now.next_thread → d.result ≡ now.result → d.ended ≡ now.ended → d.held ≡ now.held
      → PutsBindings before.bindings now.bindings d.bindings → PutsCells before.cells now.cells d.cells → PutsNodes before.nodes now.nodes d.nodes → now.log ≡ before.log ++ d.log
      → Renews (λ r. r.number) written_number request_changes before.requests now.requests d.closed_requests d.requests
      → Renews (λ t. t.number) (λ w. w.number) thread_changes before.threads now.threads d.ended_threads d.threads
      → Rises (map (λ h. h.executor) now.held) → LeadsTo before now d
  leads next_request next_thread result ended held bindings cells nodes log requests threads rise =
      let held_rise = rises_rising (λ (h : Held). h.executor) now.held rise in
      let ordered : in_order d ≡ true =
      and_true _ _ (and_true _ _ (and_true _ _ (and_true _ _ (and_true _ _ (and_true _ _ bindings.1 cells.1) requests.gone_rise) requests.changes_rise) (ap (λ (hs : List Held). rising (on (λ (h : Held). h.executor) nat_cmp) hs) held ∙ held_rise)) threads.gone_rise) threads.changes_rise in
      ap (λ (t : Bool). if t then with_changes before d else None) ordered
      ∙ bound _ _ now.bindings bindings.0 ∙ bound _ _ now.cells cells.0 ∙ bound _ _ now.nodes nodes ∙ bound _ _ now.requests requests.made ∙ bound _ _ now.threads threads.made
      ∙ ap (λ (n : ℕ). Some (record now { next_request = n; next_thread = d.next_thread; result = d.result; ended = d.ended; log = before.log ++ d.log; held = d.held })) next_request
      ∙ ap (λ (n : ℕ). Some (record now { next_thread = n; result = d.result; ended = d.ended; log = before.log ++ d.log; held = d.held })) next_thread
      ∙ ap (λ (r : BuildResult). Some (record now { result = r; ended = d.ended; log = before.log ++ d.log; held = d.held })) result
      ∙ ap (λ (e : Bool). Some (record now { ended = e; log = before.log ++ d.log; held = d.held })) ended
      ∙ ap (λ (l : List ℕ). Some (record now { log = l; held = d.held })) (sym log)
      ∙ ap (λ (hs : List Held). Some (record now { held = hs })) held
