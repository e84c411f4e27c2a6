-- A sound shared state is sound behind the end of its build.
use Rattle.std.proofs.Common.{◌≡◌, ◌≤◌, ◌+◌, ◌∙◌, ℕ, true, false, List, [], ◌∷◌, length, length-append, refl, sym, ap, subst, arith, Bool, Option}
use Rattle.std.specs.List.{AllByRecursion as AllAre}
use Rattle.model_run.specs.declared.result.BuildResult.{BuildResult}
use Rattle.model_values.proofs.LaterLaws.{all_weaker}
use Rattle.model_run.specs.Fitting.{HeldFits, IsFlowNode, SharedFits}
use Rattle.model_run.specs.State.{Setting, Common}
use Rattle.model_run.specs.World as W
use Rattle.run_laws.specs.Bounds.{InBounds}
use Rattle.run_laws.proofs.Bounds.{bounds_node}
use Rattle.green_threads.specs.declared.runner.Seated.{Seated}
use Rattle.green_threads.specs.Threads as G
use Rattle.cps_frames.specs.declared.shared.Shared.{Shared}
use Rattle.cps_frames.specs.Standing.{setting_of, common_of}
use Rattle.build_core.specs.declared.phase.Phase.{Phase}
use Rattle.build_core.specs.Endings.{IsOver}
use Rattle.build_core.specs.Phases.{SoundIn}

-- with another count
pub counted_fits : (g : Setting) (u : Common) (n : ℕ) → SharedFits g false u → SharedFits g false (record u { count = n })
counted_fits g u n h = record {
  cells = h.cells;
  short = h.short;
  few_cells = h.few_cells;
  few_bytes = h.few_bytes;
  binding = h.binding;
  names = h.names;
  some_node = h.some_node;
  few_nodes = h.few_nodes;
  nodes = h.nodes;
  requests = h.requests;
  few_requests = h.few_requests;
  asks = h.asks;
  rising = h.rising;
  held = all_weaker (HeldFits g.site u) (HeldFits g.site (record u { count = n })) (λ x fit. record { executor = fit.executor; made = fit.made; closed = fit.closed }) u.held h.held;
  differ = h.differ;
}

-- with its end node behind flow nodes that are there
pub finished_fits : (g : Setting) (u : Common) (heads : List ℕ) (causes : List (List ℕ)) (result : BuildResult) → SharedFits g false u → AllAre (IsFlowNode u.nodes) heads → SharedFits g true (W.finished heads causes result u)
finished_fits g u heads causes result h stand =
    let v : Common = W.finished heads causes result u in
    let few : length u.nodes ≤ 100000000 = h.few_nodes in
    let before : InBounds false g.site u = record { short = h.short; few_cells = h.few_cells; few_bytes = h.few_bytes; names = h.names; few_nodes = h.few_nodes; nodes = h.nodes; few_requests = h.few_requests; asks = h.asks } in
    let behind : InBounds true g.site v = bounds_node true g.site u v (W.end_node u heads) before (omega (arith, few)) refl refl stand refl refl refl refl tt in
    record {
      cells = h.cells;
      short = behind.short;
      few_cells = behind.few_cells;
      few_bytes = behind.few_bytes;
      binding = h.binding;
      names = behind.names;
      some_node = omega (arith, length-append u.nodes (W.end_node u heads ∷ []));
      few_nodes = behind.few_nodes;
      nodes = behind.nodes;
      requests = tt;
      few_requests = behind.few_requests;
      asks = tt;
      rising = tt;
      held = tt;
      differ = tt;
    }

-- So a build that is over keeps what an ended one does.
pub over_sound : {T : Type 0} (number : T → ℕ) (parent : T → Option ℕ) (branch : T → Bool) (fits : List (Seated T) → Shared → Type 0) (p : Phase) (g : G.Threads T) (u : Shared) (heads : List ℕ) (causes : List (List ℕ)) (result : BuildResult) (g' : G.Threads T) (u' : Shared) →
    IsOver p g u (W.finished heads causes result (common_of u)) g' u' → SharedFits (setting_of u) false (common_of u) → AllAre (IsFlowNode u.graph) heads → g.next ≤ 100000000 + length u.graph → SoundIn number parent branch fits p g' u'
over_sound {T} number parent branch fits p g u heads causes result g' u' o sound stand few =
    let d : Common = W.finished heads causes result (common_of u) in
    let nodes : length u'.graph ≡ length u.graph + 1 = ap (λ (v : Common). length v.nodes) o.shared ∙ length-append u.graph (W.end_node (common_of u) heads ∷ []) in
    let next : g'.next ≡ g.next = ap (λ (k : G.Threads T). k.next) o.threads in
    subst (λ q. SoundIn number parent branch fits q g' u') (sym o.phase)
    (record {
      threads = ap (λ (k : G.Threads T). k.seats) o.threads;
      requests = ap (λ (v : Common). v.requests) o.shared;
      held = ap (λ (v : Common). v.held) o.shared;
      sound = subst (λ s. SharedFits s true (common_of u')) (sym o.setting) (subst (λ v. SharedFits (setting_of u) true v) (sym o.shared) (finished_fits (setting_of u) (common_of u) heads causes result sound stand));
      few_threads = omega (arith, few, nodes, next);
    })
