-- Flow nodes and lines: what is refused where there is room is the memory, and a node that is made becomes the thread's last one.
use Rattle.std.proofs.Common.{◌≡◌, ◌∙◌, ℕ, List, Option, None, ap, sym, subst}
use Rattle.std.specs.Prelude.{Result as Outcome, Ok, Err, [], ◌∷◌}
use Rattle.model_values.specs.declared.limit.LimitKind.{LimitKind}
use Rattle.model_run.specs.declared.flow.NodeKind.{NodeKind}
use Rattle.model_run.specs.declared.flow.NodeKind.TheVariants.{Body as BodyNode}
use Rattle.model_run.specs.FlowNodes.{body_line, branch_label, next_node, noted, noted_branch, noted_limit, with_head, with_line, with_node}
use Rattle.model_run.specs.State.{World}
use Rattle.flow_graph.specs.declared.refusal.NodeRefusal.{NodeRefusal}
use Rattle.flow_graph.specs.declared.refusal.NodeRefusal.TheVariants as node
use Rattle.flow_graph.specs.Refusals as nodes
use Rattle.build_log.specs.declared.refusal.LogRefusal.{LogRefusal}
use Rattle.build_log.specs.declared.refusal.LogRefusal.TheVariants as log
use Rattle.build_log.specs.Refusals as lines
use Rattle.cps_frames.specs.Standing.{Standing}
use Rattle.cps_frames.specs.Halts.{log_halt, node_halt}
use Rattle.cps_frames.specs.Changes.{Passed, Passes, changed_by}
use Rattle.cps_frames.specs.declared.halt.Halt.{Halt}
use Rattle.cps_frames.specs.declared.halt.Halt.TheVariants.{Memory, Ends, Limit}

pub line_refused : (limit : World → Option LimitKind) (g : World → World) (u v : Standing) (o : Option LimitKind) (x : LogRefusal) → o ≡ None → o ≡ lines.limit_of x → Passes limit g u (Err (log_halt x)) v
line_refused limit g u v o log.Memory free told = tt
line_refused limit g u v o log.LogLimit free told = absurd (cc (sym free ∙ told))

pub node_refused : (limit : World → Option LimitKind) (g : World → World) (u v : Standing) (o : Option LimitKind) (x : NodeRefusal) → o ≡ None → o ≡ nodes.limit_of x → Passes limit g u (Err (node_halt x)) v
node_refused limit g u v o node.Memory free told = tt
node_refused limit g u v o node.NodeLimit free told = absurd (cc (sym free ∙ told))

-- a node with its line, by its number the thread's last one
pub headed : (kind : NodeKind) (name : List ℕ) (start : ℕ) (parents line : List ℕ) (n : ℕ) (u v v' : Standing) → n ≡ next_node u.world → Passed (noted_limit line) (λ w. with_line line (with_node kind name start parents w)) u v → v'.world ≡ with_head n v.world → v'.stack ≡ v.stack → v'.parent ≡ v.parent → v'.heap ≡ v.heap → Passed (noted_limit line) (noted kind name start parents line) u v'
headed kind name start parents line n u v v' number p head stack parent heap = record {
  free = p.free;
  made = head ∙ ap (with_head n) p.made ∙ ap (λ m. with_head m (changed_by (λ w. with_line line (with_node kind name start parents w)) u.world)) number;
  stack = stack ∙ p.stack;
  parent = parent ∙ p.parent;
  heap = heap ∙ p.heap;
}

-- the node of a branch
pub branch_noted : (name label line parents : List ℕ) (u : Standing) (result : Outcome (Unit {0}) Halt) (v : Standing) → label ≡ branch_label name → line ≡ body_line label → parents ≡ u.world.own.head ∷ [] → Passes (noted_limit line) (λ w. with_line line (with_node BodyNode label 0 parents w)) u result v → Passes (noted_limit (body_line (branch_label name))) (noted_branch name) u result v
branch_noted name label line parents u result v is_label is_line is_parents p =
    let P : List ℕ → List ℕ → List ℕ → Type 0 = λ l t ps. Passes (noted_limit t) (λ w. with_line t (with_node BodyNode l 0 ps w)) u result v in
    at_head result (subst (P (branch_label name) (body_line (branch_label name))) is_parents (subst (λ t. P (branch_label name) t parents) (is_line ∙ ap body_line is_label) (subst (λ l. P l line parents) is_label p)))
  where
    at_head : (result : Outcome (Unit {0}) Halt) → Passes (noted_limit (body_line (branch_label name))) (λ w. with_line (body_line (branch_label name)) (with_node BodyNode (branch_label name) 0 (u.world.own.head ∷ []) w)) u result v → Passes (noted_limit (body_line (branch_label name))) (noted_branch name) u result v
    at_head (Ok done) q = record { free = q.free; made = q.made; stack = q.stack; parent = q.parent; heap = q.heap }
    at_head (Err (Limit k)) q = q
    at_head (Err (Ends e)) q = q
    at_head (Err Memory) q = q
