-- What is used of a script holds of each script, though no tree of it is at hand: the numbers aside, its term is the tree's.
use Rattle.std.proofs.Common.{◌≡◌, ◌∙◌, ℕ, ◌<◌, ◌+◌, suc, [], length, ap, refl, sym, subst}
use Rattle.std.proofs.Math.Bool.{Bool-set}
use Rattle.std.proofs.Math.Bridge.{le_prop}
use Rattle.std.proofs.Math.Logic.{∥∥₁_elim}
use Rattle.model_syntax.specs.Nodes.{Node, Nodes, node, none, more, size}
use Rattle.model_syntax.specs.TreeNodes.{tree_node}
use Rattle.model_run.specs.Around.{form_at}
use Rattle.model_run.specs.Nesting.{part_number, shape_at}
use Rattle.model_run.specs.Terms.{Found, Term, Terms, Numbered, no_terms, and_then, term, terms, number_of, nodes_of, term_at}
use Rattle.model_run.proofs.Found.{found_script}
use Rattle.script_laws.proofs.ScriptParts.{part_form}
use Rattle.run_laws.specs.Soundness.{Shaped}
use Rattle.run_laws.proofs.Evaluation.{ScriptFacts}
use Rattle.run_laws.proofs.NodeLaws.{Real, number_at, real_script}
use Rattle.run_laws.proofs.ShapedScripts.{script_shaped}
use Rattle.cps_code.specs.Script.{IsScript}
use Rattle.thread_fits.proofs.TermSets.{term_set}

-- the node of a term, without its numbers
abbrev mutual
  pub node_of : Term → Node
  node_of (Numbered k f ps) = node f (all_nodes_of ps)

  pub all_nodes_of : Terms → Nodes
  all_nodes_of no_terms = none
  all_nodes_of (and_then t ts) = more (node_of t) (all_nodes_of ts)

mutual
  of_term : (k : ℕ) (p : Node) → node_of (term k p) ≡ p
  of_term k (node f ps) = ap (node f) (of_terms (suc k) ps)

  of_terms : (k : ℕ) (ps : Nodes) → all_nodes_of (terms k ps) ≡ ps
  of_terms k none = refl
  of_terms k (more p ps) = ap (λ q. more q (all_nodes_of (terms (k + size p) ps))) (of_term k p) ∙ ap (more p) (of_terms (k + size p) ps)

pub same_script : (root : Term) → IsScript root → root ≡ term 0 (node_of root)
same_script root script = ∥∥₁_elim script (term_set root (term 0 (node_of root))) (λ s. s.1 ∙ ap (term 0) (sym (of_term 0 (tree_node s.0)) ∙ ap node_of (sym s.1)))

shaped_prop : (root : Term) → IsProp (Shaped root)
shaped_prop root p q = λ i. record {
  declares = λ k j e. Bool-set _ _ (p.declares k j e) (q.declares k j e) i;
  targets = λ k e. Bool-set _ _ (p.targets k e) (q.targets k e) i;
  operands = λ k j e lt. Bool-set _ _ (p.operands k j e lt) (q.operands k j e lt) i;
  steps = λ k e. le_prop (p.steps k e) (q.steps k e) i;
}

first_number : (p : Node) → number_of (term 0 p) ≡ 0
first_number (node f ps) = refl

pub facts_of : (root : Term) → IsScript root → ScriptFacts root
facts_of root script =
    let is : root ≡ term 0 (node_of root) = same_script root script in
    record {
      real = subst (λ t. Real t [] t) (sym is) (real_script (node_of root));
      shaped = ∥∥₁_elim script (shaped_prop root) (λ s. subst Shaped (sym s.1) (script_shaped s.0));
      zero_first = ap number_of is ∙ first_number (node_of root);
      numbers = subst (λ t. (k : ℕ) → k < length (nodes_of t) → number_of (term_at t k) ≡ k) (sym is) (number_at (node_of root));
      forms = subst (λ t. (k i : ℕ) → (shape_at t (part_number t k i)).form ≡ form_at (shape_at t k).parts i) (sym is) (part_form (node_of root));
    }

-- the script stands at its first number
number_first : (root t : Term) → Real root [] t → term_at root (number_of t) ≡ t
number_first root (Numbered k f ps) h = h.3

pub script_at : (root : Term) → IsScript root → term_at root 0 ≡ root
script_at root script = let facts = facts_of root script in ap (term_at root) (sym facts.zero_first) ∙ number_first root root facts.real

pub found_of : (root : Term) → IsScript root → Found root root
found_of root script = subst (λ t. Found t t) (sym (same_script root script)) (found_script (node_of root))
