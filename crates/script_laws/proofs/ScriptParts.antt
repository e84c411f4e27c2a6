-- Every node of a tree's script has the parts that its form asks for, by its number; and each part's number names a node of the form
-- that is told there.
use Rattle.std.proofs.Common.{◌≡◌, refl, sym, ap, subst, ◌∙◌, ℕ, zero, suc, ◌+◌, List, [], ◌∷◌, ◌++◌, get_or}
use Rattle.std.specs.List.{AllByRecursion as AllAre}
use Rattle.model_syntax.specs.declared.tree.Tree.{Tree}
use Rattle.model_syntax.specs.Nodes.{Node, Nodes, node, none, more, size}
use Rattle.model_syntax.specs.TreeNodes.{tree_node}
use Rattle.model_run.specs.Terms.{Term, Terms, Numbered, no_terms, and_then, term, terms, number_of, form_of, forms_of, nodes_of, nodes_of_all, empty_block, nth_part, part_of, term_at, Found}
use Rattle.model_run.specs.Around.{form_at}
use Rattle.model_run.specs.Meaning.{shape_of}
use Rattle.model_run.specs.Nesting.{shape_at, part_number}
use Rattle.model_run.proofs.Found.{found_script, part_found, term_found}
use Rattle.script_laws.specs.NodeParts.{Stand, parts_asked, node_form, part_forms, WellFormed, AllWellFormed, HasParts, AllHaveParts}
use Rattle.script_laws.proofs.TreeParts.{tree_parts}

form_is : (k : ℕ) (p : Node) → form_of (term k p) ≡ node_form p
form_is k (node f ps) = refl

forms_are : (k : ℕ) (ps : Nodes) → forms_of (terms k ps) ≡ part_forms ps
forms_are k none = refl
forms_are k (more p ps) = ap (λ f. f ∷ forms_of (terms (k + size p) ps)) (form_is k p) ∙ ap (λ fs. node_form p ∷ fs) (forms_are (k + size p) ps)

abbrev TermHas : Term → Type 0
TermHas t = HasParts (shape_of t)

all_append : (P : Term → Type 0) (ts us : List Term) → AllAre P ts → AllAre P us → AllAre P (ts ++ us)
all_append P [] us a b = b
all_append P (t ∷ ts) us a b = (a.0, all_append P ts us a.1 b)

all_get_or : (P : Term → Type 0) (ts : List Term) (i : ℕ) (d : Term) → AllAre P ts → P d → P (get_or ts i d)
all_get_or P [] i d a p = p
all_get_or P (t ∷ ts) zero d a p = a.0
all_get_or P (t ∷ ts) (suc i) d a p = all_get_or P ts i d a.1 p

mutual
  nodes_have : (k : ℕ) (p : Node) → WellFormed p → AllAre TermHas (nodes_of (term k p))
  nodes_have k (node f ps) h = (subst (Stand (parts_asked f)) (sym (forms_are (suc k) ps)) h.0, all_have (suc k) ps h.1)

  all_have : (k : ℕ) (ps : Nodes) → AllWellFormed ps → AllAre TermHas (nodes_of_all (terms k ps))
  all_have k none h = tt
  all_have k (more p ps) h = all_append TermHas (nodes_of (term k p)) (nodes_of_all (terms (k + size p) ps)) (nodes_have k p h.0) (all_have (k + size p) ps h.1)

empty_has : (k : ℕ) → TermHas (empty_block k)
empty_has k = record { these = []; rest = []; split = refl; kind = tt; behind = refl }

-- a script whose nodes are well formed
pub node_parts : (p : Node) → WellFormed p → AllHaveParts (term 0 p)
unfolding term_at
node_parts p h k = all_get_or TermHas (nodes_of (term 0 p)) k (empty_block k) (nodes_have 0 p h) (empty_has k)

-- Every node of a tree's script has the parts that its form asks for, and no others.
pub script_parts : (tree : Tree) → AllHaveParts (term 0 (tree_node tree))
script_parts tree = node_parts (tree_node tree) (tree_parts tree)

nth_form : (root : Term) (ps : Terms) (i : ℕ) → form_of (nth_part root ps i) ≡ form_at (forms_of ps) i
nth_form root no_terms i = refl
nth_form root (and_then t ts) zero = refl
nth_form root (and_then t ts) (suc i) = nth_form root ts i

part_of_form : (root t : Term) (i : ℕ) → form_of (part_of root t i) ≡ form_at (shape_of t).parts i
part_of_form root (Numbered k f ps) i = nth_form root ps i

found_form : (root t : Term) → Found root t → (shape_at root (number_of t)).form ≡ form_of t
found_form root (Numbered k f ps) h = ap form_of h.0

-- the number of part i names a node of the form of part i
pub part_form : (p : Node) (k i : ℕ) → (shape_at (term 0 p) (part_number (term 0 p) k i)).form ≡ form_at (shape_at (term 0 p) k).parts i
part_form p k i =
    found_form (term 0 p) (part_of (term 0 p) (term_at (term 0 p) k) i) (part_found (term 0 p) (term_at (term 0 p) k) i (term_found (term 0 p) (found_script p) k))
    ∙ part_of_form (term 0 p) (term_at (term 0 p) k) i
