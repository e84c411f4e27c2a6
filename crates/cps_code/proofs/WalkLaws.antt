-- What a walk adds for several nodes, one after the other.
use Rattle.std.proofs.Common.{◌≡◌, ◌∙◌, ℕ, suc, ◌+◌, ◌<◌, ◌≤◌, List, [], ◌∷◌, ◌++◌, length, map, get_or, drop, refl, ap, ap₂, sym, subst, add-one, drop-cons, append_assoc, Result, OnOk}
use Rattle.std.proofs.lemmas.List.{drop_all, append-nil}
use Rattle.model_syntax.specs.declared.node.NodeForm.{NodeForm}
use Rattle.model_syntax.specs.Nodes.{Node, Nodes, node, none, more, nodes}
use Rattle.model_syntax.specs.declared.node.NodeForm.TheVariants as form
use Rattle.model_syntax.specs.declared.place.Declared.{Declared}
use Rattle.model_syntax.specs.declared.tree.Arguments.{Arguments}
use Rattle.model_syntax.specs.declared.tree.Arm.{Arm}
use Rattle.model_syntax.specs.declared.tree.Catch.{Catch}
use Rattle.model_syntax.specs.declared.tree.Operand.{Operand}
use Rattle.model_syntax.specs.TreeNodes.{arguments_nodes, arm_node, block, catch_node, entry_node, expr_node, names_of, operand_node, stmt_node}
use Rattle.model_syntax.proofs.TreeNodeLaws.{arguments-is, arm-is, catch-is, operand-is}
use Rattle.cps_code.specs.declared.row.Row.{Row}
use Rattle.cps_code.specs.Walk.{opened, added, added_all}

pub added_all-none : (k : ℕ) (s : List Row) → added_all k none s ≡ s
unfolding added_all
added_all-none k s = refl

pub added_all-more : (k : ℕ) (p : Node) (ps : Nodes) (s : List Row) → added_all k (more p ps) s ≡ added_all k ps (added k p s)
unfolding added_all
added_all-more k p ps s = refl

pub added_all-one : (k : ℕ) (p : Node) (s : List Row) → added_all k (more p none) s ≡ added k p s
unfolding added_all
added_all-one k p s = refl

pub added_all-append : (k : ℕ) (ps qs : List Node) (s : List Row) → added_all k (nodes (ps ++ qs)) s ≡ added_all k (nodes qs) (added_all k (nodes ps) s)
unfolding added_all
added_all-append k [] qs s = refl
added_all-append k (p ∷ ps) qs s = added_all-append k ps qs (added k p s)

pub added-leaf : (k : ℕ) (f : NodeForm) (s : List Row) → added k (node f none) s ≡ opened k f s
unfolding added added_all
added-leaf k f s = refl

-- A node from its row and its parts, of which the last are still to be added.
module _ (of k : ℕ) (f : NodeForm) (s : List Row) (number : k ≡ length s) where
  pub node-all : (ps : Nodes) {t : List Row} → t ≡ opened of f s → added_all k ps t ≡ added of (node f ps) s
  unfolding added
  node-all ps begun = ap₂ (λ (m : ℕ) (rs : List Row). added_all m ps rs) number begun

  pub node-one : (p : Node) {t : List Row} → t ≡ opened of f s → added k p t ≡ added of (node f (more p none)) s
  unfolding added_all
  node-one p begun = node-all (more p none) begun

  -- where the first part is there
  pub node-rest : (p : Node) (ps : Nodes) {t : List Row} → t ≡ added (length s) p (opened of f s) → added_all k ps t ≡ added of (node f (more p ps)) s
  unfolding added_all
  node-rest p ps first =
      ap (added_all k ps) (first ∙ ap (λ (m : ℕ). added m p (opened of f s)) (sym number))
      ∙ node-all (more p ps) refl

  pub node-two : (p q : Node) {t : List Row} → t ≡ added (length s) p (opened of f s) → added k q t ≡ added of (node f (more p (more q none))) s
  unfolding added_all
  node-two p q first = node-rest p (more q none) first

  -- where the nodes of the first list are there
  pub node-behind : (ps qs : List Node) {t : List Row} → t ≡ added_all (length s) (nodes ps) (opened of f s) → added_all k (nodes qs) t ≡ added of (node f (nodes (ps ++ qs))) s
  node-behind ps qs first =
      ap (added_all k (nodes qs)) (first ∙ ap (λ (m : ℕ). added_all m (nodes ps) (opened of f s)) (sym number))
      ∙ sym (added_all-append k ps qs (opened of f s))
      ∙ node-all (nodes (ps ++ qs)) refl

  pub node-last : (ps : List Node) (q : Node) {t : List Row} → t ≡ added_all (length s) (nodes ps) (opened of f s) → added k q t ≡ added of (node f (nodes (ps ++ q ∷ []))) s
  unfolding added_all
  node-last ps q first = node-behind ps (q ∷ []) first

  pub node-none : (ps : List Node) {t : List Row} → t ≡ added_all (length s) (nodes ps) (opened of f s) → t ≡ added of (node f (nodes (ps ++ []))) s
  unfolding added_all
  node-none ps first = node-behind ps [] first

-- What a call adds behind what is there already, where the call may be refused.
module _ {E : Type 0} (r : Result (Unit {0}) E) where
  pub tail : (u : List Row) {v w : List Row} → v ≡ w → OnOk r (u ≡ v) → OnOk r (u ≡ w)
  tail u is h = subst (λ (x : List Row). OnOk r (u ≡ x)) is h

-- A loop over a list adds its elements.
module _ {A : Type 0} (f : A → Node) (xs : List A) (i k : ℕ) (s : List Row) where
  pub added-next : (d : A) → i < length xs → added_all k (nodes (map f (drop i xs))) s ≡ added_all k (nodes (map f (drop (i + 1) xs))) (added k (f (get_or xs i d)) s)
  added-next d within =
      ap (λ (ys : List A). added_all k (nodes (map f ys)) s) (drop-cons xs i d within)
      ∙ added_all-more k (f (get_or xs i d)) (nodes (map f (drop (suc i) xs))) s
      ∙ ap (λ (j : ℕ). added_all k (nodes (map f (drop j xs))) (added k (f (get_or xs i d)) s)) (sym (add-one i))

  pub added-step : (x : A) {t g : List Row} → x ≡ get_or xs i x → i < length xs → t ≡ added k (f x) s → added_all k (nodes (map f (drop i xs))) s ≡ g → added_all k (nodes (map f (drop (i + 1) xs))) t ≡ g
  added-step x is within one rest =
      ap (added_all k (nodes (map f (drop (i + 1) xs)))) (one ∙ ap (λ (y : A). added k (f y) s) is)
      ∙ sym (added-next x within) ∙ rest

  pub added-step-at : (d : A) {t g : List Row} → i < length xs → t ≡ added k (f (get_or xs i d)) s → added_all k (nodes (map f (drop i xs))) s ≡ g → added_all k (nodes (map f (drop (i + 1) xs))) t ≡ g
  added-step-at d within one rest = ap (added_all k (nodes (map f (drop (i + 1) xs)))) one ∙ sym (added-next d within) ∙ rest

  pub added-done : {g : List Row} → length xs ≤ i → added_all k (nodes (map f (drop i xs))) s ≡ g → s ≡ g
  added-done behind rest = sym (ap (λ (ys : List A). added_all k (nodes (map f ys)) s) (drop_all i xs behind) ∙ added_all-none k s) ∙ rest

-- What was added to the first row, by the number and the row of the node.
pub first_one : (of k : ℕ) (f : NodeForm) (p : Node) (s : List Row) {t u : List Row} → k ≡ length s → t ≡ opened of f s → u ≡ added k p t → u ≡ added (length s) p (opened of f s)
first_one of k f p s number begun grown = grown ∙ ap₂ (λ (m : ℕ) (rs : List Row). added m p rs) number begun

pub first_all : (of k : ℕ) (f : NodeForm) (ps : Nodes) (s : List Row) {t u : List Row} → k ≡ length s → t ≡ opened of f s → u ≡ added_all k ps t → u ≡ added_all (length s) ps (opened of f s)
first_all of k f ps s number begun grown = grown ∙ ap₂ (λ (m : ℕ) (rs : List Row). added_all m ps rs) number begun

-- The last two parts of a `for` with steps, behind its first and its test.
pub node-for : (of k : ℕ) (f : NodeForm) (a b c d : Node) (s : List Row) {t u v : List Row} → k ≡ length s
    → t ≡ added (length s) a (opened of f s) → u ≡ added k b t → v ≡ added k c u → added k d v ≡ added of (node f (nodes (a ∷ b ∷ c ∷ d ∷ []))) s
unfolding added_all
node-for of k f a b c d s number first second third =
    ap (added k d) (third ∙ ap (added k c) second) ∙ node-rest of k f s number a (nodes (b ∷ c ∷ d ∷ [])) first

-- The last part of a `try`, behind its block and its catches, and a `try` without it.
pub node-tried : (of k : ℕ) (f : NodeForm) (a : Node) (ps : List Node) (d : Node) (s : List Row) {t u : List Row} → k ≡ length s
    → t ≡ added (length s) a (opened of f s) → u ≡ added_all k (nodes ps) t → added k d u ≡ added of (node f (nodes (a ∷ (ps ++ d ∷ [])))) s
unfolding added_all
node-tried of k f a ps d s number first rest =
    ap (added k d) rest ∙ sym (added_all-append k ps (d ∷ []) _) ∙ node-rest of k f s number a (nodes (ps ++ d ∷ [])) first

pub node-untried : (of k : ℕ) (f : NodeForm) (a : Node) (ps : List Node) (s : List Row) {t u : List Row} → k ≡ length s
    → t ≡ added (length s) a (opened of f s) → u ≡ added_all k (nodes ps) t → u ≡ added of (node f (nodes (a ∷ (ps ++ [])))) s
unfolding added_all
node-untried of k f a ps s number first rest =
    rest ∙ sym (added_all-append k ps [] _) ∙ node-rest of k f s number a (nodes (ps ++ [])) first

-- A form with the copy of a name.
pub same-form : (of : ℕ) (s : List Row) (f : List ℕ → NodeForm) (ps : Nodes) {n m : List ℕ} → n ≡ m → added of (node (f n) ps) s ≡ added of (node (f m) ps) s
same-form of s f ps is = ap (λ (x : List ℕ). added of (node (f x) ps) s) is

-- The nodes of a record of a tree, from its fields.
pub node-Arm : (a : Arm) → arm_node a ≡ node form.Arm (nodes (expr_node a.test ∷ block (map stmt_node a.body) ∷ []))
node-Arm a = arm-is a.test a.body

pub node-Catch : (c : Catch) → catch_node c ≡ node (form.Catch c.caught c.name.name) (nodes (block (map stmt_node c.body) ∷ []))
node-Catch c = catch-is c.caught c.name c.body

pub node-Operand : (o : Operand) → operand_node o ≡ node (form.Operand o.operator) (nodes (expr_node o.value ∷ []))
node-Operand o = operand-is o.operator o.value

pub node-Arguments : (a : Arguments) → arguments_nodes a ≡ map entry_node a.named ++ map expr_node a.ordered
node-Arguments a = arguments-is a.named a.ordered

-- A loop over declared names copies them.
module _ (ds : List Declared) (i : ℕ) (names : List (List ℕ)) where
  pub names-step : (d : Declared) {t g : List (List ℕ)} → d ≡ get_or ds i d → i < length ds → t ≡ names ++ d.name ∷ [] → names ++ names_of (drop i ds) ≡ g → t ++ names_of (drop (i + 1) ds) ≡ g
  names-step d is within put rest =
      ap (λ (ns : List (List ℕ)). ns ++ names_of (drop (i + 1) ds)) put
      ∙ append_assoc names (d.name ∷ []) (names_of (drop (i + 1) ds))
      ∙ ap (λ (j : ℕ). names ++ d.name ∷ names_of (drop j ds)) (add-one i)
      ∙ ap (λ (e : Declared). names ++ e.name ∷ names_of (drop (suc i) ds)) is
      ∙ ap (λ (es : List Declared). names ++ names_of es) (sym (drop-cons ds i d within))
      ∙ rest

  pub names-done : {g : List (List ℕ)} → length ds ≤ i → names ++ names_of (drop i ds) ≡ g → names ≡ g
  names-done behind rest = sym (append-nil names) ∙ ap (λ (es : List Declared). names ++ names_of es) (sym (drop_all i ds behind)) ∙ rest
