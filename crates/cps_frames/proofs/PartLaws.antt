-- A part that a node has is found by the code.
use Rattle.std.proofs.Common.{◌≡◌, ◌∙◌, ℕ, zero, suc, ◌+◌, ◌<◌, ◌≤◌, List, [], ◌∷◌, length, length-append, None, ap, sym, subst, arith, inl, inr}
use Rattle.std.proofs.Math.Bridge.{le_prop}
use Rattle.std.proofs.Math.Logic.{∥∥₁_elim}
use Rattle.std.specs.Prelude.{slice_get}
use Rattle.model_syntax.specs.TreeNodes.{tree_node}
use Rattle.model_syntax.specs.declared.node.NodeForm.{NodeForm}
use Rattle.model_run.specs.Around.{arity}
use Rattle.model_run.specs.Nesting.{shape_at}
use Rattle.model_run.specs.Terms.{Term, Terms, no_terms, and_then, forms_of, parts_of, term, term_at}
use Rattle.script_laws.specs.NodeParts.{Slot, One, Optional, Any_number, Next, Stand, parts_asked}
use Rattle.script_laws.proofs.ScriptParts.{script_parts}
use Rattle.cps_code.specs.Rows.{numbers_of, part_number}
use Rattle.cps_code.specs.Script.{IsScript}
use Rattle.cps_frames.specs.Parts.{least, least_parts}

found_below : (ps : Terms) (i : ℕ) → i < length (forms_of ps) → slice_get (numbers_of ps) i ≡ None → ⊥
found_below no_terms i lt e = absurd (omega arith)
found_below (and_then t ts) zero lt e = absurd (cc e)
found_below (and_then t ts) (suc i) lt e = found_below ts i (omega arith) e

pub part_there : (root : Term) (k i : ℕ) → i < arity (shape_at root k) → part_number root k i ≡ None → ⊥
part_there root k i = found_below (parts_of (term_at root k)) i

-- a node has at least the parts that its form asks for
stand_least : (slots : List Slot) (fs : List NodeForm) → Stand slots fs → least slots ≤ length fs
stand_least [] fs h = omega arith
stand_least (One test ∷ slots) [] h = absurd h
stand_least (One test ∷ slots) (f ∷ fs) h = let e : least slots ≤ length fs = stand_least slots fs h.1 in omega (arith, e)
stand_least (Optional test ∷ slots) fs h = elim h [ inl q ↦ stand_least slots fs q | inr q ↦ behind fs (λ gs. stand_least slots gs) q ]
  where
    behind : (fs : List NodeForm) → ((gs : List NodeForm) → Stand slots gs → least slots ≤ length gs) → Next test (Stand slots) fs → least slots ≤ length fs
    behind [] rest q = absurd q
    behind (f ∷ fs) rest q = let e : least slots ≤ length fs = rest fs q.1 in omega (arith, e)
stand_least (Any_number test ∷ slots) fs h =
    let e : least slots ≤ length h.rest = stand_least slots h.rest h.behind in
    let n : length fs ≡ length h.these + length h.rest = ap length h.split ∙ length-append h.these h.rest in
    omega (arith, e, n)

pub parts_there : (root : Term) → IsScript root → (k : ℕ) → least_parts (shape_at root k).form ≤ arity (shape_at root k)
parts_there root script k =
    ∥∥₁_elim script le_prop (λ s. subst (λ t. least_parts (shape_at t k).form ≤ arity (shape_at t k)) (sym s.1)
    (stand_least (parts_asked (shape_at (term 0 (tree_node s.0)) k).form) (shape_at (term 0 (tree_node s.0)) k).parts (script_parts s.0 k)))
