-- The test of what may stand at a spot decides it.
use Rattle.std.proofs.Math.Bridge.{le_prop}
use Rattle.std.proofs.Math.Logic.{∥∥₁_elim}
use Rattle.std.proofs.Common.{◌≡◌, ◌∙◌, ◌<◌, ◌≤◌, ◌+◌, ℕ, zero, suc, Bool, true, false, not, length, Option, Some, None, refl, ap, sym, subst, arith, inl, inr}
use Rattle.std.specs.Prelude.{◌&&◌, ◌||◌, ◌⊎◌, if◌then◌else◌, nat_eq}
use Rattle.std.proofs.lemmas.Bool.{ne_eqb}
use Rattle.std.proofs.lemmas.Bool.Decides.{eqb_tells}
use Rattle.model_syntax.specs.declared.tree.Tree.{Tree}
use Rattle.model_syntax.specs.TreeNodes.{tree_node}
use Rattle.model_run.specs.declared.frame.Frame.{Frame}
use Rattle.model_run.specs.FrameTable.{Part, Inner, enters_body, is_closure_form, is_function_form, is_name_call, passes}
use Rattle.model_run.specs.Meaning.{shape_of}
use Rattle.model_run.specs.Nesting.{Spot, Begun, Any_body, Body_of, Any_branch, For_executor, For_task, For_person, For_branches, CallsByName, Enters, IsClosureAt, Leads, itself, shape_at}
use Rattle.model_run.specs.Terms.{Term, nodes_of, term}
use Rattle.cps_code.specs.Rows.{part_count, part_number}
use Rattle.cps_code.specs.Script.{ArePartsBehind, IsScript}
use Rattle.cps_code.proofs.Parts.{part_behind}
use Rattle.frame_rows.specs.Leading.{Decides, is_body, is_branch, passed, value_part}
use Rattle.image_frames.proofs.PassLaws.{IsInside, LeadsBy, leads_nowhere, leads_on, nothing_past, outside}
use Rattle.frame_rows.proofs.StandLaws.{alike, at_any_body, at_any_branch, at_begun_body, at_begun_own, at_body_of, at_branches, at_executor, at_person, at_task, implied, no_branch_begun}
use Rattle.image_frames.specs.Leading.{enters_at, is_called_at, is_one, leads, leads_in, some_below}

or_true : (a b : Bool) → (a || b) ≡ true → (a ≡ true) ⊎ (b ≡ true)
or_true true b e = inl refl
or_true false b e = inr e

or_left : (a b : Bool) → (a || b) ≡ false → a ≡ false
or_left true b e = absurd (cc e)
or_left false b e = refl

or_right : (a b : Bool) → (a || b) ≡ false → b ≡ false
or_right true b e = absurd (cc e)
or_right false b e = e

-- for some number below
below_at : (t : ℕ → Bool) (m : ℕ) → some_below t m ≡ true → (i : ℕ) × (t i ≡ true)
below_at t zero e = absurd (cc e)
below_at t (suc m) e = elim (or_true (t m) (some_below t m) e) [ inl h ↦ (m, h) | inr h ↦ below_at t m h ]

below_other : (i m : ℕ) → (i ≡ m → ⊥) → i < suc m → i < m
below_other i m ne lt = omega (arith, ne, lt)

none_below : (t : ℕ → Bool) (m i : ℕ) → some_below t m ≡ false → i < m → t i ≡ false
none_below t zero i e lt = absurd (omega (arith, lt))
none_below t (suc m) i e lt = elim (eqb_tells i m) [
  | inl h ↦ ap t h.1 ∙ or_left (t m) (some_below t m) e
  | inr h ↦ none_below t m i (or_right (t m) (some_below t m) e) (below_other i m h.1 lt)
]

one_at : (t : ℕ → Bool) (o : Option ℕ) → is_one t o ≡ true → (j : ℕ) × (o ≡ Some j) × (t j ≡ true)
one_at t None e = absurd (cc e)
one_at t (Some j) e = (j, refl, e)

-- the node that a part puts in the place of its node stands behind it
value_behind : (root : Term) → ArePartsBehind root → (k i j : ℕ) (o : Option ℕ) → part_number root k i ≡ o → value_part root o ≡ Some j → k < j
value_behind root behind k i j None is e = absurd (cc e)
value_behind root behind k i j (Some p) is e =
    let first : k + i < p = (behind k i p is).0 in
    let second : p + 1 < j = (behind p 1 j e).0 in
    omega (arith, first, second)

either_behind : (root : Term) → ArePartsBehind root → (k i j : ℕ) (b c : Bool) → (if b then part_number root k i else (if c then value_part root (part_number root k i) else None)) ≡ Some j → k < j
either_behind root behind k i j true c e = let first : k + i < j = (behind k i j e).0 in omega (arith, first)
either_behind root behind k i j false true e = value_behind root behind k i j (part_number root k i) refl e
either_behind root behind k i j false false e = absurd (cc e)

passed_behind : (root : Term) → ArePartsBehind root → (k i j : ℕ) → passed root k i ≡ Some j → k < j
passed_behind root behind k i j e = either_behind root behind k i j (passes (shape_at root k) (Part i)) (passes (shape_at root k) (Inner i 1)) e

-- both ways
found : (n : ℕ) (root : Term) (t : ℕ → Bool) (k : ℕ) → leads_in n root t k ≡ true → LeadsBy root t k
found zero root t k e = absurd (cc e)
found (suc n) root t k e =
    elim (or_true (t k) (some_below (λ i. is_one (leads_in n root t) (passed root k i)) (part_count root k)) e) [
      | inl h ↦ (k, itself, h)
      | inr h ↦
          let part = below_at (λ i. is_one (leads_in n root t) (passed root k i)) (part_count root k) h in
          let next = one_at (leads_in n root t) (passed root k part.0) part.1 in
          leads_on root t k part.0 next.0 next.1 (found n root t next.0 next.2)
    ]

lost : (n : ℕ) (root : Term) → ArePartsBehind root → (t : ℕ → Bool) → IsInside root t → (k : ℕ) → length (nodes_of root) ≤ n + k → leads_in n root t k ≡ false → LeadsBy root t k → ⊥
lost zero root behind t inside k le e h = nothing_past root t k (omega (arith, le)) inside h
lost (suc n) root behind t inside k le e h =
    let parts = some_below (λ i. is_one (leads_in n root t) (passed root k i)) (part_count root k) in
    leads_nowhere root t k inside (or_left (t k) parts e)
    (λ i j lt at. (
    let further : k < j = passed_behind root behind k i j at in
    let none : is_one (leads_in n root t) (passed root k i) ≡ false = none_below (λ i. is_one (leads_in n root t) (passed root k i)) (part_count root k) i (or_right (t k) parts e) lt in
    lost n root behind t inside j (omega (arith, le, further)) (sym (ap (is_one (leads_in n root t)) at) ∙ none)))
    h

decided : (P : Type 0) (b : Bool) → (b ≡ true → P) → (b ≡ false → P → ⊥) → Decides b P
decided P true to from = to refl
decided P false to from = from refl

leads_decided : (root : Term) → ArePartsBehind root → (t : ℕ → Bool) → IsInside root t → (k : ℕ) → Decides (leads root t k) (LeadsBy root t k)
leads_decided root behind t inside k = decided (LeadsBy root t k) (leads root t k) (found (length (nodes_of root)) root t k) (lost (length (nodes_of root)) root behind t inside k (omega arith))

-- the tests hold of no node outside
entering_inside : (root : Term) → IsInside root (λ j. enters_body (shape_at root j).form)
entering_inside root k le = ap (λ t. enters_body (shape_of t).form) (outside root k le)

call_inside : (root : Term) → IsInside root (λ j. is_name_call (shape_at root j).form)
call_inside root k le = ap (λ t. is_name_call (shape_of t).form) (outside root k le)

one_inside : (root : Term) (n : ℕ) → n < length (nodes_of root) → IsInside root (λ j. nat_eq j n)
one_inside root n lt k le = ne_eqb k n (λ e. omega (arith, lt, le, e))

-- where a node is evaluated
begun : (root : Term) → ArePartsBehind root → (f : Frame) → f.node < length (nodes_of root) → (k : ℕ) (branch body : Bool) → is_branch f.kind ≡ branch → is_body f.kind ≡ body → Decides (not branch && leads root (λ j. if body then enters_body (shape_at root j).form else nat_eq j f.node) k) (Enters root f (Begun k))
begun root behind f lt k true body is is' = no_branch_begun root f k is
begun root behind f lt k false true is is' = at_begun_body root f k (leads root (λ j. enters_body (shape_at root j).form) k) is' (leads_decided root behind (λ j. enters_body (shape_at root j).form) (entering_inside root) k)
begun root behind f lt k false false is is' = at_begun_own root f k (leads root (λ j. nat_eq j f.node) k) is' is (leads_decided root behind (λ j. nat_eq j f.node) (one_inside root f.node lt) k)

pub enters_decided : (root : Term) → ArePartsBehind root → (f : Frame) → f.node < length (nodes_of root) → (at : Spot) → Decides (enters_at root f at) (Enters root f at)
enters_decided root behind f lt (Begun k) = begun root behind f lt k (is_branch f.kind) (is_body f.kind) refl refl
enters_decided root behind f lt Any_body = at_any_body root f
enters_decided root behind f lt (Body_of k) = at_body_of root f k
enters_decided root behind f lt Any_branch = at_any_branch root f
enters_decided root behind f lt For_executor = at_executor root f
enters_decided root behind f lt For_task = at_task root f
enters_decided root behind f lt For_person = at_person root f
enters_decided root behind f lt For_branches = at_branches root f

pub called_decided : (root : Term) → ArePartsBehind root → (f : Frame) (at : Spot) → Decides (is_called_at root f at) (IsClosureAt root at f)
called_decided root behind f (Begun k) = implied (CallsByName root k) (is_function_form (shape_at root f.node).form) (leads root (λ j. is_name_call (shape_at root j).form) k) (leads_decided root behind (λ j. is_name_call (shape_at root j).form) (call_inside root) k)
called_decided root behind f Any_body = alike (is_closure_form (shape_at root f.node).form)
called_decided root behind f (Body_of k) = tt
called_decided root behind f Any_branch = tt
called_decided root behind f For_executor = tt
called_decided root behind f For_task = tt
called_decided root behind f For_person = tt
called_decided root behind f For_branches = tt

one_answer : (P : Type 0) (a b : Bool) → Decides a P → Decides b P → a ≡ b
one_answer P true true p q = refl
one_answer P true false p q = absurd (q p)
one_answer P false true p q = absurd (p q)
one_answer P false false p q = refl

-- the parts of a script's nodes stand behind them
behind_prop : (root : Term) → IsProp (ArePartsBehind root)
behind_prop root p q = λ x k i n e. (le_prop (p k i n e).0 (q k i n e).0 x, le_prop (p k i n e).1 (q k i n e).1 x)

pub parts_behind : (root : Term) → IsScript root → ArePartsBehind root
parts_behind root script = ∥∥₁_elim script (behind_prop root) (λ s. subst ArePartsBehind (sym s.1) (part_behind (tree_node s.0)))

-- what decides the same is the same
pub same_enters : (root : Term) → IsScript root → (f : Frame) → f.node < length (nodes_of root) → (at : Spot) (b : Bool) → Decides b (Enters root f at) → b ≡ enters_at root f at
same_enters root script f lt at b d = one_answer (Enters root f at) b (enters_at root f at) d (enters_decided root (parts_behind root script) f lt at)

pub same_called : (root : Term) → IsScript root → (f : Frame) (at : Spot) (b : Bool) → Decides b (IsClosureAt root at f) → b ≡ is_called_at root f at
same_called root script f at b d = one_answer (IsClosureAt root at f) b (is_called_at root f at) d (called_decided root (parts_behind root script) f at)
