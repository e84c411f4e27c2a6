-- The nodes that stand in the place of a node are found through its parts, whichever are looked for.
use Rattle.std.proofs.Common.{◌≡◌, ◌∙◌, ◌<◌, ◌≤◌, ℕ, zero, suc, Bool, true, false, not, length, Option, Some, None, refl, ap, sym, subst, arith, inl, inr}
use Rattle.std.specs.Prelude.{slice_get, ◌||◌, ◌⊎◌, if◌then◌else◌}
use Rattle.std.proofs.lemmas.List.{get_or_past}
use Rattle.std.proofs.lemmas.Option.{slice_get_within}
use Rattle.model_syntax.specs.declared.node.NodeForm.{NodeForm}
use Rattle.model_syntax.specs.declared.node.NodeForm.TheVariants as form
use Rattle.model_run.specs.FrameTable.{Part, Inner, is_arm, is_choice, is_if_true, passes, passes_inner, passes_part}
use Rattle.model_run.specs.Meaning.{shape_of}
use Rattle.model_run.specs.Nesting as nesting
use Rattle.model_run.specs.Nesting.{Leads, itself, through_part, through_inner, shape_at}
use Rattle.model_run.specs.Terms.{Term, empty_block, nodes_of, parts_of, term_at}
use Rattle.cps_code.specs.Rows.{numbers_of, part_count, part_number}
use Rattle.frame_rows.specs.Leading.{passed, value_part}
use Rattle.frame_rows.proofs.LeadLaws.{part_none, part_past, part_some}

-- a node for which a test holds may stand in the place of node k
abbrev pub LeadsBy : Term → (ℕ → Bool) → ℕ → Type 0
LeadsBy root t k = (j : ℕ) × Leads root k j × (t j ≡ true)

-- it holds of no node outside the script
abbrev pub IsInside : Term → (ℕ → Bool) → Type 0
IsInside root t = (k : ℕ) → length (nodes_of root) ≤ k → t k ≡ false

-- outside the script there is an empty block
pub outside : (root : Term) (k : ℕ) → length (nodes_of root) ≤ k → term_at root k ≡ empty_block k
unfolding term_at
outside root k le = get_or_past (nodes_of root) k (empty_block k) le

-- in whose place nothing else stands
stuck : (root : Term) (k j : ℕ) → length (nodes_of root) ≤ k → Leads root k j → j ≡ k
stuck root k j le itself = refl
stuck root k j le (through_part i p l) = absurd (cc (sym p ∙ ap (λ u. passes (shape_of u) (Part i)) (outside root k le)))
stuck root k j le (through_inner i p l) = absurd (cc (sym p ∙ ap (λ u. passes (shape_of u) (Inner i 1)) (outside root k le)))

pub nothing_past : (root : Term) (t : ℕ → Bool) (k : ℕ) → length (nodes_of root) ≤ k → IsInside root t → LeadsBy root t k → ⊥
nothing_past root t k le inside (j, l, e) =
    let at : j ≡ k = stuck root k j le l in
    cc (sym (inside j (omega (arith, le, at))) ∙ e)

-- no part is passed through in both ways
arm_once : (b : Bool) → (not b || false) ≡ true → (b || false) ≡ true → ⊥
arm_once true p q = cc p
arm_once false p q = cc q

choice_once : (f : NodeForm) → not (is_choice f) ≡ true → is_if_true f ≡ true → ⊥
choice_once form.IfTrue p q = cc p
choice_once f p q = cc q

once : (g f : NodeForm) → passes_part g f ≡ true → passes_inner g f ≡ true → ⊥
once form.If f p q = arm_once (is_arm f) p q
once form.Chosen f p q = choice_once f p q
once g f p q = cc q

either : (b c : Bool) (o u : Option ℕ) (n : ℕ) → (if b then o else (if c then u else None)) ≡ Some n → ((b ≡ true) × (o ≡ Some n)) ⊎ ((c ≡ true) × (u ≡ Some n))
either true c o u n e = inl (refl, e)
either false true o u n e = inr (refl, e)
either false false o u n e = absurd (cc e)

inner_some : (root : Term) (k i n : ℕ) (o : Option ℕ) → part_number root k i ≡ o → value_part root o ≡ Some n → nesting.part_number root (nesting.part_number root k i) 1 ≡ n
inner_some root k i n None is e = absurd (cc e)
inner_some root k i n (Some p) is e = ap (λ m. nesting.part_number root m 1) (part_some root k i p is) ∙ part_some root p 1 n e

-- what a part leads to, its node leads to
pub leads_on : (root : Term) (t : ℕ → Bool) (k i n : ℕ) → passed root k i ≡ Some n → LeadsBy root t n → LeadsBy root t k
leads_on root t k i n e (j, l, d) =
    elim (either (passes (shape_at root k) (Part i)) (passes (shape_at root k) (Inner i 1)) (part_number root k i) (value_part root (part_number root k i)) n e) [
      | inl h ↦ (j, through_part i h.0 (subst (λ m. Leads root m j) (sym (part_some root k i n h.1)) l), d)
      | inr h ↦ (j, through_inner i h.0 (subst (λ m. Leads root m j) (sym (inner_some root k i n (part_number root k i) refl h.1)) l), d)
    ]

-- and what no part leads to, it does not lead to
abbrev pub Nowhere : Term → (ℕ → Bool) → ℕ → Type 0
Nowhere root t k = (i n : ℕ) → i < part_count root k → passed root k i ≡ Some n → LeadsBy root t n → ⊥

by_part : (root : Term) (t : ℕ → Bool) (k i j : ℕ) (o : Option ℕ) → part_number root k i ≡ o → IsInside root t → Nowhere root t k → passes (shape_at root k) (Part i) ≡ true → Leads root (nesting.part_number root k i) j → t j ≡ true → ⊥
by_part root t k i j None is inside none p l e =
    nothing_past root t (length (nodes_of root)) (omega arith) inside (j, subst (λ m. Leads root m j) (part_none root k i is) l, e)
by_part root t k i j (Some n) is inside none p l e =
    none i n (slice_get_within (numbers_of (parts_of (term_at root k))) i n is)
    (ap (λ b. if b then part_number root k i else (if passes (shape_at root k) (Inner i 1) then value_part root (part_number root k i) else None)) p ∙ is)
    (j, subst (λ m. Leads root m j) (part_some root k i n is) l, e)

not_part : (root : Term) (k i : ℕ) (b : Bool) → passes (shape_at root k) (Part i) ≡ b → passes (shape_at root k) (Inner i 1) ≡ true → passes (shape_at root k) (Part i) ≡ false
not_part root k i true is q = absurd (once (shape_at root k).form _ is q)
not_part root k i false is q = is

by_value : (root : Term) (t : ℕ → Bool) (k i j p : ℕ) (o : Option ℕ) → part_number root k i ≡ Some p → part_number root p 1 ≡ o → IsInside root t → Nowhere root t k → passes (shape_at root k) (Inner i 1) ≡ true → Leads root (nesting.part_number root p 1) j → t j ≡ true → ⊥
by_value root t k i j p None at is inside none q l e =
    nothing_past root t (length (nodes_of root)) (omega arith) inside (j, subst (λ m. Leads root m j) (part_none root p 1 is) l, e)
by_value root t k i j p (Some n) at is inside none q l e =
    none i n (slice_get_within (numbers_of (parts_of (term_at root k))) i p at)
    (ap (λ b. if b then part_number root k i else (if passes (shape_at root k) (Inner i 1) then value_part root (part_number root k i) else None)) (not_part root k i (passes (shape_at root k) (Part i)) refl q)
    ∙ ap (λ b. if b then value_part root (part_number root k i) else None) q ∙ ap (value_part root) at ∙ is)
    (j, subst (λ m. Leads root m j) (part_some root p 1 n is) l, e)

by_inner : (root : Term) (t : ℕ → Bool) (k i j : ℕ) (o : Option ℕ) → part_number root k i ≡ o → IsInside root t → Nowhere root t k → passes (shape_at root k) (Inner i 1) ≡ true → Leads root (nesting.part_number root (nesting.part_number root k i) 1) j → t j ≡ true → ⊥
by_inner root t k i j None is inside none q l e =
    let end : nesting.part_number root (nesting.part_number root k i) 1 ≡ length (nodes_of root) = ap (λ m. nesting.part_number root m 1) (part_none root k i is) ∙ part_past root (length (nodes_of root)) 1 (omega arith) in
    nothing_past root t (length (nodes_of root)) (omega arith) inside (j, subst (λ m. Leads root m j) end l, e)
by_inner root t k i j (Some p) is inside none q l e =
    by_value root t k i j p (part_number root p 1) is refl inside none q (subst (λ m. Leads root (nesting.part_number root m 1) j) (part_some root k i p is) l) e

pub leads_nowhere : (root : Term) (t : ℕ → Bool) (k : ℕ) → IsInside root t → t k ≡ false → Nowhere root t k → LeadsBy root t k → ⊥
leads_nowhere root t k inside un none (j, itself, e) = cc (sym e ∙ un)
leads_nowhere root t k inside un none (j, through_part i p l, e) = by_part root t k i j (part_number root k i) refl inside none p l e
leads_nowhere root t k inside un none (j, through_inner i q l, e) = by_inner root t k i j (part_number root k i) refl inside none q l e
