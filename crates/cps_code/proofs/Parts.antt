-- The number of a part finds the part, stands behind the node's own number, and is one of the script's.
use Rattle.std.proofs.Common.{◌≡◌, ◌∙◌, ℕ, zero, suc, ◌+◌, ◌-◌, ◌<◌, ◌≤◌, List, [], ◌∷◌, ◌++◌, length, length-append, get_or, Option, Some, None, slice_get, refl, ap, subst, sym, arith, inl, inr}
use Rattle.std.specs.Option.{IfSome}
use Rattle.std.proofs.lemmas.Bool.{cases_lt}
use Rattle.std.proofs.lemmas.Option.{slice_get-get_or}
use Rattle.std.proofs.lemmas.List.{get_or_past, get_or-append_right, get_or_append_left}
use Rattle.model_syntax.specs.Nodes.{Node, Nodes, node, none, more, size}
use Rattle.model_run.specs.Terms.{Term, Terms, Numbered, no_terms, and_then, term, terms, nodes_of, nodes_of_all, empty_block, nth_part, part_of, parts_of, term_at, Found, FoundAll}
use Rattle.model_run.proofs.Found.{size_of, term_found}
use Rattle.cps_code.specs.Rows.{numbers_of, part_number, part_count}
use Rattle.cps_code.specs.Script.{ArePartsBehind}

nth_at : (root : Term) (ps : Terms) (i p : ℕ) → FoundAll root ps → slice_get (numbers_of ps) i ≡ Some p → term_at root p ≡ nth_part root ps i
nth_at root no_terms i p h e = absurd (cc e)
nth_at root (and_then (Numbered k f qs) ts) zero p h e =
    let at : k ≡ p = cc e in
    subst (λ (j : ℕ). term_at root j ≡ Numbered k f qs) at h.0.0
nth_at root (and_then t ts) (suc i) p h e = nth_at root ts i p h.1 e

part_at : (root t : Term) (i p : ℕ) → Found root t → slice_get (numbers_of (parts_of t)) i ≡ Some p → term_at root p ≡ part_of root t i
part_at root (Numbered k f ps) i p h e = nth_at root ps i p h.1 e

pub part_found : (root : Term) → Found root root → (k i : ℕ) (o : Option ℕ) → o ≡ part_number root k i → IfSome o (λ p. term_at root p ≡ part_of root (term_at root k) i)
part_found root found k i None is = tt
part_found root found k i (Some p) is = part_at root (term_at root k) i p (term_found root found k) (sym is)

size_some : (q : Node) → 0 < size q
unfolding size
size_some (node f ps) = omega arith

-- The parts of a node stand behind it and before its end.
part_from : (k i p : ℕ) (ps : Nodes) → slice_get (numbers_of (terms k ps)) i ≡ Some p → (k + i ≤ p) × (p < k + length (nodes_of_all (terms k ps)))
part_from k i p none e = absurd (cc e)
part_from k zero p (more (node f qs) ps) e =
    let at : k ≡ p = cc e in
    let len : length (nodes_of (term k (node f qs)) ++ nodes_of_all (terms (k + size (node f qs)) ps)) ≡ length (nodes_of (term k (node f qs))) + length (nodes_of_all (terms (k + size (node f qs)) ps)) = length-append (nodes_of (term k (node f qs))) (nodes_of_all (terms (k + size (node f qs)) ps)) in
    (omega (arith, at), omega (arith, at, len))
part_from k (suc i) p (more q ps) e =
    let h : ((k + size q) + i ≤ p) × (p < (k + size q) + length (nodes_of_all (terms (k + size q) ps))) = part_from (k + size q) i p ps e in
    let h0 : (k + size q) + i ≤ p = h.0 in
    let h1 : p < (k + size q) + length (nodes_of_all (terms (k + size q) ps)) = h.1 in
    let s : length (nodes_of (term k q)) ≡ size q = size_of k q in
    let len : length (nodes_of (term k q) ++ nodes_of_all (terms (k + size q) ps)) ≡ length (nodes_of (term k q)) + length (nodes_of_all (terms (k + size q) ps)) = length-append (nodes_of (term k q)) (nodes_of_all (terms (k + size q) ps)) in
    (omega (arith, h0, size_some q), omega (arith, h1, s, len))

mutual
  behind_term : (k j : ℕ) (q : Node) (i n p : ℕ) → n < length (nodes_of (term k q)) → slice_get (numbers_of (parts_of (get_or (nodes_of (term k q)) n (empty_block j)))) i ≡ Some p → (k + n + i < p) × (p < k + length (nodes_of (term k q)))
  behind_term k j (node f ps) i zero p lt e =
      let h : (suc k + i ≤ p) × (p < suc k + length (nodes_of_all (terms (suc k) ps))) = part_from (suc k) i p ps e in
      let h0 : suc k + i ≤ p = h.0 in
      let h1 : p < suc k + length (nodes_of_all (terms (suc k) ps)) = h.1 in
      (omega (arith, h0), omega (arith, h1))
  behind_term k j (node f ps) i (suc n) p lt e =
      let le : n < length (nodes_of_all (terms (suc k) ps)) = omega arith in
      let h : (suc k + n + i < p) × (p < suc k + length (nodes_of_all (terms (suc k) ps))) = behind_terms (suc k) j ps i n p le e in
      let h0 : suc k + n + i < p = h.0 in
      let h1 : p < suc k + length (nodes_of_all (terms (suc k) ps)) = h.1 in
      (omega (arith, h0), omega (arith, h1))

  behind_terms : (k j : ℕ) (ps : Nodes) (i n p : ℕ) → n < length (nodes_of_all (terms k ps)) → slice_get (numbers_of (parts_of (get_or (nodes_of_all (terms k ps)) n (empty_block j)))) i ≡ Some p → (k + n + i < p) × (p < k + length (nodes_of_all (terms k ps)))
  behind_terms k j none i n p lt e = absurd (omega arith)
  behind_terms k j (more q ps) i n p lt e =
      let len : length (nodes_of (term k q) ++ nodes_of_all (terms (k + size q) ps)) ≡ length (nodes_of (term k q)) + length (nodes_of_all (terms (k + size q) ps)) = length-append (nodes_of (term k q)) (nodes_of_all (terms (k + size q) ps)) in
      let s : length (nodes_of (term k q)) ≡ size q = size_of k q in
      elim (cases_lt n (length (nodes_of (term k q)))) [
        | inl lt' ↦
            let h : (k + n + i < p) × (p < k + length (nodes_of (term k q))) = behind_term k j q i n p lt' (ap (λ t. slice_get (numbers_of (parts_of t)) i) (sym (get_or_append_left (nodes_of (term k q)) (nodes_of_all (terms (k + size q) ps)) (empty_block j) n lt')) ∙ e) in
            let h1 : p < k + length (nodes_of (term k q)) = h.1 in
            (h.0, omega (arith, h1, len))
        | inr le ↦
            let lt2 : n - length (nodes_of (term k q)) < length (nodes_of_all (terms (k + size q) ps)) = omega (arith, len, lt, le) in
            let h : ((k + size q) + (n - length (nodes_of (term k q))) + i < p) × (p < (k + size q) + length (nodes_of_all (terms (k + size q) ps))) = behind_terms (k + size q) j ps i (n - length (nodes_of (term k q))) p lt2 (ap (λ t. slice_get (numbers_of (parts_of t)) i) (sym (get_or-append_right (nodes_of (term k q)) (nodes_of_all (terms (k + size q) ps)) _ n (empty_block j) refl le)) ∙ e) in
            let h0 : (k + size q) + (n - length (nodes_of (term k q))) + i < p = h.0 in
            let h1 : p < (k + size q) + length (nodes_of_all (terms (k + size q) ps)) = h.1 in
            (omega (arith, h0, s, le), omega (arith, h1, s, len))
      ]

pub part_behind : (q : Node) (k i p : ℕ) → part_number (term 0 q) k i ≡ Some p → (k + i < p) × (p < length (nodes_of (term 0 q)))
unfolding term_at
part_behind q k i p e = elim (cases_lt k (length (nodes_of (term 0 q)))) [
  | inl lt ↦
      let h : (0 + k + i < p) × (p < 0 + length (nodes_of (term 0 q))) = behind_term 0 k q i k p lt e in
      let h0 : 0 + k + i < p = h.0 in
      let h1 : p < 0 + length (nodes_of (term 0 q)) = h.1 in
      (omega (arith, h0), omega (arith, h1))
  | inr le ↦
      let none : slice_get (numbers_of (parts_of (get_or (nodes_of (term 0 q)) k (empty_block k)))) i ≡ None = ap (λ t. slice_get (numbers_of (parts_of t)) i) (get_or_past (nodes_of (term 0 q)) k (empty_block k) le) in
      absurd (cc (sym none ∙ e))
]

pub part_within : (root : Term) → ArePartsBehind root → (k i : ℕ) (o : Option ℕ) → o ≡ part_number root k i → IfSome o (λ p. (k < p) × (p < length (nodes_of root)))
part_within root behind k i None is = tt
part_within root behind k i (Some p) is =
    let h : (k + i < p) × (p < length (nodes_of root)) = behind k i p (sym is) in
    let h0 : k + i < p = h.0 in
    (omega (arith, h0), h.1)

-- The numbers of a node's parts are no more than there are nodes.
few_numbers : (k m : ℕ) (ns : List ℕ) → ((i p : ℕ) → slice_get ns i ≡ Some p → (k + i < p) × (p < m)) → length ns ≤ m
few_numbers k m [] h = omega arith
few_numbers k m (n ∷ ns) h =
    let last : ℕ = get_or (n ∷ ns) (length ns) 0 in
    let b : (k + length ns < last) × (last < m) = h (length ns) last (slice_get-get_or (n ∷ ns) (length ns) 0 (omega arith)) in
    let b0 : k + length ns < last = b.0 in
    let b1 : last < m = b.1 in
    omega (arith, b0, b1)

pub few_parts : (root : Term) → ArePartsBehind root → (k : ℕ) → part_count root k ≤ length (nodes_of root)
few_parts root behind k = few_numbers k (length (nodes_of root)) (numbers_of (parts_of (term_at root k))) (behind k)
