-- The numbers of a tree's nodes, and the parts that they name.
use Rattle.std.proofs.Common.{◌≡◌, ℕ, zero, suc, ◌+◌, ◌-◌, ◌<◌, ◌≤◌, ◌⊎◌, inl, inr, ⊎_elim, List, [], ◌∷◌, ◌++◌, length, map, refl, sym, ap, subst, ◌∙◌, arith, Option, Some, None, Bool, true, false, slice_get, length-append}
use Rattle.std.specs.Prelude.{if◌then◌else◌, ◌==◌}
use Rattle.std.proofs.lemmas.Bool.{cases_lt, eqb-true, eq-eqb, false_from_ne_true}
use Rattle.std.proofs.lemmas.List.{map-append}
use Rattle.model_syntax.specs.declared.node.NodeForm.{NodeForm}
use Rattle.model_syntax.specs.Nodes.{Node, Nodes, node, none, more, size, sizes, Numbered, numbers, numbered, numbered_parts, or_else, find, find_part}

-- n numbers, one after the other, the first being k
unfoldable pub count_up : ℕ → ℕ → List ℕ
count_up k zero = []
count_up k (suc n) = k ∷ count_up (k + 1) n

count_up-append : (k m n : ℕ) → count_up k m ++ count_up (k + m) n ≡ count_up k (m + n)
unfolding count_up
count_up-append k zero n = let e : k + 0 ≡ k = omega arith in let f : 0 + n ≡ n = omega arith in rw (e, f) refl
count_up-append k (suc m) n =
    let e : k + suc m ≡ k + 1 + m = omega arith in
    let f : suc m + n ≡ suc (m + n) = omega arith in
    rw (e, f) (ap (λ l. k ∷ l) (count_up-append (k + 1) m n))

mutual
  unfolding numbered numbered_parts size sizes count_up

  -- The nodes have the numbers from the first one on, each once and in order.
  pub numbered-numbers : (k : ℕ) (p : Node) → map (λ e. e.number) (numbered k p) ≡ count_up k (size p)
  numbered-numbers k (node f ps) = ap (λ l. k ∷ l) (parts-numbers (k + 1) ps)

  parts-numbers : (k : ℕ) (ps : Nodes) → map (λ e. e.number) (numbered_parts k ps) ≡ count_up k (sizes ps)
  parts-numbers k none = refl
  parts-numbers k (more p ps) =
      map-append (λ e. e.number) (numbered k p) (numbered_parts (k + size p) ps)
      ∙ ap (λ l. l ++ map (λ e. e.number) (numbered_parts (k + size p) ps)) (numbered-numbers k p)
      ∙ ap (λ l. count_up k (size p) ++ l) (parts-numbers (k + size p) ps)
      ∙ count_up-append k (size p) (sizes ps)

mutual
  unfolding numbered numbered_parts size sizes

  -- There are as many as the tree has nodes.
  pub numbered-length : (k : ℕ) (p : Node) → length (numbered k p) ≡ size p
  numbered-length k (node f ps) = ap suc (parts-length (k + 1) ps)

  pub parts-length : (k : ℕ) (ps : Nodes) → length (numbered_parts k ps) ≡ sizes ps
  parts-length k none = refl
  parts-length k (more p ps) = omega (arith, length-append (numbered k p) (numbered_parts (k + size p) ps), numbered-length k p, parts-length (k + size p) ps)

pub size-positive : (p : Node) → 0 < size p
unfolding size
size-positive (node f ps) = omega arith

other_number : (n k : ℕ) → (n ≡ k → ⊥) → (n == k) ≡ false
other_number n k h = false_from_ne_true (n == k) (λ e. h (eqb-true n k e))

mutual
  unfolding find find_part size sizes

  -- A number past a tree names no node of it, and none before it does.
  pub find-past : (n k : ℕ) (p : Node) → (n < k) ⊎ (k + size p ≤ n) → find n k p ≡ None
  find-past n k (node f ps) h = rw (other_number n k (λ e. ⊎_elim (λ l. omega (arith, l, e)) (λ l. omega (arith, l, e)) h)) (find_part-past n (k + 1) ps (⊎_elim (λ l. inl (omega (arith, l))) (λ l. inr (omega (arith, l))) h))

  find_part-past : (n k : ℕ) (ps : Nodes) → (n < k) ⊎ (k + sizes ps ≤ n) → find_part n k ps ≡ None
  find_part-past n k none h = refl
  find_part-past n k (more p ps) h =
      rw (find-past n k p (⊎_elim (λ l. inl l) (λ l. inr (omega (arith, l))) h))
      (find_part-past n (k + size p) ps (⊎_elim (λ l. inl (omega (arith, l))) (λ l. inr (omega (arith, l))) h))

same_number : (k : ℕ) → (k == k) ≡ true
same_number k = eq-eqb k k refl

-- The first number names the tree itself.
pub find-first : (k : ℕ) (p : Node) → find k k p ≡ Some p
unfolding find
find-first k (node f ps) = rw (same_number k) refl

some_none : {A C : Type 0} (x : A) → Some x ≡ None → C
some_none x e = absurd (cc)

-- A number that names a node lies within the tree.
pub find-from : (n k : ℕ) (p q : Node) → find n k p ≡ Some q → k ≤ n
find-from n k p q e = ⊎_elim (λ l. some_none q (sym e ∙ find-past n k p (inl l))) (λ l. l) (cases_lt n k)

find_part-from : (n k : ℕ) (ps : Nodes) (q : Node) → find_part n k ps ≡ Some q → k ≤ n
find_part-from n k ps q e = ⊎_elim (λ l. some_none q (sym e ∙ find_part-past n k ps (inl l))) (λ l. l) (cases_lt n k)

or_else_cases : {C : Type 0} (o u : Option Node) (q : Node) → or_else o u ≡ Some q → (o ≡ Some q → C) → (o ≡ None → u ≡ Some q → C) → C
or_else_cases (Some p) u q e f g = f e
or_else_cases None u q e f g = g refl e

if_cases : {C : Type 0} (b : Bool) (x y z : Option Node) → (if b then x else y) ≡ z → (b ≡ true → x ≡ z → C) → (b ≡ false → y ≡ z → C) → C
if_cases true x y z e f g = f refl e
if_cases false x y z e f g = g refl e

mutual
  unfolding find find_part

  -- What a node within a tree names, the tree names by the same number.
  pub find-within : (m n k : ℕ) (t q r : Node) → find n k t ≡ Some q → find m n q ≡ Some r → find m k t ≡ Some r
  find-within m n k (node f ps) q r e d =
      if_cases (n == k) (Some (node f ps)) (find_part n (k + 1) ps) (Some q) e
      (λ i j. let c : node f ps ≡ q = cc in subst (λ z. find m k z ≡ Some r) (sym c) (subst (λ z. find m z q ≡ Some r) (eqb-true n k i) d))
      (λ i j. let a : k + 1 ≤ n = find_part-from n (k + 1) ps q j in let b : n ≤ m = find-from m n q r d in
      rw (other_number m k (λ c. omega (arith, a, b, c))) (find_part-within m n (k + 1) ps q r j d))

  find_part-within : (m n k : ℕ) (ps : Nodes) (q r : Node) → find_part n k ps ≡ Some q → find m n q ≡ Some r → find_part m k ps ≡ Some r
  find_part-within m n k none q r e d = some_none q (sym e)
  find_part-within m n k (more p ps) q r e d =
      or_else_cases (find n k p) (find_part n (k + size p) ps) q e
      (λ i. ap (λ z. or_else z (find_part m (k + size p) ps)) (find-within m n k p q r i d))
      (λ i j. let a : k + size p ≤ n = find_part-from n (k + size p) ps q j in let b : n ≤ m = find-from m n q r d in
      ap (λ z. or_else z (find_part m (k + size p) ps)) (find-past m k p (inr (omega (arith, a, b)))) ∙ find_part-within m n (k + size p) ps q r j d)

-- the part at a place
unfoldable pub part_at : ℕ → Nodes → Option Node
part_at j none = None
part_at zero (more p ps) = Some p
part_at (suc j) (more p ps) = part_at j ps

numbers-from : (k j m : ℕ) (ps : Nodes) → slice_get (numbers k ps) j ≡ Some m → k ≤ m
unfolding numbers
numbers-from k j m none e = some_none m (sym e)
numbers-from k zero m (more p ps) e = let i : k ≡ m = cc in omega (arith, i)
numbers-from k (suc j) m (more p ps) e = let i : k + size p ≤ m = numbers-from (k + size p) j m ps e in omega (arith, i)

find_part-at : (k j m : ℕ) (ps : Nodes) (q : Node) → slice_get (numbers k ps) j ≡ Some m → part_at j ps ≡ Some q → find_part m k ps ≡ Some q
unfolding numbers part_at find_part
find_part-at k j m none q e d = some_none q (sym d)
find_part-at k zero m (more p ps) q e d =
    let i : k ≡ m = cc in
    subst (λ z. or_else (find z k p) (find_part z (k + size p) ps) ≡ Some q) i (ap (λ z. or_else z (find_part k (k + size p) ps)) (find-first k p ∙ d))
find_part-at k (suc j) m (more p ps) q e d =
    let a : k + size p ≤ m = numbers-from (k + size p) j m ps e in
    ap (λ z. or_else z (find_part m (k + size p) ps)) (find-past m k p (inr a)) ∙ find_part-at (k + size p) j m ps q e d

find-below : (m n : ℕ) (f : NodeForm) (ps : Nodes) → n + 1 ≤ m → find m n (node f ps) ≡ find_part m (n + 1) ps
unfolding find
find-below m n f ps l = rw (other_number m n (λ c. omega (arith, l, c))) refl

-- Numbers name their parts: where n names a node, the numbers behind it name the node's parts, in order.
pub find-part : (n k j m : ℕ) (t q : Node) (f : NodeForm) (ps : Nodes) → find n k t ≡ Some (node f ps) → slice_get (numbers (n + 1) ps) j ≡ Some m → part_at j ps ≡ Some q → find m k t ≡ Some q
find-part n k j m t q f ps e h d =
    find-within m n k t (node f ps) q e (find-below m n f ps (numbers-from (n + 1) j m ps h) ∙ find_part-at (n + 1) j m ps q h d)

get-left : {A : Type 0} (xs ys : List A) (i : ℕ) (x : A) → slice_get xs i ≡ Some x → slice_get (xs ++ ys) i ≡ Some x
get-left [] ys i x e = some_none x (sym e)
get-left (y ∷ xs) ys zero x e = e
get-left (y ∷ xs) ys (suc i) x e = get-left xs ys i x e

get-right : {A : Type 0} (xs ys : List A) (i : ℕ) → slice_get (xs ++ ys) (length xs + i) ≡ slice_get ys i
get-right [] ys i = let e : 0 + i ≡ i = omega arith in ap (slice_get ys) e
get-right (x ∷ xs) ys i = let e : suc (length xs) + i ≡ suc (length xs + i) = omega arith in ap (slice_get (x ∷ (xs ++ ys))) e ∙ get-right xs ys i

form_of : Node → NodeForm
form_of (node f ps) = f

parts_of : Node → Nodes
parts_of (node f ps) = ps

entry : ℕ → NodeForm → Nodes → Numbered
entry n f ps = record { number = n; form = f; parts = numbers (n + 1) ps }

same_entry : (n k : ℕ) (f g : NodeForm) (ps qs : Nodes) → k ≡ n → node g qs ≡ node f ps → entry k g qs ≡ entry n f ps
unfolding form_of parts_of
same_entry n k f g ps qs d e = ap (λ z. entry z g qs) d ∙ ap (λ z. entry n z qs) (ap form_of e) ∙ ap (λ z. entry n f z) (ap parts_of e)

mutual
  unfolding find find_part numbered numbered_parts entry

  -- The list of numbered nodes has at each number the node that it names, with the numbers of its parts.
  pub numbered-find : (n k : ℕ) (t : Node) (f : NodeForm) (ps : Nodes) → find n k t ≡ Some (node f ps) → slice_get (numbered k t) (n - k) ≡ Some (record { number = n; form = f; parts = numbers (n + 1) ps })
  numbered-find n k (node g qs) f ps e =
      if_cases (n == k) (Some (node g qs)) (find_part n (k + 1) qs) (Some (node f ps)) e
      (λ i j. let d : n ≡ k = eqb-true n k i in let c : n - k ≡ 0 = omega (arith, d) in let u : node g qs ≡ node f ps = cc in
      ap (slice_get (entry k g qs ∷ numbered_parts (k + 1) qs)) c ∙ ap Some (same_entry n k f g ps qs (sym d) u))
      (λ i j. let l : k + 1 ≤ n = find_part-from n (k + 1) qs (node f ps) j in let c : n - k ≡ suc (n - (k + 1)) = omega (arith, l) in
      ap (slice_get (entry k g qs ∷ numbered_parts (k + 1) qs)) c ∙ numbered_parts-find n (k + 1) qs f ps j)

  numbered_parts-find : (n k : ℕ) (qs : Nodes) (f : NodeForm) (ps : Nodes) → find_part n k qs ≡ Some (node f ps) → slice_get (numbered_parts k qs) (n - k) ≡ Some (record { number = n; form = f; parts = numbers (n + 1) ps })
  numbered_parts-find n k none f ps e = some_none (node f ps) (sym e)
  numbered_parts-find n k (more q qs) f ps e =
      or_else_cases (find n k q) (find_part n (k + size q) qs) (node f ps) e
      (λ i. get-left (numbered k q) (numbered_parts (k + size q) qs) (n - k) _ (numbered-find n k q f ps i))
      (λ i j. let l : k + size q ≤ n = find_part-from n (k + size q) qs (node f ps) j in
      let c : n - k ≡ length (numbered k q) + (n - (k + size q)) = omega (arith, l, numbered-length k q) in
      ap (slice_get (numbered k q ++ numbered_parts (k + size q) qs)) c ∙ get-right (numbered k q) (numbered_parts (k + size q) qs) (n - (k + size q)) ∙ numbered_parts-find n (k + size q) qs f ps j)
