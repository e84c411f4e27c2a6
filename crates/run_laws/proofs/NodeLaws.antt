-- Each node of a script is found by its number, with the names that it sees.
use Rattle.std.proofs.Common.{arith, ◌≡◌, ◌<◌, ◌+◌, ◌∙◌, ap, sym, subst, refl, ℕ, zero, suc, List, [], ◌∷◌, ◌++◌, length, length-append, append_assoc, get_or}
use Rattle.std.proofs.lemmas.List.{append-nil}
use Rattle.std.proofs.Math.Seq.{get_or-append_seam}
use Rattle.model_syntax.specs.declared.node.NodeForm.{NodeForm}
use Rattle.model_syntax.specs.Nodes.{Node}
use Rattle.model_run.specs.Terms.{Term, Terms, Numbered, no_terms, and_then, term, number_of, form_of, forms_of, nodes_of, nodes_of_all, empty_block, nth_part, term_at}
use Rattle.model_run.specs.Around.{Shape}
use Rattle.model_run.specs.Meaning.{shape_of}
use Rattle.model_run.specs.Nesting.{shape_at}
use Rattle.model_run.specs.Scoping.{Names, names_around, names_within, names_behind, scopes_of, scopes_in, names_at, names_after}
use Rattle.model_run.proofs.Found.{From, FromAll, term_from}

abbrev pub shaped : NodeForm → Terms → Shape
shaped f ps = record { form = f; parts = forms_of ps }

-- a node that is there, with what it sees; and so are its parts
abbrev mutual
  pub Real : Term → Names → Term → Type 0
  Real root xs (Numbered k f ps) = (k < length (nodes_of root)) × (shape_at root k ≡ shaped f ps) × (names_at root k ≡ names_around f xs) × (term_at root k ≡ Numbered k f ps) × RealAll root f 0 (names_around f xs) ps

  pub RealAll : Term → NodeForm → ℕ → Names → Terms → Type 0
  RealAll root f i xs no_terms = Unit {0}
  RealAll root f i xs (and_then t ts) = Real root (names_within f i xs) t × RealAll root f (suc i) (names_behind (form_of t) xs) ts

mutual
  scopes_length : (xs : Names) (t : Term) → length (scopes_of xs t) ≡ length (nodes_of t)
  scopes_length xs (Numbered k f ps) = omega (arith, scopes_in_length f 0 (names_around f xs) ps)

  scopes_in_length : (f : NodeForm) (i : ℕ) (xs : Names) (ts : Terms) → length (scopes_in f i xs ts) ≡ length (nodes_of_all ts)
  scopes_in_length f i xs no_terms = refl
  scopes_in_length f i xs (and_then t ts) =
      omega (
        arith,
        scopes_length (names_within f i xs) t,
        scopes_in_length f (suc i) (names_behind (form_of t) xs) ts,
        length-append (scopes_of (names_within f i xs) t) (scopes_in f (suc i) (names_behind (form_of t) xs) ts),
        length-append (nodes_of t) (nodes_of_all ts),
      )

mutual
  unfolding term_at names_at

  real_from : (root : Term) (pre post : List Term) (before behind : List Names) (xs : Names) (t : Term) → nodes_of root ≡ pre ++ (nodes_of t ++ post) → scopes_of [] root ≡ before ++ (scopes_of xs t ++ behind) → length before ≡ length pre → From (length pre) t → Real root xs t
  real_from root pre post before behind xs (Numbered j f ps) at names long h =
      let here : term_at root j ≡ Numbered j f ps =
      ap (λ i. get_or (nodes_of root) i (empty_block i)) h.0
      ∙ ap (λ xs. get_or xs (length pre) (empty_block (length pre))) at
      ∙ get_or-append_seam pre (Numbered j f ps) (nodes_of_all ps ++ post) (empty_block (length pre)) in
      let sees : names_at root j ≡ names_around f xs =
      ap (λ i. get_or (scopes_of [] root) i []) (h.0 ∙ sym long)
      ∙ ap (λ ys. get_or ys (length before) []) names
      ∙ get_or-append_seam before (names_around f xs) (scopes_in f 0 (names_around f xs) ps ++ behind) [] in
      let at' : nodes_of root ≡ (pre ++ Numbered j f ps ∷ []) ++ (nodes_of_all ps ++ post) =
      at ∙ sym (append_assoc pre (Numbered j f ps ∷ []) (nodes_of_all ps ++ post)) in
      let names' : scopes_of [] root ≡ (before ++ names_around f xs ∷ []) ++ (scopes_in f 0 (names_around f xs) ps ++ behind) =
      names ∙ sym (append_assoc before (names_around f xs ∷ []) (scopes_in f 0 (names_around f xs) ps ++ behind)) in
      let len : suc (length pre) ≡ length (pre ++ Numbered j f ps ∷ []) = omega (arith, length-append pre (Numbered j f ps ∷ [])) in
      let long' : length (before ++ names_around f xs ∷ []) ≡ length (pre ++ Numbered j f ps ∷ []) = omega (arith, long, length-append pre (Numbered j f ps ∷ []), length-append before (names_around f xs ∷ [])) in
      let below : j < length (nodes_of root) = subst (λ n. j < n) (sym (ap length at)) (omega (arith, h.0, length-append pre (Numbered j f ps ∷ (nodes_of_all ps ++ post)))) in
      (below, ap shape_of here, sees, here, real_all_from root (pre ++ Numbered j f ps ∷ []) post (before ++ names_around f xs ∷ []) behind f 0 (names_around f xs) ps at' names' long' (subst (λ n. FromAll n ps) len h.1))

  real_all_from : (root : Term) (pre post : List Term) (before behind : List Names) (f : NodeForm) (i : ℕ) (xs : Names) (ts : Terms) → nodes_of root ≡ pre ++ (nodes_of_all ts ++ post) → scopes_of [] root ≡ before ++ (scopes_in f i xs ts ++ behind) → length before ≡ length pre → FromAll (length pre) ts → RealAll root f i xs ts
  real_all_from root pre post before behind f i xs no_terms at names long h = tt
  real_all_from root pre post before behind f i xs (and_then t ts) at names long h =
      let ys : Names = names_within f i xs in
      let zs : List Names = scopes_in f (suc i) (names_behind (form_of t) xs) ts in
      let at1 : nodes_of root ≡ pre ++ (nodes_of t ++ (nodes_of_all ts ++ post)) = at ∙ ap (λ xs. pre ++ xs) (append_assoc (nodes_of t) (nodes_of_all ts) post) in
      let at2 : nodes_of root ≡ (pre ++ nodes_of t) ++ (nodes_of_all ts ++ post) = at1 ∙ sym (append_assoc pre (nodes_of t) (nodes_of_all ts ++ post)) in
      let names1 : scopes_of [] root ≡ before ++ (scopes_of (names_within f i xs) t ++ (scopes_in f (suc i) (names_behind (form_of t) xs) ts ++ behind)) = names ∙ ap (λ xs. before ++ xs) (append_assoc (scopes_of (names_within f i xs) t) (scopes_in f (suc i) (names_behind (form_of t) xs) ts) behind) in
      let names2 : scopes_of [] root ≡ (before ++ scopes_of (names_within f i xs) t) ++ (scopes_in f (suc i) (names_behind (form_of t) xs) ts ++ behind) = names1 ∙ sym (append_assoc before (scopes_of (names_within f i xs) t) (scopes_in f (suc i) (names_behind (form_of t) xs) ts ++ behind)) in
      let len : length pre + length (nodes_of t) ≡ length (pre ++ nodes_of t) = omega (arith, length-append pre (nodes_of t)) in
      let long' : length (before ++ scopes_of (names_within f i xs) t) ≡ length (pre ++ nodes_of t) = omega (arith, long, scopes_length (names_within f i xs) t, length-append pre (nodes_of t), length-append before (scopes_of (names_within f i xs) t)) in (
        real_from root pre (nodes_of_all ts ++ post) before (scopes_in f (suc i) (names_behind (form_of t) xs) ts ++ behind) (names_within f i xs) t at1 names1 long h.0,
        real_all_from root (pre ++ nodes_of t) post (before ++ scopes_of (names_within f i xs) t) behind f (suc i) (names_behind (form_of t) xs) ts at2 names2 long' (subst (λ n. FromAll n ts) len h.1),
      )

-- every node of a script is there
pub real_script : (p : Node) → Real (term 0 p) [] (term 0 p)
real_script p = real_from (term 0 p) [] [] [] [] [] (term 0 p) (sym (append-nil (nodes_of (term 0 p)))) (sym (append-nil (scopes_of [] (term 0 p)))) refl (term_from 0 p)

-- part i, with what it sees
pub real_part : (root : Term) (f : NodeForm) (i : ℕ) (xs : Names) (ps : Terms) → RealAll root f i xs ps → (j : ℕ) → j < length (forms_of ps) → Real root (names_within f (i + j) (names_after (forms_of ps) j xs)) (nth_part root ps j)
real_part root f i xs no_terms h j lt = absurd (omega arith)
real_part root f i xs (and_then t ts) h zero lt = let e : i ≡ i + 0 = omega arith in subst (λ n. Real root (names_within f n xs) t) e h.0
real_part root f i xs (and_then t ts) h (suc j) lt =
    let e : suc i + j ≡ i + suc j = omega arith in
    subst (λ n. Real root (names_within f n (names_after (forms_of ts) j (names_behind (form_of t) xs))) (nth_part root ts j)) e (real_part root f (suc i) (names_behind (form_of t) xs) ts h.1 j (omega arith))

-- a node by its number
pub record Somewhere (root : Term) (t : Term) : Type 0 where
  pub sees : Names
  pub real : Real root sees t

abbrev Somewheres : Term → List Term → Type 0
Somewheres root [] = Unit {0}
Somewheres root (t ∷ ts) = Somewhere root t × Somewheres root ts

mutual
  somewheres_term : (root t : Term) (xs : Names) (post : List Term) → Real root xs t → Somewheres root post → Somewheres root (nodes_of t ++ post)
  somewheres_term root (Numbered j f ps) xs post h c = (record { sees = xs; real = h }, somewheres_all root f 0 (names_around f xs) ps post h.4 c)

  somewheres_all : (root : Term) (f : NodeForm) (i : ℕ) (xs : Names) (ts : Terms) (post : List Term) → RealAll root f i xs ts → Somewheres root post → Somewheres root (nodes_of_all ts ++ post)
  somewheres_all root f i xs no_terms post h c = c
  somewheres_all root f i xs (and_then t ts) post h c =
      subst (Somewheres root) (sym (append_assoc (nodes_of t) (nodes_of_all ts) post)) (somewheres_term root t (names_within f i xs) (nodes_of_all ts ++ post) h.0 (somewheres_all root f (suc i) (names_behind (form_of t) xs) ts post h.1 c))

somewhere_among : (root : Term) (ts : List Term) → Somewheres root ts → (i j : ℕ) → i < length ts → Somewhere root (get_or ts i (empty_block j))
somewhere_among root [] c i j lt = absurd (omega arith)
somewhere_among root (t ∷ ts) c zero j lt = c.0
somewhere_among root (t ∷ ts) c (suc i) j lt = somewhere_among root ts c.1 i j (omega arith)

pub real_at : (root : Term) → Real root [] root → (k : ℕ) → k < length (nodes_of root) → Somewhere root (term_at root k)
unfolding term_at
real_at root h k lt = somewhere_among root (nodes_of root) (subst (Somewheres root) (append-nil (nodes_of root)) (somewheres_term root root [] [] h tt)) k k lt

-- The node with a number has that number.
abbrev CountUp : ℕ → List Term → Type 0
CountUp n [] = Unit {0}
CountUp n (t ∷ ts) = (number_of t ≡ n) × CountUp (suc n) ts

mutual
  count_term : (n : ℕ) (t : Term) (post : List Term) → From n t → CountUp (n + length (nodes_of t)) post → CountUp n (nodes_of t ++ post)
  count_term n (Numbered j f ps) post h c = let e : n + suc (length (nodes_of_all ps)) ≡ suc n + length (nodes_of_all ps) = omega arith in (h.0, count_all (suc n) ps post h.1 (subst (λ m. CountUp m post) e c))

  count_all : (n : ℕ) (ts : Terms) (post : List Term) → FromAll n ts → CountUp (n + length (nodes_of_all ts)) post → CountUp n (nodes_of_all ts ++ post)
  count_all n no_terms post h c = let e : n + 0 ≡ n = omega arith in subst (λ m. CountUp m post) e c
  count_all n (and_then t ts) post h c =
      let e : n + length (nodes_of t ++ nodes_of_all ts) ≡ n + length (nodes_of t) + length (nodes_of_all ts) = omega (arith, length-append (nodes_of t) (nodes_of_all ts)) in
      subst (CountUp n) (sym (append_assoc (nodes_of t) (nodes_of_all ts) post)) (count_term n t (nodes_of_all ts ++ post) h.0 (count_all (n + length (nodes_of t)) ts post h.1 (subst (λ m. CountUp m post) e c)))

count_get : (n : ℕ) (ts : List Term) (i : ℕ) (d : Term) → CountUp n ts → i < length ts → number_of (get_or ts i d) ≡ n + i
count_get n [] i d c lt = absurd (omega arith)
count_get n (t ∷ ts) zero d c lt = omega (arith, c.0)
count_get n (t ∷ ts) (suc i) d c lt = omega (arith, count_get (suc n) ts i d c.1 (omega (arith, lt)))

pub number_at : (p : Node) (k : ℕ) → k < length (nodes_of (term 0 p)) → number_of (term_at (term 0 p) k) ≡ k
unfolding term_at
number_at p k lt = omega (arith, count_get 0 (nodes_of (term 0 p)) k (empty_block k) (subst (CountUp 0) (append-nil (nodes_of (term 0 p))) (count_term 0 (term 0 p) [] (term_from 0 p) tt)) lt)
