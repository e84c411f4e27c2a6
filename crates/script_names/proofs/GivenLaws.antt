-- What each node is given: what it sees comes from that, and what its parts are given comes from what it sees.
use Rattle.std.proofs.Math.Logic.{∥∥₁_elim}
use Rattle.std.proofs.Math.Bool.{Bool-set}
use Rattle.std.proofs.Math.Nat.{ℕ_set}
use Rattle.std.proofs.Common.{◌≡◌, ◌∙◌, ◌<◌, ◌+◌, ℕ, zero, suc, List, [], ◌∷◌, ◌++◌, length, length-append, append_assoc, get_or, refl, ap, sym, subst, arith, Bool, true, Option, Some, None}
use Rattle.std.specs.Prelude.{slice_get}
use Rattle.std.proofs.lemmas.List.{append-nil}
use Rattle.std.proofs.Math.Seq.{get_or-append_seam}
use Rattle.model_syntax.specs.declared.node.NodeForm.{NodeForm}
use Rattle.model_syntax.specs.declared.node.NodeForm.TheVariants as form
use Rattle.model_syntax.specs.declared.tree.Tree.{Tree}
use Rattle.model_syntax.specs.TreeNodes.{tree_node}
use Rattle.model_syntax.specs.Nodes.{Node, node}
use Rattle.model_run.specs.State.{Env}
use Rattle.model_run.specs.FrameTable.{is_block}
use Rattle.cps_code.specs.Script.{IsScript}
use Rattle.model_run.specs.Terms.{Term, Terms, Numbered, no_terms, and_then, term, number_of, form_of, forms_of, nodes_of, nodes_of_all, empty_block, part_of, parts_of, term_at, Found}
use Rattle.model_run.specs.Scoping.{Names, names_after, names_around, names_at, names_behind, names_within, scopes_in, scopes_of}
use Rattle.model_run.proofs.Found.{From, FromAll, term_from}
use Rattle.cps_code.specs.Rows.{numbers_of, part_number}
use Rattle.script_names.specs.Given.{are_named, declared, given_at, given_in, given_of, with_name}

-- a node that is there, which is given these names, and so are its parts
abbrev mutual
  pub Given : Term → Names → Term → Type 0
  Given root xs (Numbered k f ps) = (given_at root k ≡ xs) × (names_at root k ≡ names_around f xs) × GivenAll root f 0 (names_around f xs) ps

  pub GivenAll : Term → NodeForm → ℕ → Names → Terms → Type 0
  GivenAll root f i xs no_terms = Unit {0}
  GivenAll root f i xs (and_then t ts) = Given root (names_within f i xs) t × GivenAll root f (suc i) (names_behind (form_of t) xs) ts

-- as many as there are nodes
mutual
  pub given_length : (xs : Names) (t : Term) → length (given_of xs t) ≡ length (nodes_of t)
  given_length xs (Numbered k f ps) = omega (arith, given_in_length f 0 (names_around f xs) ps)

  given_in_length : (f : NodeForm) (i : ℕ) (xs : Names) (ts : Terms) → length (given_in f i xs ts) ≡ length (nodes_of_all ts)
  given_in_length f i xs no_terms = refl
  given_in_length f i xs (and_then t ts) =
      omega (
        arith,
        given_length (names_within f i xs) t,
        given_in_length f (suc i) (names_behind (form_of t) xs) ts,
        length-append (given_of (names_within f i xs) t) (given_in f (suc i) (names_behind (form_of t) xs) ts),
        length-append (nodes_of t) (nodes_of_all ts),
      )

mutual
  scopes_length : (xs : Names) (t : Term) → length (scopes_of xs t) ≡ length (nodes_of t)
  scopes_length xs (Numbered k f ps) = omega (arith, scopes_in_length f 0 (names_around f xs) ps)

  scopes_in_length : (f : NodeForm) (i : ℕ) (xs : Names) (ts : Terms) → length (scopes_in f i xs ts) ≡ length (nodes_of_all ts)
  scopes_in_length f i xs no_terms = refl
  scopes_in_length f i xs (and_then t ts) =
      omega (
        arith,
        scopes_length (names_within f i xs) t,
        scopes_in_length f (suc i) (names_behind (form_of t) xs) ts,
        length-append (scopes_of (names_within f i xs) t) (scopes_in f (suc i) (names_behind (form_of t) xs) ts),
        length-append (nodes_of t) (nodes_of_all ts),
      )

-- what stands in front of the items of a node in the lists of the given and the seen names, and behind them
mutual
  unfolding given_at names_at

  given_from : (root : Term) (n : ℕ) (given given' seen seen' : List Names) (xs : Names) (t : Term) → given_of [] root ≡ given ++ (given_of xs t ++ given') → scopes_of [] root ≡ seen ++ (scopes_of xs t ++ seen') → length given ≡ n → length seen ≡ n → From n t → Given root xs t
  given_from root n given given' seen seen' xs (Numbered j f ps) at names long long' h =
      let here : given_at root j ≡ xs =
      ap (λ i. get_or (given_of [] root) i []) (h.0 ∙ sym long)
      ∙ ap (λ ys. get_or ys (length given) []) at
      ∙ get_or-append_seam given xs (given_in f 0 (names_around f xs) ps ++ given') [] in
      let sees : names_at root j ≡ names_around f xs =
      ap (λ i. get_or (scopes_of [] root) i []) (h.0 ∙ sym long')
      ∙ ap (λ ys. get_or ys (length seen) []) names
      ∙ get_or-append_seam seen (names_around f xs) (scopes_in f 0 (names_around f xs) ps ++ seen') [] in (
        here,
        sees,
        given_all_from root (suc n) (given ++ xs ∷ []) given' (seen ++ names_around f xs ∷ []) seen' f 0 (names_around f xs) ps
            (at ∙ sym (append_assoc given (xs ∷ []) (given_in f 0 (names_around f xs) ps ++ given')))
            (names ∙ sym (append_assoc seen (names_around f xs ∷ []) (scopes_in f 0 (names_around f xs) ps ++ seen')))
            (omega (arith, long, length-append given (xs ∷ [])))
            (omega (arith, long', length-append seen (names_around f xs ∷ []))) h.1,
      )

  given_all_from : (root : Term) (n : ℕ) (given given' seen seen' : List Names) (f : NodeForm) (i : ℕ) (xs : Names) (ts : Terms) → given_of [] root ≡ given ++ (given_in f i xs ts ++ given') → scopes_of [] root ≡ seen ++ (scopes_in f i xs ts ++ seen') → length given ≡ n → length seen ≡ n → FromAll n ts → GivenAll root f i xs ts
  given_all_from root n given given' seen seen' f i xs no_terms at names long long' h = tt
  given_all_from root n given given' seen seen' f i xs (and_then t ts) at names long long' h =
      let ys : Names = names_within f i xs in
      let gs : List Names = given_in f (suc i) (names_behind (form_of t) xs) ts in
      let ss : List Names = scopes_in f (suc i) (names_behind (form_of t) xs) ts in
      let at1 : given_of [] root ≡ given ++ (given_of (names_within f i xs) t ++ (given_in f (suc i) (names_behind (form_of t) xs) ts ++ given')) = at ∙ ap (λ zs. given ++ zs) (append_assoc (given_of (names_within f i xs) t) (given_in f (suc i) (names_behind (form_of t) xs) ts) given') in
      let names1 : scopes_of [] root ≡ seen ++ (scopes_of (names_within f i xs) t ++ (scopes_in f (suc i) (names_behind (form_of t) xs) ts ++ seen')) = names ∙ ap (λ zs. seen ++ zs) (append_assoc (scopes_of (names_within f i xs) t) (scopes_in f (suc i) (names_behind (form_of t) xs) ts) seen') in (
        given_from root n given (given_in f (suc i) (names_behind (form_of t) xs) ts ++ given') seen (scopes_in f (suc i) (names_behind (form_of t) xs) ts ++ seen') (names_within f i xs) t at1 names1 long long' h.0,
        given_all_from root (n + length (nodes_of t)) (given ++ given_of (names_within f i xs) t) given' (seen ++ scopes_of (names_within f i xs) t) seen' f (suc i) (names_behind (form_of t) xs) ts
            (at1 ∙ sym (append_assoc given (given_of (names_within f i xs) t) (given_in f (suc i) (names_behind (form_of t) xs) ts ++ given')))
            (names1 ∙ sym (append_assoc seen (scopes_of (names_within f i xs) t) (scopes_in f (suc i) (names_behind (form_of t) xs) ts ++ seen')))
            (omega (arith, long, given_length (names_within f i xs) t, length-append given (given_of (names_within f i xs) t)))
            (omega (arith, long', scopes_length (names_within f i xs) t, length-append seen (scopes_of (names_within f i xs) t)))
            h.1,
      )

-- every node of a script is there
given_script : (p : Node) → Given (term 0 p) [] (term 0 p)
given_script p =
    given_from (term 0 p) 0 [] [] [] [] [] (term 0 p) (sym (append-nil (given_of [] (term 0 p)))) (sym (append-nil (scopes_of [] (term 0 p)))) refl refl (term_from 0 p)

-- a part, with what it is given
part_given : (root : Term) (f : NodeForm) (i : ℕ) (xs : Names) (ps : Terms) → GivenAll root f i xs ps → (j p : ℕ) → slice_get (numbers_of ps) j ≡ Some p → given_at root p ≡ names_within f (i + j) (names_after (forms_of ps) j xs)
part_given root f i xs no_terms h j p e = absurd (cc e)
part_given root f i xs (and_then (Numbered k g qs) ts) h zero p e =
    let at : k ≡ p = cc e in
    let here : i ≡ i + 0 = omega arith in
    subst (λ m. given_at root m ≡ names_within f (i + 0) xs) at (h.0.0 ∙ ap (λ m. names_within f m xs) here)
part_given root f i xs (and_then t ts) h (suc j) p e =
    let further : suc i + j ≡ i + suc j = omega arith in
    part_given root f (suc i) (names_behind (form_of t) xs) ts h.1 j p e ∙ ap (λ m. names_within f m (names_after (forms_of ts) j (names_behind (form_of t) xs))) further

-- Each node, by its number.
pub record Somewhere (root : Term) (k : ℕ) (t : Term) : Type 0 where
  pub sees : names_at root k ≡ names_around (form_of t) (given_at root k)
  pub parts : (j p : ℕ) → slice_get (numbers_of (parts_of t)) j ≡ Some p → given_at root p ≡ names_within (form_of t) j (names_after (forms_of (parts_of t)) j (names_at root k))

abbrev Somewheres : Term → ℕ → List Term → Type 0
Somewheres root k [] = Unit {0}
Somewheres root k (t ∷ ts) = Somewhere root k t × Somewheres root (suc k) ts

mutual
  somewheres : (root t : Term) (n : ℕ) (xs : Names) (post : List Term) → From n t → Given root xs t → Somewheres root (n + length (nodes_of t)) post → Somewheres root n (nodes_of t ++ post)
  somewheres root (Numbered j f ps) n xs post from h c =
      let given : given_at root n ≡ xs = ap (given_at root) (sym from.0) ∙ h.0 in
      let seen : names_at root n ≡ names_around f xs = ap (names_at root) (sym from.0) ∙ h.1 in (
        record {
          sees = seen ∙ ap (names_around f) (sym given);
          parts = λ i p e. (let none : 0 + i ≡ i = omega arith in part_given root f 0 (names_around f xs) ps h.2 i p e ∙ ap (λ m. names_within f m (names_after (forms_of ps) i (names_around f xs))) none ∙ ap (λ ys. names_within f i (names_after (forms_of ps) i ys)) (sym seen));
        },
        somewheres_all root f 0 (names_around f xs) ps (suc n) post from.1 h.2 (subst (λ m. Somewheres root m post) (omega arith) c),
      )

  somewheres_all : (root : Term) (f : NodeForm) (i : ℕ) (xs : Names) (ts : Terms) (n : ℕ) (post : List Term) → FromAll n ts → GivenAll root f i xs ts → Somewheres root (n + length (nodes_of_all ts)) post → Somewheres root n (nodes_of_all ts ++ post)
  somewheres_all root f i xs no_terms n post from h c = subst (λ m. Somewheres root m post) (omega arith) c
  somewheres_all root f i xs (and_then t ts) n post from h c =
      let long : n + length (nodes_of t ++ nodes_of_all ts) ≡ n + length (nodes_of t) + length (nodes_of_all ts) = omega (arith, length-append (nodes_of t) (nodes_of_all ts)) in
      subst (Somewheres root n) (sym (append_assoc (nodes_of t) (nodes_of_all ts) post))
      (somewheres root t n (names_within f i xs) (nodes_of_all ts ++ post) from.0 h.0
      (somewheres_all root f (suc i) (names_behind (form_of t) xs) ts (n + length (nodes_of t)) post from.1 h.1 (subst (λ m. Somewheres root m post) long c)))

somewhere_at : (root : Term) (n : ℕ) (ts : List Term) → Somewheres root n ts → (i : ℕ) (d : Term) → i < length ts → Somewhere root (n + i) (get_or ts i d)
somewhere_at root n [] c i d lt = absurd (omega (arith, lt))
somewhere_at root n (t ∷ ts) c zero d lt = let e : n ≡ n + 0 = omega arith in subst (λ m. Somewhere root m t) e c.0
somewhere_at root n (t ∷ ts) c (suc i) d lt = let e : suc n + i ≡ n + suc i = omega arith in subst (λ m. Somewhere root m (get_or ts i d)) e (somewhere_at root (suc n) ts c.1 i d (omega (arith, lt)))

pub somewhere : (p : Node) (k : ℕ) → k < length (nodes_of (term 0 p)) → Somewhere (term 0 p) k (term_at (term 0 p) k)
unfolding term_at
somewhere p k lt =
    let here : 0 + k ≡ k = omega arith in
    subst (λ m. Somewhere (term 0 p) m (get_or (nodes_of (term 0 p)) k (empty_block k))) here (somewhere_at (term 0 p) 0 (nodes_of (term 0 p)) (subst (Somewheres (term 0 p) 0) (append-nil (nodes_of (term 0 p))) (somewheres (term 0 p) (term 0 p) 0 [] [] (term_from 0 p) (given_script p) tt)) k (empty_block k) lt)

-- the same of any script
somewhere_in : (root : Term) (k : ℕ) → k < length (nodes_of root) → ((tree : Tree) × (root ≡ term 0 (tree_node tree))) → Somewhere root k (term_at root k)
somewhere_in root k lt s = subst (λ r. Somewhere r k (term_at r k)) (sym s.1) (somewhere (tree_node s.0) k (subst (λ r. k < length (nodes_of r)) s.1 lt))

pub is_seen : (root : Term) → IsScript root → (k : ℕ) → k < length (nodes_of root) → (env : Env) (b : Bool) → b ≡ are_named (names_around (form_of (term_at root k)) (given_at root k)) env → b ≡ are_named (names_at root k) env
is_seen root script k lt env b e = ∥∥₁_elim script (Bool-set b (are_named (names_at root k) env)) (λ s. e ∙ ap (λ xs. are_named xs env) (sym (somewhere_in root k lt s).sees))

block_within : (f : NodeForm) (i : ℕ) (xs : Names) → is_block f ≡ true → names_within f i xs ≡ xs
block_within form.Script i xs e = refl
block_within form.Block i xs e = refl
block_within f i xs e = absurd (cc e)

pub is_seen_at : (root : Term) → IsScript root → (k i p : ℕ) → k < length (nodes_of root) → is_block (form_of (term_at root k)) ≡ true → part_number root k i ≡ Some p → (env : Env) (b : Bool) → b ≡ are_named (given_at root p) env → b ≡ are_named (names_after (forms_of (parts_of (term_at root k))) i (names_at root k)) env
is_seen_at root script k i p lt block at env b e =
    ∥∥₁_elim script (Bool-set b (are_named (names_after (forms_of (parts_of (term_at root k))) i (names_at root k)) env))
    (λ s. e ∙ ap (λ xs. are_named xs env) ((somewhere_in root k lt s).parts i p at ∙ block_within (form_of (term_at root k)) i (names_after (forms_of (parts_of (term_at root k))) i (names_at root k)) block))

pub given_here : (root : Term) (names : List Names) (k : ℕ) → names ≡ given_of [] root → get_or names k [] ≡ given_at root k
unfolding given_at
given_here root names k e = ap (λ xs. get_or xs k []) e

pub among : (root : Term) (names : List Names) (k : ℕ) → names ≡ given_of [] root → k < length (nodes_of root) → k < length names
among root names k e lt = omega (arith, lt, given_length [] root, ap length e)

-- the first part and what it declares
first_names : (f : NodeForm) (xs : Names) (o : Option (List ℕ)) → declared f ≡ o → names_behind f xs ≡ with_name o xs
first_names (form.Declare x) xs o e = ap (λ u. with_name u xs) e
first_names f xs o e = ap (λ u. with_name u xs) e

pub behind_part : (root : Term) (t u : Term) (p : ℕ) (xs : Names) (o : Option (List ℕ)) → slice_get (numbers_of (parts_of t)) 0 ≡ Some p → u ≡ part_of root t 0 → declared (form_of u) ≡ o → names_after (forms_of (parts_of t)) 1 xs ≡ with_name o xs
behind_part root (Numbered k f no_terms) u p xs o e is d = absurd (cc e)
behind_part root (Numbered k f (and_then t ts)) u p xs o e is d = first_names (form_of t) xs o (ap (λ v. declared (form_of v)) (sym is) ∙ d)

pub behind_nothing : (t : Term) (xs : Names) → slice_get (numbers_of (parts_of t)) 0 ≡ None → names_after (forms_of (parts_of t)) 1 xs ≡ xs
behind_nothing (Numbered k f no_terms) xs e = refl
behind_nothing (Numbered k f (and_then t ts)) xs e = absurd (cc e)

-- the script is the node with the number 0
number_first : (p : Node) → number_of (term 0 p) ≡ 0
number_first (node f ps) = refl

number_zero : (root : Term) → IsScript root → number_of root ≡ 0
number_zero root script = ∥∥₁_elim script (ℕ_set (number_of root) 0) (λ s. ap number_of s.1 ∙ number_first (tree_node s.0))

found_first : (root : Term) → Found root root → number_of root ≡ 0 → term_at root 0 ≡ root
found_first (Numbered k f ps) h e = subst (λ m. term_at (Numbered k f ps) m ≡ Numbered k f ps) e h.0

pub first_node : (root : Term) → IsScript root → Found root root → term_at root 0 ≡ root
first_node root script found = found_first root found (number_zero root script)

pub some_node : (root : Term) → 0 < length (nodes_of root)
some_node (Numbered k f ps) = omega arith

pub around_other : (f : NodeForm) (xs : Names) → ((x : List ℕ) (names : List (List ℕ)) → f ≡ form.Function x names → ⊥) → names_around f xs ≡ xs
around_other (form.Function x names) xs h = absurd (h x names refl)
around_other f xs h = refl
