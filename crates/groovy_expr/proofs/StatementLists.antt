-- The statements of a block and what separates them, for the calculus.
use Rattle.std.proofs.Common.{◌≡◌, ◌≢◌, ℕ, ◌+◌, ◌<◌, ◌≤◌, Bool, true, false, Option, Some, None, List, [], ◌∷◌, ◌++◌, ◌⊎◌, ⊎_elim, refl, sym, ap, ◌∙◌, subst, arith, leb, le_refl, append_assoc, append-nil, length}
use Rattle.std.proofs.lemmas.Bool.{false≢true}
use Rattle.std.proofs.lemmas.Bool.Decides.{nat_tests}
use Rattle.std.proofs.lemmas.List.{length-map}
use Rattle.std.proofs.lemmas.Option.{slice_get_within}
use Rattle.model_syntax.specs.declared.sign.Sign.TheVariants as sign
use Rattle.model_syntax.specs.declared.word.Word.TheVariants as word
use Rattle.model_syntax.specs.declared.token.Token.{Token}
use Rattle.model_syntax.specs.declared.token.TokenKind.{TokenKind}
use Rattle.model_syntax.specs.declared.token.TokenKind.TheVariants as kind
use Rattle.model_syntax.specs.declared.tree.Stmt.{Stmt}
use Rattle.model_syntax.specs.Stream.{Stream, Places, kinds_of}
use Rattle.model_syntax.specs.Grammar.{MaySeparate, no_separator, separator_line, separator_sign, Separates, separates_line, separates_sign, IsStmt, stmt_if, stmt_while, stmt_for_each, stmt_for_steps, stmt_try_catch, stmt_try_finally, stmt_simple, arm, IsStmts, stmts_none, stmts_some, StmtsRest, stmts_end, stmts_more}
use Rattle.groovy_expr.specs.Answers.{Agrees, Before, Inside, Exact, Refused, kinds}
use Rattle.groovy_expr.specs.Stops.{stops_stmt, stops_stmts}
use Rattle.groovy_expr.specs.Statements.{is_separator, SeparatesTo}
use Rattle.groovy_expr.proofs.Calculus.{Weaker, viable_more, inside_none, inside_more, inside_both, shorter, before, Tail, tail_end, tail_fails}
use Rattle.groovy_expr.proofs.StatementBlocks.{Stmts, Statement, begins_simple, simple_begin}

-- separators, as far as they stand there
pub separates_forward : {K : Stream} {a b : ℕ} → MaySeparate K a b → a ≤ b
separates_forward no_separator = le_refl _
separates_forward (separator_line k r) = let x = separates_forward r in omega arith
separates_forward (separator_sign k r) = let x = separates_forward r in omega arith

pub separate_along : {J K : Stream} {a b : ℕ} (n : ℕ) → MaySeparate K a b → b ≤ n → Before n J K → MaySeparate J a b
separate_along n no_separator le same = no_separator
separate_along {J} {K} {a} n (separator_line k r) le same = let x = separates_forward r in separator_line (same a (omega arith) ∙ k) (separate_along n r le same)
separate_along {J} {K} {a} n (separator_sign k r) le same = let x = separates_forward r in separator_sign (same a (omega arith) ∙ k) (separate_along n r le same)

-- two runs of separators that end where none stands are one
pub separate_once : {K : Stream} {a b c : ℕ} → MaySeparate K a b → MaySeparate K a c → is_separator (K b) ≡ false → is_separator (K c) ≡ false → b ≡ c
separate_once no_separator no_separator f g = refl
separate_once no_separator (separator_line k r) f g = absurd (false≢true (sym f ∙ ap is_separator k))
separate_once no_separator (separator_sign k r) f g = absurd (false≢true (sym f ∙ ap is_separator k))
separate_once (separator_line k r) no_separator f g = absurd (false≢true (sym g ∙ ap is_separator k))
separate_once (separator_line k r) (separator_line l s) f g = separate_once r s f g
separate_once (separator_line k r) (separator_sign l s) f g = absurd (let z : Some kind.Newline ≡ Some (kind.Sign sign.Semicolon) = sym k ∙ l in cc)
separate_once (separator_sign k r) no_separator f g = absurd (false≢true (sym g ∙ ap is_separator k))
separate_once (separator_sign k r) (separator_line l s) f g = absurd (let z : Some kind.Newline ≡ Some (kind.Sign sign.Semicolon) = sym l ∙ k in cc)
separate_once (separator_sign k r) (separator_sign l s) f g = separate_once r s f g

-- separators that were read
pub record SeparatedTo (K : Stream) (a b : ℕ) : Type 0 where
  pub run : MaySeparate K a b
  pub inside : Inside K a b

separate_more : {K : Stream} {a b : ℕ} → MaySeparate K a b → is_separator (K b) ≡ true → MaySeparate K a (b + 1)
separate_more {K} {a} no_separator h = by_token (K a) h refl
  where
    by_token : (t : Option TokenKind) → is_separator t ≡ true → K a ≡ t → MaySeparate K a (a + 1)
    by_token (Some kind.Newline) g e = separator_line e no_separator
    by_token (Some (kind.Sign sign.Semicolon)) g e = separator_sign e no_separator
    by_token t g e = absurd (false≢true g)
separate_more (separator_line k r) h = separator_line k (separate_more r h)
separate_more (separator_sign k r) h = separator_sign k (separate_more r h)

separator_inside : (K : Stream) (a : ℕ) → is_separator (K a) ≡ true → Inside K a (a + 1)
separator_inside K a h = by_token (K a) h refl
  where
    by_token : (t : Option TokenKind) → is_separator t ≡ true → K a ≡ t → Inside K a (a + 1)
    by_token (Some k) g e = inside_more K k a (a + 1) e (inside_none K (a + 1))
    by_token None g e = absurd (false≢true g)

pub separated_start : (K : Stream) (a : ℕ) → SeparatedTo K a a
separated_start K a = record { run = no_separator; inside = inside_none K a }

pub separated_more : {K : Stream} {a b : ℕ} → SeparatedTo K a b → is_separator (K b) ≡ true → SeparatedTo K a (b + 1)
separated_more {K} {a} {b} s h = record { run = separate_more s.run h; inside = inside_both K a b (b + 1) s.inside (separator_inside K b h) }

pub separated_end : {K : Stream} {a b : ℕ} → SeparatedTo K a b → is_separator (K b) ≡ false → SeparatesTo K a b
separated_end s h = record { run = s.run; inside = s.inside; ends = h }

pub may_separate : {K : Stream} {a b : ℕ} → Separates K a b → MaySeparate K a b
may_separate (separates_line k r) = separator_line k r
may_separate (separates_sign k r) = separator_sign k r

pub separates_first : {K : Stream} {a b : ℕ} → Separates K a b → is_separator (K a) ≡ true
separates_first (separates_line k r) = ap is_separator k
separates_first (separates_sign k r) = ap is_separator k

pub some_separators : {K : Stream} {a b : ℕ} → MaySeparate K a b → (b ≡ a → ⊥) → Separates K a b
some_separators no_separator f = absurd (f refl)
some_separators (separator_line k r) f = separates_line k r
some_separators (separator_sign k r) f = separates_sign k r

-- what a statement begins with
abbrev pub begins_stmt : Option TokenKind → Bool
begins_stmt (Some (kind.Word word.If)) = true
begins_stmt (Some (kind.Word word.While)) = true
begins_stmt (Some (kind.Word word.For)) = true
begins_stmt (Some (kind.Word word.Try)) = true
begins_stmt t = begins_simple t

simple_stmt : (t : Option TokenKind) → begins_simple t ≡ true → begins_stmt t ≡ true
simple_stmt (Some (kind.Word word.If)) e = refl
simple_stmt (Some (kind.Word word.While)) e = refl
simple_stmt (Some (kind.Word word.For)) e = refl
simple_stmt (Some (kind.Word word.Try)) e = refl
simple_stmt t e = e

pub stmt_begin : {P : Places} {J : Stream} {y : Stmt} {a b : ℕ} → IsStmt J P y a b → begins_stmt (J a) ≡ true
stmt_begin (stmt_if (arm w o e c k d) ts s) = ap begins_stmt w
stmt_begin (stmt_while w o e c k d) = ap begins_stmt w
stmt_begin (stmt_for_each w o e c k d) = ap begins_stmt w
stmt_begin (stmt_for_steps w o i s e t u c k d) = ap begins_stmt w
stmt_begin (stmt_try_catch w k d c cs o) = ap begins_stmt w
stmt_begin (stmt_try_finally w k d f) = ap begins_stmt w
stmt_begin {P} {J} {y} {a} (stmt_simple r) = simple_stmt (J a) (simple_begin r)

pub begun_no_separator : (t : Option TokenKind) → begins_stmt t ≡ true → is_separator t ≡ false
begun_no_separator (Some kind.Newline) e = absurd (false≢true e)
begun_no_separator (Some (kind.Sign sign.Semicolon)) e = absurd (false≢true e)
begun_no_separator t e = refl

end_no_separator : (t : Option TokenKind) → stops_stmts t ≡ true → is_separator t ≡ false
end_no_separator (Some (kind.Sign sign.BraceClose)) e = refl
end_no_separator t e = absurd (false≢true e)

end_no_stmt : (t : Option TokenKind) → stops_stmts t ≡ true → begins_stmt t ≡ true → ⊥
end_no_stmt (Some (kind.Sign sign.BraceClose)) e f = false≢true f
end_no_stmt t e f = false≢true e

pub separator_stmt_stops : (t : Option TokenKind) → is_separator t ≡ true → stops_stmt t ≡ true
separator_stmt_stops (Some kind.Newline) e = refl
separator_stmt_stops (Some (kind.Sign sign.Semicolon)) e = refl
separator_stmt_stops t e = absurd (false≢true e)

pub stmts_stmt_stops : Weaker stops_stmts stops_stmt
stmts_stmt_stops (Some (kind.Sign sign.BraceClose)) e = refl
stmts_stmt_stops t e = absurd (false≢true e)

pub separate_same : {J : Stream} {a b : ℕ} → MaySeparate J a b → stops_stmt (J b) ≡ true → stops_stmt (J a) ≡ true
separate_same no_separator st = st
separate_same (separator_line k r) st = ap stops_stmt k
separate_same (separator_sign k r) st = ap stops_stmt k

rest_stops : {P : Places} {J : Stream} {ss : List Stmt} {a b : ℕ} → StmtsRest J P ss a b → stops_stmts (J b) ≡ true → stops_stmt (J a) ≡ true
rest_stops (stmts_end k) st = separate_same k (stmts_stmt_stops _ st)
rest_stops {P} {J} {ss} {a} (stmts_more k i r) st = separator_stmt_stops (J a) (separates_first k)

-- the statements that were read
abbrev pub StmtsLoop : Places → Stream → ℕ → List Stmt → ℕ → Type 0
StmtsLoop P K at done n = Tail (Stmts P) (λ K. StmtsRest K P) stops_stmts K at (λ z. done ++ z) n

module _ (K : Stream) (P : Places) where
  -- the first
  module _ {at l : ℕ} (s : SeparatesTo K at l) where
    start : {J : Stream} (n : ℕ) → l ≤ n → Before n J K → MaySeparate J at l
    start n le same = separate_along n s.run le same

    here : {J : Stream} {m : ℕ} → Agrees l J K → MaySeparate J at m → is_separator (J m) ≡ false → m ≡ l
    here {J} same k f = separate_once k (start l (le_refl l) (λ i h. same i (omega arith))) f (ap is_separator (same l (le_refl l)) ∙ s.ends)

    pub stmts_empty : stops_stmts (K l) ≡ true → Exact (Stmts P) stops_stmts K at [] l
    stmts_empty h = record {
      after = separates_forward s.run;
      inside = s.inside;
      spelled = λ J same so. stmts_none (start l (le_refl l) same);
      only = λ J y b same r st. ends_here same r st;
    }
      where
        ends_here : {J : Stream} {y : List Stmt} {b : ℕ} → Agrees l J K → IsStmts J P y at b → stops_stmts (J b) ≡ true → (y ≡ []) × (b ≡ l)
        ends_here {J} same (stmts_none k) st = (refl, here same k (end_no_separator (J _) st))
        ends_here {J} same (stmts_some {m = m} k i r) st =
            let o = here same k (begun_no_separator (J m) (stmt_begin i)) in
            absurd (end_no_stmt (J l) (ap stops_stmts (same l (le_refl l)) ∙ h) (ap (λ z. begins_stmt (J z)) (sym o) ∙ stmt_begin i))

    module _ (h : stops_stmts (K l) ≡ false) where
      begins_here : {J : Stream} {y : List Stmt} {b : ℕ} → Agrees l J K → IsStmts J P y at b → stops_stmts (J b) ≡ true → (x : Stmt) × (ys : List Stmt) × (m : ℕ) × IsStmt J P x l m × StmtsRest J P ys m b × (y ≡ x ∷ ys)
      begins_here {J} same (stmts_none k) st =
          let o = here same k (end_no_separator (J _) st) in
          absurd (false≢true (sym h ∙ ap stops_stmts (sym (same l (le_refl l))) ∙ ap (λ z. stops_stmts (J z)) (sym o) ∙ st))
      begins_here {J} same (stmts_some {s = x} {ss = ys} {m = m} {n = n} k i r) st =
          let o = here same k (begun_no_separator (J m) (stmt_begin i)) in
          (x, ys, n, subst (λ z. IsStmt J P x z n) o i, r, refl)

      pub stmts_fails : {i : ℕ} → Refused (Statement P) stops_stmt K l i → Refused (Stmts P) stops_stmts K at i
      stmts_fails {i} f = let le = separates_forward s.run in let from = f.from in record {
        from = omega arith;
        inside = inside_both K at l i s.inside f.inside;
        never = λ J y b same r st. let q = begins_here (shorter l i from same) r st in f.never J q.0 q.2 same q.3 (rest_stops q.4 st);
        viable = viable_more stmts_stmt_stops (λ J e same so v. (v.0 ∷ [], stmts_some (start i from same) v.1 (stmts_end no_separator))) f.viable;
      }

      pub stmts_first : {x : Stmt} {n : ℕ} → Exact (Statement P) stops_stmt K l x n → StmtsLoop P K at (x ∷ []) n
      stmts_first {x} {n} e = let le = separates_forward s.run in let from = e.after in record {
        after = omega arith;
        inside = inside_both K at l n s.inside e.inside;
        whole = λ J same z b r so. stmts_some (start n from same) (e.spelled J same (rest_stops r so)) r;
        only = λ J y b same r st.
            let q = begins_here (shorter l n from same) r st in
            let o = e.only J q.0 q.2 same q.3 (rest_stops q.4 st) in
            (q.1, subst (λ k. StmtsRest J P q.1 k b) o.1 q.4, q.5 ∙ ap (λ u. u ∷ q.1) o.0);
      }

  -- those behind it
  module _ {at : ℕ} (done : List Stmt) {n l : ℕ} (g : StmtsLoop P K at done n) (s : SeparatesTo K n l) where
    next : {J : Stream} {m : ℕ} → Agrees l J K → MaySeparate J n m → is_separator (J m) ≡ false → m ≡ l
    next same k f = here s same k f

    pub stmts_last : (l ≡ n) ⊎ (stops_stmts (K l) ≡ true) → Exact (Stmts P) stops_stmts K at done l
    stmts_last h = subst (λ us. Exact (Stmts P) stops_stmts K at us l) (append-nil done) (tail_end (λ z. done ++ z) g {x = []} (record {
      after = separates_forward s.run;
      inside = s.inside;
      spelled = λ J same so. stmts_end (start s l (le_refl l) same);
      only = λ J y b same r st. ends_there same r st;
    }))
      where
        ends_there : {J : Stream} {y : List Stmt} {b : ℕ} → Agrees l J K → StmtsRest J P y n b → stops_stmts (J b) ≡ true → (y ≡ []) × (b ≡ l)
        ends_there {J} same (stmts_end k) st = (refl, next same k (end_no_separator (J _) st))
        ends_there {J} same (stmts_more {m = m} k i r) st =
            let o = next same (may_separate k) (begun_no_separator (J m) (stmt_begin i)) in
            ⊎_elim
            (λ e. absurd (false≢true (sym s.ends ∙ ap is_separator (sym (same l (le_refl l))) ∙ ap (λ z. is_separator (J z)) e ∙ separates_first k)))
            (λ e. absurd (end_no_stmt (J l) (ap stops_stmts (same l (le_refl l)) ∙ e) (ap (λ z. begins_stmt (J z)) (sym o) ∙ stmt_begin i)))
            h

    module _ (f : l ≡ n → ⊥) (h : stops_stmts (K l) ≡ false) where
      goes_on : {J : Stream} {y : List Stmt} {b : ℕ} → Agrees l J K → StmtsRest J P y n b → stops_stmts (J b) ≡ true → (x : Stmt) × (ys : List Stmt) × (m : ℕ) × IsStmt J P x l m × StmtsRest J P ys m b × (y ≡ x ∷ ys)
      goes_on {J} same (stmts_end k) st =
          let o = next same k (end_no_separator (J _) st) in
          absurd (false≢true (sym h ∙ ap stops_stmts (sym (same l (le_refl l))) ∙ ap (λ z. stops_stmts (J z)) (sym o) ∙ st))
      goes_on {J} same (stmts_more {s = x} {ss = ys} {m = m} {n = k} sp i r) st =
          let o = next same (may_separate sp) (begun_no_separator (J m) (stmt_begin i)) in
          (x, ys, k, subst (λ z. IsStmt J P x z k) o i, r, refl)

      pub stmts_fails_later : {i : ℕ} → Refused (Statement P) stops_stmt K l i → Refused (Stmts P) stops_stmts K at i
      stmts_fails_later {i} d = let le = separates_forward s.run in let from = d.from in tail_fails (λ z. done ++ z) g (record {
        from = omega arith;
        inside = inside_both K n l i s.inside d.inside;
        never = λ J y b same r st. let q = goes_on (shorter l i from same) r st in d.never J q.0 q.2 same q.3 (rest_stops q.4 st);
        viable = viable_more stmts_stmt_stops (λ J e same so v. (v.0 ∷ [], stmts_more (some_separators (start s i from same) f) v.1 (stmts_end no_separator))) d.viable;
      })

      pub stmts_step : {x : Stmt} {m : ℕ} → Exact (Statement P) stops_stmt K l x m → StmtsLoop P K at (done ++ x ∷ []) m
      stmts_step {x} {m} e = let le = separates_forward s.run in let from = e.after in let first = g.after in record {
        after = omega arith;
        inside = inside_both K at n m g.inside (inside_both K n l m s.inside e.inside);
        whole = λ J same z b r so.
            subst (λ us. IsStmts J P us at b) (sym (append_assoc done (x ∷ []) z))
            (g.whole J (before n m (omega arith) same) (x ∷ z) b (stmts_more (some_separators (start s m from same) f) (e.spelled J same (rest_stops r so)) r) so);
        only = λ J y b same r st.
            let p = g.only J y b (shorter n m (omega arith) same) r st in
            let q = goes_on (shorter l m from same) p.1 st in
            let o = e.only J q.0 q.2 same q.3 (rest_stops q.4 st) in (
              q.1,
              subst (λ k. StmtsRest J P q.1 k b) o.1 q.4,
              p.2 ∙ ap (λ us. done ++ us) q.5 ∙ ap (λ u. done ++ u ∷ q.1) o.0 ∙ sym (append_assoc done (x ∷ []) q.1),
            );
      }

-- a place with a token lies in the text
within : (ts : List Token) (k : ℕ) → kinds ts k ≢ None → k < length ts
within ts k h = by_token (kinds ts k) refl
  where
    by_token : (t : Option TokenKind) → kinds ts k ≡ t → k < length ts
    by_token (Some x) e = subst (λ n. k < n) (length-map ts (λ t. t.kind)) (slice_get_within (kinds_of ts) k x e)
    by_token None e = absurd (h e)

apart : (n l : ℕ) → n ≤ l → (l ≡ n → ⊥) → n < l
apart n l le f = by_test (leb (n + 1) l) refl
  where
    by_test : (t : Bool) → leb (n + 1) l ≡ t → n < l
    by_test true e = grind (arith, nat_tests)
    by_test false e =
        let past_end : l ≤ n = grind (arith, nat_tests) in
        let here : l ≡ n = omega arith in
        absurd (f here)

-- each statement behind separators goes on in the text
pub rest_goes_on : (ts : List Token) {n l m : ℕ} → SeparatesTo (kinds ts) n l → (l ≡ n → ⊥) → l ≤ m → (n < m) × (n < length ts)
rest_goes_on ts {n} {l} {m} s f le =
    let lt : n < l = apart n l (separates_forward s.run) f in
    (omega arith, within ts n (s.inside n (le_refl n) lt))
