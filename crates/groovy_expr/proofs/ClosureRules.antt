-- The rules of closures.
use Rattle.std.proofs.Common.{◌≡◌, ℕ, ◌+◌, ◌<◌, ◌≤◌, Bool, true, false, List, [], ◌∷◌, ◌++◌, refl, sym, ap, ◌∙◌, subst, arith, le_refl, Option, Some, None, leb}
use Rattle.std.proofs.lemmas.Bool.Decides.{nat_tests}
use Rattle.std.proofs.lemmas.Bool.{false≢true}
use Rattle.model_syntax.specs.declared.place.Declared.{Declared}
use Rattle.model_syntax.specs.declared.sign.Sign.TheVariants as sign
use Rattle.model_syntax.specs.declared.word.Word.TheVariants as word
use Rattle.model_syntax.specs.declared.token.TokenKind.{TokenKind}
use Rattle.model_syntax.specs.declared.token.TokenKind.TheVariants as kind
use Rattle.model_syntax.specs.declared.tree.Expr.{Expr}
use Rattle.model_syntax.specs.declared.tree.Expr.TheVariants as expr
use Rattle.model_syntax.specs.declared.tree.Stmt.{Stmt}
use Rattle.model_syntax.specs.Stream.{Stream, Places, Sees, declared}
use Rattle.model_syntax.specs.Lookahead.{has_heads, heads_after_name, is_call, is_named}
use Rattle.model_syntax.specs.Grammar.{type_def, type_name, names_last, names_more, Heads, heads_none, heads_names, heads_typed, IsClosure, closure_headed, closure_plain, IsStmts, stmts_none, stmts_some, stmts_end, no_separator, stmt_simple, simple_evaluate, simple_def, whole_expr, whole_call, arguments_ordered, exprs_last, primary_name}
use Rattle.model_syntax.proofs.GrammarLemmas.{just}
use Rattle.groovy_expr.specs.Answers.{Rule, Agrees, Before, Stands, Exact, Refused, Viable}
use Rattle.groovy_expr.specs.Stops.{stops_closed, stops_stmts}
use Rattle.groovy_expr.proofs.Calculus.{Tok, Ret, Sub, fill_ret, fills_ret, Tail, tail_both, tail_end, tail_sub, sub_fails, tok_ok, tok_bad, ret, tail_fails, inside_none, inside_more, inside_both, alike, split}
use Rattle.groovy_expr.proofs.Steps.{Joins, joins_tok}
use Rattle.groovy_expr.proofs.FirstTokens.{closure_first}
use Rattle.groovy_expr.proofs.BracketRules.{hold, hold_before, hold_at}

-- three tokens of which the lookahead for heads speaks, where they are the same
heads_same : {x y z k l m : Option TokenKind} (b : Bool) → x ≡ k → y ≡ l → z ≡ m → has_heads k l m ≡ b → has_heads x y z ≡ b
heads_same {x} {y} {z} {k} {l} {m} b p q r h = subst (λ u. has_heads u y z ≡ b) (sym p) (subst (λ u. has_heads k u z ≡ b) (sym q) (subst (λ u. has_heads k l u ≡ b) (sym r) h))

-- `}` among them ends the lookahead
close_first : (x y z : Option TokenKind) → x ≡ Some (kind.Sign sign.BraceClose) → has_heads x y z ≡ false
close_first x y z e = subst (λ u. has_heads u y z ≡ false) (sym e) refl

close_second : (x y z w : Option TokenKind) → y ≡ Some (kind.Sign sign.BraceClose) → (b : Bool) → has_heads x y w ≡ b → has_heads x y z ≡ b
close_second x y z w e b h = by_first x (subst (λ u. has_heads x u w ≡ b) e h) (sym e)
  where
    by_first : (x : Option TokenKind) → has_heads x (Some (kind.Sign sign.BraceClose)) w ≡ b → Some (kind.Sign sign.BraceClose) ≡ y → has_heads x y z ≡ b
    by_first (Some (kind.Sign sign.Arrow)) h e = subst (λ u. has_heads (Some (kind.Sign sign.Arrow)) u z ≡ b) e h
    by_first (Some (kind.Name n)) h e = subst (λ u. has_heads (Some (kind.Name n)) u z ≡ b) e h
    by_first (Some (kind.Word word.Def)) h e = subst (λ u. has_heads (Some (kind.Word word.Def)) u z ≡ b) e h
    by_first x h e = subst (λ u. has_heads x u z ≡ b) e h

-- The lookahead is the same in texts that are the same through a `}` behind its first token or later.
heads_through : (b : Bool) (J K : Stream) (a m : ℕ) → a ≤ m → Agrees m J K → Sees K m sign.BraceClose → has_heads (K a) (K (a + 1)) (K (a + 1 + 1)) ≡ b → has_heads (J a) (J (a + 1)) (J (a + 1 + 1)) ≡ b
heads_through b J K a m le same c h = by_place (leb (a + 1) m) (leb (a + 1 + 1) m) refl refl
  where
    by_place : (u v : Bool) → leb (a + 1) m ≡ u → leb (a + 1 + 1) m ≡ v → has_heads (J a) (J (a + 1)) (J (a + 1 + 1)) ≡ b
    by_place u true p q =
        let l : a + 1 + 1 ≤ m = grind (arith, nat_tests) in
        heads_same b (same a le) (same (a + 1) (omega arith)) (same (a + 1 + 1) l) h
    by_place true false p q =
        let l : a + 1 ≤ m = grind (arith, nat_tests) in
        let l' : m < a + 1 + 1 = grind (arith, nat_tests) in
        let here : m ≡ a + 1 = omega arith in
        let e : J (a + 1) ≡ Some (kind.Sign sign.BraceClose) = same (a + 1) l ∙ ap K (sym here) ∙ c in
        close_second (J a) (J (a + 1)) (J (a + 1 + 1)) (K (a + 1 + 1)) e b (heads_same b (same a le) (same (a + 1) l) refl h)
    by_place false false p q =
        let l' : m < a + 1 = grind (arith, nat_tests) in
        let here : m ≡ a = omega arith in
        let e : K a ≡ Some (kind.Sign sign.BraceClose) = ap K (sym here) ∙ c in
        close_first (J a) (J (a + 1)) (J (a + 1 + 1)) (same a le ∙ e) ∙ sym (close_first (K a) (K (a + 1)) (K (a + 1 + 1)) e) ∙ h

close_not_name : (n : List ℕ) → Some (kind.Name n) ≡ Some (kind.Sign sign.BraceOpen) → ⊥
close_not_name n e = cc

-- which of its tokens the lookahead needs, as far as they are known: none behind the first, none behind the second, or all
heads_one : (x : Option TokenKind) → ((n : List ℕ) → x ≡ Some (kind.Name n) → ⊥) → (x ≡ Some (kind.Word word.Def) → ⊥) → (y z k l : Option TokenKind) → has_heads x y z ≡ has_heads x k l
heads_one (Some (kind.Name n)) u v y z k l = absurd (u n refl)
heads_one (Some (kind.Word word.Def)) u v y z k l = absurd (v refl)
heads_one (Some (kind.Sign sign.Arrow)) u v y z k l = refl
heads_one x u v y z k l = refl

heads_two : (x y : Option TokenKind) → ((n : List ℕ) → y ≡ Some (kind.Name n) → ⊥) → (z k : Option TokenKind) → has_heads x y z ≡ has_heads x y k
heads_two x (Some (kind.Name n)) u z k = absurd (u n refl)
heads_two (Some (kind.Name m)) (Some (kind.Sign sign.Arrow)) u z k = refl
heads_two (Some (kind.Name m)) (Some (kind.Sign sign.Comma)) u z k = refl
heads_two (Some (kind.Name m)) y u z k = refl
heads_two (Some (kind.Word word.Def)) y u z k = refl
heads_two (Some (kind.Sign sign.Arrow)) y u z k = refl
heads_two x y u z k = refl

module _ (P : Places) where
  abbrev pub Stmts : Rule (List Stmt)
  Stmts K = IsStmts K P

  -- `x`, `def x` and `x y` before `}`
  short_name : {J : Stream} {a : ℕ} {n : List ℕ} → J a ≡ Some (kind.Name n) → J (a + 1) ≡ Some (kind.Sign sign.BraceClose) → (ss : List Stmt) × IsStmts J P ss a (a + 1)
  short_name {J} {a} {n} h c = (_, stmts_some no_separator (stmt_simple (simple_evaluate (λ e. close_not_name n (sym h ∙ e)) (whole_expr no_call (just (primary_name h))))) (stmts_end no_separator))
    where
      no_call : is_call (J a) (J (a + 1)) (J (a + 1 + 1)) ≡ false
      no_call = subst (λ u. is_call u (J (a + 1)) (J (a + 1 + 1)) ≡ false) (sym h) (subst (λ u. is_call (Some (kind.Name n)) u (J (a + 1 + 1)) ≡ false) (sym c) refl)

  short_def : {J : Stream} {a : ℕ} {n : List ℕ} → J a ≡ Some (kind.Word word.Def) → J (a + 1) ≡ Some (kind.Name n) → (ss : List Stmt) × IsStmts J P ss a (a + 1 + 1)
  short_def h n = (_, stmts_some no_separator (stmt_simple (simple_def h n)) (stmts_end no_separator))

  short_call : {J : Stream} {a : ℕ} {n m : List ℕ} → J a ≡ Some (kind.Name n) → J (a + 1) ≡ Some (kind.Name m) → J (a + 1 + 1) ≡ Some (kind.Sign sign.BraceClose) → (ss : List Stmt) × IsStmts J P ss a (a + 1 + 1)
  short_call {J} {a} {n} {m} h q c = (_, stmts_some no_separator (stmt_simple (simple_evaluate (λ e. close_not_name n (sym h ∙ e)) (whole_call call h (arguments_ordered unnamed (exprs_last (just (primary_name q))))))) (stmts_end no_separator))
    where
      call : is_call (J a) (J (a + 1)) (J (a + 1 + 1)) ≡ true
      call = subst (λ u. is_call u (J (a + 1)) (J (a + 1 + 1)) ≡ true) (sym h) (subst (λ u. is_call (Some (kind.Name n)) u (J (a + 1 + 1)) ≡ true) (sym q) (subst (λ u. is_call (Some (kind.Name n)) (Some (kind.Name m)) u ≡ true) (sym c) refl))

      unnamed : is_named (J (a + 1)) (J (a + 1 + 1)) ≡ false
      unnamed = subst (λ u. is_named u (J (a + 1 + 1)) ≡ false) (sym q) (subst (λ u. is_named (Some (kind.Name m)) u ≡ false) (sym c) refl)

  -- No statements begin at B in a text that goes as K through i and go on behind i.
  abbrev pub Within : Stream → ℕ → ℕ → Type 0
  Within K B i = (J : Stream) (ss : List Stmt) (b : ℕ) → Agrees i J K → IsStmts J P ss B b → stops_stmts (J b) ≡ true → b ≤ i

  close_stops : {t : Option TokenKind} → t ≡ Some (kind.Sign sign.BraceClose) → stops_stmts t ≡ true
  close_stops e = ap stops_stmts e

  abbrev pub close : TokenKind
  close = kind.Sign sign.BraceClose

  module _ (K : Stream) (B i : ℕ) (le : B ≤ i) (within : Within K B i) where
    no_name_at : {n : List ℕ} → K B ≡ Some (kind.Name n) → i ≡ B → ⊥
    no_name_at {n} h e =
        let J : Stream = hold K B close in
        let s = short_name {J = J} (hold_before K B close B (le_refl B) ∙ h) (hold_at K B close) in
        let w = within J s.0 (B + 1) (λ k l. hold_before K B close k (omega arith)) s.1 (close_stops (hold_at K B close)) in
        omega arith

    no_def_at : K B ≡ Some (kind.Word word.Def) → i ≡ B → ⊥
    no_def_at h e =
        let M : Stream = hold K B (kind.Name []) in
        let J : Stream = hold M (B + 1) close in
        let first : J B ≡ Some (kind.Word word.Def) = hold_before M (B + 1) close B (omega arith) ∙ hold_before K B (kind.Name []) B (le_refl B) ∙ h in
        let second : J (B + 1) ≡ Some (kind.Name []) = hold_before M (B + 1) close (B + 1) (le_refl (B + 1)) ∙ hold_at K B (kind.Name []) in
        let s = short_def {J = J} first second in
        let w = within J s.0 (B + 1 + 1) (λ k l. hold_before M (B + 1) close k (omega arith) ∙ hold_before K B (kind.Name []) k (omega arith)) s.1 (close_stops (hold_at M (B + 1) close)) in
        omega arith

    no_call_at : {n m : List ℕ} → K B ≡ Some (kind.Name n) → K (B + 1) ≡ Some (kind.Name m) → i ≡ B + 1 → ⊥
    no_call_at {n} {m} h q e =
        let J : Stream = hold K (B + 1) close in
        let s = short_call {J = J} (hold_before K (B + 1) close B (omega arith) ∙ h) (hold_before K (B + 1) close (B + 1) (le_refl (B + 1)) ∙ q) (hold_at K (B + 1) close) in
        let w = within J s.0 (B + 1 + 1) (λ k l. hold_before K (B + 1) close k (omega arith)) s.1 (close_stops (hold_at K (B + 1) close)) in
        omega arith

    no_def_name_at : {m : List ℕ} → K B ≡ Some (kind.Word word.Def) → K (B + 1) ≡ Some (kind.Name m) → i ≡ B + 1 → ⊥
    no_def_name_at {m} h q e =
        let J : Stream = hold K (B + 1) close in
        let s = short_def {J = J} (hold_before K (B + 1) close B (omega arith) ∙ h) (hold_before K (B + 1) close (B + 1) (le_refl (B + 1)) ∙ q) in
        let w = within J s.0 (B + 1 + 1) (λ k l. hold_before K (B + 1) close k (omega arith)) s.1 (close_stops (hold_at K (B + 1) close)) in
        omega arith

    -- So the lookahead sees the same in every text that goes as K through i.
    pub heads_known : (J : Stream) → Agrees i J K → has_heads (J B) (J (B + 1)) (J (B + 1 + 1)) ≡ has_heads (K B) (K (B + 1)) (K (B + 1 + 1))
    heads_known J same = by_place (leb (B + 1) i) (leb (B + 1 + 1) i) refl refl
      where
        first : J B ≡ K B
        first = same B le

        by_token : (x y z k l : Option TokenKind) → ((n : List ℕ) → x ≡ Some (kind.Name n) → ⊥) → (x ≡ Some (kind.Word word.Def) → ⊥) → has_heads x y z ≡ has_heads x k l
        by_token x y z k l u v = heads_one x u v y z k l

        two : (x y z k : Option TokenKind) → ((n m : List ℕ) → x ≡ Some (kind.Name n) → y ≡ Some (kind.Name m) → ⊥) → ((m : List ℕ) → x ≡ Some (kind.Word word.Def) → y ≡ Some (kind.Name m) → ⊥) → has_heads x y z ≡ has_heads x y k
        two (Some (kind.Name n)) (Some (kind.Name m)) z k u v = absurd (u n m refl refl)
        two (Some (kind.Word word.Def)) (Some (kind.Name m)) z k u v = absurd (v m refl refl)
        two (Some (kind.Name n)) (Some (kind.Sign sign.Arrow)) z k u v = refl
        two (Some (kind.Name n)) (Some (kind.Sign sign.Comma)) z k u v = refl
        two (Some (kind.Name n)) y z k u v = refl
        two (Some (kind.Word word.Def)) y z k u v = refl
        two (Some (kind.Sign sign.Arrow)) y z k u v = refl
        two x y z k u v = refl

        by_place : (u v : Bool) → leb (B + 1) i ≡ u → leb (B + 1 + 1) i ≡ v → has_heads (J B) (J (B + 1)) (J (B + 1 + 1)) ≡ has_heads (K B) (K (B + 1)) (K (B + 1 + 1))
        by_place u true p q =
            let l : B + 1 + 1 ≤ i = grind (arith, nat_tests) in
            heads_same (has_heads (K B) (K (B + 1)) (K (B + 1 + 1))) first (same (B + 1) (omega arith)) (same (B + 1 + 1) l) refl
        by_place true false p q =
            let l : B + 1 ≤ i = grind (arith, nat_tests) in
            let l' : i < B + 1 + 1 = grind (arith, nat_tests) in
            let here : i ≡ B + 1 = omega arith in
            heads_same (has_heads (K B) (K (B + 1)) (K (B + 1 + 1))) first (same (B + 1) l) refl
            (two (K B) (K (B + 1)) (J (B + 1 + 1)) (K (B + 1 + 1)) (λ n m h t. no_call_at h t here) (λ m h t. no_def_name_at h t here))
        by_place false false p q =
            let l' : i < B + 1 = grind (arith, nat_tests) in
            let here : i ≡ B = omega arith in
            heads_same (has_heads (K B) (K (B + 1)) (K (B + 1 + 1))) first refl refl
            (by_token (K B) (J (B + 1)) (J (B + 1 + 1)) (K (B + 1)) (K (B + 1 + 1)) (λ n h. no_name_at h here) (λ h. no_def_at h here))

  -- Where `}` stands in place of a token that is not known, the lookahead is still without heads.
  close_third : (x y z : Option TokenKind) → has_heads x y z ≡ false → has_heads x y (Some close) ≡ false
  close_third (Some (kind.Name n)) (Some (kind.Name m)) z h = refl
  close_third (Some (kind.Name n)) (Some (kind.Sign sign.Arrow)) z h = h
  close_third (Some (kind.Name n)) (Some (kind.Sign sign.Comma)) z h = h
  close_third (Some (kind.Name n)) y z h = refl
  close_third (Some (kind.Word word.Def)) (Some (kind.Name m)) z h = refl
  close_third (Some (kind.Word word.Def)) y z h = refl
  close_third (Some (kind.Sign sign.Arrow)) y z h = h
  close_third x y z h = refl

  close_then : (x y z w : Option TokenKind) → has_heads x y z ≡ false → has_heads x (Some close) w ≡ false
  close_then (Some (kind.Name n)) y z w h = refl
  close_then (Some (kind.Word word.Def)) y z w h = refl
  close_then (Some (kind.Sign sign.Arrow)) y z w h = h
  close_then x y z w h = refl

  module _ (K : Stream) {at : ℕ} (o : K at ≡ Some (kind.Sign sign.BraceOpen)) (h : has_heads (K (at + 1)) (K (at + 1 + 1)) (K (at + 1 + 1 + 1)) ≡ false) where
    within_exact : {ss : List Stmt} {m : ℕ} → Exact Stmts stops_stmts K (at + 1) ss m → Within K (at + 1) m
    within_exact {ss} {m} e J xs b same r st = let q = e.only J xs b same r st in subst (λ k. k ≤ m) (sym q.1) (le_refl m)

    within_refused : {i : ℕ} → Refused Stmts stops_stmts K (at + 1) i → Within K (at + 1) i
    within_refused f J xs b same r st = absurd (f.never J xs b same r st)

    headless : (i : ℕ) → at + 1 ≤ i → Within K (at + 1) i → (J : Stream) → Agrees i J K → has_heads (J (at + 1)) (J (at + 1 + 1)) (J (at + 1 + 1 + 1)) ≡ false
    headless i le w J same = heads_known K (at + 1) i le w J same ∙ h

    at_end : {J : Stream} {x y : Expr} {b : ℕ} (m : ℕ) → (y ≡ x) × (b ≡ m + 1) → IsClosure J P x at (m + 1) → IsClosure J P y at b
    at_end {J} {x} {y} {b} m e r = subst (λ k. IsClosure J P y at k) (sym e.1) (subst (λ z. IsClosure J P z at (m + 1)) (sym e.0) r)

    plain_parts : (J : Stream) (y : Expr) (b : ℕ) → has_heads (J (at + 1)) (J (at + 1 + 1)) (J (at + 1 + 1 + 1)) ≡ false → IsClosure J P y at b → (ss : List Stmt) × (m : ℕ) × IsStmts J P ss (at + 1) m × Sees J m sign.BraceClose × (y ≡ expr.Closure None ss) × (b ≡ m + 1)
    plain_parts J y b u (closure_headed o' v hs s c) = absurd (false≢true (sym u ∙ v))
    plain_parts J y b u (closure_plain o' v s c) = (_, _, s, c, refl, refl)

    module _ {ss : List Stmt} {m : ℕ} (e : Exact Stmts stops_stmts K (at + 1) ss m) where
      pub headless_ok : K m ≡ Some (kind.Sign sign.BraceClose) → Exact (λ K. IsClosure K P) stops_closed K at (expr.Closure None ss) (m + 1)
      headless_ok c = record {
        after = (let a = e.after in omega arith);
        inside = inside_more K (kind.Sign sign.BraceOpen) at (m + 1) o (inside_both K (at + 1) m (m + 1) e.inside (inside_more K (kind.Sign sign.BraceClose) m (m + 1) c (inside_none K (m + 1))));
        spelled = λ J same so.
            let a = e.after in
            let near : Agrees m J K = λ k l. same k (omega arith) in
            closure_plain (same at (omega arith) ∙ o) (headless m a (within_exact e) J near) (e.spelled J (λ k l. same k (omega arith)) (close_stops (near m (le_refl m) ∙ c))) (near m (le_refl m) ∙ c);
        only = λ J y b same r st.
            let a = e.after in
            let near : Agrees m J K = λ k l. same k (omega arith) in
            let p = plain_parts J y b (headless m a (within_exact e) J near) r in
            let q = e.only J p.0 p.1 near p.2 (close_stops p.3) in
            (p.4 ∙ ap (λ u. expr.Closure None u) q.0, p.5 ∙ ap (λ k. k + 1) q.1);
      }

      pub headless_open : (K m ≡ Some (kind.Sign sign.BraceClose) → ⊥) → Refused (λ K. IsClosure K P) stops_closed K at m
      headless_open c = record {
        from = (let a = e.after in omega arith);
        inside = inside_more K (kind.Sign sign.BraceOpen) at m o e.inside;
        never = λ J y b same r st.
            let p = plain_parts J y b (headless m e.after (within_exact e) J same) r in
            let q = e.only J p.0 p.1 same p.2 (close_stops p.3) in
            c (sym (same m (le_refl m)) ∙ ap J (sym q.1) ∙ p.3);
        viable = record {
          closing = close ∷ [];
          closes = λ J k same st so.
              let a = e.after in
              (expr.Closure None ss, at_end {J = J} m (refl, st.1) (closure_plain (same at (omega arith) ∙ o) (no_heads J same st.0) (e.spelled J same (close_stops st.0)) st.0));
        };
      }
        where
          no_heads : (J : Stream) → Before m J K → J m ≡ Some close → has_heads (J (at + 1)) (J (at + 1 + 1)) (J (at + 1 + 1 + 1)) ≡ false
          no_heads J same c' = by_place (leb (at + 1 + 1) m) (leb (at + 1 + 1 + 1) m) (leb (at + 1 + 1 + 1 + 1) m) refl refl refl
            where
              a : at + 1 ≤ m
              a = e.after

              by_place : (u v w : Bool) → leb (at + 1 + 1) m ≡ u → leb (at + 1 + 1 + 1) m ≡ v → leb (at + 1 + 1 + 1 + 1) m ≡ w → has_heads (J (at + 1)) (J (at + 1 + 1)) (J (at + 1 + 1 + 1)) ≡ false
              by_place u v true p q t =
                  let l : at + 1 + 1 + 1 + 1 ≤ m = grind (arith, nat_tests) in
                  heads_same false (same (at + 1) (omega arith)) (same (at + 1 + 1) (omega arith)) (same (at + 1 + 1 + 1) (omega arith)) h
              by_place u true false p q t =
                  let l : at + 1 + 1 + 1 ≤ m = grind (arith, nat_tests) in
                  let l' : m < at + 1 + 1 + 1 + 1 = grind (arith, nat_tests) in
                  let here : m ≡ at + 1 + 1 + 1 = omega arith in
                  heads_same false (same (at + 1) (omega arith)) (same (at + 1 + 1) (omega arith)) (ap J (sym here) ∙ c') (close_third (K (at + 1)) (K (at + 1 + 1)) (K (at + 1 + 1 + 1)) h)
              by_place true false false p q t =
                  let l : at + 1 + 1 ≤ m = grind (arith, nat_tests) in
                  let l' : m < at + 1 + 1 + 1 = grind (arith, nat_tests) in
                  let here : m ≡ at + 1 + 1 = omega arith in
                  heads_same false (same (at + 1) (omega arith)) (ap J (sym here) ∙ c') refl (close_then (K (at + 1)) (K (at + 1 + 1)) (K (at + 1 + 1 + 1)) (J (at + 1 + 1 + 1)) h)
              by_place false false false p q t =
                  let l' : m < at + 1 + 1 = grind (arith, nat_tests) in
                  let here : m ≡ at + 1 = omega arith in
                  close_first (J (at + 1)) (J (at + 1 + 1)) (J (at + 1 + 1 + 1)) (ap J (sym here) ∙ c')

    -- the tokens before a fault in the statements can be closed
    module _ {i : ℕ} (f : Refused Stmts stops_stmts K (at + 1) i) where
      a : at + 1 ≤ i
      a = f.from

      closed_by : (closing : List TokenKind) → ((J : Stream) (e : ℕ) → Before i J K → Stands J i closing e → (y : Expr) × IsClosure J P y at e) → Viable (λ K. IsClosure K P) stops_closed K at i
      closed_by closing g = record { closing = closing; closes = λ J e same st so. g J e same st }

      usual : ((J : Stream) → Before i J K → has_heads (J (at + 1)) (J (at + 1 + 1)) (J (at + 1 + 1 + 1)) ≡ false) → Viable (λ K. IsClosure K P) stops_closed K at i
      usual u = closed_by (f.viable.closing ++ close ∷ []) (λ J e same st.
          let p = split J e f.viable.closing (close ∷ []) i st in
          let v = f.viable.closes J p.0 same p.1 (close_stops p.2.0) in
          (expr.Closure None v.0, at_end {J = J} p.0 (refl, p.2.1) (closure_plain (same at (omega arith) ∙ o) (u J same) v.1 p.2.0)))

      viable_two : (x y : Option TokenKind) → K (at + 1) ≡ x → K (at + 1 + 1) ≡ y → i ≡ at + 1 + 1 + 1 → Viable (λ K. IsClosure K P) stops_closed K at i
      viable_two (Some (kind.Name n)) (Some (kind.Name m)) p q here = closed_by (close ∷ []) (λ J e same st.
          let one = same (at + 1) (omega arith) ∙ p in
          let two = same (at + 1 + 1) (omega arith) ∙ q in
          let end : J (at + 1 + 1 + 1) ≡ Some close = ap J (sym here) ∙ st.0 in
          let s = short_call {J = J} one two end in
          (expr.Closure None s.0, at_end {J = J} (at + 1 + 1 + 1) (refl, st.1 ∙ ap (λ k. k + 1) here) (closure_plain (same at (omega arith) ∙ o) (heads_same false one two end refl) s.1 end)))
      viable_two (Some (kind.Word word.Def)) (Some (kind.Name m)) p q here = closed_by (close ∷ []) (λ J e same st.
          let one = same (at + 1) (omega arith) ∙ p in
          let two = same (at + 1 + 1) (omega arith) ∙ q in
          let end : J (at + 1 + 1 + 1) ≡ Some close = ap J (sym here) ∙ st.0 in
          let s = short_def {J = J} one two in
          (expr.Closure None s.0, at_end {J = J} (at + 1 + 1 + 1) (refl, st.1 ∙ ap (λ k. k + 1) here) (closure_plain (same at (omega arith) ∙ o) (heads_same false one two end refl) s.1 end)))
      viable_two (Some (kind.Name n)) (Some (kind.Sign sign.Arrow)) p q here = absurd (false≢true (sym (heads_same false (sym p) (sym q) refl h)))
      viable_two (Some (kind.Name n)) (Some (kind.Sign sign.Comma)) p q here = absurd (false≢true (sym (heads_same false (sym p) (sym q) refl h)))
      viable_two (Some (kind.Sign sign.Arrow)) y p q here = absurd (false≢true (sym (heads_same false (sym p) (sym q) refl h)))
      viable_two (Some (kind.Name n)) y p q here = usual (λ J same. heads_same false (same (at + 1) (omega arith) ∙ p) (same (at + 1 + 1) (omega arith) ∙ q) refl refl)
      viable_two (Some (kind.Word word.Def)) y p q here = usual (λ J same. heads_same false (same (at + 1) (omega arith) ∙ p) (same (at + 1 + 1) (omega arith) ∙ q) refl refl)
      viable_two x y p q here = usual (λ J same. heads_same false (same (at + 1) (omega arith) ∙ p) (same (at + 1 + 1) (omega arith) ∙ q) refl refl)

      viable_one : (x : Option TokenKind) → K (at + 1) ≡ x → i ≡ at + 1 + 1 → Viable (λ K. IsClosure K P) stops_closed K at i
      viable_one (Some (kind.Name n)) p here = closed_by (close ∷ []) (λ J e same st.
          let one = same (at + 1) (omega arith) ∙ p in
          let end : J (at + 1 + 1) ≡ Some close = ap J (sym here) ∙ st.0 in
          let s = short_name {J = J} one end in
          (expr.Closure None s.0, at_end {J = J} (at + 1 + 1) (refl, st.1 ∙ ap (λ k. k + 1) here) (closure_plain (same at (omega arith) ∙ o) (heads_same false one end refl refl) s.1 end)))
      viable_one (Some (kind.Word word.Def)) p here = closed_by (kind.Name [] ∷ close ∷ []) (λ J e same st.
          let one = same (at + 1) (omega arith) ∙ p in
          let name : J (at + 1 + 1) ≡ Some (kind.Name []) = ap J (sym here) ∙ st.0 in
          let end : J (at + 1 + 1 + 1) ≡ Some close = ap J (ap (λ k. k + 1) (sym here)) ∙ st.1.0 in
          let s = short_def {J = J} one name in
          (expr.Closure None s.0, at_end {J = J} (at + 1 + 1 + 1) (refl, st.1.1 ∙ ap (λ k. k + 1 + 1) here) (closure_plain (same at (omega arith) ∙ o) (heads_same false one name end refl) s.1 end)))
      viable_one (Some (kind.Sign sign.Arrow)) p here = absurd (false≢true (sym (heads_same false (sym p) refl refl h)))
      viable_one x p here = usual (λ J same. heads_same false (same (at + 1) (omega arith) ∙ p) refl refl refl)

      viable_plain : Viable (λ K. IsClosure K P) stops_closed K at i
      viable_plain = by_place (leb (at + 1 + 1) i) (leb (at + 1 + 1 + 1) i) (leb (at + 1 + 1 + 1 + 1) i) refl refl refl
        where
          by_place : (u v w : Bool) → leb (at + 1 + 1) i ≡ u → leb (at + 1 + 1 + 1) i ≡ v → leb (at + 1 + 1 + 1 + 1) i ≡ w → Viable (λ K. IsClosure K P) stops_closed K at i
          by_place u v true p q t =
              let l : at + 1 + 1 + 1 + 1 ≤ i = grind (arith, nat_tests) in
              usual (λ J same. heads_same false (same (at + 1) (omega arith)) (same (at + 1 + 1) (omega arith)) (same (at + 1 + 1 + 1) (omega arith)) h)
          by_place u true false p q t =
              let l : at + 1 + 1 + 1 ≤ i = grind (arith, nat_tests) in
              let l' : i < at + 1 + 1 + 1 + 1 = grind (arith, nat_tests) in
              viable_two (K (at + 1)) (K (at + 1 + 1)) refl refl (omega arith)
          by_place true false false p q t =
              let l : at + 1 + 1 ≤ i = grind (arith, nat_tests) in
              let l' : i < at + 1 + 1 + 1 = grind (arith, nat_tests) in
              viable_one (K (at + 1)) refl (omega arith)
          by_place false false false p q t =
              let l' : i < at + 1 + 1 = grind (arith, nat_tests) in
              let le = f.from in
              let here : i ≡ at + 1 = omega arith in
              closed_by (close ∷ []) (λ J e same st.
              let end : J (at + 1) ≡ Some close = ap J (sym here) ∙ st.0 in
              (expr.Closure None [], at_end {J = J} (at + 1) (refl, st.1 ∙ ap (λ k. k + 1) here) (closure_plain (same at (omega arith) ∙ o) (close_first (J (at + 1)) (J (at + 1 + 1)) (J (at + 1 + 1 + 1)) end) (stmts_none no_separator) end)))

      pub headless_fails : Refused (λ K. IsClosure K P) stops_closed K at i
      headless_fails = record {
        from = (let le = f.from in omega arith);
        inside = inside_more K (kind.Sign sign.BraceOpen) at i o f.inside;
        never = λ J y b same r st.
            let p = plain_parts J y b (headless i f.from (within_refused f) J same) r in
            f.never J p.0 p.1 same p.2 (close_stops p.3);
        viable = viable_plain;
      }

  -- What heads begin with says that they are heads.
  name_then : (J : Stream) (a : ℕ) {n : List ℕ} {k : Option TokenKind} → J a ≡ Some (kind.Name n) → J (a + 1) ≡ k → ((z : Option TokenKind) → heads_after_name k z ≡ true) → has_heads (J a) (J (a + 1)) (J (a + 1 + 1)) ≡ true
  name_then J a h q g = heads_same true h q refl (g (J (a + 1 + 1)))

  heads_imply : {J : Stream} {ds : List Declared} {a b : ℕ} → Heads J P ds a b → has_heads (J a) (J (a + 1)) (J (a + 1 + 1)) ≡ true
  heads_imply {J} {ds} {a} (heads_none h) = heads_same true h refl refl refl
  heads_imply {J} {ds} {a} (heads_names (names_last n) h) = name_then J a n h (λ z. refl)
  heads_imply {J} {ds} {a} (heads_names (names_more n c l) h) = name_then J a n c (λ z. refl)
  heads_imply {J} {ds} {a} (heads_typed (type_def w) n h) = heads_same true w n h refl
  heads_imply {J} {ds} {a} (heads_typed (type_name w) n h) = heads_same true w n h refl

  abbrev pub WithinHeads : Stream → ℕ → ℕ → Type 0
  WithinHeads K B i = (J : Stream) (ds : List Declared) (b : ℕ) → Agrees i J K → Heads J P ds B b → b ≤ i

  abbrev arrow : TokenKind
  arrow = kind.Sign sign.Arrow

  module _ (K : Stream) (B i : ℕ) (le : B ≤ i) (within : WithinHeads K B i) (J : Stream) (same : Agrees i J K) where
    settled : (x y : Option TokenKind) → K B ≡ x → K (B + 1) ≡ y → has_heads x y (K (B + 1 + 1)) ≡ true → has_heads (J B) (J (B + 1)) (J (B + 1 + 1)) ≡ true
    settled (Some (kind.Sign sign.Arrow)) y p q g = heads_same true (same B le ∙ p) refl refl refl
    settled (Some (kind.Name n)) y p q g = by_first (leb (B + 1) i) refl
      where
        by_first : (u : Bool) → leb (B + 1) i ≡ u → has_heads (J B) (J (B + 1)) (J (B + 1 + 1)) ≡ true
        by_first false t =
            let l' : i < B + 1 = grind (arith, nat_tests) in
            let M : Stream = hold K B arrow in
            let w = within M (declared n (P B) ∷ []) (B + 1 + 1) (λ k l. hold_before K B arrow k (omega arith)) (heads_names (names_last (hold_before K B arrow B (le_refl B) ∙ p)) (hold_at K B arrow)) in
            absurd (omega arith)
        by_first true t = let l : B + 1 ≤ i = grind (arith, nat_tests) in by_second y q g l
          where
            by_second : (y : Option TokenKind) → K (B + 1) ≡ y → has_heads (Some (kind.Name n)) y (K (B + 1 + 1)) ≡ true → B + 1 ≤ i → has_heads (J B) (J (B + 1)) (J (B + 1 + 1)) ≡ true
            by_second (Some (kind.Sign sign.Arrow)) q g l = heads_same true (same B le ∙ p) (same (B + 1) l ∙ q) refl refl
            by_second (Some (kind.Sign sign.Comma)) q g l = heads_same true (same B le ∙ p) (same (B + 1) l ∙ q) refl refl
            by_second (Some (kind.Name m)) q g l = by_third (leb (B + 1 + 1) i) refl
              where
                by_third : (u : Bool) → leb (B + 1 + 1) i ≡ u → has_heads (J B) (J (B + 1)) (J (B + 1 + 1)) ≡ true
                by_third true t = let l' : B + 1 + 1 ≤ i = grind (arith, nat_tests) in heads_same true (same B le ∙ p) (same (B + 1) l ∙ q) (same (B + 1 + 1) l') g
                by_third false t =
                    let l' : i < B + 1 + 1 = grind (arith, nat_tests) in
                    let M : Stream = hold K (B + 1) arrow in
                    let w = within M (declared m (P (B + 1)) ∷ []) (B + 1 + 1 + 1) (λ k l. hold_before K (B + 1) arrow k (omega arith)) (heads_typed (type_name (hold_before K (B + 1) arrow B (omega arith) ∙ p)) (hold_before K (B + 1) arrow (B + 1) (le_refl (B + 1)) ∙ q) (hold_at K (B + 1) arrow)) in
                    absurd (omega arith)
            by_second y q g l = absurd (false≢true g)
    settled (Some (kind.Word word.Def)) (Some (kind.Name m)) p q g = by_third (leb (B + 1 + 1) i) refl
      where
        by_third : (u : Bool) → leb (B + 1 + 1) i ≡ u → has_heads (J B) (J (B + 1)) (J (B + 1 + 1)) ≡ true
        by_third true t = let l' : B + 1 + 1 ≤ i = grind (arith, nat_tests) in heads_same true (same B le ∙ p) (same (B + 1) (omega arith) ∙ q) (same (B + 1 + 1) l') g
        by_third false t =
            let l' : i < B + 1 + 1 = grind (arith, nat_tests) in
            let M : Stream = hold K (B + 1) arrow in
            let w = within M (declared m (P (B + 1)) ∷ []) (B + 1 + 1 + 1) (λ k l. hold_before K (B + 1) arrow k (omega arith)) (heads_typed (type_def (hold_before K (B + 1) arrow B (omega arith) ∙ p)) (hold_before K (B + 1) arrow (B + 1) (le_refl (B + 1)) ∙ q) (hold_at K (B + 1) arrow)) in
            absurd (omega arith)
    settled (Some (kind.Word word.Def)) y p q g = absurd (false≢true g)
    settled x y p q g = absurd (false≢true g)

  abbrev pub Headed : List Declared → List Stmt → Rule Expr
  Headed ds ss = Tok close (Ret (expr.Closure (Some ds) ss))

  headed_join : (ds : List Declared) → Joins (Headed ds) stops_stmts stops_closed
  headed_join ds = joins_tok close refl (fills_ret {part_stops = stops_closed} (λ ss. expr.Closure (Some ds) ss) (alike stops_closed))

  module _ (K : Stream) {at : ℕ} (o : K at ≡ Some (kind.Sign sign.BraceOpen)) (h : has_heads (K (at + 1)) (K (at + 1 + 1)) (K (at + 1 + 1 + 1)) ≡ true) where
    head_end : {J : Stream} {x y : Expr} {b : ℕ} (m : ℕ) → (y ≡ x) × (b ≡ m + 1) → IsClosure J P x at (m + 1) → IsClosure J P y at b
    head_end {J} {x} {y} {b} m e r = subst (λ k. IsClosure J P y at k) (sym e.1) (subst (λ z. IsClosure J P z at (m + 1)) (sym e.0) r)

    headed_parts : (J : Stream) (y : Expr) (b : ℕ) → has_heads (J (at + 1)) (J (at + 1 + 1)) (J (at + 1 + 1 + 1)) ≡ true → IsClosure J P y at b → (ds : List Declared) × (m : ℕ) × (ss : List Stmt) × (k : ℕ) × Heads J P ds (at + 1) m × IsStmts J P ss m k × Sees J k sign.BraceClose × (y ≡ expr.Closure (Some ds) ss) × (b ≡ k + 1)
    headed_parts J y b u (closure_headed o' v hs s c) = (_, _, _, _, hs, s, c, refl, refl)
    headed_parts J y b u (closure_plain o' v s c) = absurd (false≢true (sym v ∙ u))

    pub headed_fails : {i : ℕ} → Refused (λ K. Heads K P) stops_closed K (at + 1) i → Refused (λ K. IsClosure K P) stops_closed K at i
    headed_fails {i} f = record {
      from = (let le = f.from in omega arith);
      inside = inside_more K (kind.Sign sign.BraceOpen) at i o f.inside;
      never = λ J y b same r st.
          let p = headed_parts J y b (settled K (at + 1) i f.from (λ M ds n l d. absurd (f.never M ds n l d refl)) J same (K (at + 1)) (K (at + 1 + 1)) refl refl h) r in
          f.never J p.0 p.1 same p.4 refl;
      viable = record {
        closing = f.viable.closing ++ close ∷ [];
        closes = λ J e same st so.
            let le = f.from in
            let p = split J e f.viable.closing (close ∷ []) i st in
            let v = f.viable.closes J p.0 same p.1 refl in
            (expr.Closure (Some v.0) [], head_end {J = J} p.0 (refl, p.2.1) (closure_headed (same at (omega arith) ∙ o) (heads_imply v.1) v.1 (stmts_none no_separator) p.2.0));
      };
    }

    module _ {ds : List Declared} {m : ℕ} (e : Exact (λ K. Heads K P) stops_closed K (at + 1) ds m) where
      behind_heads : Tail (λ K. IsClosure K P) (Sub Stmts (Headed ds)) stops_closed K at (λ z. z) m
      behind_heads = record {
        after = (let le = e.after in omega arith);
        inside = inside_more K (kind.Sign sign.BraceOpen) at m o e.inside;
        whole = λ J same z b r so.
            let le = e.after in
            let hs = e.spelled J same refl in
            head_end {J = J} r.1 r.3.1 (closure_headed (same at (omega arith) ∙ o) (heads_imply hs) hs r.2 r.3.0);
        only = λ J y b same r st.
            let w : WithinHeads K (at + 1) m = λ M xs n l d. let q = e.only M xs n l d refl in subst (λ k. k ≤ m) (sym q.1) (le_refl m) in
            let p = headed_parts J y b (settled K (at + 1) m e.after w J same (K (at + 1)) (K (at + 1 + 1)) refl refl h) r in
            let q = e.only J p.0 p.1 same p.4 refl in
            (y, (p.2, p.3, subst (λ k. IsStmts J P p.2 k p.3) q.1 p.5, (p.6, (p.7 ∙ ap (λ u. expr.Closure (Some u) p.2) q.0, p.8))), refl);
      }

      pub headed_stmts_fails : {i : ℕ} → Refused Stmts stops_stmts K m i → Refused (λ K. IsClosure K P) stops_closed K at i
      headed_stmts_fails r = let j = headed_join ds in tail_fails (λ z. z) behind_heads (sub_fails K j.leads j.fills r)

      module _ {ss : List Stmt} {n : ℕ} (s : Exact Stmts stops_stmts K m ss n) where
        behind_stmts : Tail (λ K. IsClosure K P) (Headed ds ss) stops_closed K at (λ z. z) n
        behind_stmts = let j = headed_join ds in tail_both (λ z. z) behind_heads (tail_sub j.leads s)

        pub headed_open : (K n ≡ Some close → ⊥) → Refused (λ K. IsClosure K P) stops_closed K at n
        headed_open c = tail_fails (λ z. z) behind_stmts (tok_bad stops_closed K (fill_ret (expr.Closure (Some ds) ss)) c)

        pub headed_ok : K n ≡ Some close → Exact (λ K. IsClosure K P) stops_closed K at (expr.Closure (Some ds) ss) (n + 1)
        headed_ok c = tail_end (λ z. z) behind_stmts (tok_ok stops_closed K c (ret stops_closed K (expr.Closure (Some ds) ss) (n + 1)))

  pub no_closure : (K : Stream) {at : ℕ} → (K at ≡ Some (kind.Sign sign.BraceOpen) → ⊥) → Refused (λ K. IsClosure K P) stops_closed K at at
  no_closure K {at} h = record {
    from = le_refl at;
    inside = inside_none K at;
    never = λ J y b same r st. h (sym (same at (le_refl at)) ∙ closure_first P r);
    viable = record {
      closing = kind.Sign sign.BraceOpen ∷ close ∷ [];
      closes = λ J e same st so. (expr.Closure None [], subst (λ k. IsClosure J P (expr.Closure None []) at k) (sym st.1.1) (closure_plain st.0 (close_first (J (at + 1)) (J (at + 1 + 1)) (J (at + 1 + 1 + 1)) st.1.0) (stmts_none no_separator) st.1.0));
    };
  }
