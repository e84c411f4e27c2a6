-- The rules of the ranks of operators.
use Rattle.std.proofs.Common.{◌≡◌, ℕ, ◌+◌, true, List, [], ◌∷◌, ◌++◌, ◌⊎◌, inl, inr, ⊎_elim, refl, sym, ap, ◌∙◌, subst, arith, append_assoc, append-nil, Option, Some, None}
use Rattle.std.proofs.lemmas.Bool.{false≢true}
use Rattle.model_syntax.specs.declared.sign.Sign.{Sign}
use Rattle.model_syntax.specs.declared.sign.Sign.TheVariants as sign
use Rattle.model_syntax.specs.declared.token.TokenKind.{TokenKind}
use Rattle.model_syntax.specs.declared.token.TokenKind.TheVariants as kind
use Rattle.model_syntax.specs.declared.tree.Expr.{Expr}
use Rattle.model_syntax.specs.declared.tree.Choice.{Choice}
use Rattle.model_syntax.specs.declared.tree.Choice.TheVariants.{IfTrue, IfSet}
use Rattle.model_syntax.specs.declared.tree.Operator.{Operator}
use Rattle.model_syntax.specs.declared.tree.Operand.{Operand}
use Rattle.model_syntax.specs.Stream.{Stream, Places}
use Rattle.model_syntax.specs.Operators.{Chain, by_or, by_and, Pair, by_equality, by_order, by_range, Terms, by_sum, by_product, Rank, rank_whole, rank_chain, rank_pair, rank_terms, rank_unary, within_chain, within_pair, within_terms, chain_sign, pair_operator, terms_operator, chosen, chained, joined, operand}
use Rattle.model_syntax.specs.Grammar.{IsExpr, whole, chain, pair_alone, pair, terms, Choices, choices_none, choices_true, choices_set, ChainRest, chain_end, chain_more, TermsRest, terms_end, terms_more}
use Rattle.groovy_expr.specs.Answers.{Rule, Stops, Exact, Refused}
use Rattle.groovy_expr.specs.Stops.{stops_rank, stops_expr, stops_or}
use Rattle.groovy_expr.proofs.Calculus.{Tok, Ret, Sub, Perhaps, Begins, stronger_ok, stronger_fails, Weaker, Fill, Tail, Turns, as_rule, tail_both, tail_end, tail_fails, tail_sub, sub_fails, tok_bad, perhaps_none, inside_more, Alt, tail_as, tok_ok, tok_fails}
use Rattle.groovy_expr.proofs.Lists.{IsMany, joins_many, more_read, more_fails, all_read}
use Rattle.groovy_expr.proofs.Steps.{Map, Joins, joins_perhaps, step_turn, step_tok, step_map, step_perhaps, step_left, step_right, fill_map}
use Rattle.groovy_expr.proofs.FirstTokens.{fill_rank}

-- how far a rank stands above the primaries
abbrev pub height : Rank → ℕ
height rank_unary = 10
height (rank_terms by_product) = 12
height (rank_terms by_sum) = 14
height (rank_pair by_range) = 16
height (rank_pair by_order) = 18
height (rank_pair by_equality) = 20
height (rank_chain by_and) = 22
height (rank_chain by_or) = 24
height rank_whole = 26

-- an expression in its parts: the choices, and the last value
abbrev pub Chosen : Places → Rule (List Choice × Expr)
Chosen P K y a b = (m : ℕ) × Choices K P y.0 a m × IsExpr K P (rank_chain by_or) y.1 m b

-- the tree of these choices and what goes on behind them
abbrev pub put_choices : List Choice → List Choice × Expr → Expr
put_choices done y = chosen (done ++ y.0) y.1

-- What stops a rank stops the ranks within it, and the signs of a rank stop them too.
pub weaker_chain : (l : Chain) → Weaker (stops_rank (rank_chain l)) (stops_rank (within_chain l))
weaker_chain by_or (Some (kind.Sign sign.Or)) e = refl
weaker_chain by_or t e = e
weaker_chain by_and (Some (kind.Sign sign.And)) e = refl
weaker_chain by_and t e = e

pub between_chain : (l : Chain) → stops_rank (within_chain l) (Some (kind.Sign (chain_sign l))) ≡ true
between_chain by_or = refl
between_chain by_and = refl

pub never_chain : (l : Chain) → stops_rank (rank_chain l) (Some (kind.Sign (chain_sign l))) ≡ true → ⊥
never_chain by_or e = false≢true e
never_chain by_and e = false≢true e

pub none_some : {A : Type 0} (x : A) → None ≡ Some x → ⊥
none_some x e = cc

pub weaker_pair : (l : Pair) → Weaker (stops_rank (rank_pair l)) (stops_rank (within_pair l))
weaker_pair by_equality (Some (kind.Sign sign.Equal)) e = refl
weaker_pair by_equality (Some (kind.Sign sign.NotEqual)) e = refl
weaker_pair by_equality t e = e
weaker_pair by_order (Some (kind.Sign sign.Less)) e = refl
weaker_pair by_order (Some (kind.Sign sign.LessEqual)) e = refl
weaker_pair by_order (Some (kind.Sign sign.Greater)) e = refl
weaker_pair by_order (Some (kind.Sign sign.GreaterEqual)) e = refl
weaker_pair by_order t e = e
weaker_pair by_range (Some (kind.Sign sign.Range)) e = refl
weaker_pair by_range t e = e

pub between_pair : (l : Pair) (s : Sign) (o : Operator) → pair_operator l s ≡ Some o → stops_rank (within_pair l) (Some (kind.Sign s)) ≡ true
between_pair by_equality sign.Equal o e = refl
between_pair by_equality sign.NotEqual o e = refl
between_pair by_order sign.Less o e = refl
between_pair by_order sign.LessEqual o e = refl
between_pair by_order sign.Greater o e = refl
between_pair by_order sign.GreaterEqual o e = refl
between_pair by_range sign.Range o e = refl
between_pair l s o e = absurd (none_some o e)

pub never_pair : (l : Pair) (s : Sign) (o : Operator) → pair_operator l s ≡ Some o → stops_rank (rank_pair l) (Some (kind.Sign s)) ≡ true → ⊥
never_pair by_equality sign.Equal o e h = false≢true h
never_pair by_equality sign.NotEqual o e h = false≢true h
never_pair by_order sign.Less o e h = false≢true h
never_pair by_order sign.LessEqual o e h = false≢true h
never_pair by_order sign.Greater o e h = false≢true h
never_pair by_order sign.GreaterEqual o e h = false≢true h
never_pair by_range sign.Range o e h = false≢true h
never_pair l s o e h = none_some o e

pub weaker_terms : (l : Terms) → Weaker (stops_rank (rank_terms l)) (stops_rank (within_terms l))
weaker_terms by_sum (Some (kind.Sign sign.Plus)) e = refl
weaker_terms by_sum (Some (kind.Sign sign.Minus)) e = refl
weaker_terms by_sum t e = e
weaker_terms by_product (Some (kind.Sign sign.Times)) e = refl
weaker_terms by_product (Some (kind.Sign sign.Mod)) e = refl
weaker_terms by_product t e = e

pub between_terms : (l : Terms) (s : Sign) (o : Operator) → terms_operator l s ≡ Some o → stops_rank (within_terms l) (Some (kind.Sign s)) ≡ true
between_terms by_sum sign.Plus o e = refl
between_terms by_sum sign.Minus o e = refl
between_terms by_product sign.Times o e = refl
between_terms by_product sign.Mod o e = refl
between_terms l s o e = absurd (none_some o e)

pub never_terms : (l : Terms) (s : Sign) (o : Operator) → terms_operator l s ≡ Some o → stops_rank (rank_terms l) (Some (kind.Sign s)) ≡ true → ⊥
never_terms by_sum sign.Plus o e h = false≢true h
never_terms by_sum sign.Minus o e h = false≢true h
never_terms by_product sign.Times o e h = false≢true h
never_terms by_product sign.Mod o e h = false≢true h
never_terms l s o e h = none_some o e

pub weaker_expr : Weaker stops_expr stops_or
weaker_expr (Some (kind.Sign sign.Question)) e = refl
weaker_expr (Some (kind.Sign sign.Elvis)) e = refl
weaker_expr t e = e

-- one token is not another
sign_differs : Some (kind.Sign sign.Elvis) ≡ Some (kind.Sign sign.Question) → ⊥
sign_differs e = cc

-- An operand behind an operator of a table.
abbrev pub Behind : (Sign → Option Operator) → Rule Expr → Rule Operand
Behind table R J x a b = (s : Sign) × (o : Operator) × (e : Expr) × (J a ≡ Some (kind.Sign s)) × (table s ≡ Some o) × R J e (a + 1) b × (x ≡ operand o e)

-- an operator of a table
abbrev pub IsOperator : (Sign → Option Operator) → Option TokenKind → Type 0
IsOperator table t = (s : Sign) × (o : Operator) × (t ≡ Some (kind.Sign s)) × (table s ≡ Some o)

same_sign : (s u : Sign) → Some (kind.Sign s) ≡ Some (kind.Sign u) → s ≡ u
same_sign s u e = cc

same_operator : (o p : Operator) → Some o ≡ Some p → o ≡ p
same_operator o p e = cc

module _ (table : Sign → Option Operator) (R : Rule Expr) {stops : Stops} {K : Stream} {n : ℕ} {s : Sign} {o : Operator} (h : K n ≡ Some (kind.Sign s)) (q : table s ≡ Some o) where
  pub step_behind : Tail (Behind table R) R stops K n (λ e. operand o e) (n + 1)
  step_behind = record {
    after = omega arith;
    inside = inside_more K (kind.Sign s) n (n + 1) h (λ k le lt. absurd (omega arith));
    whole = λ J same z b r so. (s, o, z, same n (omega arith) ∙ h, q, r, refl);
    only = λ J y b same r st.
        let so : r.0 ≡ s = same_sign r.0 s (sym r.3 ∙ same n (omega arith) ∙ h) in
        let oo : r.1 ≡ o = same_operator r.1 o (sym r.4 ∙ ap table so ∙ q) in
        (r.2, r.5, r.6 ∙ ap (λ u. operand u r.2) oo);
  }

module _ (P : Places) where
  -- chains
  abbrev pub Operand_of : Chain → Rule Expr
  Operand_of l K = IsExpr K P (within_chain l)

  rest_of_chain : (l : Chain) (J : Stream) (ys : List Expr) (a b : ℕ) → ChainRest J P l ys a b → ((ys ≡ []) × (b ≡ a)) ⊎ ((x : Expr) × (xs : List Expr) × (m : ℕ) × (ys ≡ x ∷ xs) × Tok (kind.Sign (chain_sign l)) (λ K. IsExpr K P (within_chain l)) J x a m × ChainRest J P l xs m b)
  rest_of_chain l J ys a b chain_end = inl (refl, refl)
  rest_of_chain l J ys a b (chain_more s e r) = inr (_, _, _, refl, (s, e), r)

  pub chain_many : (l : Chain) → IsMany (Tok (kind.Sign (chain_sign l)) (λ K. IsExpr K P (within_chain l))) (λ K. ChainRest K P l) (λ t. t ≡ Some (kind.Sign (chain_sign l))) (stops_rank (within_chain l)) (stops_rank (rank_chain l))
  chain_many l = record {
    none = λ J a. chain_end;
    more = λ J x xs a m b p r. chain_more p.0 p.1 r;
    cases = rest_of_chain l;
    begins = λ J y a b r. r.0;
    never = λ t e h. never_chain l (sym (ap (stops_rank (rank_chain l)) e) ∙ h);
    weaker = weaker_chain l;
    between = λ t e. ap (stops_rank (within_chain l)) e ∙ between_chain l;
  }

  chain_in : (l : Chain) (J : Stream) (y : Expr) (a b : ℕ) → IsExpr J P (rank_chain l) y a b → Sub (λ K. IsExpr K P (within_chain l)) (λ e. Map (chained l e) (λ K. ChainRest K P l)) J y a b
  chain_in l J y a b (chain e r) = (_, _, e, (_, r, refl))

  chain_out : (l : Chain) (J : Stream) (y : Expr) (a b : ℕ) → Sub (λ K. IsExpr K P (within_chain l)) (λ e. Map (chained l e) (λ K. ChainRest K P l)) J y a b → IsExpr J P (rank_chain l) y a b
  chain_out l J y a b (e, m, i, (xs, r, q)) = subst (λ z. IsExpr J P (rank_chain l) z a b) (sym q) (chain i r)

  pub chain_turn : (l : Chain) (K : Stream) (at : ℕ) → Turns (λ K. IsExpr K P (rank_chain l)) (Sub (λ K. IsExpr K P (within_chain l)) (λ e. Map (chained l e) (λ K. ChainRest K P l))) (stops_rank (rank_chain l)) K at
  chain_turn l = as_rule _ _ (chain_in l) (chain_out l) (stops_rank (rank_chain l))

  pub chain_join : (l : Chain) → Joins (λ e. Map (chained l e) (λ K. ChainRest K P l)) (stops_rank (within_chain l)) (stops_rank (rank_chain l))
  chain_join l = let L = chain_many l in joins_many L (chained l) (weaker_chain l) L.between

  -- operands with signs between them
  rest_of_terms : (l : Terms) (J : Stream) (ys : List Operand) (a b : ℕ) → TermsRest J P l ys a b → ((ys ≡ []) × (b ≡ a)) ⊎ ((x : Operand) × (xs : List Operand) × (m : ℕ) × (ys ≡ x ∷ xs) × Behind (terms_operator l) (λ K. IsExpr K P (within_terms l)) J x a m × TermsRest J P l xs m b)
  rest_of_terms l J ys a b terms_end = inl (refl, refl)
  rest_of_terms l J ys a b (terms_more s o e r) = inr (_, _, _, refl, (_, _, _, s, o, e, refl), r)

  more_terms : (l : Terms) (J : Stream) (x : Operand) (xs : List Operand) (a m b : ℕ) → Behind (terms_operator l) (λ K. IsExpr K P (within_terms l)) J x a m → TermsRest J P l xs m b → TermsRest J P l (x ∷ xs) a b
  more_terms l J x xs a m b (s, o, e, h, q, i, z) r = subst (λ u. TermsRest J P l (u ∷ xs) a b) (sym z) (terms_more h q i r)

  pub terms_many : (l : Terms) → IsMany (Behind (terms_operator l) (λ K. IsExpr K P (within_terms l))) (λ K. TermsRest K P l) (IsOperator (terms_operator l)) (stops_rank (within_terms l)) (stops_rank (rank_terms l))
  terms_many l = record {
    none = λ J a. terms_end;
    more = more_terms l;
    cases = rest_of_terms l;
    begins = λ J y a b r. (r.0, r.1, r.3, r.4);
    never = λ t e h. never_terms l e.0 e.1 e.3 (sym (ap (stops_rank (rank_terms l)) e.2) ∙ h);
    weaker = weaker_terms l;
    between = λ t e. ap (stops_rank (within_terms l)) e.2 ∙ between_terms l e.0 e.1 e.3;
  }

  terms_in : (l : Terms) (J : Stream) (y : Expr) (a b : ℕ) → IsExpr J P (rank_terms l) y a b → Sub (λ K. IsExpr K P (within_terms l)) (λ e. Map (joined e) (λ K. TermsRest K P l)) J y a b
  terms_in l J y a b (terms e r) = (_, _, e, (_, r, refl))

  terms_out : (l : Terms) (J : Stream) (y : Expr) (a b : ℕ) → Sub (λ K. IsExpr K P (within_terms l)) (λ e. Map (joined e) (λ K. TermsRest K P l)) J y a b → IsExpr J P (rank_terms l) y a b
  terms_out l J y a b (e, m, i, (xs, r, q)) = subst (λ z. IsExpr J P (rank_terms l) z a b) (sym q) (terms i r)

  pub terms_turn : (l : Terms) (K : Stream) (at : ℕ) → Turns (λ K. IsExpr K P (rank_terms l)) (Sub (λ K. IsExpr K P (within_terms l)) (λ e. Map (joined e) (λ K. TermsRest K P l))) (stops_rank (rank_terms l)) K at
  terms_turn l = as_rule _ _ (terms_in l) (terms_out l) (stops_rank (rank_terms l))

  pub terms_join : (l : Terms) → Joins (λ e. Map (joined e) (λ K. TermsRest K P l)) (stops_rank (within_terms l)) (stops_rank (rank_terms l))
  terms_join l = let L = terms_many l in joins_many L joined (weaker_terms l) L.between

  -- two operands at most
  abbrev pub PairMore : Pair → Expr → Rule Expr
  PairMore l e = Map (λ x. joined e (x ∷ [])) (Behind (pair_operator l) (λ K. IsExpr K P (within_pair l)))

  pair_in : (l : Pair) (J : Stream) (y : Expr) (a b : ℕ) → IsExpr J P (rank_pair l) y a b → Sub (λ K. IsExpr K P (within_pair l)) (λ e. Perhaps e (PairMore l e)) J y a b
  pair_in l J y a b (pair_alone e) = (_, _, e, inl (refl, refl))
  pair_in l J y a b (pair e s o f) = (_, _, e, inr (_, (_, _, _, s, o, f, refl), refl))

  pair_out : (l : Pair) (J : Stream) (y : Expr) (a b : ℕ) → Sub (λ K. IsExpr K P (within_pair l)) (λ e. Perhaps e (PairMore l e)) J y a b → IsExpr J P (rank_pair l) y a b
  pair_out l J y a b (e, m, i, inl (q, z)) = subst (λ u. IsExpr J P (rank_pair l) u a b) (sym q) (pair_alone (subst (λ k. IsExpr J P (within_pair l) e a k) (sym z) i))
  pair_out l J y a b (e, m, i, inr (x, (s, o, f, h, t, j, u), q)) = subst (λ v. IsExpr J P (rank_pair l) v a b) (sym (q ∙ ap (λ w. joined e (w ∷ [])) u)) (pair i h t j)

  pair_turn : (l : Pair) (K : Stream) (at : ℕ) → Turns (λ K. IsExpr K P (rank_pair l)) (Sub (λ K. IsExpr K P (within_pair l)) (λ e. Perhaps e (PairMore l e))) (stops_rank (rank_pair l)) K at
  pair_turn l = as_rule _ _ (pair_in l) (pair_out l) (stops_rank (rank_pair l))

  pair_begins : (l : Pair) (e : Expr) → Begins (PairMore l e) (IsOperator (pair_operator l))
  pair_begins l e J y a b r = (r.1.0, r.1.1, r.1.3, r.1.4)

  pair_join : (l : Pair) → Joins (λ e. Perhaps e (PairMore l e)) (stops_rank (within_pair l)) (stops_rank (rank_pair l))
  pair_join l = joins_perhaps (λ e. e) (PairMore l) (IsOperator (pair_operator l)) (weaker_pair l) (pair_begins l) (λ t e. ap (stops_rank (within_pair l)) e.2 ∙ between_pair l e.0 e.1 e.3)

  module _ (l : Pair) (K : Stream) {at : ℕ} where
    pub pair_fails : {i : ℕ} → Refused (λ K. IsExpr K P (within_pair l)) (stops_rank (within_pair l)) K at i → Refused (λ K. IsExpr K P (rank_pair l)) (stops_rank (rank_pair l)) K at i
    pair_fails r = let j = pair_join l in tail_fails (λ z. z) (step_turn (pair_turn l K at)) (sub_fails K j.leads j.fills r)

    module _ {e : Expr} {m : ℕ} (i : Exact (λ K. IsExpr K P (within_pair l)) (stops_rank (within_pair l)) K at e m) where
      pair_first : Tail (λ K. IsExpr K P (rank_pair l)) (Perhaps e (PairMore l e)) (stops_rank (rank_pair l)) K at (λ z. z) m
      pair_first = let j = pair_join l in tail_both (λ z. z) (step_turn (pair_turn l K at)) (tail_sub j.leads i)

      pub pair_one : ((s : Sign) (o : Operator) → K m ≡ Some (kind.Sign s) → pair_operator l s ≡ Some o → ⊥) → Exact (λ K. IsExpr K P (rank_pair l)) (stops_rank (rank_pair l)) K at e m
      pair_one h = tail_end (λ z. z) pair_first (perhaps_none (stops_rank (rank_pair l)) K (PairMore l e) (IsOperator (pair_operator l)) e (pair_begins l e) (λ t. h t.0 t.1 t.2 t.3))

      module _ {s : Sign} {o : Operator} (h : K m ≡ Some (kind.Sign s)) (q : pair_operator l s ≡ Some o) where
        pair_second : Tail (λ K. IsExpr K P (rank_pair l)) (λ K. IsExpr K P (within_pair l)) (stops_rank (rank_pair l)) K at (λ f. joined e (operand o f ∷ [])) (m + 1)
        pair_second = tail_both (λ z. joined e (z ∷ []))
            (tail_both (λ z. z) (tail_both (λ z. z) pair_first (step_perhaps e (PairMore l e) (λ t. never_pair l s o q (sym (ap (stops_rank (rank_pair l)) h) ∙ t)))) (step_map (λ x. joined e (x ∷ [])) (Behind (pair_operator l) (λ K. IsExpr K P (within_pair l)))))
            (step_behind (pair_operator l) (λ K. IsExpr K P (within_pair l)) h q)

        pub pair_two : {f : Expr} {n : ℕ} → Exact (λ K. IsExpr K P (within_pair l)) (stops_rank (within_pair l)) K (m + 1) f n → Exact (λ K. IsExpr K P (rank_pair l)) (stops_rank (rank_pair l)) K at (joined e (operand o f ∷ [])) n
        pair_two j = tail_end (λ f. joined e (operand o f ∷ [])) pair_second (stronger_ok (weaker_pair l) j)

        pub pair_two_fails : {i : ℕ} → Refused (λ K. IsExpr K P (within_pair l)) (stops_rank (within_pair l)) K (m + 1) i → Refused (λ K. IsExpr K P (rank_pair l)) (stops_rank (rank_pair l)) K at i
        pair_two_fails j = tail_fails (λ f. joined e (operand o f ∷ [])) pair_second (stronger_fails (weaker_pair l) j)

  -- a whole expression
  chosen_in : (J : Stream) (y : Expr) (a b : ℕ) → IsExpr J P rank_whole y a b → Map (λ z. chosen z.0 z.1) (Chosen P) J y a b
  chosen_in J y a b (whole c e) = ((_, _), (_, c, e), refl)

  chosen_out : (J : Stream) (y : Expr) (a b : ℕ) → Map (λ z. chosen z.0 z.1) (Chosen P) J y a b → IsExpr J P rank_whole y a b
  chosen_out J y a b (z, (m, c, e), q) = subst (λ u. IsExpr J P rank_whole u a b) (sym q) (whole c e)

  -- one more choice in front
  abbrev pub chosen_with : Choice → List Choice × Expr → List Choice × Expr
  chosen_with c z = (c ∷ z.0, z.1)

  abbrev pub Or : Rule Expr
  Or K = IsExpr K P (rank_chain by_or)

  abbrev pub Coloned : Expr → Expr → Rule (List Choice × Expr)
  Coloned t v = Tok (kind.Sign sign.Colon) (Map (chosen_with (IfTrue t v)) (Chosen P))

  -- what goes on behind an operand
  abbrev pub Next : Expr → Rule (List Choice × Expr)
  Next e J y a b = Ret ([], e) J y a b ⊎ (Tok (kind.Sign sign.Elvis) (Map (chosen_with (IfSet e)) (Chosen P)) J y a b ⊎ Tok (kind.Sign sign.Question) (Sub Or (Coloned e)) J y a b)

  parts_in : (J : Stream) (y : List Choice × Expr) (a b : ℕ) → Chosen P J y a b → Sub Or Next J y a b
  parts_in J ([], e) a b (m, choices_none, i) = (_, _, i, inl (refl, refl))
  parts_in J (c ∷ cs, e) a b (m, choices_true t q v k r, i) = (_, _, t, inr (inr (q, (_, _, v, (k, ((cs, e), (_, r, i), refl))))))
  parts_in J (c ∷ cs, e) a b (m, choices_set v q r, i) = (_, _, v, inr (inl (q, ((cs, e), (_, r, i), refl))))

  parts_out : (J : Stream) (y : List Choice × Expr) (a b : ℕ) → Sub Or Next J y a b → Chosen P J y a b
  parts_out J y a b (e, m, i, inl (q, z)) = subst (λ u. Chosen P J u a b) (sym q) (a, choices_none, subst (λ k. IsExpr J P (rank_chain by_or) e a k) (sym z) i)
  parts_out J y a b (e, m, i, inr (inl (q, (z, (k, r, j), u)))) = subst (λ v. Chosen P J v a b) (sym u) (k, choices_set i q r, j)
  parts_out J y a b (e, m, i, inr (inr (q, (v, n, j, (c, (z, (k, r, x), u)))))) = subst (λ w. Chosen P J w a b) (sym u) (k, choices_true i q j c r, x)

  abbrev pub IsNext : Option TokenKind → Type 0
  IsNext t = (t ≡ Some (kind.Sign sign.Elvis)) ⊎ (t ≡ Some (kind.Sign sign.Question))

  abbrev pub Set : Expr → Rule (List Choice × Expr)
  Set e = Tok (kind.Sign sign.Elvis) (Map (chosen_with (IfSet e)) (Chosen P))

  abbrev pub Test : Expr → Rule (List Choice × Expr)
  Test e = Tok (kind.Sign sign.Question) (Sub Or (Coloned e))

  next_begins : (e : Expr) → Begins (Alt (Set e) (Test e)) IsNext
  next_begins e J y a b r = ⊎_elim (λ q. inl q.0) (λ q. inr q.0) r

  next_never : (t : Option TokenKind) → IsNext t → stops_expr t ≡ true → ⊥
  next_never t r h = ⊎_elim (λ q. false≢true (sym (ap stops_expr q) ∙ h)) (λ q. false≢true (sym (ap stops_expr q) ∙ h)) r

  next_join : Joins Next stops_or stops_expr
  next_join = joins_perhaps (λ e. ([], e)) (λ e. Alt (Set e) (Test e)) IsNext weaker_expr next_begins (λ t r. ⊎_elim (λ q. ap stops_or q) (λ q. ap stops_or q) r)

  whole_turn : (K : Stream) (at : ℕ) → Turns (λ K. IsExpr K P rank_whole) (Map (λ z. chosen z.0 z.1) (Chosen P)) stops_expr K at
  whole_turn = as_rule _ _ chosen_in chosen_out stops_expr

  parts_turn : (K : Stream) (at : ℕ) → Turns (Chosen P) (Sub Or Next) stops_expr K at
  parts_turn = as_rule _ _ parts_in parts_out stops_expr

  fill_chosen : Fill (Chosen P) stops_expr
  fill_chosen = let r = fill_rank P (rank_chain by_or) stops_expr in record { tokens = r.tokens; fills = λ J a e st so. let v = r.fills J a e st so in (([], v.0), (a, choices_none, v.1)) }

  colon_join : (e : Expr) → Joins (Coloned e) stops_or stops_expr
  colon_join e = let r = fill_chosen in record {
    leads = λ v J y a b q st. ap stops_or q.0;
    fills = record {
      tokens = kind.Sign sign.Colon ∷ r.tokens;
      fills = λ v J a k st so. let w = r.fills J (a + 1) k st.1 so in (chosen_with (IfTrue e v) w.0, (st.0, (w.0, w.1, refl)));
      ends = λ J a k st so. ap stops_or st.0;
    };
  }

  module _ (K : Stream) {at : ℕ} where
    pub whole_start : Tail (λ K. IsExpr K P rank_whole) (Chosen P) stops_expr K at (put_choices []) at
    whole_start = tail_both (λ z. z) (step_turn (whole_turn K at)) (step_map (λ z. chosen z.0 z.1) (Chosen P))

    module _ (done : List Choice) {n : ℕ} (g : Tail (λ K. IsExpr K P rank_whole) (Chosen P) stops_expr K at (put_choices done) n) where
      pub whole_fails : {i : ℕ} → Refused Or stops_or K n i → Refused (λ K. IsExpr K P rank_whole) stops_expr K at i
      whole_fails r = let j = next_join in tail_fails (put_choices done) g (tail_fails (λ z. z) (step_turn (parts_turn K n)) (sub_fails K j.leads j.fills r))

      module _ {e : Expr} {m : ℕ} (i : Exact Or stops_or K n e m) where
        to_next : Tail (Chosen P) (Next e) stops_expr K n (λ z. z) m
        to_next = let j = next_join in tail_both (λ z. z) (step_turn (parts_turn K n)) (tail_sub j.leads i)

        pub whole_last : (K m ≡ Some (kind.Sign sign.Elvis) → ⊥) → (K m ≡ Some (kind.Sign sign.Question) → ⊥) → Exact (λ K. IsExpr K P rank_whole) stops_expr K at (chosen done e) m
        whole_last h q = subst (λ c. Exact (λ K. IsExpr K P rank_whole) stops_expr K at (chosen c e) m) (append-nil done) (tail_end (put_choices done) g (tail_end (λ z. z) to_next (perhaps_none stops_expr K (Alt (Set e) (Test e)) IsNext ([], e) (next_begins e) (λ r. ⊎_elim h q r))))

        next_some : IsNext (K m) → Tail (Chosen P) (Alt (Set e) (Test e)) stops_expr K n (λ z. z) m
        next_some h = tail_both (λ z. z) to_next (step_perhaps ([], e) (Alt (Set e) (Test e)) (next_never (K m) h))

        push_choice : (c : Choice) {k : ℕ} → Tail (Chosen P) (Chosen P) stops_expr K n (chosen_with c) k → Tail (λ K. IsExpr K P rank_whole) (Chosen P) stops_expr K at (put_choices (done ++ c ∷ [])) k
        push_choice c t = tail_as (λ z. put_choices done (chosen_with c z)) (put_choices (done ++ c ∷ [])) (λ z. ap (λ u. chosen u z.1) (sym (append_assoc done (c ∷ []) z.0))) (tail_both (put_choices done) g t)

        pub whole_set : K m ≡ Some (kind.Sign sign.Elvis) → Tail (λ K. IsExpr K P rank_whole) (Chosen P) stops_expr K at (put_choices (done ++ IfSet e ∷ [])) (m + 1)
        whole_set h = push_choice (IfSet e)
            (tail_both (λ z. z)
            (tail_both (λ z. z) (next_some (inl h)) (step_left (Set e) (Test e) (λ J y b same r. sign_differs (sym h ∙ sym same ∙ r.0))))
            (tail_both (λ z. z) (step_tok (Map (chosen_with (IfSet e)) (Chosen P)) h) (step_map (chosen_with (IfSet e)) (Chosen P))))

        module _ (h : K m ≡ Some (kind.Sign sign.Question)) where
          to_test : Tail (Chosen P) (Sub Or (Coloned e)) stops_expr K n (λ z. z) (m + 1)
          to_test = tail_both (λ z. z)
              (tail_both (λ z. z) (next_some (inr h)) (step_right (Set e) (Test e) (λ J y b same r. sign_differs (sym r.0 ∙ same ∙ h))))
              (step_tok (Sub Or (Coloned e)) h)

          pub whole_test_fails : {i : ℕ} → Refused Or stops_or K (m + 1) i → Refused (λ K. IsExpr K P rank_whole) stops_expr K at i
          whole_test_fails r = let j = colon_join e in tail_fails (put_choices done) g (tail_fails (λ z. z) to_test (sub_fails K j.leads j.fills r))

          module _ {v : Expr} {c : ℕ} (x : Exact Or stops_or K (m + 1) v c) where
            to_colon : Tail (Chosen P) (Coloned e v) stops_expr K n (λ z. z) c
            to_colon = let j = colon_join e in tail_both (λ z. z) to_test (tail_sub j.leads x)

            pub whole_no_colon : (K c ≡ Some (kind.Sign sign.Colon) → ⊥) → Refused (λ K. IsExpr K P rank_whole) stops_expr K at c
            whole_no_colon q = tail_fails (put_choices done) g (tail_fails (λ z. z) to_colon (tok_bad stops_expr K (fill_map (chosen_with (IfTrue e v)) fill_chosen) q))

            pub whole_true : K c ≡ Some (kind.Sign sign.Colon) → Tail (λ K. IsExpr K P rank_whole) (Chosen P) stops_expr K at (put_choices (done ++ IfTrue e v ∷ [])) (c + 1)
            whole_true q = push_choice (IfTrue e v) (tail_both (λ z. z) to_colon (tail_both (λ z. z) (step_tok (Map (chosen_with (IfTrue e v)) (Chosen P)) q) (step_map (chosen_with (IfTrue e v)) (Chosen P))))

  -- one more operand with its operator
  module _ (l : Terms) (K : Stream) {at n : ℕ} (e : Expr) (done : List Operand) (g : Tail (λ K. IsExpr K P (rank_terms l)) (λ K. TermsRest K P l) (stops_rank (rank_terms l)) K at (λ z. joined e (done ++ z)) n) {s : Sign} {o : Operator} (h : K n ≡ Some (kind.Sign s)) (q : terms_operator l s ≡ Some o) where
    pub terms_more_read : {f : Expr} {m : ℕ} → Exact (λ K. IsExpr K P (within_terms l)) (stops_rank (within_terms l)) K (n + 1) f m → Tail (λ K. IsExpr K P (rank_terms l)) (λ K. TermsRest K P l) (stops_rank (rank_terms l)) K at (λ z. joined e ((done ++ operand o f ∷ []) ++ z)) m
    terms_more_read i = more_read (terms_many l) K (joined e) done g (s, o, h, q) (tail_end (λ f. operand o f) (step_behind (terms_operator l) (λ K. IsExpr K P (within_terms l)) h q) i)

    pub terms_more_fails : {i : ℕ} → Refused (λ K. IsExpr K P (within_terms l)) (stops_rank (within_terms l)) K (n + 1) i → Refused (λ K. IsExpr K P (rank_terms l)) (stops_rank (rank_terms l)) K at i
    terms_more_fails r = more_fails (terms_many l) K (joined e) done g (s, o, h, q) (tail_fails (λ f. operand o f) (step_behind (terms_operator l) (λ K. IsExpr K P (within_terms l)) h q) r)

  module _ (l : Terms) (K : Stream) {at n : ℕ} (e : Expr) (done : List Operand) (g : Tail (λ K. IsExpr K P (rank_terms l)) (λ K. TermsRest K P l) (stops_rank (rank_terms l)) K at (λ z. joined e (done ++ z)) n) where
    pub terms_done : ((s : Sign) (o : Operator) → K n ≡ Some (kind.Sign s) → terms_operator l s ≡ Some o → ⊥) → Exact (λ K. IsExpr K P (rank_terms l)) (stops_rank (rank_terms l)) K at (joined e done) n
    terms_done u = all_read (terms_many l) K (joined e) done g (λ t. u t.0 t.1 t.2 t.3)

  module _ (l : Chain) (K : Stream) {at n : ℕ} (e : Expr) (done : List Expr) (g : Tail (λ K. IsExpr K P (rank_chain l)) (λ K. ChainRest K P l) (stops_rank (rank_chain l)) K at (λ z. chained l e (done ++ z)) n) where
    pub chain_more_read : {f : Expr} {m : ℕ} → K n ≡ Some (kind.Sign (chain_sign l)) → Exact (λ K. IsExpr K P (within_chain l)) (stops_rank (within_chain l)) K (n + 1) f m → Tail (λ K. IsExpr K P (rank_chain l)) (λ K. ChainRest K P l) (stops_rank (rank_chain l)) K at (λ z. chained l e ((done ++ f ∷ []) ++ z)) m
    chain_more_read s i = more_read (chain_many l) K (chained l e) done g s (tok_ok (stops_rank (within_chain l)) K s i)

    pub chain_more_fails : {i : ℕ} → K n ≡ Some (kind.Sign (chain_sign l)) → Refused (λ K. IsExpr K P (within_chain l)) (stops_rank (within_chain l)) K (n + 1) i → Refused (λ K. IsExpr K P (rank_chain l)) (stops_rank (rank_chain l)) K at i
    chain_more_fails s r = more_fails (chain_many l) K (chained l e) done g s (tok_fails (stops_rank (within_chain l)) K s r)

    pub chain_done : (K n ≡ Some (kind.Sign (chain_sign l)) → ⊥) → Exact (λ K. IsExpr K P (rank_chain l)) (stops_rank (rank_chain l)) K at (chained l e done) n
    chain_done h = all_read (chain_many l) K (chained l e) done g h
