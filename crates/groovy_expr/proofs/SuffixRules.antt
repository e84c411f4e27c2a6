-- The rules of suffixes, and of an operand with its signs and suffixes.
use Rattle.std.proofs.Common.{◌≡◌, ℕ, ◌+◌, true, false, List, [], ◌∷◌, ◌++◌, ◌⊎◌, inl, inr, ⊎_elim, refl, sym, ap, ◌∙◌, subst, arith, le_refl, Option, Some, None}
use Rattle.std.proofs.lemmas.Bool.{false≢true}
use Rattle.model_syntax.specs.declared.sign.Sign.{Sign}
use Rattle.model_syntax.specs.declared.sign.Sign.TheVariants as sign
use Rattle.model_syntax.specs.declared.token.TokenKind.{TokenKind}
use Rattle.model_syntax.specs.declared.token.TokenKind.TheVariants as kind
use Rattle.model_syntax.specs.declared.tree.Access.{Access}
use Rattle.model_syntax.specs.declared.tree.Access.TheVariants.{Direct}
use Rattle.model_syntax.specs.declared.tree.Arguments.{Arguments}
use Rattle.model_syntax.specs.declared.tree.Expr.{Expr}
use Rattle.model_syntax.specs.declared.tree.Prefix.{Prefix}
use Rattle.model_syntax.specs.declared.tree.Suffix.{Suffix}
use Rattle.model_syntax.specs.declared.tree.Suffix.TheVariants.{Property, Method, Index}
use Rattle.model_syntax.specs.Stream.{Stream, Places}
use Rattle.model_syntax.specs.Operators.{rank_whole, rank_unary, prefix_of, prefixed, suffixed}
use Rattle.model_syntax.specs.Grammar.{SeesDot, dot, safe_dot, Prefixes, prefixes_none, prefixes_more, IsExpr, unary, Suffixes, suffixes_none, suffixes_property, suffixes_method, suffixes_index, IsPrimary, IsCall}
use Rattle.groovy_expr.specs.Answers.{Rule, Stops, Inside, Exact, Refused}
use Rattle.groovy_expr.specs.Stops.{stops_expr, stops_unary, stops_primary, stops_prefixes}
use Rattle.groovy_expr.specs.Firsts.{begins_suffix, opens_call}
use Rattle.groovy_expr.proofs.Calculus.{Tok, Ret, Sub, Perhaps, Begins, Weaker, Fill, Tail, Turns, as_rule, tail_both, tail_end, tail_fails, tail_sub, sub_fails, ret, tok_bad, perhaps_none, fill_ret, inside_more, inside_none, alike, Alt, fills_ret, tok_ok}
use Rattle.groovy_expr.proofs.Lists.{IsMany, joins_many}
use Rattle.groovy_expr.proofs.Steps.{Map, Joins, joins_tok, step_turn, step_tok, step_map, step_perhaps, step_right, Take, step_take, take_bad, same_name}
use Rattle.groovy_expr.proofs.FirstTokens.{begins_primary, fill_primary, primary_first, suffix_first, call_first}

-- signs before an operand
abbrev pub IsPrefix : Option TokenKind → Type 0
IsPrefix t = (s : Sign) × (p : Prefix) × (t ≡ Some (kind.Sign s)) × (prefix_of s ≡ Some p)

abbrev pub OnePrefix : Rule Prefix
OnePrefix J p a b = (s : Sign) × (J a ≡ Some (kind.Sign s)) × (prefix_of s ≡ Some p) × (b ≡ a + 1)

none_prefix : (p : Prefix) → None ≡ Some p → ⊥
none_prefix p e = cc

prefix_never : (s : Sign) (p : Prefix) → prefix_of s ≡ Some p → stops_prefixes (Some (kind.Sign s)) ≡ true → ⊥
prefix_never sign.Not p e h = false≢true h
prefix_never sign.Minus p e h = false≢true h
prefix_never sign.Plus p e h = false≢true h
prefix_never s p e h = none_prefix p e

prefixes_cases : (J : Stream) (ys : List Prefix) (a b : ℕ) → Prefixes J ys a b → ((ys ≡ []) × (b ≡ a)) ⊎ ((x : Prefix) × (xs : List Prefix) × (m : ℕ) × (ys ≡ x ∷ xs) × OnePrefix J x a m × Prefixes J xs m b)
prefixes_cases J ys a b prefixes_none = inl (refl, refl)
prefixes_cases J ys a b (prefixes_more s p r) = inr (_, _, _, refl, (_, s, p, refl), r)

more_prefixes : (J : Stream) (x : Prefix) (xs : List Prefix) (a m b : ℕ) → OnePrefix J x a m → Prefixes J xs m b → Prefixes J (x ∷ xs) a b
more_prefixes J x xs a m b (s, h, q, e) r = prefixes_more h q (subst (λ k. Prefixes J xs k b) e r)

pub prefix_many : IsMany OnePrefix Prefixes IsPrefix (λ t. true) stops_prefixes
prefix_many = record {
  none = λ J a. prefixes_none;
  more = more_prefixes;
  cases = prefixes_cases;
  begins = λ J y a b r. (r.0, y, r.1, r.2);
  never = λ t e h. prefix_never e.0 e.1 e.3 (sym (ap stops_prefixes e.2) ∙ h);
  weaker = λ t e. refl;
  between = λ t e. refl;
}

same_sign : (s u : Sign) → Some (kind.Sign s) ≡ Some (kind.Sign u) → s ≡ u
same_sign s u e = cc

same_prefix : (o p : Prefix) → Some o ≡ Some p → o ≡ p
same_prefix o p e = cc

pub one_prefix : {K : Stream} {n : ℕ} {s : Sign} {p : Prefix} → K n ≡ Some (kind.Sign s) → prefix_of s ≡ Some p → Exact OnePrefix (λ t. true) K n p (n + 1)
one_prefix {K} {n} {s} {p} h q = record {
  after = omega arith;
  inside = inside_more K (kind.Sign s) n (n + 1) h (inside_none K (n + 1));
  spelled = λ J same so. (s, same n (omega arith) ∙ h, q, refl);
  only = λ J y b same r st.
      let su : r.0 ≡ s = same_sign r.0 s (sym r.1 ∙ same n (omega arith) ∙ h) in
      (same_prefix y p (sym r.2 ∙ ap prefix_of su ∙ q), r.3);
}

-- suffixes
pub suffixes_both : {J : Stream} {P : Places} {ss ts : List Suffix} {a m b : ℕ} → Suffixes J P ss a m → Suffixes J P ts m b → Suffixes J P (ss ++ ts) a b
suffixes_both suffixes_none r = r
suffixes_both (suffixes_property d n s) r = suffixes_property d n (suffixes_both s r)
suffixes_both (suffixes_method d n c s) r = suffixes_method d n c (suffixes_both s r)
suffixes_both (suffixes_index o e c s) r = suffixes_index o e c (suffixes_both s r)

pub weaker_unary : Weaker stops_unary stops_primary
weaker_unary (Some (kind.Sign sign.Dot)) e = refl
weaker_unary (Some (kind.Sign sign.SafeDot)) e = refl
weaker_unary (Some (kind.Sign sign.BracketOpen)) e = refl
weaker_unary t e = e

suffix_never : (t : Option TokenKind) → begins_suffix t ≡ true → stops_unary t ≡ true → ⊥
suffix_never (Some (kind.Sign sign.Dot)) e h = false≢true h
suffix_never (Some (kind.Sign sign.SafeDot)) e h = false≢true h
suffix_never (Some (kind.Sign sign.BracketOpen)) e h = false≢true h
suffix_never t e h = false≢true e

suffix_between : (t : Option TokenKind) → begins_suffix t ≡ true → stops_primary t ≡ true
suffix_between (Some (kind.Sign sign.Dot)) e = refl
suffix_between (Some (kind.Sign sign.SafeDot)) e = refl
suffix_between (Some (kind.Sign sign.BracketOpen)) e = refl
suffix_between t e = absurd (false≢true e)

primary_between : (t : Option TokenKind) → begins_primary t ≡ true → stops_prefixes t ≡ true
primary_between (Some (kind.Sign sign.Not)) e = absurd (false≢true e)
primary_between (Some (kind.Sign sign.Minus)) e = absurd (false≢true e)
primary_between (Some (kind.Sign sign.Plus)) e = absurd (false≢true e)
primary_between t e = refl

call_never : (t : Option TokenKind) → opens_call t ≡ true → stops_primary t ≡ true → ⊥
call_never (Some (kind.Sign sign.ParenOpen)) e h = false≢true h
call_never (Some (kind.Sign sign.BraceOpen)) e h = false≢true h
call_never t e h = false≢true e

module _ (P : Places) where
  suffixes_cases : (J : Stream) (ys : List Suffix) (a b : ℕ) → Suffixes J P ys a b → ((ys ≡ []) × (b ≡ a)) ⊎ ((x : Suffix) × (xs : List Suffix) × (m : ℕ) × (ys ≡ x ∷ xs) × Suffixes J P (x ∷ []) a m × Suffixes J P xs m b)
  suffixes_cases J ys a b suffixes_none = inl (refl, refl)
  suffixes_cases J ys a b (suffixes_property d n r) = inr (_, _, _, refl, suffixes_property d n suffixes_none, r)
  suffixes_cases J ys a b (suffixes_method d n c r) = inr (_, _, _, refl, suffixes_method d n c suffixes_none, r)
  suffixes_cases J ys a b (suffixes_index o e c r) = inr (_, _, _, refl, suffixes_index o e c suffixes_none, r)

  pub suffix_many : IsMany (λ K s. Suffixes K P (s ∷ [])) (λ K. Suffixes K P) (λ t. begins_suffix t ≡ true) stops_primary stops_unary
  suffix_many = record {
    none = λ J a. suffixes_none;
    more = λ J x xs a m b p r. suffixes_both p r;
    cases = suffixes_cases;
    begins = λ J y a b r. suffix_first P r;
    never = suffix_never;
    weaker = weaker_unary;
    between = suffix_between;
  }

  pub suffixes_start : (K : Stream) (at : ℕ) → Tail (λ K. Suffixes K P) (λ K. Suffixes K P) stops_unary K at (λ z. [] ++ z) at
  suffixes_start K at = record { after = le_refl at; inside = inside_none K at; whole = λ J same z b r so. r; only = λ J y b same r st. (y, r, refl) }

  -- signs, a primary, suffixes
  abbrev pub Suffixed : List Prefix → Expr → Rule Expr
  Suffixed ps e = Map (λ ss. prefixed ps (suffixed e ss)) (λ K. Suffixes K P)

  abbrev pub Operand_of : List Prefix → Rule Expr
  Operand_of ps = Sub (λ K. IsPrimary K P) (Suffixed ps)

  unary_in : (J : Stream) (y : Expr) (a b : ℕ) → IsExpr J P rank_unary y a b → Sub Prefixes Operand_of J y a b
  unary_in J y a b (unary p i s) = (_, _, p, (_, _, i, (_, s, refl)))

  unary_out : (J : Stream) (y : Expr) (a b : ℕ) → Sub Prefixes Operand_of J y a b → IsExpr J P rank_unary y a b
  unary_out J y a b (ps, m, p, (e, n, i, (ss, s, q))) = subst (λ z. IsExpr J P rank_unary z a b) (sym q) (unary p i s)

  unary_turn : (K : Stream) (at : ℕ) → Turns (λ K. IsExpr K P rank_unary) (Sub Prefixes Operand_of) stops_unary K at
  unary_turn = as_rule _ _ unary_in unary_out stops_unary

  suffixed_join : (ps : List Prefix) → Joins (Suffixed ps) stops_primary stops_unary
  suffixed_join ps = joins_many suffix_many (λ e ss. prefixed ps (suffixed e ss)) weaker_unary suffix_between

  operand_join : Joins Operand_of stops_prefixes stops_unary
  operand_join = record {
    leads = λ ps J y a b r st. primary_between (J a) (primary_first P r.2);
    fills = record {
      tokens = (fill_primary P stops_primary).tokens;
      fills = λ ps J a e st so. let v = (fill_primary P stops_primary).fills J a e st (weaker_unary (J e) so) in
          (prefixed ps (suffixed v.0 []), (v.0, e, v.1, ([], suffixes_none, refl)));
      ends = λ J a e st so. let v = (fill_primary P stops_primary).fills J a e st (weaker_unary (J e) so) in primary_between (J a) (primary_first P v.1);
    };
  }

  module _ (K : Stream) {at : ℕ} where
    pub unary_prefix_fails : {i : ℕ} → Refused Prefixes stops_prefixes K at i → Refused (λ K. IsExpr K P rank_unary) stops_unary K at i
    unary_prefix_fails r = let j = operand_join in tail_fails (λ z. z) (step_turn (unary_turn K at)) (sub_fails K j.leads j.fills r)

    module _ {ps : List Prefix} {m : ℕ} (p : Exact Prefixes stops_prefixes K at ps m) where
      to_primary : Tail (λ K. IsExpr K P rank_unary) (Operand_of ps) stops_unary K at (λ z. z) m
      to_primary = let j = operand_join in tail_both (λ z. z) (step_turn (unary_turn K at)) (tail_sub j.leads p)

      pub unary_fails : {i : ℕ} → Refused (λ K. IsPrimary K P) stops_primary K m i → Refused (λ K. IsExpr K P rank_unary) stops_unary K at i
      unary_fails r = let j = suffixed_join ps in tail_fails (λ z. z) to_primary (sub_fails K j.leads j.fills r)

      module _ {e : Expr} {n : ℕ} (i : Exact (λ K. IsPrimary K P) stops_primary K m e n) where
        to_suffixes : Tail (λ K. IsExpr K P rank_unary) (λ K. Suffixes K P) stops_unary K at (λ ss. prefixed ps (suffixed e ss)) n
        to_suffixes = let j = suffixed_join ps in tail_both (λ z. z) (tail_both (λ z. z) to_primary (tail_sub j.leads i)) (step_map (λ ss. prefixed ps (suffixed e ss)) (λ K. Suffixes K P))

        pub unary_suffix_fails : {k : ℕ} → Refused (λ K. Suffixes K P) stops_unary K n k → Refused (λ K. IsExpr K P rank_unary) stops_unary K at k
        unary_suffix_fails r = tail_fails (λ ss. prefixed ps (suffixed e ss)) to_suffixes r

        pub unary_ok : {ss : List Suffix} {b : ℕ} → Exact (λ K. Suffixes K P) stops_unary K n ss b → Exact (λ K. IsExpr K P rank_unary) stops_unary K at (prefixed ps (suffixed e ss)) b
        unary_ok s = tail_end (λ ss. prefixed ps (suffixed e ss)) to_suffixes s

  -- a name, and arguments where they open
  abbrev pub NameCall : {A : Type 0} → A → (Arguments → A) → Rule A
  NameCall x f = Perhaps x (Map f (λ K. IsCall K P))

  call_begins : {A : Type 0} (f : Arguments → A) → Begins (Map f (λ K. IsCall K P)) (λ t. opens_call t ≡ true)
  call_begins f J y a b r = call_first P r.1

  module _ {A : Type 0} (x : A) (f : Arguments → A) (K : Stream) {at : ℕ} where
    pub no_call : opens_call (K at) ≡ false → Exact (NameCall x f) stops_primary K at x at
    no_call h = perhaps_none stops_primary K (Map f (λ K. IsCall K P)) (λ t. opens_call t ≡ true) x (call_begins f) (λ e. false≢true (sym h ∙ e))

    pub to_call : opens_call (K at) ≡ true → Tail (NameCall x f) (λ K. IsCall K P) stops_primary K at f at
    to_call h = tail_both (λ z. z) (step_perhaps x (Map f (λ K. IsCall K P)) (call_never (K at) h)) (step_map f (λ K. IsCall K P))

  pub fill_name_call : {A : Type 0} (x : A) (f : Arguments → A) (stops : Stops) → Fill (NameCall x f) stops
  fill_name_call x f stops = record { tokens = []; fills = λ J a e st so. (x, inl (refl, st)) }

  -- one suffix
  abbrev pub MemberName : Access → Rule Suffix
  MemberName d = Take kind.Name (λ n. NameCall (Property d n) (Method d n))

  abbrev pub Member : Rule Suffix
  Member J y a b = (d : Access) × SeesDot J a d × MemberName d J y (a + 1) b

  abbrev pub Indexed : Expr → Rule Suffix
  Indexed e = Tok (kind.Sign sign.BracketClose) (Ret (Index e))

  abbrev pub AtIndex : Rule Suffix
  AtIndex = Tok (kind.Sign sign.BracketOpen) (Sub (λ K. IsExpr K P rank_whole) Indexed)

  abbrev pub OneSuffix : Rule Suffix
  OneSuffix K s = Suffixes K P (s ∷ [])

  cons_nil : (x : Suffix) (xs : List Suffix) → x ∷ xs ≡ [] → ⊥
  cons_nil x xs e = cc

  same_head : (x y : Suffix) (xs ys : List Suffix) → x ∷ xs ≡ y ∷ ys → (y ≡ x) × (xs ≡ ys)
  same_head x y xs ys e = (cc, cc)

  nil_end : {J : Stream} {ss : List Suffix} {a b : ℕ} → Suffixes J P ss a b → ss ≡ [] → b ≡ a
  nil_end suffixes_none e = refl
  nil_end (suffixes_property d n r) e = absurd (cons_nil _ _ e)
  nil_end (suffixes_method d n c r) e = absurd (cons_nil _ _ e)
  nil_end (suffixes_index o i c r) e = absurd (cons_nil _ _ e)

  one_in : (J : Stream) (ss : List Suffix) (a b : ℕ) → Suffixes J P ss a b → (y : Suffix) → ss ≡ y ∷ [] → Alt Member AtIndex J y a b
  one_in J ss a b suffixes_none y e = absurd (cons_nil _ _ (sym e))
  one_in J ss a b (suffixes_property d n r) y e = let h = same_head _ y _ [] e in inl (_, d, (_, n, inl (h.0, nil_end r h.1)))
  one_in J ss a b (suffixes_method {args = args} d n c r) y e = let h = same_head _ y _ [] e in inl (_, d, (_, n, inr (_, subst (λ k. IsCall J P args (a + 1 + 1) k) (sym (nil_end r h.1)) c, h.0)))
  one_in J ss a b (suffixes_index o i c r) y e = let h = same_head _ y _ [] e in inr (o, (_, _, i, (c, (h.0, nil_end r h.1))))

  one_out : (J : Stream) (y : Suffix) (a b : ℕ) → Alt Member AtIndex J y a b → Suffixes J P (y ∷ []) a b
  one_out J y a b (inl (d, s, (n, h, inl (q, z)))) = subst (λ u. Suffixes J P (u ∷ []) a b) (sym q) (suffixes_property s h (subst (λ k. Suffixes J P [] (a + 1 + 1) k) (sym z) suffixes_none))
  one_out J y a b (inl (d, s, (n, h, inr (args, c, q)))) = subst (λ u. Suffixes J P (u ∷ []) a b) (sym q) (suffixes_method s h c suffixes_none)
  one_out J y a b (inr (o, (e, m, i, (c, (q, z))))) = subst (λ u. Suffixes J P (u ∷ []) a b) (sym q) (suffixes_index o i c (subst (λ k. Suffixes J P [] (m + 1) k) (sym z) suffixes_none))

  one_turn : (K : Stream) (at : ℕ) → Turns OneSuffix (Alt Member AtIndex) stops_primary K at
  one_turn = as_rule _ _ (λ J y a b r. one_in J (y ∷ []) a b r y refl) one_out stops_primary

  dot_open : {J : Stream} {a : ℕ} {d : Access} → SeesDot J a d → J a ≡ Some (kind.Sign sign.BracketOpen) → ⊥
  dot_open (dot h) e = let k : Some (kind.Sign sign.Dot) ≡ Some (kind.Sign sign.BracketOpen) = sym h ∙ e in cc
  dot_open (safe_dot h) e = let k : Some (kind.Sign sign.SafeDot) ≡ Some (kind.Sign sign.BracketOpen) = sym h ∙ e in cc

  moved_dot : {J K : Stream} {a : ℕ} {d : Access} → J a ≡ K a → SeesDot K a d → SeesDot J a d
  moved_dot e (dot h) = dot (e ∙ h)
  moved_dot e (safe_dot h) = safe_dot (e ∙ h)

  one_dot : {J : Stream} {a : ℕ} {c d : Access} → SeesDot J a c → SeesDot J a d → c ≡ d
  one_dot (dot h) (dot k) = refl
  one_dot (safe_dot h) (safe_dot k) = refl
  one_dot (dot h) (safe_dot k) = absurd (let e : Some (kind.Sign sign.Dot) ≡ Some (kind.Sign sign.SafeDot) = sym h ∙ k in cc)
  one_dot (safe_dot h) (dot k) = absurd (let e : Some (kind.Sign sign.Dot) ≡ Some (kind.Sign sign.SafeDot) = sym k ∙ h in cc)

  dot_inside : {K : Stream} {a : ℕ} {d : Access} → SeesDot K a d → Inside K a (a + 1)
  dot_inside {K} {a} (dot h) = inside_more K (kind.Sign sign.Dot) a (a + 1) h (inside_none K (a + 1))
  dot_inside {K} {a} (safe_dot h) = inside_more K (kind.Sign sign.SafeDot) a (a + 1) h (inside_none K (a + 1))

  module _ (K : Stream) {at : ℕ} where
    module _ {d : Access} (h : SeesDot K at d) where
      to_member : Tail OneSuffix (MemberName d) stops_primary K at (λ z. z) (at + 1)
      to_member = record {
        after = omega arith;
        inside = dot_inside h;
        whole = λ J same z b r so. one_out J z at b (inl (d, moved_dot (same at (omega arith)) h, r));
        only = λ J y b same r st. ⊎_elim
            (λ q. (y, subst (λ c. MemberName c J y (at + 1) b) (one_dot q.1 (moved_dot (same at (omega arith)) h)) q.2, refl))
            (λ q. absurd (dot_open {J = J} (moved_dot (same at (omega arith)) h) q.0))
            (one_in J (y ∷ []) at b r y refl);
      }

      pub member_no_name : ((n : List ℕ) → K (at + 1) ≡ Some (kind.Name n) → ⊥) → Refused OneSuffix stops_primary K at (at + 1)
      member_no_name q = tail_fails (λ z. z) to_member (take_bad stops_primary K kind.Name (λ n. NameCall (Property d n) (Method d n)) [] (fill_name_call (Property d []) (Method d []) stops_primary) q)

      module _ {n : List ℕ} (q : K (at + 1) ≡ Some (kind.Name n)) where
        to_name : Tail OneSuffix (NameCall (Property d n) (Method d n)) stops_primary K at (λ z. z) (at + 1 + 1)
        to_name = tail_both (λ z. z) to_member (step_take kind.Name (λ n. NameCall (Property d n) (Method d n)) same_name q)

        pub member_property : opens_call (K (at + 1 + 1)) ≡ false → Exact OneSuffix stops_primary K at (Property d n) (at + 1 + 1)
        member_property o = tail_end (λ z. z) to_name (no_call (Property d n) (Method d n) K o)

        module _ (o : opens_call (K (at + 1 + 1)) ≡ true) where
          to_arguments : Tail OneSuffix (λ K. IsCall K P) stops_primary K at (Method d n) (at + 1 + 1)
          to_arguments = tail_both (λ z. z) to_name (to_call (Property d n) (Method d n) K o)

          pub member_fails : {i : ℕ} → Refused (λ K. IsCall K P) stops_primary K (at + 1 + 1) i → Refused OneSuffix stops_primary K at i
          member_fails r = tail_fails (Method d n) to_arguments r

          pub member_method : {args : Arguments} {b : ℕ} → Exact (λ K. IsCall K P) stops_primary K (at + 1 + 1) args b → Exact OneSuffix stops_primary K at (Method d n args) b
          member_method e = tail_end (Method d n) to_arguments e

    pub suffix_bad : ((d : Access) → SeesDot K at d → ⊥) → (K at ≡ Some (kind.Sign sign.BracketOpen) → ⊥) → Refused OneSuffix stops_primary K at at
    suffix_bad h q = record {
      from = le_refl at;
      inside = inside_none K at;
      never = λ J y b same r st. ⊎_elim
          (λ u. h u.0 (moved_dot {J = K} {K = J} (sym (same at (le_refl at))) u.1))
          (λ u. q (sym (same at (le_refl at)) ∙ u.0))
          (one_in J (y ∷ []) at b r y refl);
      viable = record {
        closing = kind.Sign sign.Dot ∷ kind.Name [] ∷ [];
        closes = λ J e same st so. (Property Direct [], subst (λ k. Suffixes J P (Property Direct [] ∷ []) at k) (sym st.1.1) (suffixes_property (dot st.0) st.1.0 suffixes_none));
      };
    }

    module _ (o : K at ≡ Some (kind.Sign sign.BracketOpen)) where
      index_join : Joins Indexed stops_expr stops_primary
      index_join = joins_tok (kind.Sign sign.BracketClose) refl (fills_ret {part_stops = stops_primary} Index (alike stops_primary))

      to_index : Tail OneSuffix (Sub (λ K. IsExpr K P rank_whole) Indexed) stops_primary K at (λ z. z) (at + 1)
      to_index = tail_both (λ z. z)
          (tail_both (λ z. z) (step_turn (one_turn K at)) (step_right Member AtIndex (λ J y b same r. dot_open r.1 (same ∙ o))))
          (step_tok (Sub (λ K. IsExpr K P rank_whole) Indexed) o)

      pub index_fails : {i : ℕ} → Refused (λ K. IsExpr K P rank_whole) stops_expr K (at + 1) i → Refused OneSuffix stops_primary K at i
      index_fails r = let j = index_join in tail_fails (λ z. z) to_index (sub_fails K j.leads j.fills r)

      module _ {e : Expr} {m : ℕ} (i : Exact (λ K. IsExpr K P rank_whole) stops_expr K (at + 1) e m) where
        to_close : Tail OneSuffix (Indexed e) stops_primary K at (λ z. z) m
        to_close = let j = index_join in tail_both (λ z. z) to_index (tail_sub j.leads i)

        pub index_open : (K m ≡ Some (kind.Sign sign.BracketClose) → ⊥) → Refused OneSuffix stops_primary K at m
        index_open h = tail_fails (λ z. z) to_close (tok_bad stops_primary K (fill_ret (Index e)) h)

        pub index_ok : K m ≡ Some (kind.Sign sign.BracketClose) → Exact OneSuffix stops_primary K at (Index e) (m + 1)
        index_ok h = tail_end (λ z. z) to_close (tok_ok stops_primary K h (ret stops_primary K (Index e) (m + 1)))
