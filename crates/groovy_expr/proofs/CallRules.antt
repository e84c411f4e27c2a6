-- The rules of arguments and calls.
use Rattle.std.proofs.Common.{◌≡◌, ℕ, ◌+◌, ◌<◌, ◌≤◌, Bool, true, false, List, [], ◌∷◌, ◌⊎◌, inl, inr, ⊎_elim, refl, sym, ap, ◌∙◌, subst, arith, le_refl, Option, Some, None, pos, leb}
use Rattle.std.proofs.lemmas.Bool.Decides.{nat_tests}
use Rattle.std.proofs.lemmas.Bool.{false≢true}
use Rattle.model_syntax.specs.declared.sign.Sign.TheVariants as sign
use Rattle.model_syntax.specs.declared.token.TokenKind.{TokenKind}
use Rattle.model_syntax.specs.declared.token.TokenKind.TheVariants as kind
use Rattle.model_syntax.specs.declared.tree.Arguments.{Arguments}
use Rattle.model_syntax.specs.declared.tree.Entry.{Entry}
use Rattle.model_syntax.specs.declared.tree.Entry.TheVariants.{Named}
use Rattle.model_syntax.specs.declared.tree.Expr.{Expr}
use Rattle.model_syntax.specs.declared.tree.Expr.TheVariants as expr
use Rattle.model_syntax.specs.Stream.{Stream, Places}
use Rattle.model_syntax.specs.Lookahead.{is_named}
use Rattle.model_syntax.specs.Operators.{rank_whole, with_closure}
use Rattle.model_syntax.specs.Grammar.{IsCall, call_empty, call_some, call_closure, MayClose, no_closure, closure_behind, IsArguments, arguments_named, arguments_ordered, IsNamed, named_by_name, named_by_text, primary_number, NamedList, named_last, named_more, ExprList, exprs_last, exprs_more, IsClosure}
use Rattle.model_syntax.proofs.GrammarLemmas.{expr_begins, begins_expr, just}
use Rattle.groovy_expr.specs.Answers.{Rule, Stops, Before, Inside, Exact, Refused}
use Rattle.groovy_expr.specs.Stops.{stops_expr, stops_primary, stops_closed, stops_arguments}
use Rattle.groovy_expr.specs.Firsts.{SeesKey, key_name, key_text}
use Rattle.groovy_expr.proofs.Calculus.{Tok, Sub, Perhaps, Fill, Weaker, Tail, Turns, as_rule, tail_both, tail_end, tail_fails, tail_sub, sub_fails, tok_bad, alike, Alt, perhaps_none, stronger_ok, stronger_fails, inside_none, inside_more, Begins, viable_more}
use Rattle.groovy_expr.proofs.Lists.{IsSeparated}
use Rattle.groovy_expr.proofs.Steps.{Map, Joins, step_turn, step_tok, step_map, step_left, step_right, step_perhaps, same_name}
use Rattle.groovy_expr.proofs.FirstTokens.{fill_rank, closure_first}
use Rattle.groovy_expr.proofs.PrimaryRules.{Whole}
use Rattle.groovy_expr.proofs.Alone.{keyed_end, keyed_then_colon}
use Rattle.groovy_expr.proofs.BracketRules.{hold, held, hold_before, hold_at, hold_end, keyed_of, alone}
use Rattle.groovy_expr.specs.Brackets.{begins_keyed}

pub weaker_arguments : Weaker stops_arguments stops_expr
weaker_arguments (Some (kind.Sign sign.Comma)) e = refl
weaker_arguments (Some (kind.Sign sign.Colon)) e = refl
weaker_arguments t e = e

comma_never : stops_arguments (Some (kind.Sign sign.Comma)) ≡ true → ⊥
comma_never e = false≢true e

-- a name or a text
abbrev is_key : Option TokenKind → Bool
is_key (Some (kind.Name n)) = true
is_key (Some (kind.Text t)) = true
is_key k = false

key_first : (k l : Option TokenKind) → is_named k l ≡ true → is_key k ≡ true
key_first (Some (kind.Name n)) l h = refl
key_first (Some (kind.Text t)) l h = refl
key_first k l h = absurd (false≢true h)

paren_brace : Some (kind.Sign sign.ParenOpen) ≡ Some (kind.Sign sign.BraceOpen) → ⊥
paren_brace e = cc

no_close_named : (k l : Option TokenKind) → is_named k l ≡ true → k ≡ Some (kind.Sign sign.ParenClose) → ⊥
no_close_named k l h e = false≢true (subst (λ z. is_named z l ≡ true) e h)

comma_colon : Some (kind.Sign sign.Comma) ≡ Some (kind.Sign sign.Colon) → ⊥
comma_colon e = cc

module _ (P : Places) where
  exprs_cases : (J : Stream) (ys : List Expr) (a b : ℕ) → ExprList J P ys a b → (x : Expr) × (m : ℕ) × Whole P J x a m × (((ys ≡ x ∷ []) × (b ≡ m)) ⊎ ((xs : List Expr) × (ys ≡ x ∷ xs) × (J m ≡ Some (kind.Sign sign.Comma)) × ExprList J P xs (m + 1) b))
  exprs_cases J ys a b (exprs_last i) = (_, _, i, inl (refl, refl))
  exprs_cases J ys a b (exprs_more i s r) = (_, _, i, inr (_, refl, s, r))

  pub exprs_list : IsSeparated (Whole P) (λ K. ExprList K P) (kind.Sign sign.Comma) stops_expr stops_arguments
  exprs_list = record {
    last = λ J x a b i. exprs_last i;
    more = λ J x xs a m b i s r. exprs_more i s r;
    cases = exprs_cases;
    weaker = weaker_arguments;
    between = refl;
    never = comma_never;
  }

  named_cases : (J : Stream) (ys : List Entry) (a b : ℕ) → NamedList J P ys a b → (x : Entry) × (m : ℕ) × IsNamed J P x a m × (((ys ≡ x ∷ []) × (b ≡ m)) ⊎ ((xs : List Entry) × (ys ≡ x ∷ xs) × (J m ≡ Some (kind.Sign sign.Comma)) × NamedList J P xs (m + 1) b))
  named_cases J ys a b (named_last i) = (_, _, i, inl (refl, refl))
  named_cases J ys a b (named_more i s r) = (_, _, i, inr (_, refl, s, r))

  pub named_list : IsSeparated (λ K. IsNamed K P) (λ K. NamedList K P) (kind.Sign sign.Comma) stops_expr stops_arguments
  named_list = record {
    last = λ J x a b i. named_last i;
    more = λ J x xs a m b i s r. named_more i s r;
    cases = named_cases;
    weaker = weaker_arguments;
    between = refl;
    never = comma_never;
  }

  -- one argument with a name
  abbrev pub NamedValue : List ℕ → Rule Entry
  NamedValue k = Tok (kind.Sign sign.Colon) (Map (Named k) (Whole P))

  abbrev pub Keyed : Rule Entry
  Keyed J y a b = (k : List ℕ) × SeesKey J a k × NamedValue k J y (a + 1) b

  named_in : (J : Stream) (y : Entry) (a b : ℕ) → IsNamed J P y a b → Keyed J y a b
  named_in J y a b (named_by_name n c i) = (_, key_name n, (c, (_, i, refl)))
  named_in J y a b (named_by_text n c i) = (_, key_text n, (c, (_, i, refl)))

  named_out : (J : Stream) (y : Entry) (a b : ℕ) → Keyed J y a b → IsNamed J P y a b
  named_out J y a b (k, key_name n, (c, (v, i, q))) = subst (λ z. IsNamed J P z a b) (sym q) (named_by_name n c i)
  named_out J y a b (k, key_text n, (c, (v, i, q))) = subst (λ z. IsNamed J P z a b) (sym q) (named_by_text n c i)

  moved_key : {J K : Stream} {a : ℕ} {k : List ℕ} → J a ≡ K a → SeesKey K a k → SeesKey J a k
  moved_key e (key_name n) = key_name (e ∙ n)
  moved_key e (key_text n) = key_text (e ∙ n)

  same_literal : (m n : List ℕ) → Some (kind.Text m) ≡ Some (kind.Text n) → m ≡ n
  same_literal m n e = cc

  name_text : (m n : List ℕ) → Some (kind.Name m) ≡ Some (kind.Text n) → ⊥
  name_text m n e = cc

  one_key : {J : Stream} {a : ℕ} {k l : List ℕ} → SeesKey J a k → SeesKey J a l → k ≡ l
  one_key (key_name m) (key_name n) = same_name _ _ (sym m ∙ n)
  one_key (key_text m) (key_text n) = same_literal _ _ (sym m ∙ n)
  one_key (key_name m) (key_text n) = absurd (name_text _ _ (sym m ∙ n))
  one_key (key_text m) (key_name n) = absurd (name_text _ _ (sym n ∙ m))

  key_inside : {K : Stream} {a : ℕ} {k : List ℕ} → SeesKey K a k → Inside K a (a + 1)
  key_inside {K} {a} (key_name n) = inside_more K _ a (a + 1) n (inside_none K (a + 1))
  key_inside {K} {a} (key_text n) = inside_more K _ a (a + 1) n (inside_none K (a + 1))

  fill_value : (k : List ℕ) (stops : Stops) → Fill (NamedValue k) stops
  fill_value k stops = let r = fill_rank P rank_whole stops in record {
    tokens = kind.Sign sign.Colon ∷ r.tokens;
    fills = λ J a e st so. let v = r.fills J (a + 1) e st.1 so in (Named k v.0, (st.0, (v.0, v.1, refl)));
  }

  module _ (K : Stream) {at : ℕ} where
    pub named_no_key : ((k : List ℕ) → SeesKey K at k → ⊥) → Refused (λ K. IsNamed K P) stops_expr K at at
    named_no_key h = record {
      from = le_refl at;
      inside = inside_none K at;
      never = λ J y b same r st. let q = named_in J y at b r in h q.0 (moved_key {J = K} {K = J} (sym (same at (le_refl at))) q.1);
      viable = let r = fill_value [] stops_expr in record {
        closing = kind.Name [] ∷ r.tokens;
        closes = λ J e same st so. let v = r.fills J (at + 1) e st.1 so in (v.0, named_out J v.0 at e ([], key_name st.0, v.1));
      };
    }

    module _ {k : List ℕ} (h : SeesKey K at k) where
      behind_key : Tail (λ K. IsNamed K P) (NamedValue k) stops_expr K at (λ z. z) (at + 1)
      behind_key = record {
        after = omega arith;
        inside = key_inside h;
        whole = λ J same z b r so. named_out J z at b (k, moved_key (same at (omega arith)) h, r);
        only = λ J y b same r st.
            let q = named_in J y at b r in
            (y, subst (λ u. NamedValue u J y (at + 1) b) (one_key q.1 (moved_key (same at (omega arith)) h)) q.2, refl);
      }

      pub named_no_colon : (K (at + 1) ≡ Some (kind.Sign sign.Colon) → ⊥) → Refused (λ K. IsNamed K P) stops_expr K at (at + 1)
      named_no_colon q = tail_fails (λ z. z) behind_key (tok_bad stops_expr K (fill_map_named k) q)
        where
          fill_map_named : (k : List ℕ) → Fill (Map (Named k) (Whole P)) stops_expr
          fill_map_named k = let r = fill_rank P rank_whole stops_expr in record { tokens = r.tokens; fills = λ J a e st so. let v = r.fills J a e st so in (Named k v.0, (v.0, v.1, refl)) }

      module _ (c : K (at + 1) ≡ Some (kind.Sign sign.Colon)) where
        behind_named : Tail (λ K. IsNamed K P) (Whole P) stops_expr K at (Named k) (at + 1 + 1)
        behind_named = tail_both (λ z. z) (tail_both (λ z. z) behind_key (step_tok (Map (Named k) (Whole P)) c)) (step_map (Named k) (Whole P))

        pub named_fails : {i : ℕ} → Refused (Whole P) stops_expr K (at + 1 + 1) i → Refused (λ K. IsNamed K P) stops_expr K at i
        named_fails r = tail_fails (Named k) behind_named r

        pub named_ok : {v : Expr} {m : ℕ} → Exact (Whole P) stops_expr K (at + 1 + 1) v m → Exact (λ K. IsNamed K P) stops_expr K at (Named k v) m
        named_ok e = tail_end (Named k) behind_named e

  -- K before the place n, and nothing from there on
  abbrev cut : Stream → ℕ → Stream
  cut K n k = held (leb (k + 1) n) false (K k) kind.Newline

  cut_before : (K : Stream) (n : ℕ) → Before n (cut K n) K
  cut_before K n k lt = by_test (leb (k + 1) n) refl
    where
      by_test : (u : Bool) → leb (k + 1) n ≡ u → held u false (K k) kind.Newline ≡ K k
      by_test true e = refl
      by_test false e = absurd (let l : n < k + 1 = grind (arith, nat_tests) in omega arith)

  cut_at : (K : Stream) (n : ℕ) → cut K n n ≡ None
  cut_at K n = by_test (leb (n + 1) n) refl
    where
      by_test : (u : Bool) → leb (n + 1) n ≡ u → held u false (K n) kind.Newline ≡ None
      by_test true e = absurd (let l : n + 1 ≤ n = grind (arith, nat_tests) in omega arith)
      by_test false e = refl

  -- What begins with a token is not nothing.
  pub nonempty : {A : Type 0} {R : Rule A} {stops : Stops} (starts : Option TokenKind → Type 0) → Begins R starts → (starts None → ⊥) → stops None ≡ true → (K : Stream) {at n : ℕ} {x : A} → Exact R stops K at x n → at + 1 ≤ n
  nonempty {A} {R} {stops} starts begins none ends K {at} {n} {x} e = by_test (leb (at + 1) n) refl
    where
      by_test : (u : Bool) → leb (at + 1) n ≡ u → at + 1 ≤ n
      by_test true q = grind (arith, nat_tests)
      by_test false q =
          let l : n < at + 1 = grind (arith, nat_tests) in
          let after = e.after in
          let here : n ≡ at = omega arith in
          let s = e.spelled (cut K n) (cut_before K n) (ap stops (cut_at K n) ∙ ends) in
          absurd (none (subst starts (ap (cut K n) (sym here) ∙ cut_at K n) (begins (cut K n) x at n s)))

  named_first : {J : Stream} {es : List Entry} {a b : ℕ} → NamedList J P es a b → is_named (J a) (J (a + 1)) ≡ true
  named_first (named_last (named_by_name n c i)) = keyed_of is_named n c refl
  named_first (named_last (named_by_text n c i)) = keyed_of is_named n c refl
  named_first (named_more (named_by_name n c i) s r) = keyed_of is_named n c refl
  named_first (named_more (named_by_text n c i) s r) = keyed_of is_named n c refl

  exprs_first : {J : Stream} {es : List Expr} {a b : ℕ} → ExprList J P es a b → begins_expr (J a) ≡ true
  exprs_first (exprs_last i) = expr_begins i
  exprs_first (exprs_more i s r) = expr_begins i

  named_keyed : (k l : Option TokenKind) → is_named k l ≡ true → begins_keyed k l ≡ true
  named_keyed (Some (kind.Name n)) l h = h
  named_keyed (Some (kind.Text n)) l h = h
  named_keyed k l h = absurd (false≢true h)

  -- Arguments in order do not begin with a name and `:`.
  unnamed : {J : Stream} {es : List Expr} {a b : ℕ} → ExprList J P es a b → stops_arguments (J b) ≡ true → is_named (J a) (J (a + 1)) ≡ false
  unnamed {J} {es} {a} {b} r st = by_test (is_named (J a) (J (a + 1))) refl
    where
      by_test : (u : Bool) → is_named (J a) (J (a + 1)) ≡ u → u ≡ false
      by_test false q = refl
      by_test true q =
          let p = exprs_cases J es a b r in
          let k = named_keyed (J a) (J (a + 1)) q in
          let ends : stops_expr (J p.1) ≡ true = ⊎_elim (λ z. weaker_arguments (J p.1) (ap stops_arguments (ap J (sym z.1)) ∙ st)) (λ z. ap stops_expr z.2) p.3 in
          let e : p.1 ≡ a + 1 = keyed_end P J a k p.2 ends in
          let c : J p.1 ≡ Some (kind.Sign sign.Colon) = ap J e ∙ keyed_then_colon (J a) (J (a + 1)) k in
          absurd (⊎_elim
          (λ z. false≢true (sym (ap stops_arguments (ap J z.1 ∙ c)) ∙ st))
          (λ z. comma_colon (sym z.2 ∙ c))
          p.3)

  -- Where a name and `:` stand, arguments are refused behind them; and one token alone is an argument.
  key_of_named : {J : Stream} {a : ℕ} (k l : Option TokenKind) → J a ≡ k → is_named k l ≡ true → (n : List ℕ) × SeesKey J a n
  key_of_named (Some (kind.Name n)) l h q = (n, key_name h)
  key_of_named (Some (kind.Text t)) l h q = (t, key_text h)
  key_of_named k l h q = absurd (false≢true q)

  past_named : (K : Stream) (a : ℕ) {i : ℕ} → Refused (λ K. NamedList K P) stops_arguments K a i → is_named (K a) (K (a + 1)) ≡ true → a + 1 ≤ i
  past_named K a {i} f h = by_test (leb (a + 1) i) refl
    where
      by_test : (t : Bool) → leb (a + 1) i ≡ t → a + 1 ≤ i
      by_test true q = grind (arith, nat_tests)
      by_test false q =
          let lt : i < a + 1 = grind (arith, nat_tests) in
          let zero : TokenKind = kind.Int (pos 0) in
          let J : Stream = hold K (a + 1) zero in
          let first : J a ≡ K a = hold_before K (a + 1) zero a (omega arith) in
          let second : J (a + 1) ≡ K (a + 1) = hold_before K (a + 1) zero (a + 1) (le_refl (a + 1)) in
          let colon : J (a + 1) ≡ Some (kind.Sign sign.Colon) = second ∙ keyed_then_colon (K a) (K (a + 1)) (named_keyed (K a) (K (a + 1)) h) in
          let v : Whole P J (expr.Number (pos 0)) (a + 1 + 1) (a + 1 + 1 + 1) = just (primary_number (hold_at K (a + 1) zero)) in
          let k = key_of_named {J = J} (K a) (K (a + 1)) first h in
          let x = named_out J (Named k.0 (expr.Number (pos 0))) a (a + 1 + 1 + 1) (k.0, k.1, (colon, (expr.Number (pos 0), v, refl))) in
          absurd (f.never J (Named k.0 (expr.Number (pos 0)) ∷ []) (a + 1 + 1 + 1) (λ k le. hold_before K (a + 1) zero k (omega arith)) (named_last x) (ap stops_arguments (hold_end K (a + 1) zero)))

  past_ordered : (K : Stream) (a : ℕ) {i : ℕ} (l : Option TokenKind) → Refused (λ K. ExprList K P) stops_arguments K a i → begins_keyed (K a) l ≡ true → a + 1 ≤ i
  past_ordered K a {i} l f h = by_test (leb (a + 1) i) refl
    where
      by_test : (t : Bool) → leb (a + 1) i ≡ t → a + 1 ≤ i
      by_test true q = grind (arith, nat_tests)
      by_test false q =
          let lt : i < a + 1 = grind (arith, nat_tests) in
          let end : TokenKind = kind.Sign sign.Semicolon in
          let J : Stream = hold K a end in
          let x = alone P {J = J} (K a) l (hold_before K a end a (le_refl a)) h in
          absurd (f.never J (x.0 ∷ []) (a + 1) (λ k le. hold_before K a end k (omega arith)) (exprs_last x.1) (ap stops_arguments (hold_at K a end)))

  abbrev pub by_name : List Entry → Arguments
  by_name es = record { named = es; ordered = [] }

  abbrev pub in_order : List Expr → Arguments
  in_order es = record { named = []; ordered = es }

  named_starts : Begins (λ K. NamedList K P) (λ t. is_key t ≡ true)
  named_starts J y a b r = key_first (J a) (J (a + 1)) (named_first r)

  module _ (K : Stream) {at : ℕ} where
    module _ (h : is_named (K at) (K (at + 1)) ≡ true) where
      still_named : (J : Stream) → J at ≡ K at → J (at + 1) ≡ K (at + 1) → is_named (J at) (J (at + 1)) ≡ false → ⊥
      still_named J p q n = false≢true (sym n ∙ keyed_of is_named p q h)

      pub arguments_named_ok : {es : List Entry} {n : ℕ} → Exact (λ K. NamedList K P) stops_arguments K at es n → Exact (λ K. IsArguments K P) stops_arguments K at (by_name es) n
      arguments_named_ok {es} {n} e = record {
        after = e.after;
        inside = e.inside;
        spelled = λ J same so. let r = e.spelled J same so in arguments_named (named_first r) r;
        only = λ J y b same r st.
            let le = nonempty (λ t. is_key t ≡ true) named_starts (λ q. false≢true q) refl K e in
            only_named J y b (same at e.after) (same (at + 1) le) (λ es' q. e.only J es' b same q st) r;
      }
        where
          only_named : (J : Stream) (y : Arguments) (b : ℕ) → J at ≡ K at → J (at + 1) ≡ K (at + 1) → ((es' : List Entry) → NamedList J P es' at b → (es' ≡ es) × (b ≡ n)) → IsArguments J P y at b → (y ≡ by_name es) × (b ≡ n)
          only_named J y b p q f (arguments_named {es = es'} u l) = let o = f es' l in (ap by_name o.0, o.1)
          only_named J y b p q f (arguments_ordered u l) = absurd (still_named J p q u)

      pub arguments_named_fails : {i : ℕ} → Refused (λ K. NamedList K P) stops_arguments K at i → Refused (λ K. IsArguments K P) stops_arguments K at i
      arguments_named_fails {i} f = record {
        from = f.from;
        inside = f.inside;
        never = λ J y b same r st. let le = past_named K at f h in no_named J y b (same at f.from) (same (at + 1) le) (λ es q. f.never J es b same q st) r;
        viable = viable_more (alike stops_arguments) (λ J e same so v. (by_name v.0, arguments_named (named_first v.1) v.1)) f.viable;
      }
        where
          no_named : (J : Stream) (y : Arguments) (b : ℕ) → J at ≡ K at → J (at + 1) ≡ K (at + 1) → ((es : List Entry) → NamedList J P es at b → ⊥) → IsArguments J P y at b → ⊥
          no_named J y b p q f (arguments_named {es = es} u l) = f es l
          no_named J y b p q f (arguments_ordered u l) = still_named J p q u

    module _ (h : is_named (K at) (K (at + 1)) ≡ false) where
      still_ordered : (J : Stream) → J at ≡ K at → J (at + 1) ≡ K (at + 1) → is_named (J at) (J (at + 1)) ≡ true → ⊥
      still_ordered J p q n = false≢true (sym h ∙ keyed_of is_named (sym p) (sym q) n)

      pub arguments_ordered_ok : {es : List Expr} {n : ℕ} → Exact (λ K. ExprList K P) stops_arguments K at es n → Exact (λ K. IsArguments K P) stops_arguments K at (in_order es) n
      arguments_ordered_ok {es} {n} e = record {
        after = e.after;
        inside = e.inside;
        spelled = λ J same so. let r = e.spelled J same so in arguments_ordered (unnamed r so) r;
        only = λ J y b same r st.
            let le = nonempty (λ t. begins_expr t ≡ true) (λ J y a b r. exprs_first r) (λ q. false≢true q) refl K e in
            only_ordered J y b (same at e.after) (same (at + 1) le) (λ es' q. e.only J es' b same q st) r;
      }
        where
          only_ordered : (J : Stream) (y : Arguments) (b : ℕ) → J at ≡ K at → J (at + 1) ≡ K (at + 1) → ((es' : List Expr) → ExprList J P es' at b → (es' ≡ es) × (b ≡ n)) → IsArguments J P y at b → (y ≡ in_order es) × (b ≡ n)
          only_ordered J y b p q f (arguments_ordered {es = es'} u l) = let o = f es' l in (ap in_order o.0, o.1)
          only_ordered J y b p q f (arguments_named u l) = absurd (still_ordered J p q u)

      pub arguments_ordered_fails : {i : ℕ} → Refused (λ K. ExprList K P) stops_arguments K at i → Refused (λ K. IsArguments K P) stops_arguments K at i
      arguments_ordered_fails {i} f = record {
        from = f.from;
        inside = f.inside;
        never = λ J y b same r st. no_ordered J y b (same at f.from) (λ le. same (at + 1) le) (λ es q. f.never J es b same q st) r;
        viable = viable_more (alike stops_arguments) (λ J e same so v. (in_order v.0, arguments_ordered (unnamed v.1 so) v.1)) f.viable;
      }
        where
          no_ordered : (J : Stream) (y : Arguments) (b : ℕ) → J at ≡ K at → (at + 1 ≤ i → J (at + 1) ≡ K (at + 1)) → ((es : List Expr) → ExprList J P es at b → ⊥) → IsArguments J P y at b → ⊥
          no_ordered J y b p q f' (arguments_ordered {es = es} u l) = f' es l
          no_ordered J y b p q f' (arguments_named u l) =
              let k = subst (λ z. begins_keyed z (J (at + 1)) ≡ true) p (named_keyed (J at) (J (at + 1)) u) in
              still_ordered J p (q (past_ordered K at (J (at + 1)) f k)) u

  -- the closure behind `)`, if one stands there
  abbrev pub one_of : Expr → List Expr
  one_of e = e ∷ []

  abbrev ClosureBehind : Rule (List Expr)
  ClosureBehind = Map one_of (λ K. IsClosure K P)

  close_in : (J : Stream) (y : List Expr) (a b : ℕ) → MayClose J P y a b → Perhaps [] ClosureBehind J y a b
  close_in J y a b no_closure = inl (refl, refl)
  close_in J y a b (closure_behind c) = inr (_, c, refl)

  close_out : (J : Stream) (y : List Expr) (a b : ℕ) → Perhaps [] ClosureBehind J y a b → MayClose J P y a b
  close_out J y a b (inl (q, e)) = subst (λ z. MayClose J P z a b) (sym q) (subst (λ k. MayClose J P [] a k) (sym e) no_closure)
  close_out J y a b (inr (e, c, q)) = subst (λ z. MayClose J P z a b) (sym q) (closure_behind c)

  OpensClosure : Option TokenKind → Type 0
  OpensClosure t = t ≡ Some (kind.Sign sign.BraceOpen)

  args_first : {J : Stream} {y : Arguments} {a b : ℕ} → IsArguments J P y a b → J a ≡ Some (kind.Sign sign.ParenClose) → ⊥
  args_first {J} {y} {a} (arguments_named h l) e = no_close_named (J a) (J (a + 1)) (named_first l) e
  args_first (arguments_ordered h l) e = false≢true (sym (ap begins_expr e) ∙ exprs_first l)

  -- `)` and the closure behind it
  abbrev pub Closing : {A : Type 0} → (List Expr → A) → Rule A
  Closing f = Tok (kind.Sign sign.ParenClose) (Map f (λ K. MayClose K P))

  abbrev NoArguments : Rule Arguments
  NoArguments = Closing in_order

  abbrev SomeArguments : Rule Arguments
  SomeArguments = Sub (λ K. IsArguments K P) (λ args. Closing (with_closure args))

  abbrev Parenthesised : Rule Arguments
  Parenthesised = Tok (kind.Sign sign.ParenOpen) (Alt NoArguments SomeArguments)

  abbrev one_closure : Expr → Arguments
  one_closure e = in_order (e ∷ [])

  abbrev ByClosure : Rule Arguments
  ByClosure = Map one_closure (λ K. IsClosure K P)

  call_in : (J : Stream) (y : Arguments) (a b : ℕ) → IsCall J P y a b → Alt Parenthesised ByClosure J y a b
  call_in J y a b (call_empty o c m) = inl (o, inl (c, (_, m, refl)))
  call_in J y a b (call_some o r c m) = inl (o, inr (_, _, r, (c, (_, m, refl))))
  call_in J y a b (call_closure c) = inr (_, c, refl)

  call_out : (J : Stream) (y : Arguments) (a b : ℕ) → Alt Parenthesised ByClosure J y a b → IsCall J P y a b
  call_out J y a b (inl (o, inl (c, (cs, m, q)))) = subst (λ z. IsCall J P z a b) (sym q) (call_empty o c m)
  call_out J y a b (inl (o, inr (args, k, r, (c, (cs, m, q))))) = subst (λ z. IsCall J P z a b) (sym q) (call_some o r c m)
  call_out J y a b (inr (e, c, q)) = subst (λ z. IsCall J P z a b) (sym q) (call_closure c)

  call_turn : (K : Stream) (at : ℕ) → Turns (λ K. IsCall K P) (Alt Parenthesised ByClosure) stops_primary K at
  call_turn = as_rule _ _ call_in call_out stops_primary

  fill_may : {A : Type 0} (f : List Expr → A) (stops : Stops) → Fill (Map f (λ K. MayClose K P)) stops
  fill_may f stops = record { tokens = []; fills = λ J a e st so. (f [], ([], subst (λ k. MayClose J P [] a k) (sym st) no_closure, refl)) }

  args_join : Joins (λ args. Closing (with_closure args)) stops_arguments stops_primary
  args_join = record {
    leads = λ x J y a b r st. ap stops_arguments r.0;
    fills = record {
      tokens = kind.Sign sign.ParenClose ∷ [];
      fills = λ args J a e st so. (with_closure args [], (st.0, ([], subst (λ k. MayClose J P [] (a + 1) k) (sym st.1) no_closure, refl)));
      ends = λ J a e st so. ap stops_arguments st.0;
    };
  }

  module _ (K : Stream) {at : ℕ} where
    pub no_close_ok : (K at ≡ Some (kind.Sign sign.BraceOpen) → ⊥) → Exact (λ K. MayClose K P) stops_primary K at [] at
    no_close_ok h = tail_end (λ z. z) (step_turn (as_rule _ _ close_in close_out stops_primary K at)) (perhaps_none stops_primary K ClosureBehind (λ t. t ≡ Some (kind.Sign sign.BraceOpen)) [] (λ J y a b r. closure_first P r.1) h)

    module _ (h : K at ≡ Some (kind.Sign sign.BraceOpen)) where
      to_closure : Tail (λ K. MayClose K P) (λ K. IsClosure K P) stops_primary K at one_of at
      to_closure = tail_both (λ z. z)
          (tail_both (λ z. z) (step_turn (as_rule _ _ close_in close_out stops_primary K at)) (step_perhaps [] ClosureBehind (λ s. false≢true (sym (ap stops_primary h) ∙ s))))
          (step_map one_of (λ K. IsClosure K P))

      pub close_ok : {e : Expr} {n : ℕ} → Exact (λ K. IsClosure K P) stops_closed K at e n → Exact (λ K. MayClose K P) stops_primary K at (e ∷ []) n
      close_ok e = tail_end one_of to_closure (stronger_ok (λ t q. refl) e)

      pub close_fails : {i : ℕ} → Refused (λ K. IsClosure K P) stops_closed K at i → Refused (λ K. MayClose K P) stops_primary K at i
      close_fails r = tail_fails one_of to_closure (stronger_fails (λ t q. refl) r)

    -- a call by a closure alone
    module _ (h : K at ≡ Some (kind.Sign sign.ParenOpen) → ⊥) where
      by_closure : Tail (λ K. IsCall K P) (λ K. IsClosure K P) stops_primary K at one_closure at
      by_closure = tail_both (λ z. z)
          (tail_both (λ z. z) (step_turn (call_turn K at)) (step_right Parenthesised ByClosure (λ J y b same r. h (sym same ∙ r.0))))
          (step_map one_closure (λ K. IsClosure K P))

      pub call_closure_ok : {e : Expr} {n : ℕ} → Exact (λ K. IsClosure K P) stops_closed K at e n → Exact (λ K. IsCall K P) stops_primary K at (in_order (e ∷ [])) n
      call_closure_ok e = tail_end one_closure by_closure (stronger_ok (λ t q. refl) e)

      pub call_closure_fails : {i : ℕ} → Refused (λ K. IsClosure K P) stops_closed K at i → Refused (λ K. IsCall K P) stops_primary K at i
      call_closure_fails r = tail_fails one_closure by_closure (stronger_fails (λ t q. refl) r)

    -- a call with parentheses
    module _ (o : K at ≡ Some (kind.Sign sign.ParenOpen)) where
      in_call : Tail (λ K. IsCall K P) (Alt NoArguments SomeArguments) stops_primary K at (λ z. z) (at + 1)
      in_call = tail_both (λ z. z)
          (tail_both (λ z. z) (step_turn (call_turn K at)) (step_left Parenthesised ByClosure (λ J y b same r. paren_brace (sym (same ∙ o) ∙ closure_first P r.1))))
          (step_tok (Alt NoArguments SomeArguments) o)

      module _ (c : K (at + 1) ≡ Some (kind.Sign sign.ParenClose)) where
        behind_none : Tail (λ K. IsCall K P) (λ K. MayClose K P) stops_primary K at in_order (at + 1 + 1)
        behind_none = tail_both (λ z. z)
            (tail_both (λ z. z) (tail_both (λ z. z) in_call (step_left NoArguments SomeArguments (λ J y b same r. args_first r.2 (same ∙ c)))) (step_tok (Map in_order (λ K. MayClose K P)) c))
            (step_map in_order (λ K. MayClose K P))

        pub call_empty_ok : {cs : List Expr} {n : ℕ} → Exact (λ K. MayClose K P) stops_primary K (at + 1 + 1) cs n → Exact (λ K. IsCall K P) stops_primary K at (in_order cs) n
        call_empty_ok e = tail_end in_order behind_none e

        pub call_empty_fails : {i : ℕ} → Refused (λ K. MayClose K P) stops_primary K (at + 1 + 1) i → Refused (λ K. IsCall K P) stops_primary K at i
        call_empty_fails r = tail_fails in_order behind_none r

      module _ (c : K (at + 1) ≡ Some (kind.Sign sign.ParenClose) → ⊥) where
        to_arguments : Tail (λ K. IsCall K P) SomeArguments stops_primary K at (λ z. z) (at + 1)
        to_arguments = tail_both (λ z. z) in_call (step_right NoArguments SomeArguments (λ J y b same r. c (sym same ∙ r.0)))

        pub call_some_fails : {i : ℕ} → Refused (λ K. IsArguments K P) stops_arguments K (at + 1) i → Refused (λ K. IsCall K P) stops_primary K at i
        call_some_fails r = let j = args_join in tail_fails (λ z. z) to_arguments (sub_fails K j.leads j.fills r)

        module _ {args : Arguments} {m : ℕ} (e : Exact (λ K. IsArguments K P) stops_arguments K (at + 1) args m) where
          behind_some : Tail (λ K. IsCall K P) (Closing (with_closure args)) stops_primary K at (λ z. z) m
          behind_some = let j = args_join in tail_both (λ z. z) to_arguments (tail_sub j.leads e)

          pub call_open : (K m ≡ Some (kind.Sign sign.ParenClose) → ⊥) → Refused (λ K. IsCall K P) stops_primary K at m
          call_open h = tail_fails (λ z. z) behind_some (tok_bad stops_primary K (fill_may (with_closure args) stops_primary) h)

          module _ (h : K m ≡ Some (kind.Sign sign.ParenClose)) where
            behind_close : Tail (λ K. IsCall K P) (λ K. MayClose K P) stops_primary K at (with_closure args) (m + 1)
            behind_close = tail_both (λ z. z) (tail_both (λ z. z) behind_some (step_tok (Map (with_closure args) (λ K. MayClose K P)) h)) (step_map (with_closure args) (λ K. MayClose K P))

            pub call_some_ok : {cs : List Expr} {n : ℕ} → Exact (λ K. MayClose K P) stops_primary K (m + 1) cs n → Exact (λ K. IsCall K P) stops_primary K at (with_closure args cs) n
            call_some_ok x = tail_end (with_closure args) behind_close x

            pub call_close_fails : {i : ℕ} → Refused (λ K. MayClose K P) stops_primary K (m + 1) i → Refused (λ K. IsCall K P) stops_primary K at i
            call_close_fails r = tail_fails (with_closure args) behind_close r
