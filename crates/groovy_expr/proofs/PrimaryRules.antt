-- The rules of primaries, by their first token.
use Rattle.std.proofs.Common.{◌≡◌, ℕ, ℤ, ◌+◌, true, false, List, [], ◌∷◌, inl, inr, ⊎_elim, refl, sym, ap, subst, Option, Some, None}
use Rattle.model_syntax.specs.declared.sign.Sign.TheVariants as sign
use Rattle.model_syntax.specs.declared.word.Word.TheVariants as word
use Rattle.model_syntax.specs.declared.token.TokenKind.{TokenKind}
use Rattle.model_syntax.specs.declared.token.TokenKind.TheVariants as kind
use Rattle.model_syntax.specs.declared.tree.Arguments.{Arguments}
use Rattle.model_syntax.specs.declared.tree.Entry.{Entry}
use Rattle.model_syntax.specs.declared.tree.Expr.{Expr}
use Rattle.model_syntax.specs.declared.tree.Expr.TheVariants as expr
use Rattle.model_syntax.specs.declared.tree.NewClass.{NewClass}
use Rattle.model_syntax.specs.declared.tree.Part.{Part}
use Rattle.model_syntax.specs.Stream.{Stream, Places, Sees}
use Rattle.model_syntax.specs.Operators.{rank_whole}
use Rattle.model_syntax.specs.Grammar.{IsExpr, MayComma, no_comma, comma_behind, ExprList, exprs_last, exprs_more, EntryList, entries_last, entries_more, IsEntry, IsPrimary, primary_number, primary_text, primary_gstring, primary_true, primary_false, primary_null, primary_name, primary_call, primary_group, primary_no_list, primary_list, primary_no_map, primary_map, primary_closure, primary_new, primary_new_with, IsGString, IsClosure, IsCall, class_text}
use Rattle.groovy_expr.specs.Answers.{Rule, Exact, Refused}
use Rattle.groovy_expr.specs.Brackets.{BracketRest, rest_end, rest_comma, rest_more}
use Rattle.groovy_expr.specs.Stops.{stops_expr, stops_primary, stops_closed}
use Rattle.groovy_expr.specs.Firsts.{opens_call}
use Rattle.groovy_expr.proofs.Calculus.{Tok, Ret, Sub, Never, Tail, IsByToken, by, tail_both, tail_end, tail_fails, tail_sub, sub_fails, ret, tok_ok, tok_bad, refused_here, fill_ret, alike, Alt, fills_ret, stronger_ok, stronger_fails}
use Rattle.groovy_expr.proofs.Steps.{Map, Joins, joins_tok, step_turn, step_tok, step_map, Take}
use Rattle.groovy_expr.proofs.FirstTokens.{begins_primary, fill_primary, primary_first, gstring_first, closure_first}
use Rattle.groovy_expr.proofs.SuffixRules.{NameCall, no_call, to_call}

module _ (P : Places) where
  abbrev pub Whole : Rule Expr
  Whole K = IsExpr K P rank_whole

  -- `new` and a class
  abbrev pub NewArgument : NewClass → Expr → Rule Expr
  NewArgument c e = Tok (kind.Sign sign.ParenClose) (Ret (expr.New c (Some e)))

  abbrev pub NoArgument : NewClass → Rule Expr
  NoArgument c = Tok (kind.Sign sign.ParenClose) (Ret (expr.New c None))

  abbrev pub Created : NewClass → Rule Expr
  Created c = Tok (kind.Sign sign.ParenOpen) (Alt (NoArgument c) (Sub Whole (NewArgument c)))

  abbrev pub class_kind : NewClass → TokenKind
  class_kind c = kind.Name (class_text c)

  abbrev pub Grouped : Expr → Rule Expr
  Grouped e = Tok (kind.Sign sign.ParenClose) (Ret (expr.Group e))

  -- lists and maps
  abbrev pub ListRest : Rule (List Expr)
  ListRest = BracketRest Whole

  abbrev pub MapRest : Rule (List Entry)
  MapRest = BracketRest (λ K. IsEntry K P)

  abbrev pub NoList : Rule Expr
  NoList = Tok (kind.Sign sign.BracketClose) (Ret (expr.List []))

  abbrev pub NoMap : Rule Expr
  NoMap = Tok (kind.Sign sign.Colon) (Tok (kind.Sign sign.BracketClose) (Ret (expr.Map [])))

  abbrev pub list_of : Expr → List Expr → Expr
  list_of e es = expr.List (e ∷ es)

  abbrev pub map_of : Entry → List Entry → Expr
  map_of e es = expr.Map (e ∷ es)

  abbrev pub AList : Rule Expr
  AList = Sub Whole (λ e. Map (list_of e) ListRest)

  abbrev pub AMap : Rule Expr
  AMap = Sub (λ K. IsEntry K P) (λ e. Map (map_of e) MapRest)

  abbrev pub Bracketed : Rule Expr
  Bracketed = Alt NoList (Alt NoMap (Alt AList AMap))

  abbrev pub PrimaryBy : Option TokenKind → Rule Expr
  PrimaryBy (Some (kind.Int v)) = Tok (kind.Int v) (Ret (expr.Number v))
  PrimaryBy (Some (kind.Text t)) = Tok (kind.Text t) (Ret (expr.Literal t))
  PrimaryBy (Some kind.GStringOpen) = Map expr.GString (λ K. IsGString K P)
  PrimaryBy (Some (kind.Name n)) = Tok (kind.Name n) (NameCall P (expr.Variable n) (expr.Call n))
  PrimaryBy (Some (kind.Word word.True)) = Tok (kind.Word word.True) (Ret expr.True)
  PrimaryBy (Some (kind.Word word.False)) = Tok (kind.Word word.False) (Ret expr.False)
  PrimaryBy (Some (kind.Word word.Null)) = Tok (kind.Word word.Null) (Ret expr.Null)
  PrimaryBy (Some (kind.Word word.New)) = Tok (kind.Word word.New) (Take class_kind Created)
  PrimaryBy (Some (kind.Sign sign.ParenOpen)) = Tok (kind.Sign sign.ParenOpen) (Sub Whole Grouped)
  PrimaryBy (Some (kind.Sign sign.BracketOpen)) = Tok (kind.Sign sign.BracketOpen) Bracketed
  PrimaryBy (Some (kind.Sign sign.BraceOpen)) = λ K. IsClosure K P
  PrimaryBy t = Never

  list_in : {J : Stream} {es : List Expr} {a m b : ℕ} → ExprList J P es a m → MayComma J m b → Sees J b sign.BracketClose → Sub Whole (λ e. Map (λ xs. e ∷ xs) ListRest) J es a (b + 1)
  list_in (exprs_last i) no_comma c = (_, _, i, ([], rest_end c, refl))
  list_in (exprs_last i) (comma_behind s) c = (_, _, i, ([], rest_comma s c, refl))
  list_in (exprs_more {e = e} i s r) m c = let q = list_in r m c in (e, _, i, (_, rest_more s q.2 q.3.1, ap (λ u. e ∷ u) q.3.2))

  map_in : {J : Stream} {es : List Entry} {a m b : ℕ} → EntryList J P es a m → MayComma J m b → Sees J b sign.BracketClose → Sub (λ K. IsEntry K P) (λ e. Map (λ xs. e ∷ xs) MapRest) J es a (b + 1)
  map_in (entries_last i) no_comma c = (_, _, i, ([], rest_end c, refl))
  map_in (entries_last i) (comma_behind s) c = (_, _, i, ([], rest_comma s c, refl))
  map_in (entries_more {e = e} i s r) m c = let q = map_in r m c in (e, _, i, (_, rest_more s q.2 q.3.1, ap (λ u. e ∷ u) q.3.2))

  list_out : {J : Stream} {es : List Expr} {m b : ℕ} (e : Expr) (a : ℕ) → Whole J e a m → ListRest J es m b → (n : ℕ) × (k : ℕ) × ExprList J P (e ∷ es) a n × MayComma J n k × Sees J k sign.BracketClose × (b ≡ k + 1)
  list_out e a i (rest_end c) = (_, _, exprs_last i, no_comma, c, refl)
  list_out e a i (rest_comma s c) = (_, _, exprs_last i, comma_behind s, c, refl)
  list_out {m = m} e a i (rest_more {x = x} s j r) = let q = list_out x (m + 1) j r in (q.0, q.1, exprs_more i s q.2, q.3, q.4, q.5)

  map_out : {J : Stream} {es : List Entry} {m b : ℕ} (e : Entry) (a : ℕ) → IsEntry J P e a m → MapRest J es m b → (n : ℕ) × (k : ℕ) × EntryList J P (e ∷ es) a n × MayComma J n k × Sees J k sign.BracketClose × (b ≡ k + 1)
  map_out e a i (rest_end c) = (_, _, entries_last i, no_comma, c, refl)
  map_out e a i (rest_comma s c) = (_, _, entries_last i, comma_behind s, c, refl)
  map_out {m = m} e a i (rest_more {x = x} s j r) = let q = map_out x (m + 1) j r in (q.0, q.1, entries_more i s q.2, q.3, q.4, q.5)

  as_token : (J : Stream) (y : Expr) (a b : ℕ) (k : Option TokenKind) → J a ≡ k → PrimaryBy k J y a b → PrimaryBy (J a) J y a b
  as_token J y a b k h r = subst (λ t. PrimaryBy t J y a b) (sym h) r

  primary_enter : {J : Stream} {y : Expr} {a b : ℕ} → IsPrimary J P y a b → PrimaryBy (J a) J y a b
  primary_enter {J} {y} {a} {b} (primary_number k) = as_token J y a b _ k (k, (refl, refl))
  primary_enter {J} {y} {a} {b} (primary_text k) = as_token J y a b _ k (k, (refl, refl))
  primary_enter {J} {y} {a} {b} (primary_gstring g) = as_token J y a b _ (gstring_first P g) (_, g, refl)
  primary_enter {J} {y} {a} {b} (primary_true k) = as_token J y a b _ k (k, (refl, refl))
  primary_enter {J} {y} {a} {b} (primary_false k) = as_token J y a b _ k (k, (refl, refl))
  primary_enter {J} {y} {a} {b} (primary_null k) = as_token J y a b _ k (k, (refl, refl))
  primary_enter {J} {y} {a} {b} (primary_name k) = as_token J y a b _ k (k, inl (refl, refl))
  primary_enter {J} {y} {a} {b} (primary_call k c) = as_token J y a b _ k (k, inr (_, c, refl))
  primary_enter {J} {y} {a} {b} (primary_group o i c) = as_token J y a b _ o (o, (_, _, i, (c, (refl, refl))))
  primary_enter {J} {y} {a} {b} (primary_no_list o c) = as_token J y a b _ o (o, inl (c, (refl, refl)))
  primary_enter {J} {y} {a} {b} (primary_list o es m c) = let q = list_in es m c in as_token J y a b _ o (o, inr (inr (inl (q.0, q.1, q.2, (q.3.0, q.3.1, ap expr.List q.3.2)))))
  primary_enter {J} {y} {a} {b} (primary_no_map o m c) = as_token J y a b _ o (o, inr (inl (m, (c, (refl, refl)))))
  primary_enter {J} {y} {a} {b} (primary_map o es m c) = let q = map_in es m c in as_token J y a b _ o (o, inr (inr (inr (q.0, q.1, q.2, (q.3.0, q.3.1, ap expr.Map q.3.2)))))
  primary_enter {J} {y} {a} {b} (primary_closure c) = as_token J y a b _ (closure_first P c) c
  primary_enter {J} {y} {a} {b} (primary_new {c = x} w n o c) = as_token J y a b _ w (w, (x, n, (o, inl (c, (refl, refl)))))
  primary_enter {J} {y} {a} {b} (primary_new_with {c = x} w n o i c) = as_token J y a b _ w (w, (x, n, (o, inr (_, _, i, (c, (refl, refl))))))

  at_place : {J : Stream} {x y : Expr} {a m b : ℕ} → (y ≡ x) × (b ≡ m) → IsPrimary J P x a m → IsPrimary J P y a b
  at_place {J} {x} {y} {a} {m} {b} e r = subst (λ k. IsPrimary J P y a k) (sym e.1) (subst (λ z. IsPrimary J P z a m) (sym e.0) r)

  primary_leave : {J : Stream} {y : Expr} {a b : ℕ} (k : Option TokenKind) → PrimaryBy k J y a b → IsPrimary J P y a b
  primary_leave (Some (kind.Int v)) r = at_place r.1 (primary_number r.0)
  primary_leave (Some (kind.Text t)) r = at_place r.1 (primary_text r.0)
  primary_leave (Some kind.GStringOpen) r = at_place (r.2, refl) (primary_gstring r.1)
  primary_leave (Some (kind.Name n)) r = ⊎_elim (λ q. at_place q (primary_name r.0)) (λ q. at_place (q.2, refl) (primary_call r.0 q.1)) r.1
  primary_leave (Some (kind.Word word.True)) r = at_place r.1 (primary_true r.0)
  primary_leave (Some (kind.Word word.False)) r = at_place r.1 (primary_false r.0)
  primary_leave (Some (kind.Word word.Null)) r = at_place r.1 (primary_null r.0)
  primary_leave (Some (kind.Word word.New)) r = ⊎_elim
      (λ q. at_place q.1 (primary_new {c = r.1.0} r.0 r.1.1 r.1.2.0 q.0))
      (λ q. at_place q.3.1 (primary_new_with {c = r.1.0} r.0 r.1.1 r.1.2.0 q.2 q.3.0))
      r.1.2.1
  primary_leave (Some (kind.Sign sign.ParenOpen)) r = at_place r.1.3.1 (primary_group r.0 r.1.2 r.1.3.0)
  primary_leave {J} {y} {a} {b} (Some (kind.Sign sign.BracketOpen)) r = ⊎_elim
      (λ q. at_place q.1 (primary_no_list r.0 q.0))
      (λ t. ⊎_elim
      (λ q. at_place q.1.1 (primary_no_map r.0 q.0 q.1.0))
      (λ u. ⊎_elim
      (λ q. let o = list_out q.0 (a + 1) q.2 q.3.1 in at_place (q.3.2, o.5) (primary_list r.0 o.2 o.3 o.4))
      (λ q. let o = map_out q.0 (a + 1) q.2 q.3.1 in at_place (q.3.2, o.5) (primary_map r.0 o.2 o.3 o.4))
      u)
      t)
      r.1
  primary_leave (Some (kind.Sign sign.BraceOpen)) r = primary_closure r
  primary_leave k r = elim r [ ]

  pub primary_by : IsByToken (λ K. IsPrimary K P) PrimaryBy
  primary_by = record { enter = primary_enter; leave = primary_leave }

  -- what each alternative leaves to be read
  module _ (K : Stream) {at : ℕ} where
    at_token : (k : Option TokenKind) → K at ≡ k → Tail (λ K. IsPrimary K P) (PrimaryBy k) stops_primary K at (λ z. z) at
    at_token k h = step_turn (by primary_by stops_primary K k h)

    pub number_ok : {v : ℤ} → K at ≡ Some (kind.Int v) → Exact (λ K. IsPrimary K P) stops_primary K at (expr.Number v) (at + 1)
    number_ok {v} h = tail_end (λ z. z) (at_token _ h) (tok_ok stops_primary K h (ret stops_primary K (expr.Number v) (at + 1)))

    pub literal_ok : {t : List ℕ} → K at ≡ Some (kind.Text t) → Exact (λ K. IsPrimary K P) stops_primary K at (expr.Literal t) (at + 1)
    literal_ok {t} h = tail_end (λ z. z) (at_token _ h) (tok_ok stops_primary K h (ret stops_primary K (expr.Literal t) (at + 1)))

    pub true_ok : K at ≡ Some (kind.Word word.True) → Exact (λ K. IsPrimary K P) stops_primary K at expr.True (at + 1)
    true_ok h = tail_end (λ z. z) (at_token _ h) (tok_ok stops_primary K h (ret stops_primary K expr.True (at + 1)))

    pub false_ok : K at ≡ Some (kind.Word word.False) → Exact (λ K. IsPrimary K P) stops_primary K at expr.False (at + 1)
    false_ok h = tail_end (λ z. z) (at_token _ h) (tok_ok stops_primary K h (ret stops_primary K expr.False (at + 1)))

    pub null_ok : K at ≡ Some (kind.Word word.Null) → Exact (λ K. IsPrimary K P) stops_primary K at expr.Null (at + 1)
    null_ok h = tail_end (λ z. z) (at_token _ h) (tok_ok stops_primary K h (ret stops_primary K expr.Null (at + 1)))

    to_text : K at ≡ Some kind.GStringOpen → Tail (λ K. IsPrimary K P) (λ K. IsGString K P) stops_primary K at expr.GString at
    to_text h = tail_both (λ z. z) (at_token _ h) (step_map expr.GString (λ K. IsGString K P))

    pub text_ok : {ps : List Part} {m : ℕ} → K at ≡ Some kind.GStringOpen → Exact (λ K. IsGString K P) stops_closed K at ps m → Exact (λ K. IsPrimary K P) stops_primary K at (expr.GString ps) m
    text_ok h e = tail_end expr.GString (to_text h) (stronger_ok (λ t q. refl) e)

    pub text_fails : {i : ℕ} → K at ≡ Some kind.GStringOpen → Refused (λ K. IsGString K P) stops_closed K at i → Refused (λ K. IsPrimary K P) stops_primary K at i
    text_fails h r = tail_fails expr.GString (to_text h) (stronger_fails (λ t q. refl) r)

    pub closure_ok : {x : Expr} {m : ℕ} → K at ≡ Some (kind.Sign sign.BraceOpen) → Exact (λ K. IsClosure K P) stops_closed K at x m → Exact (λ K. IsPrimary K P) stops_primary K at x m
    closure_ok h e = tail_end (λ z. z) (at_token _ h) (stronger_ok (λ t q. refl) e)

    pub closure_fails : {i : ℕ} → K at ≡ Some (kind.Sign sign.BraceOpen) → Refused (λ K. IsClosure K P) stops_closed K at i → Refused (λ K. IsPrimary K P) stops_primary K at i
    closure_fails h r = tail_fails (λ z. z) (at_token _ h) (stronger_fails (λ t q. refl) r)

    pub primary_bad : (begins_primary (K at) ≡ true → ⊥) → Refused (λ K. IsPrimary K P) stops_primary K at at
    primary_bad h = refused_here (λ t. begins_primary t ≡ true) (fill_primary P stops_primary) (λ J y a b r. primary_first P r) h

    module _ {n : List ℕ} (h : K at ≡ Some (kind.Name n)) where
      behind_name : Tail (λ K. IsPrimary K P) (NameCall P (expr.Variable n) (expr.Call n)) stops_primary K at (λ z. z) (at + 1)
      behind_name = tail_both (λ z. z) (at_token _ h) (step_tok (NameCall P (expr.Variable n) (expr.Call n)) h)

      pub variable_ok : opens_call (K (at + 1)) ≡ false → Exact (λ K. IsPrimary K P) stops_primary K at (expr.Variable n) (at + 1)
      variable_ok o = tail_end (λ z. z) behind_name (no_call P (expr.Variable n) (expr.Call n) K o)

      module _ (o : opens_call (K (at + 1)) ≡ true) where
        behind_function : Tail (λ K. IsPrimary K P) (λ K. IsCall K P) stops_primary K at (expr.Call n) (at + 1)
        behind_function = tail_both (λ z. z) behind_name (to_call P (expr.Variable n) (expr.Call n) K o)

        pub call_ok : {args : Arguments} {m : ℕ} → Exact (λ K. IsCall K P) stops_primary K (at + 1) args m → Exact (λ K. IsPrimary K P) stops_primary K at (expr.Call n args) m
        call_ok e = tail_end (expr.Call n) behind_function e

        pub call_fails : {i : ℕ} → Refused (λ K. IsCall K P) stops_primary K (at + 1) i → Refused (λ K. IsPrimary K P) stops_primary K at i
        call_fails r = tail_fails (expr.Call n) behind_function r

    module _ (h : K at ≡ Some (kind.Sign sign.ParenOpen)) where
      group_join : Joins Grouped stops_expr stops_primary
      group_join = joins_tok (kind.Sign sign.ParenClose) refl (fills_ret {part_stops = stops_primary} expr.Group (alike stops_primary))

      in_group : Tail (λ K. IsPrimary K P) (Sub Whole Grouped) stops_primary K at (λ z. z) (at + 1)
      in_group = tail_both (λ z. z) (at_token _ h) (step_tok (Sub Whole Grouped) h)

      pub group_fails : {i : ℕ} → Refused Whole stops_expr K (at + 1) i → Refused (λ K. IsPrimary K P) stops_primary K at i
      group_fails r = let j = group_join in tail_fails (λ z. z) in_group (sub_fails K j.leads j.fills r)

      module _ {e : Expr} {m : ℕ} (i : Exact Whole stops_expr K (at + 1) e m) where
        behind_group : Tail (λ K. IsPrimary K P) (Grouped e) stops_primary K at (λ z. z) m
        behind_group = let j = group_join in tail_both (λ z. z) in_group (tail_sub j.leads i)

        pub group_open : (K m ≡ Some (kind.Sign sign.ParenClose) → ⊥) → Refused (λ K. IsPrimary K P) stops_primary K at m
        group_open q = tail_fails (λ z. z) behind_group (tok_bad stops_primary K (fill_ret (expr.Group e)) q)

        pub group_ok : K m ≡ Some (kind.Sign sign.ParenClose) → Exact (λ K. IsPrimary K P) stops_primary K at (expr.Group e) (m + 1)
        group_ok q = tail_end (λ z. z) behind_group (tok_ok stops_primary K q (ret stops_primary K (expr.Group e) (m + 1)))
