-- The rules of texts with expressions.
use Rattle.std.proofs.Common.{◌≡◌, ℕ, ◌+◌, true, List, [], ◌∷◌, ◌++◌, ◌⊎◌, inl, inr, refl, sym, ap, ◌∙◌, subst, arith, le_refl, Option, Some, None}
use Rattle.std.proofs.lemmas.Bool.{false≢true}
use Rattle.model_syntax.specs.declared.sign.Sign.TheVariants as sign
use Rattle.model_syntax.specs.declared.token.TokenKind.{TokenKind}
use Rattle.model_syntax.specs.declared.token.TokenKind.TheVariants as kind
use Rattle.model_syntax.specs.declared.tree.Access.TheVariants.{Direct}
use Rattle.model_syntax.specs.declared.tree.Expr.{Expr}
use Rattle.model_syntax.specs.declared.tree.Expr.TheVariants as expr
use Rattle.model_syntax.specs.declared.tree.Part.{Part}
use Rattle.model_syntax.specs.declared.tree.Part.TheVariants.{Plain, Inner}
use Rattle.model_syntax.specs.declared.tree.Suffix.{Suffix}
use Rattle.model_syntax.specs.declared.tree.Suffix.TheVariants.{Property}
use Rattle.model_syntax.specs.Stream.{Stream, Places}
use Rattle.model_syntax.specs.Operators.{suffixed}
use Rattle.model_syntax.specs.Grammar.{Dotted, dotted_none, dotted_more, IsGString, gstring, Parts, parts_none, parts_plain, parts_braces, parts_path}
use Rattle.groovy_expr.specs.Answers.{Rule, Stops, Exact, Refused}
use Rattle.groovy_expr.specs.Stops.{stops_expr, stops_closed, stops_parts, stops_part}
use Rattle.groovy_expr.specs.Firsts.{begins_part}
use Rattle.groovy_expr.proofs.Calculus.{Tok, Ret, Sub, Never, Fill, Weaker, Tail, IsByToken, by, as_rule, tail_both, tail_end, tail_fails, tail_sub, sub_fails, ret, tok_ok, tok_bad, refused_here, fill_ret, alike, fills_ret, stronger_ok, stronger_fails}
use Rattle.groovy_expr.proofs.Lists.{IsMany}
use Rattle.groovy_expr.proofs.Steps.{Map, Joins, joins_tok, step_turn, step_tok, step_map, Take, step_take, take_bad, same_name}
use Rattle.groovy_expr.proofs.PrimaryRules.{Whole}

-- names behind dots
abbrev pub name_of : List ℕ → Suffix
name_of n = Property Direct n

abbrev pub OneDotted : Rule Suffix
OneDotted = Tok (kind.Sign sign.Dot) (Take kind.Name (λ n. Ret (name_of n)))

dotted_cases : (J : Stream) (ys : List Suffix) (a b : ℕ) → Dotted J ys a b → ((ys ≡ []) × (b ≡ a)) ⊎ ((x : Suffix) × (xs : List Suffix) × (m : ℕ) × (ys ≡ x ∷ xs) × OneDotted J x a m × Dotted J xs m b)
dotted_cases J ys a b dotted_none = inl (refl, refl)
dotted_cases J ys a b (dotted_more d n r) = inr (_, _, _, refl, (d, (_, n, (refl, refl))), r)

more_dotted : (J : Stream) (x : Suffix) (xs : List Suffix) (a m b : ℕ) → OneDotted J x a m → Dotted J xs m b → Dotted J (x ∷ xs) a b
more_dotted J x xs a m b (d, (n, h, (q, e))) r = subst (λ z. Dotted J (z ∷ xs) a b) (sym q) (dotted_more d h (subst (λ k. Dotted J xs k b) e r))

pub dotted_many : IsMany OneDotted Dotted (λ t. t ≡ Some (kind.Sign sign.Dot)) stops_closed stops_part
dotted_many = record {
  none = λ J a. dotted_none;
  more = more_dotted;
  cases = dotted_cases;
  begins = λ J y a b r. r.0;
  never = λ t e h. false≢true (sym (ap stops_part e) ∙ h);
  weaker = λ t e. refl;
  between = λ t e. refl;
}

module _ (K : Stream) {at : ℕ} (h : K at ≡ Some (kind.Sign sign.Dot)) where
  behind_dot : Tail OneDotted (Take kind.Name (λ n. Ret (name_of n))) stops_closed K at (λ z. z) (at + 1)
  behind_dot = step_tok (Take kind.Name (λ n. Ret (name_of n))) h

  pub dotted_bad : ((n : List ℕ) → K (at + 1) ≡ Some (kind.Name n) → ⊥) → Refused OneDotted stops_closed K at (at + 1)
  dotted_bad q = tail_fails (λ z. z) behind_dot (take_bad stops_closed K kind.Name (λ n. Ret (name_of n)) [] (fill_ret (name_of [])) q)

  pub dotted_ok : {n : List ℕ} → K (at + 1) ≡ Some (kind.Name n) → Exact OneDotted stops_closed K at (name_of n) (at + 1 + 1)
  dotted_ok {n} q = tail_end (λ z. z) (tail_both (λ z. z) behind_dot (step_take kind.Name (λ n. Ret (name_of n)) same_name q)) (ret stops_closed K (name_of n) (at + 1 + 1))

pub parts_both : {J : Stream} {P : Places} {ps qs : List Part} {a m b : ℕ} → Parts J P ps a m → Parts J P qs m b → Parts J P (ps ++ qs) a b
parts_both parts_none r = r
parts_both (parts_plain t s) r = parts_plain t (parts_both s r)
parts_both (parts_braces o e c s) r = parts_braces o e c (parts_both s r)
parts_both (parts_path o n d s) r = parts_path o n d (parts_both s r)

weaker_parts : Weaker stops_parts stops_part
weaker_parts (Some kind.GStringClose) e = refl
weaker_parts t e = absurd (false≢true e)

part_never : (t : Option TokenKind) → begins_part t ≡ true → stops_parts t ≡ true → ⊥
part_never (Some (kind.GStringPart p)) e h = false≢true h
part_never (Some kind.ExpressionOpen) e h = false≢true h
part_never (Some kind.PathOpen) e h = false≢true h
part_never t e h = false≢true e

part_between : (t : Option TokenKind) → begins_part t ≡ true → stops_part t ≡ true
part_between (Some (kind.GStringPart p)) e = refl
part_between (Some kind.ExpressionOpen) e = refl
part_between (Some kind.PathOpen) e = refl
part_between t e = absurd (false≢true e)

kind_part : (k : TokenKind) → ((t : List ℕ) → k ≡ kind.GStringPart t → ⊥) → (k ≡ kind.ExpressionOpen → ⊥) → (k ≡ kind.PathOpen → ⊥) → begins_part (Some k) ≡ true → ⊥
kind_part (kind.GStringPart u) t e p h = t u refl
kind_part kind.ExpressionOpen t e p h = e refl
kind_part kind.PathOpen t e p h = p refl
kind_part k t e p h = false≢true h

dot_between : (t : Option TokenKind) → t ≡ Some (kind.Sign sign.Dot) → stops_closed t ≡ true
dot_between t e = refl

cons_nil : (x : Part) (xs : List Part) → x ∷ xs ≡ [] → ⊥
cons_nil x xs e = cc

same_head : (x y : Part) (xs ys : List Part) → x ∷ xs ≡ y ∷ ys → (y ≡ x) × (xs ≡ ys)
same_head x y xs ys e = (cc, cc)

module _ (P : Places) where
  parts_cases : (J : Stream) (ys : List Part) (a b : ℕ) → Parts J P ys a b → ((ys ≡ []) × (b ≡ a)) ⊎ ((x : Part) × (xs : List Part) × (m : ℕ) × (ys ≡ x ∷ xs) × Parts J P (x ∷ []) a m × Parts J P xs m b)
  parts_cases J ys a b parts_none = inl (refl, refl)
  parts_cases J ys a b (parts_plain t r) = inr (_, _, _, refl, parts_plain t parts_none, r)
  parts_cases J ys a b (parts_braces o e c r) = inr (_, _, _, refl, parts_braces o e c parts_none, r)
  parts_cases J ys a b (parts_path o n d r) = inr (_, _, _, refl, parts_path o n d parts_none, r)

  pub part_first : {J : Stream} {p : Part} {ps : List Part} {a b : ℕ} → Parts J P (p ∷ ps) a b → begins_part (J a) ≡ true
  part_first (parts_plain t r) = ap begins_part t
  part_first (parts_braces o e c r) = ap begins_part o
  part_first (parts_path o n d r) = ap begins_part o

  pub part_many : IsMany (λ K p. Parts K P (p ∷ [])) (λ K. Parts K P) (λ t. begins_part t ≡ true) stops_part stops_parts
  part_many = record {
    none = λ J a. parts_none;
    more = λ J x xs a m b p r. parts_both p r;
    cases = parts_cases;
    begins = λ J y a b r. part_first r;
    never = part_never;
    weaker = weaker_parts;
    between = part_between;
  }

  pub parts_start : (K : Stream) (at : ℕ) → Tail (λ K. Parts K P) (λ K. Parts K P) stops_parts K at (λ z. [] ++ z) at
  parts_start K at = record { after = le_refl at; inside = λ k le lt. absurd (omega arith); whole = λ J same z b r so. r; only = λ J y b same r st. (y, r, refl) }

  -- one part
  abbrev pub OnePart : Rule Part
  OnePart K p = Parts K P (p ∷ [])

  abbrev pub Braced : Expr → Rule Part
  Braced e = Tok (kind.Sign sign.BraceClose) (Ret (Inner e))

  abbrev pub path_of : List ℕ → List Suffix → Part
  path_of n ss = Inner (suffixed (expr.Variable n) ss)

  abbrev pub PartBy : Option TokenKind → Rule Part
  PartBy (Some (kind.GStringPart t)) = Tok (kind.GStringPart t) (Ret (Plain t))
  PartBy (Some kind.ExpressionOpen) = Tok kind.ExpressionOpen (Sub (Whole P) Braced)
  PartBy (Some kind.PathOpen) = Tok kind.PathOpen (Take kind.Name (λ n. Map (path_of n) Dotted))
  PartBy t = Never

  as_token : (J : Stream) (y : Part) (a b : ℕ) (k : Option TokenKind) → J a ≡ k → PartBy k J y a b → PartBy (J a) J y a b
  as_token J y a b k h r = subst (λ t. PartBy t J y a b) (sym h) r

  nil_end : {J : Stream} {ps : List Part} {a b : ℕ} → Parts J P ps a b → ps ≡ [] → b ≡ a
  nil_end parts_none e = refl
  nil_end (parts_plain t r) e = absurd (cons_nil _ _ e)
  nil_end (parts_braces o i c r) e = absurd (cons_nil _ _ e)
  nil_end (parts_path o n d r) e = absurd (cons_nil _ _ e)

  part_in : (J : Stream) (ps : List Part) (a b : ℕ) → Parts J P ps a b → (y : Part) → ps ≡ y ∷ [] → PartBy (J a) J y a b
  part_in J ps a b parts_none y e = absurd (cons_nil _ _ (sym e))
  part_in J ps a b (parts_plain t r) y e = let h = same_head _ y _ [] e in as_token J y a b _ t (t, (h.0, nil_end r h.1))
  part_in J ps a b (parts_braces o i c r) y e = let h = same_head _ y _ [] e in as_token J y a b _ o (o, (_, _, i, (c, (h.0, nil_end r h.1))))
  part_in J ps a b (parts_path {ss = ss} o n d r) y e = let h = same_head _ y _ [] e in as_token J y a b _ o (o, (_, n, (_, subst (λ k. Dotted J ss (a + 1 + 1) k) (sym (nil_end r h.1)) d, h.0)))

  at_place : {J : Stream} {x y : Part} {a m b : ℕ} → (y ≡ x) × (b ≡ m) → Parts J P (x ∷ []) a m → Parts J P (y ∷ []) a b
  at_place {J} {x} {y} {a} {m} {b} e r = subst (λ k. Parts J P (y ∷ []) a k) (sym e.1) (subst (λ z. Parts J P (z ∷ []) a m) (sym e.0) r)

  part_leave : {J : Stream} {y : Part} {a b : ℕ} (k : Option TokenKind) → PartBy k J y a b → Parts J P (y ∷ []) a b
  part_leave (Some (kind.GStringPart t)) r = at_place r.1 (parts_plain r.0 parts_none)
  part_leave (Some kind.ExpressionOpen) r = at_place r.1.3.1 (parts_braces r.0 r.1.2 r.1.3.0 parts_none)
  part_leave (Some kind.PathOpen) r = at_place (r.1.2.2, refl) (parts_path r.0 r.1.1 r.1.2.1 parts_none)
  part_leave k r = elim r [ ]

  part_by : IsByToken OnePart PartBy
  part_by = record { enter = λ {J} {y} {a} {b} r. part_in J (y ∷ []) a b r y refl; leave = part_leave }

  fill_part : (stops : Stops) → Fill OnePart stops
  fill_part stops = record { tokens = kind.GStringPart [] ∷ []; fills = λ J a e st so. (Plain [], subst (λ k. Parts J P (Plain [] ∷ []) a k) (sym st.1) (parts_plain st.0 parts_none)) }

  module _ (K : Stream) {at : ℕ} where
    pub part_bad : (begins_part (K at) ≡ true → ⊥) → Refused OnePart stops_part K at at
    part_bad h = refused_here (λ t. begins_part t ≡ true) (fill_part stops_part) (λ J y a b r. part_first r) h

    pub no_part_kind : {k : TokenKind} → K at ≡ Some k → ((t : List ℕ) → k ≡ kind.GStringPart t → ⊥) → (k ≡ kind.ExpressionOpen → ⊥) → (k ≡ kind.PathOpen → ⊥) → Refused OnePart stops_part K at at
    no_part_kind {k} h t e p = part_bad (λ q. kind_part k t e p (sym (ap begins_part h) ∙ q))

    pub no_part_end : K at ≡ None → Refused OnePart stops_part K at at
    no_part_end h = part_bad (λ q. false≢true (sym (ap begins_part h) ∙ q))

    pub plain_ok : {t : List ℕ} → K at ≡ Some (kind.GStringPart t) → Exact OnePart stops_part K at (Plain t) (at + 1)
    plain_ok {t} h = tail_end (λ z. z) (step_turn (by part_by stops_part K _ h)) (tok_ok stops_part K h (ret stops_part K (Plain t) (at + 1)))

    module _ (h : K at ≡ Some kind.ExpressionOpen) where
      braced_join : Joins Braced stops_expr stops_part
      braced_join = joins_tok (kind.Sign sign.BraceClose) refl (fills_ret {part_stops = stops_part} Inner (alike stops_part))

      in_braces : Tail OnePart (Sub (Whole P) Braced) stops_part K at (λ z. z) (at + 1)
      in_braces = tail_both (λ z. z) (step_turn (by part_by stops_part K _ h)) (step_tok (Sub (Whole P) Braced) h)

      pub braces_fails : {i : ℕ} → Refused (Whole P) stops_expr K (at + 1) i → Refused OnePart stops_part K at i
      braces_fails r = let j = braced_join in tail_fails (λ z. z) in_braces (sub_fails K j.leads j.fills r)

      module _ {e : Expr} {m : ℕ} (i : Exact (Whole P) stops_expr K (at + 1) e m) where
        behind_braced : Tail OnePart (Braced e) stops_part K at (λ z. z) m
        behind_braced = let j = braced_join in tail_both (λ z. z) in_braces (tail_sub j.leads i)

        pub braces_open : (K m ≡ Some (kind.Sign sign.BraceClose) → ⊥) → Refused OnePart stops_part K at m
        braces_open q = tail_fails (λ z. z) behind_braced (tok_bad stops_part K (fill_ret (Inner e)) q)

        pub braces_ok : K m ≡ Some (kind.Sign sign.BraceClose) → Exact OnePart stops_part K at (Inner e) (m + 1)
        braces_ok q = tail_end (λ z. z) behind_braced (tok_ok stops_part K q (ret stops_part K (Inner e) (m + 1)))

    module _ (h : K at ≡ Some kind.PathOpen) where
      behind_dollar : Tail OnePart (Take kind.Name (λ n. Map (path_of n) Dotted)) stops_part K at (λ z. z) (at + 1)
      behind_dollar = tail_both (λ z. z) (step_turn (by part_by stops_part K _ h)) (step_tok (Take kind.Name (λ n. Map (path_of n) Dotted)) h)

      pub path_bad : ((n : List ℕ) → K (at + 1) ≡ Some (kind.Name n) → ⊥) → Refused OnePart stops_part K at (at + 1)
      path_bad q = tail_fails (λ z. z) behind_dollar (take_bad stops_part K kind.Name (λ n. Map (path_of n) Dotted) [] fill_path q)
        where
          fill_path : Fill (Map (path_of []) Dotted) stops_part
          fill_path = record { tokens = []; fills = λ J a e st so. (path_of [] [], ([], subst (λ k. Dotted J [] a k) (sym st) dotted_none, refl)) }

      module _ {n : List ℕ} (q : K (at + 1) ≡ Some (kind.Name n)) where
        behind_path : Tail OnePart Dotted stops_part K at (path_of n) (at + 1 + 1)
        behind_path = tail_both (λ z. z) (tail_both (λ z. z) behind_dollar (step_take kind.Name (λ n. Map (path_of n) Dotted) same_name q)) (step_map (path_of n) Dotted)

        pub path_ok : {ss : List Suffix} {m : ℕ} → Exact Dotted stops_part K (at + 1 + 1) ss m → Exact OnePart stops_part K at (path_of n ss) m
        path_ok e = tail_end (path_of n) behind_path (e)

        pub path_fails : {i : ℕ} → Refused Dotted stops_part K (at + 1 + 1) i → Refused OnePart stops_part K at i
        path_fails r = tail_fails (path_of n) behind_path (r)

  -- the whole text
  abbrev pub Quoted : List Part → Rule (List Part)
  Quoted ps = Tok kind.GStringClose (Ret ps)

  abbrev pub AText : Rule (List Part)
  AText = Tok kind.GStringOpen (Sub (λ K. Parts K P) Quoted)

  text_in : (J : Stream) (y : List Part) (a b : ℕ) → IsGString J P y a b → AText J y a b
  text_in J y a b (gstring o ps c) = (o, (_, _, ps, (c, (refl, refl))))

  text_out : (J : Stream) (y : List Part) (a b : ℕ) → AText J y a b → IsGString J P y a b
  text_out J y a b (o, (ps, m, r, (c, (q, e)))) = subst (λ k. IsGString J P y a k) (sym e) (subst (λ z. IsGString J P z a (m + 1)) (sym q) (gstring o r c))

  quoted_join : Joins Quoted stops_parts stops_closed
  quoted_join = joins_tok kind.GStringClose refl (fills_ret {part_stops = stops_closed} (λ ps. ps) (alike stops_closed))

  module _ (K : Stream) {at : ℕ} where
    to_text : Tail (λ K. IsGString K P) AText stops_closed K at (λ z. z) at
    to_text = step_turn (as_rule _ _ text_in text_out stops_closed K at)

    pub text_none : (K at ≡ Some kind.GStringOpen → ⊥) → Refused (λ K. IsGString K P) stops_closed K at at
    text_none h = tail_fails (λ z. z) to_text (tok_bad stops_closed K fill_parts h)
      where
        fill_parts : Fill (Sub (λ K. Parts K P) Quoted) stops_closed
        fill_parts = record { tokens = kind.GStringClose ∷ []; fills = λ J a e st so. ([], ([], a, parts_none, (st.0, (refl, st.1)))) }

    module _ (h : K at ≡ Some kind.GStringOpen) where
      in_text : Tail (λ K. IsGString K P) (Sub (λ K. Parts K P) Quoted) stops_closed K at (λ z. z) (at + 1)
      in_text = tail_both (λ z. z) to_text (step_tok (Sub (λ K. Parts K P) Quoted) h)

      pub text_parts_fails : {i : ℕ} → Refused (λ K. Parts K P) stops_parts K (at + 1) i → Refused (λ K. IsGString K P) stops_closed K at i
      text_parts_fails r = let j = quoted_join in tail_fails (λ z. z) in_text (sub_fails K j.leads j.fills r)

      module _ {ps : List Part} {m : ℕ} (e : Exact (λ K. Parts K P) stops_parts K (at + 1) ps m) where
        behind_parts : Tail (λ K. IsGString K P) (Quoted ps) stops_closed K at (λ z. z) m
        behind_parts = let j = quoted_join in tail_both (λ z. z) in_text (tail_sub j.leads e)

        pub text_open : (K m ≡ Some kind.GStringClose → ⊥) → Refused (λ K. IsGString K P) stops_closed K at m
        text_open q = tail_fails (λ z. z) behind_parts (tok_bad stops_closed K (fill_ret ps) q)

        pub text_closed : K m ≡ Some kind.GStringClose → Exact (λ K. IsGString K P) stops_closed K at ps (m + 1)
        text_closed q = tail_end (λ z. z) behind_parts (tok_ok stops_closed K q (ret stops_closed K ps (m + 1)))
