-- The rules of lists and maps.
use Rattle.std.proofs.Common.{◌≡◌, ℕ, ◌+◌, ◌<◌, ◌≤◌, Bool, true, false, List, [], ◌∷◌, ◌⊎◌, inl, inr, ⊎_elim, refl, sym, ap, ◌∙◌, subst, arith, le_refl, Option, Some, None, pos, leb}
use Rattle.std.proofs.lemmas.Bool.Decides.{nat_tests}
use Rattle.std.proofs.lemmas.Bool.{false≢true}
use Rattle.model_syntax.specs.declared.sign.Sign.{Sign}
use Rattle.model_syntax.specs.declared.sign.Sign.TheVariants as sign
use Rattle.model_syntax.specs.declared.token.TokenKind.{TokenKind}
use Rattle.model_syntax.specs.declared.token.TokenKind.TheVariants as kind
use Rattle.model_syntax.specs.declared.tree.Entry.{Entry}
use Rattle.model_syntax.specs.declared.tree.Entry.TheVariants.{Computed}
use Rattle.model_syntax.specs.declared.tree.Expr.{Expr, Expr-F, out-Expr, out-roll-Expr}
use Rattle.model_syntax.specs.declared.tree.Expr.TheVariants as expr
use Rattle.model_syntax.specs.Stream.{Stream, Places, Sees}
use Rattle.model_syntax.specs.Grammar.{IsPrimary, IsEntry, entry_named, entry_number, entry_gstring, entry_group, named_by_name, named_by_text, primary_gstring, primary_group, primary_name, primary_text, primary_number, gstring}
use Rattle.model_syntax.proofs.GrammarLemmas.{expr_begins, begins_expr, just}
use Rattle.groovy_expr.specs.Answers.{Rule, Agrees, Exact, Refused}
use Rattle.groovy_expr.specs.Brackets.{rest_end, rest_comma, rest_more, begins_keyed, IsKey, key_gstring, key_group}
use Rattle.groovy_expr.specs.Stops.{stops_expr, stops_primary, stops_closed}
use Rattle.groovy_expr.proofs.Calculus.{Tok, Ret, Sub, Tail, by, tail_both, tail_end, tail_fails, tail_sub, sub_fails, ret, tok_ok, tok_bad, fill_ret, alike, Alt, shorter, before, viable_more, inside_both, inside_more, inside_none, stronger_ok, stronger_fails}
use Rattle.groovy_expr.proofs.Steps.{Map, Joins, step_turn, step_tok, step_map, step_left, step_right}
use Rattle.groovy_expr.proofs.Bare.{form, text, group, form_GString, form_Group, text_in, group_in}
use Rattle.groovy_expr.proofs.Alone.{keyed_end, keyed_then_colon}
use Rattle.groovy_expr.proofs.PrimaryRules.{Whole, NoList, NoMap, AList, AMap, Bracketed, ListRest, MapRest, list_of, map_of, primary_by}

-- K up to the place n, then one token, and nothing more
abbrev pub held : Bool → Bool → Option TokenKind → TokenKind → Option TokenKind
held true u k t = k
held false true k t = Some t
held false false k t = None

abbrev pub hold : Stream → ℕ → TokenKind → Stream
hold K n t k = held (leb k n) (leb k (n + 1)) (K k) t

pub hold_before : (K : Stream) (n : ℕ) (t : TokenKind) → Agrees n (hold K n t) K
hold_before K n t k le = by_test (leb k n) refl
  where
    by_test : (u : Bool) → leb k n ≡ u → held u (leb k (n + 1)) (K k) t ≡ K k
    by_test true e = refl
    by_test false e = absurd (let l : n < k = grind (arith, nat_tests) in omega arith)

pub hold_at : (K : Stream) (n : ℕ) (t : TokenKind) → hold K n t (n + 1) ≡ Some t
hold_at K n t = by_tests (leb (n + 1) n) (leb (n + 1) (n + 1)) refl refl
  where
    by_tests : (u v : Bool) → leb (n + 1) n ≡ u → leb (n + 1) (n + 1) ≡ v → held u v (K (n + 1)) t ≡ Some t
    by_tests true v e f = absurd (let l : n + 1 ≤ n = grind (arith, nat_tests) in omega arith)
    by_tests false true e f = refl
    by_tests false false e f = absurd (let l : n + 1 < n + 1 = grind (arith, nat_tests) in omega arith)

pub hold_end : (K : Stream) (n : ℕ) (t : TokenKind) → hold K n t (n + 1 + 1) ≡ None
hold_end K n t = by_tests (leb (n + 1 + 1) n) (leb (n + 1 + 1) (n + 1)) refl refl
  where
    by_tests : (u v : Bool) → leb (n + 1 + 1) n ≡ u → leb (n + 1 + 1) (n + 1) ≡ v → held u v (K (n + 1 + 1)) t ≡ None
    by_tests true v e f = absurd (let l : n + 1 + 1 ≤ n = grind (arith, nat_tests) in omega arith)
    by_tests false true e f = absurd (let l : n + 1 + 1 ≤ n + 1 = grind (arith, nat_tests) in omega arith)
    by_tests false false e f = refl

-- keys
same_group : (e f : Expr) → expr.Group e ≡ expr.Group f → e ≡ f
same_group e f q =
    let h : Expr-F.Group e ≡ Expr-F.Group f = sym (ap out-Expr (sym (expr.rolls-Group e)) ∙ out-roll-Expr (Expr-F.Group e)) ∙ ap out-Expr q ∙ (ap out-Expr (sym (expr.rolls-Group f)) ∙ out-roll-Expr (Expr-F.Group f)) in
    cc

text_group : text ≡ group → ⊥
text_group e = cc

key_cases : {e k : Expr} → IsKey e k → ((form e ≡ text) × (k ≡ e)) ⊎ ((form e ≡ group) × (e ≡ expr.Group k))
key_cases (key_gstring ps) = inl (form_GString ps, refl)
key_cases key_group = inr (form_Group _, refl)

same_key : {e k l : Expr} → IsKey e k → IsKey e l → k ≡ l
same_key {e} {k} {l} u v =
    ⊎_elim
    (λ p. ⊎_elim (λ q. p.1 ∙ sym q.1) (λ q. absurd (text_group (sym p.0 ∙ q.0))) (key_cases v))
    (λ p. ⊎_elim (λ q. absurd (text_group (sym q.0 ∙ p.0))) (λ q. same_group k l (sym p.1 ∙ q.1)) (key_cases v))
    (key_cases u)

pub keyed_of : (f : Option TokenKind → Option TokenKind → Bool) {x k y l : Option TokenKind} → x ≡ k → y ≡ l → f k l ≡ true → f x y ≡ true
keyed_of f {x} {k} {y} {l} p q e = subst (λ z. f z y ≡ true) (sym p) (subst (λ z. f k z ≡ true) (sym q) e)

module _ (P : Places) where
  abbrev Key : Rule Entry
  Key J y a b = (e : Expr) × (key : Expr) × (v : Expr) × (m : ℕ) × Whole P J e a m × IsKey e key × Sees J m sign.Colon × Whole P J v (m + 1) b × (y ≡ Computed key v)

  entry_cases : {J : Stream} {y : Entry} {a b : ℕ} → IsEntry J P y a b → (begins_keyed (J a) (J (a + 1)) ≡ true) ⊎ Key J y a b
  entry_cases (entry_named (named_by_name n c i)) = inl (keyed_of begins_keyed n c refl)
  entry_cases (entry_named (named_by_text n c i)) = inl (keyed_of begins_keyed n c refl)
  entry_cases (entry_number n c i) = inl (keyed_of begins_keyed n c refl)
  entry_cases (entry_gstring {ps = ps} g c i) = inr (expr.GString ps, _, _, _, just (primary_gstring g), key_gstring ps, c, i, refl)
  entry_cases (entry_group o k c s i) = inr (_, _, _, _, just (primary_group o k c), key_group, s, i, refl)

  key_out : {J : Stream} {e key v : Expr} {a m b : ℕ} → Whole P J e a m → IsKey e key → Sees J m sign.Colon → Whole P J v (m + 1) b → IsEntry J P (Computed key v) a b
  key_out {J} {e} {key} {v} {a} {m} {b} i k c j = ⊎_elim
      (λ p. let t = text_in i p.0 in subst (λ x. IsEntry J P (Computed x v) a b) (sym (p.1 ∙ t.tree)) (entry_gstring t.is_gstring c j))
      (λ p.
      let t = group_in i p.0 in
      let x : key ≡ t.inner = same_group key t.inner (sym p.1 ∙ t.tree) in
      let n : m ≡ t.middle + 1 = t.end in
      subst (λ z. IsEntry J P (Computed z v) a b) (sym x) (entry_group t.opens t.is_expr t.closes (subst (λ z. Sees J z sign.Colon) n c) (subst (λ z. Whole P J v (z + 1) b) n j)))
      (key_cases k)

  entry_first : {J : Stream} {y : Entry} {a b : ℕ} → IsEntry J P y a b → begins_expr (J a) ≡ true
  entry_first (entry_named (named_by_name n c i)) = ap begins_expr n
  entry_first (entry_named (named_by_text n c i)) = ap begins_expr n
  entry_first (entry_number n c i) = ap begins_expr n
  entry_first (entry_gstring (gstring o ps e) c i) = ap begins_expr o
  entry_first (entry_group o k c s i) = ap begins_expr o

  -- Neither `]` nor `:` begins an element.
  abbrev Elements : Rule Expr
  Elements = Alt (AList P) (AMap P)

  elements_first : {J : Stream} {y : Expr} {a b : ℕ} → Elements J y a b → begins_expr (J a) ≡ true
  elements_first r = ⊎_elim (λ q. expr_begins q.2) (λ q. entry_first q.2) r

  not_first : (k : Option TokenKind) (t : Option TokenKind) → begins_expr k ≡ true → k ≡ t → begins_expr t ≡ false → ⊥
  not_first k t h e f = false≢true (sym f ∙ sym (ap begins_expr e) ∙ h)

  -- what goes on behind an element
  abbrev rest_begins : Option TokenKind → Bool
  rest_begins (Some (kind.Sign sign.Comma)) = true
  rest_begins (Some (kind.Sign sign.BracketClose)) = true
  rest_begins t = false

  rest_stops : (t : Option TokenKind) → rest_begins t ≡ true → stops_expr t ≡ true
  rest_stops (Some (kind.Sign sign.Comma)) h = refl
  rest_stops (Some (kind.Sign sign.BracketClose)) h = refl
  rest_stops t h = absurd (false≢true h)

  list_first : {J : Stream} {es : List Expr} {a b : ℕ} → ListRest P J es a b → rest_begins (J a) ≡ true
  list_first (rest_end c) = ap rest_begins c
  list_first (rest_comma s c) = ap rest_begins s
  list_first (rest_more s i r) = ap rest_begins s

  map_first : {J : Stream} {es : List Entry} {a b : ℕ} → MapRest P J es a b → rest_begins (J a) ≡ true
  map_first (rest_end c) = ap rest_begins c
  map_first (rest_comma s c) = ap rest_begins s
  map_first (rest_more s i r) = ap rest_begins s

  list_stops : {J : Stream} {es : List Expr} {a b : ℕ} → ListRest P J es a b → stops_expr (J a) ≡ true
  list_stops r = rest_stops _ (list_first r)

  map_stops : {J : Stream} {es : List Entry} {a b : ℕ} → MapRest P J es a b → stops_expr (J a) ≡ true
  map_stops r = rest_stops _ (map_first r)

  colon_rest : {t : Option TokenKind} → rest_begins t ≡ true → t ≡ Some (kind.Sign sign.Colon) → ⊥
  colon_rest h e = false≢true (sym (ap rest_begins e) ∙ h)

  list_join : Joins (λ e. Map (list_of P e) (ListRest P)) stops_expr stops_primary
  list_join = record {
    leads = λ x J y a b r st. list_stops r.1;
    fills = record {
      tokens = kind.Sign sign.BracketClose ∷ [];
      fills = λ v J a k st so. (list_of P v [], ([], subst (λ n. ListRest P J [] a n) (sym st.1) (rest_end st.0), refl));
      ends = λ J a k st so. ap stops_expr st.0;
    };
  }

  -- An expression has a token at least, and one that can be a key is one alone.
  pub longer_whole : (K : Stream) (a : ℕ) {e : Expr} {m : ℕ} → Exact (Whole P) stops_expr K (a + 1) e m → a + 1 + 1 ≤ m
  longer_whole K a {e} {m} i = by_test (leb (a + 1 + 1) m) refl
    where
      by_test : (t : Bool) → leb (a + 1 + 1) m ≡ t → a + 1 + 1 ≤ m
      by_test true q = grind (arith, nat_tests)
      by_test false q =
          let after = i.after in
          let l : m < a + 1 + 1 = grind (arith, nat_tests) in
          let here : m ≡ a + 1 = omega arith in
          let J : Stream = hold K a (kind.Sign sign.Comma) in
          let s = i.spelled J (λ k lt. hold_before K a (kind.Sign sign.Comma) k (omega arith)) (ap stops_expr (ap J here ∙ hold_at K a (kind.Sign sign.Comma))) in
          absurd (false≢true (sym (ap begins_expr (hold_at K a (kind.Sign sign.Comma))) ∙ expr_begins s))

  pub alone : {J : Stream} {a : ℕ} (k l : Option TokenKind) → J a ≡ k → begins_keyed k l ≡ true → (e : Expr) × Whole P J e a (a + 1)
  alone (Some (kind.Name n)) l h q = (_, just (primary_name h))
  alone (Some (kind.Text t)) l h q = (_, just (primary_text h))
  alone (Some (kind.Int v)) l h q = (_, just (primary_number h))
  alone k l h q = absurd (false≢true q)

  pub past_simple : (K : Stream) (a : ℕ) {i : ℕ} (l : Option TokenKind) → Refused (Whole P) stops_expr K (a + 1) i → begins_keyed (K (a + 1)) l ≡ true → a + 1 + 1 ≤ i
  past_simple K a {i} l f h = by_test (leb (a + 1 + 1) i) refl
    where
      by_test : (t : Bool) → leb (a + 1 + 1) i ≡ t → a + 1 + 1 ≤ i
      by_test true q = grind (arith, nat_tests)
      by_test false q =
          let lt : i < a + 1 + 1 = grind (arith, nat_tests) in
          let J : Stream = hold K (a + 1) (kind.Sign sign.Comma) in
          let x = alone {J = J} (K (a + 1)) l (hold_before K (a + 1) (kind.Sign sign.Comma) (a + 1) (le_refl (a + 1))) h in
          absurd (f.never J x.0 (a + 1 + 1) (λ k le. hold_before K (a + 1) (kind.Sign sign.Comma) k (omega arith)) x.1 (ap stops_expr (hold_at K (a + 1) (kind.Sign sign.Comma))))

  longer_entry : (K : Stream) (a : ℕ) {e : Entry} {m : ℕ} → Exact (λ K. IsEntry K P) stops_expr K (a + 1) e m → a + 1 + 1 ≤ m
  longer_entry K a {e} {m} i = by_test (leb (a + 1 + 1) m) refl
    where
      by_test : (t : Bool) → leb (a + 1 + 1) m ≡ t → a + 1 + 1 ≤ m
      by_test true q = grind (arith, nat_tests)
      by_test false q =
          let after = i.after in
          let l : m < a + 1 + 1 = grind (arith, nat_tests) in
          let here : m ≡ a + 1 = omega arith in
          let J : Stream = hold K a (kind.Sign sign.Comma) in
          let s = i.spelled J (λ k lt. hold_before K a (kind.Sign sign.Comma) k (omega arith)) (ap stops_expr (ap J here ∙ hold_at K a (kind.Sign sign.Comma))) in
          absurd (false≢true (sym (ap begins_expr (hold_at K a (kind.Sign sign.Comma))) ∙ entry_first s))

  entry_of : {J : Stream} {a b : ℕ} {v : Expr} (k : Option TokenKind) → J a ≡ k → begins_keyed k (J (a + 1)) ≡ true → Whole P J v (a + 1 + 1) b → (e : Entry) × IsEntry J P e a b
  entry_of {J} {a} (Some (kind.Name n)) h q i = (_, entry_named (named_by_name h (keyed_then_colon (Some (kind.Name n)) (J (a + 1)) q) i))
  entry_of {J} {a} (Some (kind.Text t)) h q i = (_, entry_named (named_by_text h (keyed_then_colon (Some (kind.Text t)) (J (a + 1)) q) i))
  entry_of {J} {a} (Some (kind.Int v)) h q i = (_, entry_number h (keyed_then_colon (Some (kind.Int v)) (J (a + 1)) q) i)
  entry_of k h q i = absurd (false≢true q)

  -- Where a key and `:` stand, an entry is refused behind them.
  past_entry : (K : Stream) (a : ℕ) {i : ℕ} → Refused (λ K. IsEntry K P) stops_expr K a i → begins_keyed (K a) (K (a + 1)) ≡ true → a + 1 ≤ i
  past_entry K a {i} f h = by_test (leb (a + 1) i) refl
    where
      by_test : (t : Bool) → leb (a + 1) i ≡ t → a + 1 ≤ i
      by_test true q = grind (arith, nat_tests)
      by_test false q =
          let lt : i < a + 1 = grind (arith, nat_tests) in
          let zero : TokenKind = kind.Int (pos 0) in
          let J : Stream = hold K (a + 1) zero in
          let first : J a ≡ K a = hold_before K (a + 1) zero a (omega arith) in
          let second : J (a + 1) ≡ K (a + 1) = hold_before K (a + 1) zero (a + 1) (le_refl (a + 1)) in
          let v : Whole P J (expr.Number (pos 0)) (a + 1 + 1) (a + 1 + 1 + 1) = just (primary_number (hold_at K (a + 1) zero)) in
          let x = entry_of {J = J} (K a) first (subst (λ z. begins_keyed (K a) z ≡ true) (sym second) h) v in
          absurd (f.never J x.0 (a + 1 + 1 + 1) (λ k le. hold_before K (a + 1) zero k (omega arith)) x.1 (ap stops_expr (hold_end K (a + 1) zero)))

  entries_join : Joins (λ e. Map (map_of P e) (MapRest P)) stops_expr stops_primary
  entries_join = record {
    leads = λ x J y a b r st. map_stops r.1;
    fills = record {
      tokens = kind.Sign sign.BracketClose ∷ [];
      fills = λ v J a k st so. (map_of P v [], ([], subst (λ n. MapRest P J [] a n) (sym st.1) (rest_end st.0), refl));
      ends = λ J a k st so. ap stops_expr st.0;
    };
  }

  keyed_sign : (k l : Option TokenKind) (s : Sign) → k ≡ Some (kind.Sign s) → begins_keyed k l ≡ true → ⊥
  keyed_sign k l s e h = false≢true (subst (λ z. begins_keyed z l ≡ true) e h)

  ap2 : (f : Option TokenKind → Option TokenKind → Bool) {x y l : Option TokenKind} → x ≡ y → f x l ≡ true → f y l ≡ true
  ap2 f {x} {y} {l} e h = subst (λ z. f z l ≡ true) e h

  module _ (K : Stream) {at : ℕ} (o : K at ≡ Some (kind.Sign sign.BracketOpen)) where
    in_bracket : Tail (λ K. IsPrimary K P) (Bracketed P) stops_primary K at (λ z. z) (at + 1)
    in_bracket = tail_both (λ z. z) (step_turn (by (primary_by P) stops_primary K _ o)) (step_tok (Bracketed P) o)

    pub no_list : K (at + 1) ≡ Some (kind.Sign sign.BracketClose) → Exact (λ K. IsPrimary K P) stops_primary K at (expr.List []) (at + 1 + 1)
    no_list h = tail_end (λ z. z)
        (tail_both (λ z. z) in_bracket (step_left (NoList P) (Alt (NoMap P) Elements) (λ J y b same r. ⊎_elim (λ q. colon_close (sym q.0 ∙ same ∙ h)) (λ q. not_first _ _ (elements_first q) (same ∙ h) refl) r)))
        (tok_ok stops_primary K h (ret stops_primary K (expr.List []) (at + 1 + 1)))
      where
        colon_close : Some (kind.Sign sign.Colon) ≡ Some (kind.Sign sign.BracketClose) → ⊥
        colon_close e = cc

    module _ (h : K (at + 1) ≡ Some (kind.Sign sign.BracketClose) → ⊥) where
      in_some : Tail (λ K. IsPrimary K P) (Alt (NoMap P) Elements) stops_primary K at (λ z. z) (at + 1)
      in_some = tail_both (λ z. z) in_bracket (step_right (NoList P) (Alt (NoMap P) Elements) (λ J y b same r. h (sym same ∙ r.0)))

      in_elements : (K (at + 1) ≡ Some (kind.Sign sign.Colon) → ⊥) → Tail (λ K. IsPrimary K P) Elements stops_primary K at (λ z. z) (at + 1)
      in_elements q = tail_both (λ z. z) in_some (step_right (NoMap P) Elements (λ J y b same r. q (sym same ∙ r.0)))

    module _ (h : K (at + 1) ≡ Some (kind.Sign sign.Colon)) where
      behind_colon : Tail (λ K. IsPrimary K P) (Tok (kind.Sign sign.BracketClose) (Ret (expr.Map []))) stops_primary K at (λ z. z) (at + 1 + 1)
      behind_colon = tail_both (λ z. z)
          (tail_both (λ z. z) (in_some (λ e. colon_close (sym h ∙ e))) (step_left (NoMap P) Elements (λ J y b same r. not_first _ _ (elements_first r) (same ∙ h) refl)))
          (step_tok (Tok (kind.Sign sign.BracketClose) (Ret (expr.Map []))) h)
        where
          colon_close : Some (kind.Sign sign.Colon) ≡ Some (kind.Sign sign.BracketClose) → ⊥
          colon_close e = cc

      pub no_map_bad : (K (at + 1 + 1) ≡ Some (kind.Sign sign.BracketClose) → ⊥) → Refused (λ K. IsPrimary K P) stops_primary K at (at + 1 + 1)
      no_map_bad q = tail_fails (λ z. z) behind_colon (tok_bad stops_primary K (fill_ret (expr.Map [])) q)

      pub no_map : K (at + 1 + 1) ≡ Some (kind.Sign sign.BracketClose) → Exact (λ K. IsPrimary K P) stops_primary K at (expr.Map []) (at + 1 + 1 + 1)
      no_map q = tail_end (λ z. z) behind_colon (tok_ok stops_primary K q (ret stops_primary K (expr.Map []) (at + 1 + 1 + 1)))

    -- a map whose first key is a name, a text or a number
    module _ (keyed : begins_keyed (K (at + 1)) (K (at + 1 + 1)) ≡ true) where
      in_keyed : Tail (λ K. IsPrimary K P) Elements stops_primary K at (λ z. z) (at + 1)
      in_keyed = in_elements (λ e. keyed_sign (K (at + 1)) (K (at + 1 + 1)) sign.BracketClose e keyed) (λ e. keyed_sign (K (at + 1)) (K (at + 1 + 1)) sign.Colon e keyed)

      no_elements : (J : Stream) → J (at + 1) ≡ K (at + 1) → J (at + 1 + 1) ≡ K (at + 1 + 1) → (y : Expr) (b : ℕ) → AList P J y (at + 1) b → ⊥
      no_elements J p q y b r =
          let h = keyed_of begins_keyed p q keyed in
          let e = keyed_end P J (at + 1) h r.2 (list_stops r.3.1) in
          colon_rest (list_first r.3.1) (ap J e ∙ keyed_then_colon (J (at + 1)) (J (at + 1 + 1)) h)

      pub entry_fails : {i : ℕ} → Refused (λ K. IsEntry K P) stops_expr K (at + 1) i → Refused (λ K. IsPrimary K P) stops_primary K at i
      entry_fails {i} f = tail_fails (λ z. z) in_keyed (record {
        from = f.from;
        inside = f.inside;
        never = λ J y b same r st. ⊎_elim
            (λ q. let le = past_entry K (at + 1) f keyed in no_elements J (same (at + 1) f.from) (same (at + 1 + 1) le) y b q)
            (λ q. f.never J q.0 q.1 same q.2 (map_stops q.3.1))
            r;
        viable =
            let j = entries_join in
            let r = sub_fails K j.leads j.fills f in
            viable_more (alike stops_primary) (λ J e same so v. (v.0, inr v.1)) r.viable;
      })

      module _ {x : Entry} {m : ℕ} (i : Exact (λ K. IsEntry K P) stops_expr K (at + 1) x m) where
        behind_entry : Tail Elements (MapRest P) stops_primary K (at + 1) (map_of P x) m
        behind_entry = record {
          after = i.after;
          inside = i.inside;
          whole = λ J same z b r so. inr (x, m, i.spelled J same (map_stops r), (z, r, refl));
          only = λ J y b same r st. ⊎_elim
              (λ q. absurd (let le = longer_entry K at i in no_elements J (same (at + 1) (omega arith)) (same (at + 1 + 1) le) y b q))
              (λ q.
              let o = i.only J q.0 q.1 same q.2 (map_stops q.3.1) in
              (q.3.0, subst (λ k. MapRest P J q.3.0 k b) o.1 q.3.1, q.3.2 ∙ ap (λ u. map_of P u q.3.0) o.0))
              r;
        }

        pub entries_fails : {k : ℕ} → Refused (MapRest P) stops_closed K m k → Refused (λ K. IsPrimary K P) stops_primary K at k
        entries_fails r = tail_fails (λ z. z) in_keyed (tail_fails (map_of P x) behind_entry (stronger_fails (λ t q. refl) r))

        pub map_ok : {es : List Entry} {b : ℕ} → Exact (MapRest P) stops_closed K m es b → Exact (λ K. IsPrimary K P) stops_primary K at (expr.Map (x ∷ es)) b
        map_ok e = tail_end (λ z. z) in_keyed (tail_end (map_of P x) behind_entry (stronger_ok (λ t q. refl) e))

    -- behind the first expression
    module _ (shut : K (at + 1) ≡ Some (kind.Sign sign.BracketClose) → ⊥) (bare : K (at + 1) ≡ Some (kind.Sign sign.Colon) → ⊥) (unkeyed : begins_keyed (K (at + 1)) (K (at + 1 + 1)) ≡ false) where
      no_plain : (J : Stream) → J (at + 1) ≡ K (at + 1) → J (at + 1 + 1) ≡ K (at + 1 + 1) → begins_keyed (J (at + 1)) (J (at + 1 + 1)) ≡ true → ⊥
      no_plain J p q h = false≢true (sym unkeyed ∙ keyed_of begins_keyed (sym p) (sym q) h)

      pub elements_fails : {i : ℕ} → Refused (Whole P) stops_expr K (at + 1) i → Refused (λ K. IsPrimary K P) stops_primary K at i
      elements_fails {i} f = tail_fails (λ z. z) (in_elements shut bare) (record {
        from = f.from;
        inside = f.inside;
        never = λ J y b same r st. ⊎_elim
            (λ q. f.never J q.0 q.1 same q.2 (list_stops q.3.1))
            (λ q. ⊎_elim
            (λ p.
            let le = past_simple K at (J (at + 1 + 1)) f (ap2 begins_keyed (same (at + 1) f.from) p) in
            no_plain J (same (at + 1) f.from) (same (at + 1 + 1) le) p)
            (λ k. f.never J k.0 k.3 same k.4 (ap stops_expr k.6))
            (entry_cases q.2))
            r;
        viable =
            let j = list_join in
            let r = sub_fails K j.leads j.fills f in
            viable_more (alike stops_primary) (λ J e same so v. (v.0, inl v.1)) r.viable;
      })

      module _ {e : Expr} {m : ℕ} (i : Exact (Whole P) stops_expr K (at + 1) e m) where
        not_plain : (J : Stream) → Agrees m J K → begins_keyed (J (at + 1)) (J (at + 1 + 1)) ≡ true → ⊥
        not_plain J same p = let le = longer_whole K at i in no_plain J (same (at + 1) (omega arith)) (same (at + 1 + 1) le) p

        behind_element : (K m ≡ Some (kind.Sign sign.Colon) → ⊥) → Tail Elements (ListRest P) stops_primary K (at + 1) (list_of P e) m
        behind_element h = record {
          after = i.after;
          inside = i.inside;
          whole = λ J same z b r so. inl (e, m, i.spelled J same (list_stops r), (z, r, refl));
          only = λ J y b same r st. ⊎_elim
              (λ q.
              let o = i.only J q.0 q.1 same q.2 (list_stops q.3.1) in
              (q.3.0, subst (λ k. ListRest P J q.3.0 k b) o.1 q.3.1, q.3.2 ∙ ap (λ u. list_of P u q.3.0) o.0))
              (λ q. absurd (⊎_elim
              (λ p. not_plain J same p)
              (λ k.
              let o = i.only J k.0 k.3 same k.4 (ap stops_expr k.6) in
              h (sym (same m (le_refl m)) ∙ ap J (sym o.1) ∙ k.6))
              (entry_cases q.2)))
              r;
        }

        pub list_rest_fails : {k : ℕ} → (K m ≡ Some (kind.Sign sign.Colon) → ⊥) → Refused (ListRest P) stops_closed K m k → Refused (λ K. IsPrimary K P) stops_primary K at k
        list_rest_fails h r = tail_fails (λ z. z) (in_elements shut bare) (tail_fails (list_of P e) (behind_element h) (stronger_fails (λ t q. refl) r))

        pub list_ok : {es : List Expr} {b : ℕ} → (K m ≡ Some (kind.Sign sign.Colon) → ⊥) → Exact (ListRest P) stops_closed K m es b → Exact (λ K. IsPrimary K P) stops_primary K at (expr.List (e ∷ es)) b
        list_ok h x = tail_end (λ z. z) (in_elements shut bare) (tail_end (list_of P e) (behind_element h) (stronger_ok (λ t q. refl) x))

        module _ (c : K m ≡ Some (kind.Sign sign.Colon)) where
          no_rest : (J : Stream) → Agrees m J K → {es : List Expr} {n b : ℕ} → n ≡ m → ListRest P J es n b → ⊥
          no_rest J same q r = colon_rest (list_first r) (ap J q ∙ same m (le_refl m) ∙ c)

          pub no_key : ((key : Expr) → IsKey e key → ⊥) → Refused (λ K. IsPrimary K P) stops_primary K at m
          no_key h = tail_fails (λ z. z) (in_elements shut bare) (record {
            from = i.after;
            inside = i.inside;
            never = λ J y b same r st. ⊎_elim
                (λ q. let o = i.only J q.0 q.1 same q.2 (list_stops q.3.1) in no_rest J same o.1 q.3.1)
                (λ q. ⊎_elim
                (λ p. not_plain J same p)
                (λ k. let o = i.only J k.0 k.3 same k.4 (ap stops_expr k.6) in h k.1 (subst (λ u. IsKey u k.1) o.0 k.5))
                (entry_cases q.2))
                r;
            viable = record {
              closing = kind.Sign sign.BracketClose ∷ [];
              closes = λ J k same st so. (expr.List (e ∷ []), inl (e, m, i.spelled J same (ap stops_expr st.0), ([], subst (λ n. ListRest P J [] m n) (sym st.1) (rest_end st.0), refl)));
            };
          })

          module _ {key : Expr} (d : IsKey e key) where
            behind_key : Tail Elements (Sub (Whole P) (λ v. Map (map_of P (Computed key v)) (MapRest P))) stops_primary K (at + 1) (λ z. z) (m + 1)
            behind_key = record {
              after = (let a = i.after in omega arith);
              inside = inside_both K (at + 1) m (m + 1) i.inside (inside_more K (kind.Sign sign.Colon) m (m + 1) c (inside_none K (m + 1)));
              whole = λ J same z b r so.
                  let here : J m ≡ Some (kind.Sign sign.Colon) = same m (omega arith) ∙ c in
                  inr (Computed key r.0, r.1, key_out (i.spelled J (before m (m + 1) (omega arith) same) (ap stops_expr here)) d here r.2, r.3);
              only = λ J y b same r st.
                  let near : Agrees m J K = shorter m (m + 1) (omega arith) same in
                  ⊎_elim
                  (λ q. absurd (let o = i.only J q.0 q.1 near q.2 (list_stops q.3.1) in no_rest J near o.1 q.3.1))
                  (λ q. ⊎_elim
                  (λ p. absurd (not_plain J near p))
                  (λ k.
                  let o = i.only J k.0 k.3 near k.4 (ap stops_expr k.6) in
                  let u : k.1 ≡ key = same_key (subst (λ w. IsKey w k.1) o.0 k.5) d in
                  (y, (k.2, q.1, subst (λ n. Whole P J k.2 (n + 1) q.1) o.1 k.7, (q.3.0, q.3.1, q.3.2 ∙ ap (λ w. map_of P w q.3.0) (k.8 ∙ ap (λ w. Computed w k.2) u))), refl))
                  (entry_cases q.2))
                  r;
            }

            map_join : Joins (λ v. Map (map_of P (Computed key v)) (MapRest P)) stops_expr stops_primary
            map_join = record {
              leads = λ x J y a b r st. map_stops r.1;
              fills = record {
                tokens = kind.Sign sign.BracketClose ∷ [];
                fills = λ v J a k st so. (map_of P (Computed key v) [], ([], subst (λ n. MapRest P J [] a n) (sym st.1) (rest_end st.0), refl));
                ends = λ J a k st so. ap stops_expr st.0;
              };
            }

            pub key_fails : {k : ℕ} → Refused (Whole P) stops_expr K (m + 1) k → Refused (λ K. IsPrimary K P) stops_primary K at k
            key_fails r = let j = map_join in tail_fails (λ z. z) (in_elements shut bare) (tail_fails (λ z. z) behind_key (sub_fails K j.leads j.fills r))

            module _ {v : Expr} {n : ℕ} (x : Exact (Whole P) stops_expr K (m + 1) v n) where
              behind_value : Tail Elements (MapRest P) stops_primary K (at + 1) (map_of P (Computed key v)) n
              behind_value = let j = map_join in tail_both (λ z. z) (tail_both (λ z. z) behind_key (tail_sub j.leads x)) (step_map (map_of P (Computed key v)) (MapRest P))

              pub map_rest_fails : {k : ℕ} → Refused (MapRest P) stops_closed K n k → Refused (λ K. IsPrimary K P) stops_primary K at k
              map_rest_fails r = tail_fails (λ z. z) (in_elements shut bare) (tail_fails (map_of P (Computed key v)) behind_value (stronger_fails (λ t q. refl) r))

              pub computed_map_ok : {es : List Entry} {b : ℕ} → Exact (MapRest P) stops_closed K n es b → Exact (λ K. IsPrimary K P) stops_primary K at (expr.Map (Computed key v ∷ es)) b
              computed_map_ok e = tail_end (λ z. z) (in_elements shut bare) (tail_end (map_of P (Computed key v)) behind_value (stronger_ok (λ t q. refl) e))
