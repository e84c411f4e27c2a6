-- The rules of the names of a closure's parameters.
use Rattle.std.proofs.Common.{◌≡◌, ℕ, ◌+◌, ◌<◌, ◌≤◌, Bool, true, false, List, [], ◌∷◌, ◌⊎◌, inl, inr, ⊎_elim, refl, sym, ap, ◌∙◌, subst, arith, le_refl, Option, Some, None, leb}
use Rattle.std.proofs.lemmas.Bool.Decides.{nat_tests}
use Rattle.std.proofs.lemmas.Bool.{false≢true}
use Rattle.model_syntax.specs.declared.place.Declared.{Declared}
use Rattle.model_syntax.specs.declared.sign.Sign.TheVariants as sign
use Rattle.model_syntax.specs.declared.word.Word.TheVariants as word
use Rattle.model_syntax.specs.declared.token.TokenKind.{TokenKind}
use Rattle.model_syntax.specs.declared.token.TokenKind.TheVariants as kind
use Rattle.model_syntax.specs.Stream.{Stream, Places, Sees, SeesName, declared}
use Rattle.model_syntax.specs.Lookahead.{is_name, is_arrow, has_heads}
use Rattle.model_syntax.specs.Grammar.{type_def, type_name, NameList, names_last, names_more, Heads, heads_none, heads_names, heads_typed}
use Rattle.groovy_expr.specs.Answers.{Rule, Inside, Exact, Refused}
use Rattle.groovy_expr.specs.Stops.{stops_closed, stops_names}
use Rattle.groovy_expr.proofs.Calculus.{Tok, Ret, Sub, Tail, tail_end, tail_fails, sub_fails, ret, tok_ok, tok_bad, fill_ret, fills_ret, alike, inside_none, inside_more, viable_more}
use Rattle.groovy_expr.proofs.Lists.{IsSeparated}
use Rattle.groovy_expr.proofs.Steps.{Joins, joins_tok, same_name}
use Rattle.groovy_expr.proofs.BracketRules.{hold, held, hold_before, hold_at}

-- the token that stands there, by what is known of it
name_there : (k : Option TokenKind) → is_name k ≡ true → (n : List ℕ) × (k ≡ Some (kind.Name n))
name_there (Some (kind.Name n)) h = (n, refl)
name_there k h = absurd (false≢true h)

arrow_there : (k : Option TokenKind) → is_arrow k ≡ true → k ≡ Some (kind.Sign sign.Arrow)
arrow_there (Some (kind.Sign sign.Arrow)) h = refl
arrow_there k h = absurd (false≢true h)

name_arrow : (n : List ℕ) → Some (kind.Name n) ≡ Some (kind.Sign sign.Arrow) → ⊥
name_arrow n e = cc

name_comma : (n : List ℕ) → Some (kind.Name n) ≡ Some (kind.Sign sign.Comma) → ⊥
name_comma n e = cc

word_arrow : Some (kind.Word word.Def) ≡ Some (kind.Sign sign.Arrow) → ⊥
word_arrow e = cc

word_name : (n : List ℕ) → Some (kind.Word word.Def) ≡ Some (kind.Name n) → ⊥
word_name n e = cc

module _ (P : Places) where
  abbrev pub OneName : Rule Declared
  OneName J d a b = (n : List ℕ) × SeesName J a n × (d ≡ declared n (P a)) × (b ≡ a + 1)

  names_cases : (J : Stream) (ys : List Declared) (a b : ℕ) → NameList J P ys a b → (x : Declared) × (m : ℕ) × OneName J x a m × (((ys ≡ x ∷ []) × (b ≡ m)) ⊎ ((xs : List Declared) × (ys ≡ x ∷ xs) × (J m ≡ Some (kind.Sign sign.Comma)) × NameList J P xs (m + 1) b))
  names_cases J ys a b (names_last n) = (_, _, (_, n, refl, refl), inl (refl, refl))
  names_cases J ys a b (names_more n c r) = (_, _, (_, n, refl, refl), inr (_, refl, c, r))

  names_last_of : (J : Stream) (x : Declared) (a b : ℕ) → OneName J x a b → NameList J P (x ∷ []) a b
  names_last_of J x a b (n, h, q, e) = subst (λ k. NameList J P (x ∷ []) a k) (sym e) (subst (λ z. NameList J P (z ∷ []) a (a + 1)) (sym q) (names_last h))

  names_more_of : (J : Stream) (x : Declared) (xs : List Declared) (a m b : ℕ) → OneName J x a m → J m ≡ Some (kind.Sign sign.Comma) → NameList J P xs (m + 1) b → NameList J P (x ∷ xs) a b
  names_more_of J x xs a m b (n, h, q, e) c r = subst (λ z. NameList J P (z ∷ xs) a b) (sym q) (names_more h (ap J (sym e) ∙ c) (subst (λ k. NameList J P xs (k + 1) b) e r))

  pub names_list : IsSeparated OneName (λ K. NameList K P) (kind.Sign sign.Comma) stops_closed stops_names
  names_list = record {
    last = names_last_of;
    more = names_more_of;
    cases = names_cases;
    weaker = λ t e. refl;
    between = refl;
    never = λ e. false≢true e;
  }

  pub one_name : (K : Stream) {a : ℕ} {n : List ℕ} → K a ≡ Some (kind.Name n) → Exact OneName stops_closed K a (declared n (P a)) (a + 1)
  one_name K {a} {n} h = record {
    after = omega arith;
    inside = inside_more K (kind.Name n) a (a + 1) h (inside_none K (a + 1));
    spelled = λ J same so. (n, same a (omega arith) ∙ h, refl, refl);
    only = λ J y b same r st.
        let e = same_name r.0 n (sym r.1 ∙ same a (omega arith) ∙ h) in
        (r.2 ∙ ap (λ u. declared u (P a)) e, r.3);
  }

  pub one_name_as : (K : Stream) {a : ℕ} {n : List ℕ} {d : Declared} → d ≡ declared n (P a) → K a ≡ Some (kind.Name n) → Exact OneName stops_closed K a d (a + 1)
  one_name_as K {a} {n} {d} e h = subst (λ z. Exact OneName stops_closed K a z (a + 1)) (sym e) (one_name K h)

  pub no_name : (K : Stream) {a : ℕ} → ((n : List ℕ) → K a ≡ Some (kind.Name n) → ⊥) → Refused OneName stops_closed K a a
  no_name K {a} h = record {
    from = le_refl a;
    inside = inside_none K a;
    never = λ J y b same r st. h r.0 (sym (same a (le_refl a)) ∙ r.1);
    viable = record { closing = kind.Name [] ∷ []; closes = λ J e same st so. (declared [] (P a), ([], st.0, refl, st.1)) };
  }

  names_first : {J : Stream} {ys : List Declared} {a b : ℕ} → NameList J P ys a b → (n : List ℕ) × SeesName J a n × ((b ≡ a + 1) ⊎ Sees J (a + 1) sign.Comma)
  names_first (names_last n) = (_, n, inl refl)
  names_first (names_more n c r) = (_, n, inr c)

  abbrev Arrowed : List Declared → Rule (List Declared)
  Arrowed ds = Tok (kind.Sign sign.Arrow) (Ret ds)

  module _ (K : Stream) {at : ℕ} where
    pub heads_arrow : K at ≡ Some (kind.Sign sign.Arrow) → Exact (λ K. Heads K P) stops_closed K at [] (at + 1)
    heads_arrow h = record {
      after = omega arith;
      inside = inside_more K (kind.Sign sign.Arrow) at (at + 1) h (inside_none K (at + 1));
      spelled = λ J same so. heads_none (same at (omega arith) ∙ h);
      only = λ J y b same r st. only_none J y b (same at (omega arith) ∙ h) r;
    }
      where
        only_none : (J : Stream) (y : List Declared) (b : ℕ) → J at ≡ Some (kind.Sign sign.Arrow) → Heads J P y at b → (y ≡ []) × (b ≡ at + 1)
        only_none J y b p (heads_none a) = (refl, refl)
        only_none J y b p (heads_names l a) = absurd (let f = names_first l in name_arrow f.0 (sym f.1 ∙ p))
        only_none J y b p (heads_typed (type_def w) n a) = absurd (word_arrow (sym w ∙ p))
        only_none J y b p (heads_typed (type_name {t = t} w) n a) = absurd (name_arrow t (sym w ∙ p))

    module _ (headed : has_heads (K at) (K (at + 1)) (K (at + 1 + 1)) ≡ true) (other : K at ≡ Some (kind.Sign sign.Arrow) → ⊥) where
      by_head : (x y z : Option TokenKind) → has_heads x y z ≡ true → (x ≡ Some (kind.Sign sign.Arrow) → ⊥) → is_name y ≡ true → ((x ≡ Some (kind.Word word.Def)) ⊎ ((t : List ℕ) × (x ≡ Some (kind.Name t)))) × (is_arrow z ≡ true)
      by_head (Some (kind.Sign sign.Arrow)) y z h o n = absurd (o refl)
      by_head (Some (kind.Name t)) (Some (kind.Name m)) z h o n = (inr (t, refl), h)
      by_head (Some (kind.Name t)) y z h o n = absurd (false≢true n)
      by_head (Some (kind.Word word.Def)) (Some (kind.Name m)) z h o n = (inl refl, h)
      by_head (Some (kind.Word word.Def)) y z h o n = absurd (false≢true n)
      by_head x y z h o n = absurd (false≢true h)

      pub heads_typed_arrow : is_name (K (at + 1)) ≡ true → K (at + 1 + 1) ≡ Some (kind.Sign sign.Arrow)
      heads_typed_arrow n = arrow_there (K (at + 1 + 1)) (by_head (K at) (K (at + 1)) (K (at + 1 + 1)) headed other n).1

      pub heads_typed_ok : {n : List ℕ} → K (at + 1) ≡ Some (kind.Name n) → Exact (λ K. Heads K P) stops_closed K at (declared n (P (at + 1)) ∷ []) (at + 1 + 1 + 1)
      heads_typed_ok {n} q = record {
        after = omega arith;
        inside = ⊎_elim
            (λ w. inside_more K (kind.Word word.Def) at (at + 1 + 1 + 1) w rest)
            (λ w. inside_more K (kind.Name w.0) at (at + 1 + 1 + 1) w.1 rest)
            cases.0;
        spelled = λ J same so. heads_typed
            (⊎_elim (λ w. type_def (same at (omega arith) ∙ w)) (λ w. type_name (same at (omega arith) ∙ w.1)) cases.0)
            (same (at + 1) (omega arith) ∙ q)
            (same (at + 1 + 1) (omega arith) ∙ arrow);
        only = λ J y b same r st. only_typed J y b (same (at + 1) (omega arith) ∙ q) (λ e. other (sym (same at (omega arith)) ∙ e)) r;
      }
        where
          cases : ((K at ≡ Some (kind.Word word.Def)) ⊎ ((t : List ℕ) × (K at ≡ Some (kind.Name t)))) × (is_arrow (K (at + 1 + 1)) ≡ true)
          cases = by_head (K at) (K (at + 1)) (K (at + 1 + 1)) headed other (ap is_name q)

          arrow : K (at + 1 + 1) ≡ Some (kind.Sign sign.Arrow)
          arrow = arrow_there (K (at + 1 + 1)) cases.1

          rest : Inside K (at + 1) (at + 1 + 1 + 1)
          rest = inside_more K (kind.Name n) (at + 1) (at + 1 + 1 + 1) q (inside_more K (kind.Sign sign.Arrow) (at + 1 + 1) (at + 1 + 1 + 1) arrow (inside_none K (at + 1 + 1 + 1)))

          only_typed : (J : Stream) (y : List Declared) (b : ℕ) → J (at + 1) ≡ Some (kind.Name n) → (J at ≡ Some (kind.Sign sign.Arrow) → ⊥) → Heads J P y at b → (y ≡ declared n (P (at + 1)) ∷ []) × (b ≡ at + 1 + 1 + 1)
          only_typed J y b p o (heads_none a) = absurd (o a)
          only_typed J y b p o (heads_names l a) = absurd (let f = names_first l in ⊎_elim (λ e. name_arrow n (sym p ∙ ap J (sym e) ∙ a)) (λ c. name_comma n (sym p ∙ c)) f.2)
          only_typed J y b p o (heads_typed {n = m} w q' a) = (ap (λ u. declared u (P (at + 1)) ∷ []) (same_name m n (sym q' ∙ p)), refl)

      pub heads_typed_as : {n : List ℕ} {d : Declared} → d ≡ declared n (P (at + 1)) → K (at + 1) ≡ Some (kind.Name n) → Exact (λ K. Heads K P) stops_closed K at (d ∷ []) (at + 1 + 1 + 1)
      heads_typed_as {n} {d} e q = subst (λ z. Exact (λ K. Heads K P) stops_closed K at (z ∷ []) (at + 1 + 1 + 1)) (sym e) (heads_typed_ok q)

      -- names with `,` between them
      module _ (plain : is_name (K (at + 1)) ≡ true → ⊥) where
        no_typed : (J : Stream) → J (at + 1) ≡ K (at + 1) → {n : List ℕ} → SeesName J (at + 1) n → ⊥
        no_typed J p h = plain (ap is_name (sym p ∙ h))

        names_of : (J : Stream) (y : List Declared) (b : ℕ) → J at ≡ K at → J (at + 1) ≡ K (at + 1) → Heads J P y at b → Sub (λ K. NameList K P) Arrowed J y at b
        names_of J y b p q (heads_none a) = absurd (other (sym p ∙ a))
        names_of J y b p q (heads_names l a) = (_, _, l, (a, (refl, refl)))
        names_of J y b p q (heads_typed w h a) = absurd (no_typed J q h)

        names_join : Joins Arrowed stops_names stops_closed
        names_join = joins_tok (kind.Sign sign.Arrow) refl (fills_ret {part_stops = stops_closed} (λ ds. ds) (alike stops_closed))

        names_out : (J : Stream) (y : List Declared) (b : ℕ) → Sub (λ K. NameList K P) Arrowed J y at b → Heads J P y at b
        names_out J y b (ds, m, l, (a, (q, e))) = subst (λ k. Heads J P y at k) (sym e) (subst (λ z. Heads J P z at (m + 1)) (sym q) (heads_names l a))

        pub names_nonempty : {ds : List Declared} {m : ℕ} → Exact (λ K. NameList K P) stops_names K at ds m → at + 1 ≤ m
        names_nonempty {ds} {m} e = by_test (leb (at + 1) m) refl
          where
            by_test : (t : Bool) → leb (at + 1) m ≡ t → at + 1 ≤ m
            by_test true q = grind (arith, nat_tests)
            by_test false q =
                let lt : m < at + 1 = grind (arith, nat_tests) in
                let after = e.after in
                let here : m ≡ at = omega arith in
                let J : Stream = λ k. held (leb (k + 1) m) false (K k) kind.Newline in
                let s = e.spelled J (λ k l. kept k l) (ap stops_names (gone m (le_refl m))) in
                let f = names_first s in
                absurd (none_name f.0 (sym (ap J (sym here) ∙ gone m (le_refl m)) ∙ f.1))
              where
                kept : (k : ℕ) → k < m → held (leb (k + 1) m) false (K k) kind.Newline ≡ K k
                kept k l = by_kept (leb (k + 1) m) refl
                  where
                    by_kept : (u : Bool) → leb (k + 1) m ≡ u → held u false (K k) kind.Newline ≡ K k
                    by_kept true e = refl
                    by_kept false e = absurd (let l' : m < k + 1 = grind (arith, nat_tests) in omega arith)

                gone : (k : ℕ) → m ≤ k → held (leb (k + 1) m) false (K k) kind.Newline ≡ None
                gone k l = by_gone (leb (k + 1) m) refl
                  where
                    by_gone : (u : Bool) → leb (k + 1) m ≡ u → held u false (K k) kind.Newline ≡ None
                    by_gone true e = absurd (let l' : k + 1 ≤ m = grind (arith, nat_tests) in omega arith)
                    by_gone false e = refl

                none_name : (n : List ℕ) → None ≡ Some (kind.Name n) → ⊥
                none_name n e = cc

        pub names_past : {i : ℕ} → ((t : List ℕ) × (K at ≡ Some (kind.Name t))) → Refused (λ K. NameList K P) stops_names K at i → at + 1 ≤ i
        names_past {i} t f = by_test (leb (at + 1) i) refl
          where
            by_test : (u : Bool) → leb (at + 1) i ≡ u → at + 1 ≤ i
            by_test true q = grind (arith, nat_tests)
            by_test false q =
                let lt : i < at + 1 = grind (arith, nat_tests) in
                let end : TokenKind = kind.Sign sign.Semicolon in
                let J : Stream = hold K at end in
                absurd (f.never J (declared t.0 (P at) ∷ []) (at + 1) (λ k le. hold_before K at end k (omega arith)) (names_last (hold_before K at end at (le_refl at) ∙ t.1)) (ap stops_names (hold_at K at end)))

        by_name : (x y z : Option TokenKind) → has_heads x y z ≡ true → (x ≡ Some (kind.Sign sign.Arrow) → ⊥) → (is_name y ≡ true → ⊥) → (t : List ℕ) × (x ≡ Some (kind.Name t))
        by_name (Some (kind.Sign sign.Arrow)) y z h o n = absurd (o refl)
        by_name (Some (kind.Name t)) y z h o n = (t, refl)
        by_name (Some (kind.Word word.Def)) (Some (kind.Name m)) z h o n = absurd (n refl)
        by_name (Some (kind.Word word.Def)) y z h o n = absurd (false≢true h)
        by_name x y z h o n = absurd (false≢true h)

        starts_name : (t : List ℕ) × (K at ≡ Some (kind.Name t))
        starts_name = by_name (K at) (K (at + 1)) (K (at + 1 + 1)) headed other plain

        pub names_fails : {i : ℕ} → Refused (λ K. NameList K P) stops_names K at i → Refused (λ K. Heads K P) stops_closed K at i
        names_fails {i} f = record {
          from = f.from;
          inside = f.inside;
          never = λ J y b same r st.
              let le = names_past starts_name f in
              let q = names_of J y b (same at f.from) (same (at + 1) le) r in
              f.never J q.0 q.1 same q.2 (ap stops_names q.3.0);
          viable =
              let j = names_join in
              let r = sub_fails K j.leads j.fills f in
              viable_more (alike stops_closed) (λ J e same so v. (v.0, names_out J v.0 e v.1)) r.viable;
        }

        module _ {ds : List Declared} {m : ℕ} (l : Exact (λ K. NameList K P) stops_names K at ds m) where
          behind_names : Tail (λ K. Heads K P) (Arrowed ds) stops_closed K at (λ z. z) m
          behind_names = record {
            after = l.after;
            inside = l.inside;
            whole = λ J same z b r so. names_out J z b (ds, m, l.spelled J same (ap stops_names r.0), r);
            only = λ J y b same r st.
                let le = names_nonempty l in
                let q = names_of J y b (same at l.after) (same (at + 1) le) r in
                let o = l.only J q.0 q.1 same q.2 (ap stops_names q.3.0) in
                (y, subst (λ k. Arrowed ds J y k b) o.1 (subst (λ u. Arrowed u J y q.1 b) o.0 q.3), refl);
          }

          pub names_open : (K m ≡ Some (kind.Sign sign.Arrow) → ⊥) → Refused (λ K. Heads K P) stops_closed K at m
          names_open h = tail_fails (λ z. z) behind_names (tok_bad stops_closed K (fill_ret ds) h)

          pub names_ok : K m ≡ Some (kind.Sign sign.Arrow) → Exact (λ K. Heads K P) stops_closed K at ds (m + 1)
          names_ok h = tail_end (λ z. z) behind_names (tok_ok stops_closed K h (ret stops_closed K ds (m + 1)))
