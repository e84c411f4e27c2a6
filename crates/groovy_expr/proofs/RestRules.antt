-- The further elements of a list or a map, up to its `]`.
use Rattle.std.proofs.Common.{◌≡◌, ℕ, ◌+◌, Bool, true, false, List, [], ◌∷◌, ◌++◌, ◌⊎◌, inl, inr, ⊎_elim, refl, sym, ap, ◌∙◌, subst, arith, le_refl, Option, Some}
use Rattle.model_syntax.specs.declared.sign.Sign.TheVariants as sign
use Rattle.model_syntax.specs.declared.token.TokenKind.{TokenKind}
use Rattle.model_syntax.specs.declared.token.TokenKind.TheVariants as kind
use Rattle.model_syntax.specs.Stream.{Stream, Sees}
use Rattle.groovy_expr.specs.Answers.{Rule, Exact, Refused}
use Rattle.groovy_expr.specs.Brackets.{BracketRest, rest_end, rest_comma, rest_more}
use Rattle.groovy_expr.specs.Stops.{stops_expr, stops_closed}
use Rattle.groovy_expr.proofs.Calculus.{Tail, tail_fails, inside_more, inside_none, split}
use Rattle.groovy_expr.proofs.Lists.{tail_push, tail_done}

comma_close : Some (kind.Sign sign.Comma) ≡ Some (kind.Sign sign.BracketClose) → ⊥
comma_close e = cc

module _ {A : Type 0} {Item : Rule A} (begins : (J : Stream) (y : A) (a b : ℕ) → Item J y a b → Sees J a sign.BracketClose → ⊥) where
  abbrev Rest : Rule (List A)
  Rest = BracketRest Item

  abbrev Cases : Rule (List A)
  Cases J ys a b = ((ys ≡ []) × (b ≡ a + 1) × Sees J a sign.BracketClose) ⊎ (((ys ≡ []) × (b ≡ a + 1 + 1) × Sees J a sign.Comma × Sees J (a + 1) sign.BracketClose) ⊎ ((x : A) × (xs : List A) × (m : ℕ) × (ys ≡ x ∷ xs) × Sees J a sign.Comma × Item J x (a + 1) m × Rest J xs m b))

  cases : {J : Stream} {ys : List A} {a b : ℕ} → Rest J ys a b → Cases J ys a b
  cases (rest_end c) = inl (refl, refl, c)
  cases (rest_comma s c) = inr (inl (refl, refl, s, c))
  cases (rest_more s i r) = inr (inr (_, _, _, refl, s, i, r))

  abbrev goes_on : Option TokenKind → Bool
  goes_on (Some (kind.Sign sign.Comma)) = true
  goes_on (Some (kind.Sign sign.BracketClose)) = true
  goes_on t = false

  goes_stops : (t : Option TokenKind) → goes_on t ≡ true → stops_expr t ≡ true
  goes_stops (Some (kind.Sign sign.Comma)) h = refl
  goes_stops (Some (kind.Sign sign.BracketClose)) h = refl
  goes_stops t h = absurd (let e : false ≡ true = h in cc)

  rest_first : {J : Stream} {ys : List A} {a b : ℕ} → Rest J ys a b → stops_expr (J a) ≡ true
  rest_first (rest_end c) = goes_stops _ (ap goes_on c)
  rest_first (rest_comma s c) = goes_stops _ (ap goes_on s)
  rest_first (rest_more s i r) = goes_stops _ (ap goes_on s)

  module _ (K : Stream) {at n : ℕ} (done : List A) (g : Tail Rest Rest stops_closed K at (λ z. done ++ z) n) where
    pub rest_done : Sees K n sign.BracketClose → Exact Rest stops_closed K at done (n + 1)
    rest_done c = tail_done (λ z. z) done g (record {
      after = omega arith;
      inside = inside_more K (kind.Sign sign.BracketClose) n (n + 1) c (inside_none K (n + 1));
      spelled = λ J same so. rest_end (same n (omega arith) ∙ c);
      only = λ J y b same r st. let here : Sees J n sign.BracketClose = same n (omega arith) ∙ c in ⊎_elim
          (λ q. (q.0, q.1))
          (λ t. ⊎_elim (λ q. absurd (comma_close (sym q.2 ∙ here))) (λ q. absurd (comma_close (sym q.4 ∙ here))) t)
          (cases r);
    })

    module _ (s : Sees K n sign.Comma) where
      pub rest_closed : Sees K (n + 1) sign.BracketClose → Exact Rest stops_closed K at done (n + 1 + 1)
      rest_closed c = tail_done (λ z. z) done g (record {
        after = omega arith;
        inside = inside_more K (kind.Sign sign.Comma) n (n + 1 + 1) s (inside_more K (kind.Sign sign.BracketClose) (n + 1) (n + 1 + 1) c (inside_none K (n + 1 + 1)));
        spelled = λ J same so. rest_comma (same n (omega arith) ∙ s) (same (n + 1) (omega arith) ∙ c);
        only = λ J y b same r st.
            let here : Sees J n sign.Comma = same n (omega arith) ∙ s in
            let next : Sees J (n + 1) sign.BracketClose = same (n + 1) (omega arith) ∙ c in ⊎_elim
            (λ q. absurd (comma_close (sym here ∙ q.2)))
            (λ t. ⊎_elim (λ q. (q.0, q.1)) (λ q. absurd (begins J q.0 (n + 1) q.2 q.5 next)) t)
            (cases r);
      })

      module _ (o : Sees K (n + 1) sign.BracketClose → ⊥) where
        pub rest_next : {x : A} {m : ℕ} → Exact Item stops_expr K (n + 1) x m → Tail Rest Rest stops_closed K at (λ z. (done ++ x ∷ []) ++ z) m
        rest_next {x} {m} e = tail_push (λ z. z) done x g (record {
          after = (let a = e.after in omega arith);
          inside = inside_more K (kind.Sign sign.Comma) n m s e.inside;
          whole = λ J same z b r so. let a = e.after in rest_more (same n (omega arith) ∙ s) (e.spelled J same (rest_first r)) r;
          only = λ J y b same r st.
              let a = e.after in
              let here : Sees J n sign.Comma = same n (omega arith) ∙ s in ⊎_elim
              (λ q. absurd (comma_close (sym here ∙ q.2)))
              (λ t. ⊎_elim
              (λ q. absurd (o (sym (same (n + 1) a) ∙ q.3)))
              (λ q.
              let u = e.only J q.0 q.2 same q.5 (rest_first q.6) in
              (q.1, subst (λ k. Rest J q.1 k b) u.1 q.6, q.3 ∙ ap (λ w. w ∷ q.1) u.0))
              t)
              (cases r);
        })

        pub rest_fails : {i : ℕ} → Refused Item stops_expr K (n + 1) i → Refused Rest stops_closed K at i
        rest_fails {i} f = tail_fails (λ z. done ++ z) g (record {
          from = (let a = f.from in omega arith);
          inside = inside_more K (kind.Sign sign.Comma) n i s f.inside;
          never = λ J y b same r st.
              let a = f.from in
              let here : Sees J n sign.Comma = same n (omega arith) ∙ s in ⊎_elim
              (λ q. comma_close (sym here ∙ q.2))
              (λ t. ⊎_elim
              (λ q. o (sym (same (n + 1) a) ∙ q.3))
              (λ q. f.never J q.0 q.2 same q.5 (rest_first q.6))
              t)
              (cases r);
          viable = record {
            closing = f.viable.closing ++ kind.Sign sign.BracketClose ∷ [];
            closes = λ J e same st so.
                let a = f.from in
                let p = split J e f.viable.closing (kind.Sign sign.BracketClose ∷ []) i st in
                let v = f.viable.closes J p.0 same p.1 (goes_stops _ (ap goes_on p.2.0)) in
                (v.0 ∷ [], rest_more (same n (omega arith) ∙ s) v.1 (subst (λ k. Rest J [] p.0 k) (sym p.2.1) (rest_end p.2.0)));
          };
        })

    pub rest_bad : (Sees K n sign.Comma → ⊥) → (Sees K n sign.BracketClose → ⊥) → Refused Rest stops_closed K at n
    rest_bad s c = tail_fails (λ z. done ++ z) g (record {
      from = le_refl n;
      inside = inside_none K n;
      never = λ J y b same r st. let here = sym (same n (le_refl n)) in ⊎_elim
          (λ q. c (here ∙ q.2))
          (λ t. ⊎_elim (λ q. s (here ∙ q.2)) (λ q. s (here ∙ q.4)) t)
          (cases r);
      viable = record {
        closing = kind.Sign sign.BracketClose ∷ [];
        closes = λ J e same st so. ([], subst (λ k. Rest J [] n k) (sym st.1) (rest_end st.0));
      };
    })
