-- The rule of whole scripts, for the calculus.
use Rattle.std.proofs.Common.{◌≡◌, ◌≢◌, ℕ, ◌<◌, ◌≤◌, Bool, true, false, not, ◌==◌, Option, Some, None, List, [], ◌∷◌, ◌++◌, ⊎_elim, refl, sym, ap, ◌∙◌, subst, arith, le_refl, append_assoc}
use Rattle.std.proofs.lemmas.Bool.{false≢true}
use Rattle.std.proofs.lemmas.Bool.Decides.{nat_tests}
use Rattle.model_syntax.specs.declared.sign.Sign.TheVariants as sign
use Rattle.model_syntax.specs.declared.token.TokenKind.{TokenKind}
use Rattle.model_syntax.specs.declared.token.TokenKind.TheVariants as kind
use Rattle.model_syntax.specs.declared.tree.Top.{Top}
use Rattle.model_syntax.specs.Stream.{Stream, Places}
use Rattle.model_syntax.specs.Grammar.{MayBreak, no_break, break, MaySeparate, no_separator, separator_line, separator_sign, Separates, separates_line, separates_sign}
use Rattle.model_syntax.specs.Scripts.{IsTop, TopsRest, tops_end, tops_more, Tops, tops_none, tops_some}
use Rattle.groovy_expr.specs.Answers.{Rule, Agrees, Before, Inside, Exact, Refused}
use Rattle.groovy_expr.specs.Statements.{BreaksTo, is_separator, SeparatesTo}
use Rattle.groovy_expr.specs.Stops.{stops_stmt}
use Rattle.groovy_expr.proofs.Calculus.{shorter, before, inside_none, inside_both, viable_more, Tail, tail_fails, tail_as, tail_both, Weaker}
use Rattle.groovy_expr.proofs.Lists.{tail_done}
use Rattle.groovy_expr.proofs.StatementCalculus.{long}
use Rattle.groovy_expr.proofs.StatementLists.{separates_forward, separate_along, separate_once, may_separate, separates_first, some_separators, separator_stmt_stops, separate_same}
use Rattle.groovy_parse.specs.Readers.{stops_end}
use Rattle.groovy_parse.proofs.TopRules.{ATop, begins_top, top_begin}

abbrev pub Script : Places → Rule (List Top)
Script P K = Tops K P

-- what stands where the separators are read: nothing more, or, if it may stand there, a function or a statement
pub data NextTops (may : Bool) (K : Stream) (P : Places) : List Top → ℕ → ℕ → Type 0 where
  next_none : {a : ℕ} → NextTops may K P [] a a
  next_some : {t : Top} {ts : List Top} {a m b : ℕ} → may ≡ true → IsTop K P t a m → TopsRest K P ts m b → NextTops may K P (t ∷ ts) a b

abbrev pub Next : Bool → Places → Rule (List Top)
Next may P K = NextTops may K P

-- the functions and statements that were read
abbrev pub TopsLoop : Places → Stream → List Top → Bool → ℕ → Type 0
TopsLoop P K done may n = Tail (Script P) (Next may P) stops_end K 0 (λ z. done ++ z) n

begun_no_separator : (t : Option TokenKind) → begins_top t ≡ true → is_separator t ≡ false
begun_no_separator (Some kind.Newline) e = absurd (false≢true e)
begun_no_separator (Some (kind.Sign sign.Semicolon)) e = absurd (false≢true e)
begun_no_separator t e = refl

end_no_separator : (t : Option TokenKind) → stops_end t ≡ true → is_separator t ≡ false
end_no_separator None e = refl
end_no_separator (Some t) e = absurd (false≢true e)

end_is : (t : Option TokenKind) → stops_end t ≡ true → t ≡ None
end_is None e = refl
end_is (Some t) e = absurd (false≢true e)

end_stmt_stops : Weaker stops_end stops_stmt
end_stmt_stops None e = refl
end_stmt_stops (Some t) e = absurd (false≢true e)

-- a statement or function may end before what goes on
rest_stops : {P : Places} {J : Stream} {ts : List Top} {a b : ℕ} → TopsRest J P ts a b → stops_end (J b) ≡ true → stops_stmt (J a) ≡ true
rest_stops (tops_end k) st = separate_same k (end_stmt_stops _ st)
rest_stops {P} {J} {ts} {a} (tops_more k i r) st = separator_stmt_stops (J a) (separates_first k)

separates_past : {K : Stream} {a b : ℕ} → Separates K a b → a < b
separates_past (separates_line k r) = let x = separates_forward r in omega arith
separates_past (separates_sign k r) = let x = separates_forward r in omega arith

break_separates : {K : Stream} {a b : ℕ} → MayBreak K a b → MaySeparate K a b
break_separates no_break = no_separator
break_separates (break k) = separator_line k no_separator

separate_both : {K : Stream} {a m b : ℕ} → MaySeparate K a m → MaySeparate K m b → MaySeparate K a b
separate_both no_separator s = s
separate_both (separator_line k r) s = separator_line k (separate_both r s)
separate_both (separator_sign k r) s = separator_sign k (separate_both r s)

module _ (K : Stream) (P : Places) where
  module _ {at l : ℕ} (s : SeparatesTo K at l) where
    along : {J : Stream} (n : ℕ) → l ≤ n → Before n J K → MaySeparate J at l
    along n le same = separate_along n s.run le same

    here : {J : Stream} {m : ℕ} → Agrees l J K → MaySeparate J at m → is_separator (J m) ≡ false → m ≡ l
    here {J} same k f = separate_once k (along l (le_refl l) (λ i h. same i (omega arith))) f (ap is_separator (same l (le_refl l)) ∙ s.ends)

  -- before the first
  module _ {l m : ℕ} (s : SeparatesTo K 0 l) (t : BreaksTo K 0 m) {may : Bool} (decides : may ≡ (l == m)) where
    break_there : {J : Stream} (n : ℕ) → m ≤ n → Before n J K → MayBreak J 0 m
    break_there {J} n le same = ⊎_elim
        (λ h. subst (MayBreak J 0) (sym h.1) (break (let e = h.1 in same 0 (omega arith) ∙ h.0)))
        (λ h. subst (MayBreak J 0) (sym h.1) no_break) t

    -- the first stands behind the newline
    first_here : {J : Stream} {k : ℕ} → J 0 ≡ K 0 → MayBreak J 0 k → is_separator (J k) ≡ false → k ≡ m
    first_here same no_break f = ⊎_elim (λ h. absurd (false≢true (sym f ∙ ap is_separator (same ∙ h.0)))) (λ h. sym h.1) t
    first_here same (break q) f = ⊎_elim (λ h. sym h.1) (λ h. absurd (h.0 (sym same ∙ q))) t

    pub script_start : TopsLoop P K [] may l
    script_start = record {
      after = omega arith;
      inside = s.inside;
      whole = λ J same z b r so. out same r;
      only = λ J y b same r st. enter same r st;
    }
      where
        out : {J : Stream} {z : List Top} {b : ℕ} → Before l J K → NextTops may J P z l b → Tops J P z 0 b
        out same next_none = tops_none no_break (along s l (le_refl l) same)
        out {J} {z} {b} same (next_some {t = x} {ts = ts} {m = j} q i r) =
            let e : l ≡ m = grind (arith, nat_tests) in
            tops_some (break_there l (omega arith) same) (subst (λ k. IsTop J P x k j) e i) r

        enter : {J : Stream} {y : List Top} {b : ℕ} → Agrees l J K → Tops J P y 0 b → stops_end (J b) ≡ true → (z : List Top) × NextTops may J P z l b × (y ≡ z)
        enter {J} {y} {b} same (tops_none k r) st =
            let o = here s same (separate_both (break_separates k) r) (end_no_separator (J b) st) in
            ([], subst (λ j. NextTops may J P [] l j) (sym o) next_none, refl)
        enter {J} {y} {b} same (tops_some {t = x} {ts = ts} {m = j} {n = c} k i r) st =
            let f = begun_no_separator (J j) (top_begin i) in
            let o = here s same (break_separates k) f in
            let p = first_here (same 0 (omega arith)) k f in
            let e : may ≡ true = (let q : l ≡ m = sym o ∙ p in grind (arith, nat_tests)) in
            (x ∷ ts, next_some e (subst (λ z. IsTop J P x z c) o i) r, refl)

  -- one after the other
  module _ (done : List Top) {may : Bool} {n : ℕ} (g : TopsLoop P K done may n) where
    pub script_ok : K n ≡ None → Exact (Script P) stops_end K 0 done n
    script_ok h = tail_done (λ z. z) done g (record {
      after = le_refl n;
      inside = inside_none K n;
      spelled = λ J same so. next_none;
      only = λ J y b same r st. none (same n (le_refl n)) r;
    })
      where
        none : {J : Stream} {y : List Top} {b : ℕ} → J n ≡ K n → NextTops may J P y n b → (y ≡ []) × (b ≡ n)
        none same next_none = (refl, refl)
        none same (next_some q i r) = absurd (false≢true (sym (ap begins_top (same ∙ h)) ∙ top_begin i))

    module _ (there : K n ≢ None) where
      -- a token that no separator stands before
      pub script_bad : may ≡ false → Refused (Script P) stops_end K 0 n
      script_bad h = tail_fails (λ z. done ++ z) g (record {
        from = le_refl n;
        inside = inside_none K n;
        never = λ J y b same r st. no same r st;
        viable = record { closing = []; closes = λ J e same st so. ([], subst (λ k. NextTops may J P [] n k) (sym st) next_none) };
      })
        where
          no : {J : Stream} {y : List Top} {b : ℕ} → Agrees n J K → NextTops may J P y n b → stops_end (J b) ≡ true → ⊥
          no {J} same next_none st = there (sym (same n (le_refl n)) ∙ end_is (J n) st)
          no same (next_some q i r) st = false≢true (sym h ∙ q)

      goes_on : {J : Stream} {y : List Top} {b : ℕ} → J n ≡ K n → NextTops may J P y n b → stops_end (J b) ≡ true → (x : Top) × (ys : List Top) × (m : ℕ) × IsTop J P x n m × TopsRest J P ys m b × (y ≡ x ∷ ys)
      goes_on {J} same next_none st = absurd (there (sym same ∙ end_is (J n) st))
      goes_on same (next_some q i r) st = (_, _, _, i, r, refl)

      pub script_fails : may ≡ true → {i : ℕ} → Refused (ATop P) stops_stmt K n i → Refused (Script P) stops_end K 0 i
      script_fails h {i} f = tail_fails (λ z. done ++ z) g (record {
        from = f.from;
        inside = f.inside;
        never = λ J y b same r st. let q = goes_on (same n f.from) r st in f.never J q.0 q.2 same q.3 (rest_stops q.4 st);
        viable = viable_more end_stmt_stops (λ J e same so v. (v.0 ∷ [], next_some h v.1 (tops_end no_separator))) f.viable;
      })

      module _ (h : may ≡ true) {x : Top} {m : ℕ} (e : Exact (ATop P) stops_stmt K n x m) where
        pub top_long : n < m
        top_long = long begins_top (λ J y a b r. top_begin r) refl refl e

        pub script_step : {l : ℕ} (s : SeparatesTo K m l) {next : Bool} → next ≡ not (l == m) → TopsLoop P K (done ++ x ∷ []) next l
        script_step {l} s {next} decides = tail_as _ _ (λ z. sym (append_assoc done (x ∷ []) z)) (tail_both (λ z. done ++ z) g (record {
          after = (let a = e.after in let b = separates_forward s.run in omega arith);
          inside = λ k le lt. inside_two k le lt;
          whole = λ J same z b r so. let q = rest_of same r in next_some h (e.spelled J (before m l (separates_forward s.run) same) (rest_stops q so)) q;
          only = λ J y b same r st.
              let q = goes_on (same n (let a = e.after in let b = separates_forward s.run in omega arith)) r st in
              let o = e.only J q.0 q.2 (shorter m l (separates_forward s.run) same) q.3 (rest_stops q.4 st) in
              let p = next_of same (subst (λ k. TopsRest J P q.1 k b) o.1 q.4) st in
              (q.1, p, q.5 ∙ ap (λ u. u ∷ q.1) o.0);
        }))
          where
            inside_two : Inside K n l
            inside_two = inside_both K n m l e.inside s.inside

            rest_of : {J : Stream} {z : List Top} {b : ℕ} → Before l J K → NextTops next J P z l b → TopsRest J P z m b
            rest_of same next_none = tops_end (along s l (le_refl l) same)
            rest_of same (next_some q i r) = tops_more (some_separators (along s l (le_refl l) same) (λ o. grind (arith, nat_tests))) i r

            next_of : {J : Stream} {z : List Top} {b : ℕ} → Agrees l J K → TopsRest J P z m b → stops_end (J b) ≡ true → NextTops next J P z l b
            next_of {J} {z} {b} same (tops_end k) st =
                let o = here s same k (end_no_separator (J b) st) in
                subst (λ j. NextTops next J P [] l j) (sym o) next_none
            next_of {J} {z} {b} same (tops_more {t = t} {m = j} {n = c} k i r) st =
                let o = here s same (may_separate k) (begun_no_separator (J j) (top_begin i)) in
                let past = separates_past k in
                let e : next ≡ true = (let lt : m < l = omega arith in grind (arith, nat_tests)) in
                next_some e (subst (λ a. IsTop J P t a c) o i) r
