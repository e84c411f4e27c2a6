-- The rules of `try`, its catches and `finally`, for the calculus.
use Rattle.std.proofs.Common.{◌≡◌, ℕ, ◌+◌, ◌<◌, Bool, true, false, Option, Some, None, List, [], ◌∷◌, ◌++◌, ◌⊎◌, inl, inr, ⊎_elim, refl, sym, ap, ◌∙◌, subst, arith, le_refl, append_assoc, append-nil}
use Rattle.std.proofs.lemmas.Bool.{false≢true}
use Rattle.model_syntax.specs.declared.place.Declared.{Declared}
use Rattle.model_syntax.specs.declared.sign.Sign.TheVariants as sign
use Rattle.model_syntax.specs.declared.word.Word.TheVariants as word
use Rattle.model_syntax.specs.declared.token.TokenKind.{TokenKind}
use Rattle.model_syntax.specs.declared.token.TokenKind.TheVariants as kind
use Rattle.model_syntax.specs.declared.tree.Catch.{Catch}
use Rattle.model_syntax.specs.declared.tree.Caught.{Caught}
use Rattle.model_syntax.specs.declared.tree.Caught.TheVariants.{Exceptions, Throwables}
use Rattle.model_syntax.specs.declared.tree.Stmt.{Stmt}
use Rattle.model_syntax.specs.declared.tree.Stmt.TheVariants as stmt
use Rattle.model_syntax.specs.Stream.{Stream, Places, Sees, SeesWord, SeesName, declared}
use Rattle.model_syntax.specs.Grammar.{no_break, no_separator, Catches, catches_plain, catches_exception, catches_throwable, IsCatch, catch, CatchList, no_catch, catch_more, IsFinally, finally, MayFinally, no_finally, finally_behind, block, stmts_none}
use Rattle.groovy_expr.specs.Answers.{Rule, Agrees, Before, Inside, Exact, Refused}
use Rattle.groovy_expr.specs.Stops.{stops_closed, stops_stmt}
use Rattle.groovy_expr.specs.Statements.{BreaksTo, stops_catches, caught_text}
use Rattle.groovy_expr.proofs.Calculus.{Weaker, alike, Tok, Ret, Sub, Leads, leads_ret, Fill, Fills, fills_ret, fill_sub, viable_more, inside_none, inside_more, inside_both, ret, tok_ok, tok_fails, tok_bad, sub_ok, sub_fails, sub_bad, moved, shorter, before, Tail, tail_end, tail_fails, turn_ok, turn_bad, by}
use Rattle.groovy_expr.proofs.StatementCalculus.{FirstIn, long, inside_token, a_name, IsRule, rule_ok, rule_bad}
use Rattle.groovy_expr.proofs.StatementBlocks.{Block, Statement, Brk, brk_ok, brk_fails, fill_brk, fill_block, block_begins, is_brace}
use Rattle.groovy_expr.proofs.StatementIfs.{CatchesOf, Finally, MayFinish, Finish, Handled, stmt_by}

-- the head of a catch
abbrev pub CaughtName : Type 0
CaughtName = Caught × Declared

abbrev pub CatchHead : Places → Rule CaughtName
CatchHead P J z a b = Catches J P z.0 z.1 a b

same_name : (n m : List ℕ) → Some (kind.Name n) ≡ Some (kind.Name m) → n ≡ m
same_name n m e = cc

pair_is : {y : CaughtName} {c : Caught} {d : Declared} → y.0 ≡ c → y.1 ≡ d → y ≡ (c, d)
pair_is {y} {c} {d} e f = ap (λ (z : Caught). let w : CaughtName = (z, y.1) in w) e ∙ ap (λ (z : Declared). let w : CaughtName = (c, z) in w) f

first_byte : List ℕ → ℕ
first_byte [] = 0
first_byte (n ∷ ns) = n

one_class : (x c : Caught) → caught_text x ≡ caught_text c → x ≡ c
unfolding first_byte
one_class Exceptions Exceptions e = refl
one_class Throwables Throwables e = refl
one_class Exceptions Throwables e = absurd (let z : 69 ≡ 84 = ap first_byte e in omega arith)
one_class Throwables Exceptions e = absurd (let z : 84 ≡ 69 = ap first_byte e in omega arith)

name_sign : {n : List ℕ} {t : Option TokenKind} → t ≡ Some (kind.Name n) → t ≡ Some (kind.Sign sign.ParenClose) → ⊥
name_sign {n} h g = let z : Some (kind.Name n) ≡ Some (kind.Sign sign.ParenClose) = sym h ∙ g in cc

-- `(`, a name, `)`; or `(`, a class, a name, `)`
catch_head_is : {J : Stream} {P : Places} {c : Caught} {d : Declared} {a b : ℕ} → Catches J P c d a b → Sees J a sign.ParenOpen × ((n : List ℕ) × SeesName J (a + 1) n × ((Sees J (a + 1 + 1) sign.ParenClose × (c ≡ Exceptions) × (d ≡ declared n (P (a + 1))) × (b ≡ a + 1 + 1 + 1)) ⊎ ((m : List ℕ) × SeesName J (a + 1 + 1) m × (n ≡ caught_text c) × Sees J (a + 1 + 1 + 1) sign.ParenClose × (d ≡ declared m (P (a + 1 + 1))) × (b ≡ a + 1 + 1 + 1 + 1))))
catch_head_is (catches_plain o n c) = (o, (_, n, inl (c, refl, refl, refl)))
catch_head_is (catches_exception o k n c) = (o, (_, k, inr (_, n, refl, c, refl, refl)))
catch_head_is (catches_throwable o k n c) = (o, (_, k, inr (_, n, refl, c, refl, refl)))

catch_head_typed : {J : Stream} {P : Places} {m : List ℕ} {a : ℕ} (c : Caught) → Sees J a sign.ParenOpen → SeesName J (a + 1) (caught_text c) → SeesName J (a + 1 + 1) m → Sees J (a + 1 + 1 + 1) sign.ParenClose → Catches J P c (declared m (P (a + 1 + 1))) a (a + 1 + 1 + 1 + 1)
catch_head_typed Exceptions o k n c = catches_exception o k n c
catch_head_typed Throwables o k n c = catches_throwable o k n c

pub fill_catch_head : (P : Places) → Fill (CatchHead P) stops_closed
fill_catch_head P = record {
  tokens = kind.Sign sign.ParenOpen ∷ kind.Name a_name ∷ kind.Sign sign.ParenClose ∷ [];
  fills = λ J a e st so. ((Exceptions, declared a_name (P (a + 1))), subst (λ k. Catches J P Exceptions (declared a_name (P (a + 1))) a k) (sym st.1.1.1) (catches_plain st.0 st.1.0 st.1.1.0));
}

module _ (K : Stream) (P : Places) {at : ℕ} where
  pub caught_none : (Sees K at sign.ParenOpen → ⊥) → Refused (CatchHead P) stops_closed K at at
  caught_none h = record {
    from = le_refl at;
    inside = inside_none K at;
    never = λ J y b same r st. h (sym (same at (le_refl at)) ∙ (catch_head_is r).0);
    viable = record { closing = (fill_catch_head P).tokens; closes = λ J e same st so. (fill_catch_head P).fills J at e st so };
  }

  module _ (o : Sees K at sign.ParenOpen) where
    pub caught_no_name : ((n : List ℕ) → SeesName K (at + 1) n → ⊥) → Refused (CatchHead P) stops_closed K at (at + 1)
    caught_no_name h = record {
      from = omega arith;
      inside = inside_token K (kind.Sign sign.ParenOpen) at o;
      never = λ J y b same r st. let q = catch_head_is r in h q.1.0 (sym (same (at + 1) (le_refl (at + 1))) ∙ q.1.1);
      viable = record {
        closing = kind.Name a_name ∷ kind.Sign sign.ParenClose ∷ [];
        closes = λ J e same st so. ((Exceptions, declared a_name (P (at + 1))), subst (λ k. Catches J P Exceptions (declared a_name (P (at + 1))) at k) (sym st.1.1) (catches_plain (same at (omega arith) ∙ o) st.0 st.1.0));
      };
    }

    module _ {n : List ℕ} (k : SeesName K (at + 1) n) where
      two : Inside K at (at + 1 + 1)
      two = inside_more K (kind.Sign sign.ParenOpen) at (at + 1 + 1) o (inside_token K (kind.Name n) (at + 1) k)

      pub caught_plain : Sees K (at + 1 + 1) sign.ParenClose → Exact (CatchHead P) stops_closed K at (Exceptions, declared n (P (at + 1))) (at + 1 + 1 + 1)
      caught_plain c = record {
        after = omega arith;
        inside = inside_both K at (at + 1 + 1) (at + 1 + 1 + 1) two (inside_token K (kind.Sign sign.ParenClose) (at + 1 + 1) c);
        spelled = λ J same so. catches_plain (same at (omega arith) ∙ o) (same (at + 1) (omega arith) ∙ k) (same (at + 1 + 1) (omega arith) ∙ c);
        only = λ J y b same r st.
            let q = catch_head_is r in
            let e : q.1.0 ≡ n = same_name q.1.0 n (sym q.1.1 ∙ same (at + 1) (omega arith) ∙ k) in
            ⊎_elim
            (λ z. (pair_is z.1 (z.2 ∙ ap (λ w. declared w (P (at + 1))) e), z.3))
            (λ z. absurd (name_sign z.1 (same (at + 1 + 1) (omega arith) ∙ c)))
            q.1.2;
      }

      -- neither `)` nor a name behind a class
      pub caught_stuck : (Sees K (at + 1 + 1) sign.ParenClose → ⊥) → ((c : Caught) (m : List ℕ) → n ≡ caught_text c → SeesName K (at + 1 + 1) m → ⊥) → Refused (CatchHead P) stops_closed K at (at + 1 + 1)
      caught_stuck h f = record {
        from = omega arith;
        inside = two;
        never = λ J y b same r st.
            let q = catch_head_is r in
            let e : q.1.0 ≡ n = same_name q.1.0 n (sym q.1.1 ∙ same (at + 1) (omega arith) ∙ k) in
            ⊎_elim
            (λ z. h (sym (same (at + 1 + 1) (omega arith)) ∙ z.0))
            (λ z. f y.0 z.0 (sym e ∙ z.2) (sym (same (at + 1 + 1) (omega arith)) ∙ z.1))
            q.1.2;
        viable = record {
          closing = kind.Sign sign.ParenClose ∷ [];
          closes = λ J e same st so. ((Exceptions, declared n (P (at + 1))), subst (λ z. Catches J P Exceptions (declared n (P (at + 1))) at z) (sym st.1) (catches_plain (same at (omega arith) ∙ o) (same (at + 1) (omega arith) ∙ k) st.0));
        };
      }

      module _ (c : Caught) {m : List ℕ} (t : n ≡ caught_text c) (g : SeesName K (at + 1 + 1) m) where
        three : Inside K at (at + 1 + 1 + 1)
        three = inside_both K at (at + 1 + 1) (at + 1 + 1 + 1) two (inside_token K (kind.Name m) (at + 1 + 1) g)

        typed : {J : Stream} → Before (at + 1 + 1 + 1) J K → Sees J (at + 1 + 1 + 1) sign.ParenClose → Catches J P c (declared m (P (at + 1 + 1))) at (at + 1 + 1 + 1 + 1)
        typed same z = catch_head_typed c (same at (omega arith) ∙ o) (same (at + 1) (omega arith) ∙ k ∙ ap (λ w. Some (kind.Name w)) t) (same (at + 1 + 1) (omega arith) ∙ g) z

        pub caught_unclosed : (Sees K (at + 1 + 1 + 1) sign.ParenClose → ⊥) → Refused (CatchHead P) stops_closed K at (at + 1 + 1 + 1)
        caught_unclosed h = record {
          from = omega arith;
          inside = three;
          never = λ J y b same r st.
              let q = catch_head_is r in
              ⊎_elim
              (λ z. name_sign (same (at + 1 + 1) (omega arith) ∙ g) z.0)
              (λ z. h (sym (same (at + 1 + 1 + 1) (omega arith)) ∙ z.3))
              q.1.2;
          viable = record {
            closing = kind.Sign sign.ParenClose ∷ [];
            closes = λ J e same st so. ((c, declared m (P (at + 1 + 1))), subst (λ z. Catches J P c (declared m (P (at + 1 + 1))) at z) (sym st.1) (typed same st.0));
          };
        }

        pub caught_typed : Sees K (at + 1 + 1 + 1) sign.ParenClose → Exact (CatchHead P) stops_closed K at (c, declared m (P (at + 1 + 1))) (at + 1 + 1 + 1 + 1)
        caught_typed s = record {
          after = omega arith;
          inside = inside_both K at (at + 1 + 1 + 1) (at + 1 + 1 + 1 + 1) three (inside_token K (kind.Sign sign.ParenClose) (at + 1 + 1 + 1) s);
          spelled = λ J same so. typed (before (at + 1 + 1 + 1) (at + 1 + 1 + 1 + 1) (omega arith) same) (same (at + 1 + 1 + 1) (omega arith) ∙ s);
          only = λ J y b same r st.
              let q = catch_head_is r in
              ⊎_elim
              (λ z. absurd (name_sign (same (at + 1 + 1) (omega arith) ∙ g) z.0))
              (λ z.
              let e : q.1.0 ≡ n = same_name q.1.0 n (sym q.1.1 ∙ same (at + 1) (omega arith) ∙ k) in
              let w : z.0 ≡ m = same_name z.0 m (sym z.1 ∙ same (at + 1 + 1) (omega arith) ∙ g) in
              (pair_is (one_class y.0 c (sym z.2 ∙ e ∙ t)) (z.4 ∙ ap (λ w. declared w (P (at + 1 + 1))) w), z.5))
              q.1.2;
        }

-- a catch
abbrev pub ACatch : Places → Rule Catch
ACatch P K = IsCatch K P

abbrev pub a_catch : CaughtName → List Stmt → Catch
a_catch z ss = record { caught = z.0; name = z.1; body = ss }

abbrev CatchEnd : Places → CaughtName → Rule Catch
CatchEnd P z = Brk (Sub (Block P) (λ ss. Ret (a_catch z ss)))

abbrev CatchBody : Places → Rule Catch
CatchBody P = Tok (kind.Word word.Catch) (Sub (CatchHead P) (CatchEnd P))

catch_in : {P : Places} {J : Stream} {y : Catch} {a b : ℕ} → IsCatch J P y a b → CatchBody P J y a b
catch_in (catch {c = c} {d = d} w h k s) = (w, ((c, d), _, h, (_, k, (_, _, s, (refl, refl)))))

catch_out : {P : Places} {J : Stream} {y : Catch} {a b : ℕ} → CatchBody P J y a b → IsCatch J P y a b
catch_out {P} {J} {y} {a} {b} r = moved (λ z k. IsCatch J P z a k) r.1.3.2.3 (catch r.0 r.1.2 r.1.3.1 r.1.3.2.2)

catch_rule : (P : Places) → IsRule (ACatch P) (CatchBody P)
catch_rule P = record { enter = catch_in; leave = catch_out }

catch_leads : (P : Places) → Leads (CatchEnd P) stops_closed stops_closed
catch_leads P x J y a b r st = refl

catch_block_leads : (z : CaughtName) → Leads (λ ss. Ret (a_catch z ss)) stops_closed stops_closed
catch_block_leads z x J y a b r st = refl

catch_block_begins : (P : Places) (z : CaughtName) → FirstIn (Sub (Block P) (λ ss. Ret (a_catch z ss))) is_brace
catch_block_begins P z J y a b r = block_begins P J r.0 a r.1 r.2

catch_fills : (P : Places) → Fills (CatchEnd P) stops_closed stops_closed
catch_fills P = record {
  tokens = kind.Sign sign.BraceOpen ∷ kind.Sign sign.BraceClose ∷ [];
  fills = λ z J a e st so. (a_catch z [], (_, no_break, ([], _, block st.0 (stmts_none no_separator) st.1.0, (refl, st.1.1))));
  ends = λ J a e st so. refl;
}

module _ (K : Stream) (P : Places) {at : ℕ} where
  pub catch_none : (SeesWord K at word.Catch → ⊥) → Refused (ACatch P) stops_closed K at at
  catch_none h = rule_bad (catch_rule P) (tok_bad stops_closed K (fill_sub (fill_catch_head P) (catch_fills P)) h)

  module _ (h : SeesWord K at word.Catch) where
    pub catch_fails : {i : ℕ} → Refused (CatchHead P) stops_closed K (at + 1) i → Refused (ACatch P) stops_closed K at i
    catch_fails f = rule_bad (catch_rule P) (tok_fails stops_closed K h (sub_fails K (catch_leads P) (catch_fills P) f))

    module _ (z : CaughtName) {m l : ℕ} (e : Exact (CatchHead P) stops_closed K (at + 1) z m) (t : BreaksTo K m l) where
      pub catch_block_fails : {i : ℕ} → Refused (Block P) stops_closed K l i → Refused (ACatch P) stops_closed K at i
      catch_block_fails f = rule_bad (catch_rule P) (tok_fails stops_closed K h (sub_bad K (catch_leads P) e (brk_fails (Sub (Block P) (λ ss. Ret (a_catch z ss))) stops_closed K is_brace (catch_block_begins P z) refl t (sub_fails K (catch_block_leads z) (fills_ret (a_catch z) (alike _)) f))))

      pub catch_ok : {ss : List Stmt} {n : ℕ} → Exact (Block P) stops_closed K l ss n → Exact (ACatch P) stops_closed K at (a_catch z ss) n
      catch_ok f = rule_ok (catch_rule P) (tok_ok stops_closed K h (sub_ok K (catch_leads P) e (brk_ok (Sub (Block P) (λ ss. Ret (a_catch z ss))) stops_closed K is_brace (catch_block_begins P z) refl t (sub_ok K (catch_block_leads z) f (ret stops_closed K _ _)))))

-- catches
abbrev pub CatchLoop : Places → Stream → ℕ → List Catch → ℕ → Type 0
CatchLoop P K at done n = Tail (CatchesOf P) (CatchesOf P) stops_catches K at (λ z. done ++ z) n

catch_word : {P : Places} {J : Stream} {c : Catch} {a b : ℕ} → IsCatch J P c a b → SeesWord J a word.Catch
catch_word (catch w h k s) = w

abbrev is_catch : Option TokenKind → Bool
is_catch (Some (kind.Word word.Catch)) = true
is_catch t = false

pub catch_longer : (K : Stream) (P : Places) {at n : ℕ} {c : Catch} → Exact (ACatch P) stops_closed K at c n → at < n
catch_longer K P e = long is_catch (λ J y a b r. ap is_catch (catch_word r)) refl refl e

module _ (K : Stream) (P : Places) {at : ℕ} (done : List Catch) {n : ℕ} (g : CatchLoop P K at done n) where
  module _ (h : SeesWord K n word.Catch) where
    more_catches : {J : Stream} {cs : List Catch} {b : ℕ} → SeesWord J n word.Catch → CatchList J P cs n b → stops_catches (J b) ≡ true → (c : Catch) × (ds : List Catch) × (m : ℕ) × IsCatch J P c n m × CatchList J P ds m b × (cs ≡ c ∷ ds)
    more_catches w no_catch st = absurd (false≢true (sym (ap stops_catches w) ∙ st))
    more_catches w (catch_more c cs) st = (_, _, _, c, cs, refl)

    pub catches_step : {c : Catch} {m : ℕ} → Exact (ACatch P) stops_closed K n c m → CatchLoop P K at (done ++ c ∷ []) m
    catches_step {c} {m} e = let from = g.after in let l = e.after in record {
      after = omega arith;
      inside = inside_both K at n m g.inside e.inside;
      whole = λ J same z b r st. subst (λ us. CatchList J P us at b) (sym (append_assoc done (c ∷ []) z)) (g.whole J (before n m l same) (c ∷ z) b (catch_more (e.spelled J same refl) r) st);
      only = λ J y b same r st.
          let q = g.only J y b (shorter n m l same) r st in
          let p = more_catches (same n l ∙ h) q.1 st in
          let o = e.only J p.0 p.2 same p.3 refl in
          (p.1, subst (λ k. CatchList J P p.1 k b) o.1 p.4, q.2 ∙ ap (λ us. done ++ us) p.5 ∙ ap (λ u. done ++ u ∷ p.1) o.0 ∙ sym (append_assoc done (c ∷ []) p.1));
    }

    pub catches_fails : {i : ℕ} → Refused (ACatch P) stops_closed K n i → Refused (CatchesOf P) stops_catches K at i
    catches_fails {i} f = tail_fails (λ z. done ++ z) g (record {
      from = f.from;
      inside = f.inside;
      never = λ J y b same r st. let p = more_catches (same n f.from ∙ h) r st in f.never J p.0 p.2 same p.3 refl;
      viable = viable_more (λ k e. refl) (λ J e same so v. (v.0 ∷ [], catch_more v.1 no_catch)) f.viable;
    })

  pub catches_end : (SeesWord K n word.Catch → ⊥) → Exact (CatchesOf P) stops_catches K at done n
  catches_end h = subst (λ us. Exact (CatchesOf P) stops_catches K at us n) (append-nil done) (tail_end (λ z. done ++ z) g {x = []} (record {
    after = le_refl n;
    inside = inside_none K n;
    spelled = λ J same so. no_catch;
    only = λ J y b same r st. by_catch same r;
  }))
    where
      by_catch : {J : Stream} {y : List Catch} {b : ℕ} → Agrees n J K → CatchList J P y n b → (y ≡ []) × (b ≡ n)
      by_catch same no_catch = (refl, refl)
      by_catch same (catch_more c cs) = absurd (h (sym (same n (le_refl n)) ∙ catch_word c))

-- `finally`
abbrev FinallyBody : Places → Rule (List Stmt)
FinallyBody P = Tok (kind.Word word.Finally) (Brk (Block P))

finally_in : {P : Places} {J : Stream} {y : List Stmt} {a b : ℕ} → IsFinally J P y a b → FinallyBody P J y a b
finally_in (finally w k s) = (w, (_, k, s))

finally_rule : (P : Places) → IsRule (Finally P) (FinallyBody P)
finally_rule P = record { enter = finally_in; leave = λ r. finally r.0 r.1.1 r.1.2 }

module _ (K : Stream) (P : Places) {at : ℕ} where
  pub finally_none : (SeesWord K at word.Finally → ⊥) → Refused (Finally P) stops_closed K at at
  finally_none h = rule_bad (finally_rule P) (tok_bad stops_closed K (fill_brk (fill_block P)) h)

  module _ (h : SeesWord K at word.Finally) {m : ℕ} (t : BreaksTo K (at + 1) m) where
    pub finally_fails : {i : ℕ} → Refused (Block P) stops_closed K m i → Refused (Finally P) stops_closed K at i
    finally_fails f = rule_bad (finally_rule P) (tok_fails stops_closed K h (brk_fails (Block P) stops_closed K is_brace (block_begins P) refl t f))

    pub finally_ok : {ss : List Stmt} {n : ℕ} → Exact (Block P) stops_closed K m ss n → Exact (Finally P) stops_closed K at ss n
    finally_ok e = rule_ok (finally_rule P) (tok_ok stops_closed K h (brk_ok (Block P) stops_closed K is_brace (block_begins P) refl t e))

-- `try` behind its block
stmt_catches_stops : Weaker stops_stmt stops_catches
stmt_catches_stops (Some (kind.Word word.Catch)) e = absurd (false≢true e)
stmt_catches_stops t e = refl

finish_leads : (P : Places) (ss : List Stmt) → Leads (Finish P ss) stops_catches stops_stmt
finish_leads P ss [] J y a b r st = ap stops_catches (finally_in r.2).0
finish_leads P ss (c ∷ cs) J y a b r st = by_finally r.2 r.3 st
  where
    by_finally : {o : Option (List Stmt)} {m : ℕ} → MayFinally J P o a m → Ret (stmt.Try ss (c ∷ cs) o) J y m b → stops_stmt (J b) ≡ true → stops_catches (J a) ≡ true
    by_finally no_finally q st = stmt_catches_stops (J a) (ap (λ k. stops_stmt (J k)) (sym q.1) ∙ st)
    by_finally (finally_behind f) q st = ap stops_catches (finally_in f).0

finish_fills : (P : Places) (ss : List Stmt) → Fills (Finish P ss) stops_catches stops_stmt
finish_fills P ss = record {
  tokens = kind.Word word.Finally ∷ kind.Sign sign.BraceOpen ∷ kind.Sign sign.BraceClose ∷ [];
  fills = λ cs J a e st so. fill cs (finally st.0 no_break (block st.1.0 (stmts_none no_separator) st.1.1.0)) st.1.1.1;
  ends = λ J a e st so. ap stops_catches st.0;
}
  where
    fill : (cs : List Catch) {J : Stream} {a m e : ℕ} → IsFinally J P [] a m → e ≡ m → (y : Stmt) × Finish P ss cs J y a e
    fill [] f h = (stmt.Try ss [] (Some []), ([], _, f, (refl, h)))
    fill (c ∷ cs) f h = (stmt.Try ss (c ∷ cs) (Some []), (Some [], _, finally_behind f, (refl, h)))

handled_leads : (P : Places) → Leads (Handled P) stops_closed stops_stmt
handled_leads P x J y a b r st = refl

handled_fills : (P : Places) → Fills (Handled P) stops_closed stops_stmt
handled_fills P = record {
  tokens = kind.Word word.Finally ∷ kind.Sign sign.BraceOpen ∷ kind.Sign sign.BraceClose ∷ [];
  fills = λ ss J a e st so. (stmt.Try ss [] (Some []), ([], _, no_catch, ([], _, finally st.0 no_break (block st.1.0 (stmts_none no_separator) st.1.1.0), (refl, st.1.1.1))));
  ends = λ J a e st so. refl;
}

tries_begin : (P : Places) → FirstIn (Sub (Block P) (Handled P)) is_brace
tries_begin P J y a b r = block_begins P J r.0 a r.1 r.2

-- `finally`, or nothing
module _ (K : Stream) (P : Places) {n : ℕ} where
  finish_is : {J : Stream} {o : Option (List Stmt)} {b : ℕ} → SeesWord J n word.Finally → MayFinally J P o n b → stops_stmt (J b) ≡ true → (ts : List Stmt) × IsFinally J P ts n b × (o ≡ Some ts)
  finish_is w no_finally st = absurd (false≢true (sym (ap stops_stmt w) ∙ st))
  finish_is w (finally_behind f) st = (_, f, refl)

  no_finish : {J : Stream} {o : Option (List Stmt)} {b : ℕ} → (SeesWord J n word.Finally → ⊥) → MayFinally J P o n b → (o ≡ None) × (b ≡ n)
  no_finish h no_finally = (refl, refl)
  no_finish h (finally_behind f) = absurd (h (finally_in f).0)

  may_finish_none : (SeesWord K n word.Finally → ⊥) → Exact (MayFinish P) stops_stmt K n None n
  may_finish_none h = record {
    after = le_refl n;
    inside = inside_none K n;
    spelled = λ J same so. no_finally;
    only = λ J y b same r st. no_finish (λ w. h (sym (same n (le_refl n)) ∙ w)) r;
  }

  module _ (w : SeesWord K n word.Finally) where
    may_finish_ok : {ts : List Stmt} {k : ℕ} → Exact (Finally P) stops_closed K n ts k → Exact (MayFinish P) stops_stmt K n (Some ts) k
    may_finish_ok {ts} {k} f = record {
      after = f.after;
      inside = f.inside;
      spelled = λ J same so. finally_behind (f.spelled J same refl);
      only = λ J y b same r st.
          let q = finish_is (same n f.after ∙ w) r st in
          let o = f.only J q.0 b same q.1 refl in
          (q.2 ∙ ap Some o.0, o.1);
    }

    may_finish_fails : {i : ℕ} → Refused (Finally P) stops_closed K n i → Refused (MayFinish P) stops_stmt K n i
    may_finish_fails f = record {
      from = f.from;
      inside = f.inside;
      never = λ J y b same r st. let q = finish_is (same n f.from ∙ w) r st in f.never J q.0 b same q.1 refl;
      viable = viable_more (λ k e. refl) (λ J e same so v. (Some v.0, finally_behind v.1)) f.viable;
    }

finally_leads : (f : List Stmt → Stmt) → Leads (λ ts. Ret (f ts)) stops_closed stops_stmt
finally_leads f x J y a b r st = refl

may_leads : (f : Option (List Stmt) → Stmt) → Leads (λ o. Ret (f o)) stops_stmt stops_stmt
may_leads f = leads_ret stops_stmt stops_stmt f (alike _)

module _ (K : Stream) (P : Places) (ss : List Stmt) {n : ℕ} where
  finish_ok : (cs : List Catch) {k : ℕ} {ts : List Stmt} → SeesWord K n word.Finally → Exact (Finally P) stops_closed K n ts k → Exact (Finish P ss cs) stops_stmt K n (stmt.Try ss cs (Some ts)) k
  finish_ok [] w f = sub_ok K (finally_leads (λ ts. stmt.Try ss [] (Some ts))) f (ret stops_stmt K _ _)
  finish_ok (c ∷ cs) w f = sub_ok K (may_leads (stmt.Try ss (c ∷ cs))) (may_finish_ok K P w f) (ret stops_stmt K _ _)

  finish_fails : (cs : List Catch) {i : ℕ} → SeesWord K n word.Finally → Refused (Finally P) stops_closed K n i → Refused (Finish P ss cs) stops_stmt K n i
  finish_fails [] w f = sub_fails K (finally_leads (λ ts. stmt.Try ss [] (Some ts))) (fills_ret (λ ts. stmt.Try ss [] (Some ts)) (λ k e. refl)) f
  finish_fails (c ∷ cs) w f = sub_fails K (may_leads (stmt.Try ss (c ∷ cs))) (fills_ret (stmt.Try ss (c ∷ cs)) (alike _)) (may_finish_fails K P w f)

  finish_none : (cs : List Catch) → (cs ≡ [] → ⊥) → (SeesWord K n word.Finally → ⊥) → Exact (Finish P ss cs) stops_stmt K n (stmt.Try ss cs None) n
  finish_none [] h f = absurd (h refl)
  finish_none (c ∷ cs) h f = sub_ok K (may_leads (stmt.Try ss (c ∷ cs))) (may_finish_none K P f) (ret stops_stmt K _ _)

  finish_bad : (cs : List Catch) → cs ≡ [] → (SeesWord K n word.Finally → ⊥) → Refused (Finish P ss cs) stops_stmt K n n
  finish_bad [] h f = sub_fails K (finally_leads (λ ts. stmt.Try ss [] (Some ts))) (fills_ret (λ ts. stmt.Try ss [] (Some ts)) (λ k e. refl)) (finally_none K P f)
  finish_bad (c ∷ cs) h f = absurd (no_cons h)
    where
      no_cons : {c : Catch} {cs : List Catch} → ◌≡◌ {A = List Catch} (c ∷ cs) [] → ⊥
      no_cons e = cc

module _ (K : Stream) (P : Places) {at l : ℕ} (h : SeesWord K at word.Try) (t : BreaksTo K (at + 1) l) where
  tries_ok : {y : Stmt} {n : ℕ} → Exact (Sub (Block P) (Handled P)) stops_stmt K l y n → Exact (Statement P) stops_stmt K at y n
  tries_ok e = turn_ok (by (stmt_by P) stops_stmt K _ h) (tok_ok stops_stmt K h (brk_ok (Sub (Block P) (Handled P)) stops_stmt K is_brace (tries_begin P) refl t e))

  tries_fail : {i : ℕ} → Refused (Sub (Block P) (Handled P)) stops_stmt K l i → Refused (Statement P) stops_stmt K at i
  tries_fail f = turn_bad (by (stmt_by P) stops_stmt K _ h) (tok_fails stops_stmt K h (brk_fails (Sub (Block P) (Handled P)) stops_stmt K is_brace (tries_begin P) refl t f))

  pub try_block_fails : {i : ℕ} → Refused (Block P) stops_closed K l i → Refused (Statement P) stops_stmt K at i
  try_block_fails f = tries_fail (sub_fails K (handled_leads P) (handled_fills P) f)

  module _ {ss : List Stmt} {m : ℕ} (e : Exact (Block P) stops_closed K l ss m) where
    pub try_catches_fail : {i : ℕ} → Refused (CatchesOf P) stops_catches K m i → Refused (Statement P) stops_stmt K at i
    try_catches_fail f = tries_fail (sub_bad K (handled_leads P) e (sub_fails K (finish_leads P ss) (finish_fills P ss) f))

    module _ (cs : List Catch) {n : ℕ} (d : Exact (CatchesOf P) stops_catches K m cs n) where
      try_ok : {y : Stmt} {k : ℕ} → Exact (Finish P ss cs) stops_stmt K n y k → Exact (Statement P) stops_stmt K at y k
      try_ok f = tries_ok (sub_ok K (handled_leads P) e (sub_ok K (finish_leads P ss) d f))

      try_bad : {i : ℕ} → Refused (Finish P ss cs) stops_stmt K n i → Refused (Statement P) stops_stmt K at i
      try_bad f = tries_fail (sub_bad K (handled_leads P) e (sub_bad K (finish_leads P ss) d f))

      pub try_finally_ok : SeesWord K n word.Finally → {ts : List Stmt} {k : ℕ} → Exact (Finally P) stops_closed K n ts k → Exact (Statement P) stops_stmt K at (stmt.Try ss cs (Some ts)) k
      try_finally_ok w f = try_ok (finish_ok K P ss cs w f)

      pub try_finally_fails : SeesWord K n word.Finally → {i : ℕ} → Refused (Finally P) stops_closed K n i → Refused (Statement P) stops_stmt K at i
      try_finally_fails w f = try_bad (finish_fails K P ss cs w f)

      pub try_alone : (SeesWord K n word.Finally → ⊥) → (cs ≡ [] → ⊥) → Exact (Statement P) stops_stmt K at (stmt.Try ss cs None) n
      try_alone f h = try_ok (finish_none K P ss cs h f)

      pub try_unhandled : (SeesWord K n word.Finally → ⊥) → cs ≡ [] → Refused (Statement P) stops_stmt K at n
      try_unhandled f h = try_bad (finish_bad K P ss cs h f)
