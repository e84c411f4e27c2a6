-- The rule of functions, for the calculus.
use Rattle.std.proofs.Common.{◌≡◌, ℕ, ◌+◌, ◌<◌, ◌≤◌, Bool, true, false, Some, List, [], ◌∷◌, ◌⊎◌, inl, inr, refl, ap, ◌∙◌, arith, leb}
use Rattle.std.proofs.lemmas.Bool.Decides.{nat_tests}
use Rattle.model_syntax.specs.declared.place.Declared.{Declared}
use Rattle.model_syntax.specs.declared.place.Place.{Place}
use Rattle.model_syntax.specs.declared.sign.Sign.TheVariants as sign
use Rattle.model_syntax.specs.declared.word.Word.{Word}
use Rattle.model_syntax.specs.declared.word.Word.TheVariants as word
use Rattle.model_syntax.specs.declared.token.TokenKind.{TokenKind}
use Rattle.model_syntax.specs.declared.token.TokenKind.TheVariants as kind
use Rattle.model_syntax.specs.declared.tree.Function.{Function}
use Rattle.model_syntax.specs.declared.tree.Stmt.{Stmt}
use Rattle.model_syntax.specs.Stream.{Stream, Places, Sees, SeesWord, SeesName, declared}
use Rattle.model_syntax.specs.Grammar.{no_break, block, stmts_none, no_separator}
use Rattle.model_syntax.specs.Scripts.{Parameters, no_parameters, SeesResult, result_def, result_void, IsFunction, function}
use Rattle.groovy_expr.specs.Answers.{Rule, Exact, Refused}
use Rattle.groovy_expr.specs.Statements.{BreaksTo}
use Rattle.groovy_expr.specs.Stops.{stops_closed}
use Rattle.groovy_expr.proofs.Calculus.{Tok, Ret, Sub, Leads, leads_tok, leads_ret, Fill, Fills, fills_ret, fills_tok, fill_sub, alike, ret, tok_ok, tok_fails, tok_bad, sub_ok, sub_fails, sub_bad, Turns, turn_ok, turn_bad, moved}
use Rattle.groovy_expr.proofs.StatementCalculus.{FirstIn, Nam, nam_ok, nam_fails, nam_none}
use Rattle.groovy_expr.proofs.StatementBlocks.{Block, is_brace, block_begins, Brk, brk_ok, brk_fails}
use Rattle.groovy_parse.specs.Readers.{stops_parameters}
use Rattle.groovy_parse.proofs.ParameterRules.{Params}
use Rattle.groovy_parse.proofs.Splice.{splice, splice_before, splice_at, cut_inside}

abbrev pub AFunction : Places → Rule Function
AFunction P K = IsFunction K P

abbrev pub a_function : Place → Declared → List Declared → List Stmt → Function
a_function p d ds ss = record { place = p; name = d; parameters = ds; body = ss }

-- what stands behind the parameters, behind the name, and behind the first word
abbrev Filled : Places → Place → Declared → List Declared → Rule Function
Filled P p d ds = Sub (Block P) (λ ss. Ret (a_function p d ds ss))

abbrev Closed : Places → Place → Declared → List Declared → Rule Function
Closed P p d ds = Tok (kind.Sign sign.ParenClose) (Brk (Filled P p d ds))

abbrev Opened : Places → Place → Declared → Rule Function
Opened P p d = Tok (kind.Sign sign.ParenOpen) (Sub (Params P) (Closed P p d))

abbrev Signature : Places → Place → Rule Function
Signature P p = Nam P (Opened P p)

filled_leads : (p : Place) (d : Declared) (ds : List Declared) → Leads (λ ss. Ret (a_function p d ds ss)) stops_closed stops_closed
filled_leads p d ds = leads_ret stops_closed stops_closed (a_function p d ds) (alike stops_closed)

filled_fills : (p : Place) (d : Declared) (ds : List Declared) → Fills (λ ss. Ret (a_function p d ds ss)) stops_closed stops_closed
filled_fills p d ds = fills_ret (a_function p d ds) (alike stops_closed)

filled_begins : (P : Places) (p : Place) (d : Declared) (ds : List Declared) → FirstIn (Filled P p d ds) is_brace
filled_begins P p d ds J y a b r = block_begins P J r.0 a r.1 r.2

closed_leads : (P : Places) (p : Place) (d : Declared) → Leads (Closed P p d) stops_parameters stops_closed
closed_leads P p d = leads_tok stops_parameters stops_closed (λ ds. kind.Sign sign.ParenClose) (λ ds. Brk (Filled P p d ds)) (λ ds. refl)

-- `)`, `{` and `}` end a function
brk_fills : (P : Places) (p : Place) (d : Declared) → Fills (λ ds. Brk (Filled P p d ds)) stops_closed stops_closed
brk_fills P p d = record {
  tokens = kind.Sign sign.BraceOpen ∷ kind.Sign sign.BraceClose ∷ [];
  fills = λ ds J a e st so. (a_function p d ds [], (a, no_break, ([], _, block st.0 (stmts_none no_separator) st.1.0, (refl, st.1.1))));
  ends = λ J a e st so. refl;
}

closed_fills : (P : Places) (p : Place) (d : Declared) → Fills (Closed P p d) stops_parameters stops_closed
closed_fills P p d = fills_tok (kind.Sign sign.ParenClose) {other = stops_closed} refl (brk_fills P p d)

fill_params : (P : Places) → Fill (Params P) stops_parameters
fill_params P = record { tokens = []; fills = λ J a e st so. ([], moved (λ z k. Parameters J P z a k) (refl, st) no_parameters) }

opened_fills : (P : Places) (p : Place) → Fills (Opened P p) stops_closed stops_closed
opened_fills P p = record {
  tokens = kind.Sign sign.ParenOpen ∷ kind.Sign sign.ParenClose ∷ kind.Sign sign.BraceOpen ∷ kind.Sign sign.BraceClose ∷ [];
  fills = λ d J a e st so. (a_function p d [] [], (st.0, ([], _, no_parameters, (st.1.0, (_, no_break, ([], _, block st.1.1.0 (stmts_none no_separator) st.1.1.1.0, (refl, st.1.1.1.1)))))));
  ends = λ J a e st so. refl;
}

-- `def` or `void`, and what stands behind it
result_of : (w : Word) {J : Stream} {a : ℕ} → (w ≡ word.Def) ⊎ (w ≡ word.Void) → SeesWord J a w → SeesResult J a
result_of w (inl e) h = result_def (h ∙ ap (λ z. Some (kind.Word z)) e)
result_of w (inr e) h = result_void (h ∙ ap (λ z. Some (kind.Word z)) e)

word_of : {K : Stream} {a : ℕ} → SeesResult K a → (w : Word) × ((w ≡ word.Def) ⊎ (w ≡ word.Void)) × SeesWord K a w
word_of (result_def h) = (_, inl refl, h)
word_of (result_void h) = (_, inr refl, h)

module _ (K : Stream) (P : Places) {at : ℕ} (begun : SeesResult K at) where
  abbrev first : Word
  first = (word_of begun).0

  first_there : SeesWord K at first
  first_there = (word_of begun).2

  function_in : {J : Stream} {y : Function} {b : ℕ} → J at ≡ K at → IsFunction J P y at b → Tok (kind.Word first) (Signature P (P at)) J y at b
  function_in same (function w n o ps c k bl) = (same ∙ first_there, (_, n, (o, (_, _, ps, (c, (_, k, (_, _, bl, (refl, refl))))))))

  function_out : {J : Stream} {y : Function} {b : ℕ} → Tok (kind.Word first) (Signature P (P at)) J y at b → IsFunction J P y at b
  function_out {J} {y} {b} (h, (n, s, (o, (ds, m, ps, (c, (l, k, (ss, e, bl, q))))))) = moved (λ z i. IsFunction J P z at i) q (function (result_of first (word_of begun).1 h) s o ps c k bl)

  turn : Turns (AFunction P) (Tok (kind.Word first) (Signature P (P at))) stops_closed K at
  turn = record { enter = λ J y b same r st. function_in same r; leave = λ J y b r st. function_out r }

  function_bad : {i : ℕ} → Refused (Signature P (P at)) stops_closed K (at + 1) i → Refused (AFunction P) stops_closed K at i
  function_bad f = turn_bad turn (tok_fails stops_closed K first_there f)

  pub function_no_name : ((n : List ℕ) → SeesName K (at + 1) n → ⊥) → Refused (AFunction P) stops_closed K at (at + 1)
  function_no_name h = function_bad (nam_none stops_closed K P (Opened P (P at)) (opened_fills P (P at)) h)

  module _ {n : List ℕ} (name : SeesName K (at + 1) n) where
    abbrev d : Declared
    d = declared n (P (at + 1))

    named_bad : {i : ℕ} → Refused (Opened P (P at) d) stops_closed K (at + 1 + 1) i → Refused (AFunction P) stops_closed K at i
    named_bad f = function_bad (nam_fails stops_closed K P (Opened P (P at)) name f)

    pub function_no_open : (Sees K (at + 1 + 1) sign.ParenOpen → ⊥) → Refused (AFunction P) stops_closed K at (at + 1 + 1)
    function_no_open h = named_bad (tok_bad stops_closed K (fill_sub (fill_params P) (closed_fills P (P at) d)) h)

    module _ (o : Sees K (at + 1 + 1) sign.ParenOpen) where
      pub function_parameters_fail : {i : ℕ} → Refused (Params P) stops_parameters K (at + 1 + 1 + 1) i → Refused (AFunction P) stops_closed K at i
      function_parameters_fail f = named_bad (tok_fails stops_closed K o (sub_fails K (closed_leads P (P at) d) (closed_fills P (P at) d) f))

      module _ {ds : List Declared} {m : ℕ} (e : Exact (Params P) stops_parameters K (at + 1 + 1 + 1) ds m) where
        pub function_no_close : (Sees K m sign.ParenClose → ⊥) → Refused (AFunction P) stops_closed K at m
        function_no_close h = named_bad (tok_fails stops_closed K o (sub_bad K (closed_leads P (P at) d) e (tok_bad stops_closed K (brk_fill ds) h)))
          where
            brk_fill : (ds : List Declared) → Fill (Brk (Filled P (P at) d ds)) stops_closed
            brk_fill ds = let f = brk_fills P (P at) d in record { tokens = f.tokens; fills = λ J a e st so. f.fills ds J a e st so }

        module _ (c : Sees K m sign.ParenClose) {l : ℕ} (k : BreaksTo K (m + 1) l) where
          pub function_block_fails : {i : ℕ} → Refused (Block P) stops_closed K l i → Refused (AFunction P) stops_closed K at i
          function_block_fails f = named_bad (tok_fails stops_closed K o (sub_bad K (closed_leads P (P at) d) e (tok_fails stops_closed K c (brk_fails (Filled P (P at) d ds) stops_closed K is_brace (filled_begins P (P at) d ds) refl k (sub_fails K (filled_leads (P at) d ds) (filled_fills (P at) d ds) f)))))

          pub function_ok : {ss : List Stmt} {b : ℕ} → Exact (Block P) stops_closed K l ss b → Exact (AFunction P) stops_closed K at (a_function (P at) d ds ss) b
          function_ok f = turn_ok turn (tok_ok stops_closed K first_there (nam_ok stops_closed K P (Opened P (P at)) name (tok_ok stops_closed K o (sub_ok K (closed_leads P (P at) d) e (tok_ok stops_closed K c (brk_ok (Filled P (P at) d ds) stops_closed K is_brace (filled_begins P (P at) d ds) refl k (sub_ok K (filled_leads (P at) d ds) f (ret stops_closed K _ _))))))))

      -- with three tokens read, the fault is behind them
      pub function_past : {i : ℕ} → Refused (AFunction P) stops_closed K at i → at + 1 + 1 ≤ i
      function_past {i} f = by_test (leb (at + 1 + 1) i) refl
        where
          ending : List TokenKind
          ending = kind.Sign sign.ParenClose ∷ kind.Sign sign.BraceOpen ∷ kind.Sign sign.BraceClose ∷ []

          J : Stream
          J = splice K (at + 1 + 1 + 1) ending

          low : (j : ℕ) → j < at + 1 + 1 + 1 → J j ≡ K j
          low = splice_before K (at + 1 + 1 + 1) ending

          whole : IsFunction J P (a_function (P at) d [] []) at (at + 1 + 1 + 1 + 1 + 1 + 1)
          whole = function
              (result_of first (word_of begun).1 (low at (omega arith) ∙ first_there))
              (low (at + 1) (omega arith) ∙ name)
              (low (at + 1 + 1) (omega arith) ∙ o)
              no_parameters
              (splice_at K (at + 1 + 1 + 1) ending (at + 1 + 1 + 1) 0 (omega arith))
              no_break
              (block (splice_at K (at + 1 + 1 + 1) ending (at + 1 + 1 + 1 + 1) 1 (omega arith)) (stmts_none no_separator) (splice_at K (at + 1 + 1 + 1) ending (at + 1 + 1 + 1 + 1 + 1) 2 (omega arith)))

          by_test : (t : Bool) → leb (at + 1 + 1) i ≡ t → at + 1 + 1 ≤ i
          by_test true e = grind (arith, nat_tests)
          by_test false e =
              let lt : i < at + 1 + 1 = grind (arith, nat_tests) in
              absurd (f.never J (a_function (P at) d [] []) (at + 1 + 1 + 1 + 1 + 1 + 1) (λ j le. low j (omega arith)) whole refl)

-- the three tokens are there
pub function_long : (K : Stream) (P : Places) {at n : ℕ} {f : Function} → Exact (AFunction P) stops_closed K at f n → at + 1 + 1 < n
function_long K P {at} {n} {f} e = open_in (e.spelled (splice K n []) (splice_before K n []) refl)
  where
    open_in : {y : Function} {b : ℕ} → IsFunction (splice K n []) P y at b → at + 1 + 1 < n
    open_in (function w q o ps c k bl) = cut_inside K n (at + 1 + 1) o
