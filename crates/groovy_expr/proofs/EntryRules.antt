-- The rules of the entries of a map, by their first token.
use Rattle.std.proofs.Common.{◌≡◌, ℕ, ℤ, ◌+◌, ◌≤◌, Bool, true, false, List, [], ◌∷◌, ◌++◌, refl, sym, ap, ◌∙◌, subst, Option, Some, None, Result, Ok, Err}
use Rattle.std.proofs.lemmas.Bool.{false≢true}
use Rattle.model_syntax.specs.declared.sign.Sign.{Sign}
use Rattle.model_syntax.specs.declared.sign.Sign.TheVariants as sign
use Rattle.model_syntax.specs.declared.word.Word.{Word}
use Rattle.model_syntax.specs.declared.word.Word.TheVariants as word
use Rattle.model_syntax.specs.declared.token.TokenKind.{TokenKind}
use Rattle.model_syntax.specs.declared.token.TokenKind.TheVariants as kind
use Rattle.model_syntax.specs.declared.tree.Entry.{Entry}
use Rattle.model_syntax.specs.declared.tree.Entry.TheVariants.{Named, Numbered, Computed}
use Rattle.model_syntax.specs.declared.tree.Expr.{Expr}
use Rattle.model_syntax.specs.declared.tree.Expr.TheVariants as expr
use Rattle.model_syntax.specs.declared.tree.Part.{Part}
use Rattle.model_syntax.specs.declared.tree.Suffix.{Suffix}
use Rattle.model_syntax.specs.Stream.{Stream, Places, Sees}
use Rattle.model_syntax.specs.Operators.{rank_whole}
use Rattle.model_syntax.specs.Grammar.{IsNamed, named_by_name, named_by_text, IsEntry, entry_named, entry_number, entry_gstring, entry_group, IsPrimary, IsGString, IsClosure, Suffixes, Parts}
use Rattle.model_syntax.proofs.GrammarLemmas.{expr_begins, begins_expr}
use Rattle.groovy_expr.specs.declared.refusal.Refusal.{Refusal}
use Rattle.groovy_expr.specs.Answers.{Rule, Stops, Exact, Refused, Reads}
use Rattle.groovy_expr.specs.Stops.{stops_expr, stops_primary, stops_closed, stops_part}
use Rattle.groovy_expr.specs.Firsts.{begins_suffix, begins_part, SeesKey}
use Rattle.groovy_expr.proofs.Calculus.{Tok, Sub, Never, Fill, Tail, Turns, IsByToken, by, tail_start, tail_both, tail_end, tail_fails, tail_sub, sub_fails, tok_bad, refused_here, passed, turn_ok, turn_bad}
use Rattle.groovy_expr.proofs.Lists.{IsSeparated, last_item, next_item, item_fails, tail_push}
use Rattle.groovy_expr.proofs.Steps.{Map, Joins, step_turn, step_tok, step_map}
use Rattle.groovy_expr.proofs.FirstTokens.{begins_primary, fill_rank, gstring_first, suffix_first}
use Rattle.groovy_expr.proofs.CallRules.{nonempty}
use Rattle.groovy_expr.proofs.TextRules.{part_first}
use Rattle.groovy_expr.proofs.PrimaryRules.{Whole, primary_bad, closure_ok, closure_fails}

-- a list with signs, as a loop reads it
pub many_start : {A : Type 0} {N : Rule (List A)} {stops : Stops} (K : Stream) (at : ℕ) → Tail N N stops K at (λ z. [] ++ z) at
many_start {A} {N} {stops} K at = tail_start N stops K at

module _ {A : Type 0} {Item : Rule A} {N : Rule (List A)} {sign : TokenKind} {item_stops stops : Stops} (L : IsSeparated Item N sign item_stops stops) (K : Stream) {at n : ℕ} (done : List A) (g : Tail N N stops K at (λ z. done ++ z) n) where
  pub separated_fails : {i : ℕ} → Refused Item item_stops K n i → Refused N stops K at i
  separated_fails r = tail_fails (λ z. done ++ z) g (item_fails L K r)

  module _ {x : A} {m : ℕ} (e : Exact Item item_stops K n x m) where
    pub separated_last : (K m ≡ Some sign → ⊥) → Exact N stops K at (done ++ x ∷ []) m
    separated_last h = tail_end (λ z. done ++ z) g (last_item L K e h)

    pub separated_next : K m ≡ Some sign → Tail N N stops K at (λ z. (done ++ x ∷ []) ++ z) (m + 1)
    separated_next h = tail_push (λ z. z) done x g (next_item L K e h)

pub word_primary : (w : Word) → (w ≡ word.True → ⊥) → (w ≡ word.False → ⊥) → (w ≡ word.Null → ⊥) → (w ≡ word.New → ⊥) → begins_primary (Some (kind.Word w)) ≡ true → ⊥
word_primary word.True a b c d h = a refl
word_primary word.False a b c d h = b refl
word_primary word.Null a b c d h = c refl
word_primary word.New a b c d h = d refl
word_primary w a b c d h = false≢true h

pub sign_primary : (s : Sign) → (s ≡ sign.ParenOpen → ⊥) → (s ≡ sign.BracketOpen → ⊥) → (s ≡ sign.BraceOpen → ⊥) → begins_primary (Some (kind.Sign s)) ≡ true → ⊥
sign_primary sign.ParenOpen a b c h = a refl
sign_primary sign.BracketOpen a b c h = b refl
sign_primary sign.BraceOpen a b c h = c refl
sign_primary s a b c h = false≢true h

pub kind_primary : (k : TokenKind) → ((v : ℤ) → k ≡ kind.Int v → ⊥) → ((t : List ℕ) → k ≡ kind.Text t → ⊥) → ((n : List ℕ) → k ≡ kind.Name n → ⊥) → ((w : Word) → k ≡ kind.Word w → ⊥) → ((s : Sign) → k ≡ kind.Sign s → ⊥) → (k ≡ kind.GStringOpen → ⊥) → begins_primary (Some k) ≡ true → ⊥
kind_primary (kind.Int v) i t n w s g h = i v refl
kind_primary (kind.Text u) i t n w s g h = t u refl
kind_primary (kind.Name m) i t n w s g h = n m refl
kind_primary (kind.Word u) i t n w s g h = w u refl
kind_primary (kind.Sign u) i t n w s g h = s u refl
kind_primary kind.GStringOpen i t n w s g h = g refl
kind_primary k i t n w s g h = false≢true h

module _ (P : Places) where
  pub expr_no_close : (J : Stream) (y : Expr) (a b : ℕ) → Whole P J y a b → Sees J a sign.BracketClose → ⊥
  expr_no_close J y a b r e = false≢true (sym (ap begins_expr e) ∙ expr_begins r)

  abbrev pub ValueOf : (Expr → Entry) → Rule Entry
  ValueOf f = Tok (kind.Sign sign.Colon) (Map f (Whole P))

  abbrev pub TextKey : List Part → Rule Entry
  TextKey ps = ValueOf (Computed (expr.GString ps))

  abbrev pub GroupKey : Expr → Rule Entry
  GroupKey k = Tok (kind.Sign sign.ParenClose) (ValueOf (Computed k))

  abbrev pub EntryBy : Option TokenKind → Rule Entry
  EntryBy (Some (kind.Name n)) = λ K. IsNamed K P
  EntryBy (Some (kind.Text t)) = λ K. IsNamed K P
  EntryBy (Some (kind.Int v)) = Tok (kind.Int v) (ValueOf (Numbered v))
  EntryBy (Some kind.GStringOpen) = Sub (λ K. IsGString K P) TextKey
  EntryBy (Some (kind.Sign sign.ParenOpen)) = Tok (kind.Sign sign.ParenOpen) (Sub (Whole P) GroupKey)
  EntryBy t = Never

  as_token : (J : Stream) (y : Entry) (a b : ℕ) (k : Option TokenKind) → J a ≡ k → EntryBy k J y a b → EntryBy (J a) J y a b
  as_token J y a b k h r = subst (λ t. EntryBy t J y a b) (sym h) r

  entry_enter : {J : Stream} {y : Entry} {a b : ℕ} → IsEntry J P y a b → EntryBy (J a) J y a b
  entry_enter {J} {y} {a} {b} (entry_named (named_by_name n c i)) = as_token J y a b _ n (named_by_name n c i)
  entry_enter {J} {y} {a} {b} (entry_named (named_by_text n c i)) = as_token J y a b _ n (named_by_text n c i)
  entry_enter {J} {y} {a} {b} (entry_number n c i) = as_token J y a b _ n (n, (c, (_, i, refl)))
  entry_enter {J} {y} {a} {b} (entry_gstring {ps = ps} g c i) = as_token J y a b _ (gstring_first P g) (ps, _, g, (c, (_, i, refl)))
  entry_enter {J} {y} {a} {b} (entry_group o k c s i) = as_token J y a b _ o (o, (_, _, k, (c, (s, (_, i, refl)))))

  made : {J : Stream} {x y : Entry} {a b : ℕ} → y ≡ x → IsEntry J P x a b → IsEntry J P y a b
  made {J} {x} {y} {a} {b} e r = subst (λ z. IsEntry J P z a b) (sym e) r

  entry_leave : {J : Stream} {y : Entry} {a b : ℕ} (k : Option TokenKind) → EntryBy k J y a b → IsEntry J P y a b
  entry_leave (Some (kind.Name n)) r = entry_named r
  entry_leave (Some (kind.Text t)) r = entry_named r
  entry_leave (Some (kind.Int v)) r = made r.1.1.2 (entry_number r.0 r.1.0 r.1.1.1)
  entry_leave (Some kind.GStringOpen) r = made r.3.1.2 (entry_gstring r.2 r.3.0 r.3.1.1)
  entry_leave (Some (kind.Sign sign.ParenOpen)) r = made r.1.3.1.1.2 (entry_group r.0 r.1.2 r.1.3.0 r.1.3.1.0 r.1.3.1.1.1)
  entry_leave k r = elim r [ ]

  entry_by : IsByToken (λ K. IsEntry K P) EntryBy
  entry_by = record { enter = entry_enter; leave = entry_leave }

  entry_token : {J : Stream} {y : Entry} {a b : ℕ} → IsEntry J P y a b → begins_expr (J a) ≡ true
  entry_token (entry_named (named_by_name n c i)) = ap begins_expr n
  entry_token (entry_named (named_by_text n c i)) = ap begins_expr n
  entry_token (entry_number n c i) = ap begins_expr n
  entry_token (entry_gstring g c i) = ap begins_expr (gstring_first P g)
  entry_token (entry_group o k c s i) = ap begins_expr o

  pub entry_no_close : (J : Stream) (y : Entry) (a b : ℕ) → IsEntry J P y a b → Sees J a sign.BracketClose → ⊥
  entry_no_close J y a b r e = false≢true (sym (ap begins_expr e) ∙ entry_token r)

  fill_value_of : (f : Expr → Entry) (stops : Stops) → Fill (ValueOf f) stops
  fill_value_of f stops = let r = fill_rank P rank_whole stops in record {
    tokens = kind.Sign sign.Colon ∷ r.tokens;
    fills = λ J a e st so. let v = r.fills J (a + 1) e st.1 so in (f v.0, (st.0, (v.0, v.1, refl)));
  }

  fill_mapped : (f : Expr → Entry) (stops : Stops) → Fill (Map f (Whole P)) stops
  fill_mapped f stops = let r = fill_rank P rank_whole stops in record { tokens = r.tokens; fills = λ J a e st so. let v = r.fills J a e st so in (f v.0, (v.0, v.1, refl)) }

  -- an entry begins with no such token
  abbrev begins_entry : Option TokenKind → Bool
  begins_entry (Some (kind.Name n)) = true
  begins_entry (Some (kind.Text t)) = true
  begins_entry (Some (kind.Int v)) = true
  begins_entry (Some kind.GStringOpen) = true
  begins_entry (Some (kind.Sign sign.ParenOpen)) = true
  begins_entry t = false

  entry_begins : (J : Stream) (y : Entry) (a b : ℕ) → IsEntry J P y a b → begins_entry (J a) ≡ true
  entry_begins J y a b (entry_named (named_by_name n c i)) = ap begins_entry n
  entry_begins J y a b (entry_named (named_by_text n c i)) = ap begins_entry n
  entry_begins J y a b (entry_number n c i) = ap begins_entry n
  entry_begins J y a b (entry_gstring g c i) = ap begins_entry (gstring_first P g)
  entry_begins J y a b (entry_group o k c s i) = ap begins_entry o

  fill_entry : (stops : Stops) → Fill (λ K. IsEntry K P) stops
  fill_entry stops = let r = fill_value_of (Named []) stops in record {
    tokens = kind.Name [] ∷ r.tokens;
    fills = λ J a e st so. let v = r.fills J (a + 1) e st.1 so in (v.0, made v.1.1.2 (entry_named (named_by_name st.0 v.1.0 v.1.1.1)));
  }

  text_join : Joins TextKey stops_closed stops_expr
  text_join = record {
    leads = λ x J y a b r st. refl;
    fills = let r = fill_rank P rank_whole stops_expr in record {
      tokens = kind.Sign sign.Colon ∷ r.tokens;
      fills = λ ps J a e st so. let v = r.fills J (a + 1) e st.1 so in (Computed (expr.GString ps) v.0, (st.0, (v.0, v.1, refl)));
      ends = λ J a e st so. refl;
    };
  }

  group_join : Joins GroupKey stops_expr stops_expr
  group_join = record {
    leads = λ x J y a b r st. ap stops_expr r.0;
    fills = let r = fill_rank P rank_whole stops_expr in record {
      tokens = kind.Sign sign.ParenClose ∷ kind.Sign sign.Colon ∷ r.tokens;
      fills = λ k J a e st so. let v = r.fills J (a + 1 + 1) e st.1.1 so in (Computed k v.0, (st.0, (st.1.0, (v.0, v.1, refl))));
      ends = λ J a e st so. ap stops_expr st.0;
    };
  }

  module _ (K : Stream) {at : ℕ} where
    pub entry_bad : (begins_entry (K at) ≡ true → ⊥) → Refused (λ K. IsEntry K P) stops_expr K at at
    entry_bad h = refused_here (λ t. begins_entry t ≡ true) (fill_entry stops_expr) entry_begins h

    pub named_entry_ok : {n : List ℕ} {x : Entry} {m : ℕ} → K at ≡ Some (kind.Name n) → Exact (λ K. IsNamed K P) stops_expr K at x m → Exact (λ K. IsEntry K P) stops_expr K at x m
    named_entry_ok h e = turn_ok (by entry_by stops_expr K _ h) e

    pub named_entry_fails : {n : List ℕ} {i : ℕ} → K at ≡ Some (kind.Name n) → Refused (λ K. IsNamed K P) stops_expr K at i → Refused (λ K. IsEntry K P) stops_expr K at i
    named_entry_fails h r = turn_bad (by entry_by stops_expr K _ h) r

    pub text_entry_ok : {t : List ℕ} {x : Entry} {m : ℕ} → K at ≡ Some (kind.Text t) → Exact (λ K. IsNamed K P) stops_expr K at x m → Exact (λ K. IsEntry K P) stops_expr K at x m
    text_entry_ok h e = turn_ok (by entry_by stops_expr K _ h) e

    pub text_entry_fails : {t : List ℕ} {i : ℕ} → K at ≡ Some (kind.Text t) → Refused (λ K. IsNamed K P) stops_expr K at i → Refused (λ K. IsEntry K P) stops_expr K at i
    text_entry_fails h r = turn_bad (by entry_by stops_expr K _ h) r

    module _ {v : ℤ} (h : K at ≡ Some (kind.Int v)) where
      behind_number : Tail (λ K. IsEntry K P) (ValueOf (Numbered v)) stops_expr K at (λ z. z) (at + 1)
      behind_number = tail_both (λ z. z) (step_turn (by entry_by stops_expr K _ h)) (step_tok (ValueOf (Numbered v)) h)

      pub numbered_no_colon : (K (at + 1) ≡ Some (kind.Sign sign.Colon) → ⊥) → Refused (λ K. IsEntry K P) stops_expr K at (at + 1)
      numbered_no_colon q = tail_fails (λ z. z) behind_number (tok_bad stops_expr K (fill_mapped (Numbered v) stops_expr) q)

      module _ (c : K (at + 1) ≡ Some (kind.Sign sign.Colon)) where
        numbered_value : Tail (λ K. IsEntry K P) (Whole P) stops_expr K at (Numbered v) (at + 1 + 1)
        numbered_value = tail_both (λ z. z) (tail_both (λ z. z) behind_number (step_tok (Map (Numbered v) (Whole P)) c)) (step_map (Numbered v) (Whole P))

        pub numbered_fails : {i : ℕ} → Refused (Whole P) stops_expr K (at + 1 + 1) i → Refused (λ K. IsEntry K P) stops_expr K at i
        numbered_fails r = tail_fails (Numbered v) numbered_value r

        pub numbered_ok : {e : Expr} {m : ℕ} → Exact (Whole P) stops_expr K (at + 1 + 1) e m → Exact (λ K. IsEntry K P) stops_expr K at (Numbered v e) m
        numbered_ok e = tail_end (Numbered v) numbered_value e

    module _ (h : K at ≡ Some kind.GStringOpen) where
      at_text : Tail (λ K. IsEntry K P) (Sub (λ K. IsGString K P) TextKey) stops_expr K at (λ z. z) at
      at_text = step_turn (by entry_by stops_expr K _ h)

      pub text_key_fails : {i : ℕ} → Refused (λ K. IsGString K P) stops_closed K at i → Refused (λ K. IsEntry K P) stops_expr K at i
      text_key_fails r = let j = text_join in tail_fails (λ z. z) at_text (sub_fails K j.leads j.fills r)

      module _ {ps : List Part} {m : ℕ} (g : Exact (λ K. IsGString K P) stops_closed K at ps m) where
        behind_text : Tail (λ K. IsEntry K P) (TextKey ps) stops_expr K at (λ z. z) m
        behind_text = let j = text_join in tail_both (λ z. z) at_text (tail_sub j.leads g)

        pub text_key_no_colon : (K m ≡ Some (kind.Sign sign.Colon) → ⊥) → Refused (λ K. IsEntry K P) stops_expr K at m
        text_key_no_colon q = tail_fails (λ z. z) behind_text (tok_bad stops_expr K (fill_mapped (Computed (expr.GString ps)) stops_expr) q)

        module _ (c : K m ≡ Some (kind.Sign sign.Colon)) where
          text_value : Tail (λ K. IsEntry K P) (Whole P) stops_expr K at (Computed (expr.GString ps)) (m + 1)
          text_value = tail_both (λ z. z) (tail_both (λ z. z) behind_text (step_tok (Map (Computed (expr.GString ps)) (Whole P)) c)) (step_map (Computed (expr.GString ps)) (Whole P))

          pub text_value_fails : {i : ℕ} → Refused (Whole P) stops_expr K (m + 1) i → Refused (λ K. IsEntry K P) stops_expr K at i
          text_value_fails r = tail_fails (Computed (expr.GString ps)) text_value r

          pub text_value_ok : {e : Expr} {n : ℕ} → Exact (Whole P) stops_expr K (m + 1) e n → Exact (λ K. IsEntry K P) stops_expr K at (Computed (expr.GString ps) e) n
          text_value_ok e = tail_end (Computed (expr.GString ps)) text_value e

    module _ (h : K at ≡ Some (kind.Sign sign.ParenOpen)) where
      in_key : Tail (λ K. IsEntry K P) (Sub (Whole P) GroupKey) stops_expr K at (λ z. z) (at + 1)
      in_key = tail_both (λ z. z) (step_turn (by entry_by stops_expr K _ h)) (step_tok (Sub (Whole P) GroupKey) h)

      pub group_key_fails : {i : ℕ} → Refused (Whole P) stops_expr K (at + 1) i → Refused (λ K. IsEntry K P) stops_expr K at i
      group_key_fails r = let j = group_join in tail_fails (λ z. z) in_key (sub_fails K j.leads j.fills r)

      module _ {k : Expr} {m : ℕ} (x : Exact (Whole P) stops_expr K (at + 1) k m) where
        behind_key : Tail (λ K. IsEntry K P) (GroupKey k) stops_expr K at (λ z. z) m
        behind_key = let j = group_join in tail_both (λ z. z) in_key (tail_sub j.leads x)

        pub group_key_open : (K m ≡ Some (kind.Sign sign.ParenClose) → ⊥) → Refused (λ K. IsEntry K P) stops_expr K at m
        group_key_open q = tail_fails (λ z. z) behind_key (tok_bad stops_expr K (fill_value_of (Computed k) stops_expr) q)

        module _ (c : K m ≡ Some (kind.Sign sign.ParenClose)) where
          closed_key : Tail (λ K. IsEntry K P) (ValueOf (Computed k)) stops_expr K at (λ z. z) (m + 1)
          closed_key = tail_both (λ z. z) behind_key (step_tok (ValueOf (Computed k)) c)

          pub group_key_no_colon : (K (m + 1) ≡ Some (kind.Sign sign.Colon) → ⊥) → Refused (λ K. IsEntry K P) stops_expr K at (m + 1)
          group_key_no_colon q = tail_fails (λ z. z) closed_key (tok_bad stops_expr K (fill_mapped (Computed k) stops_expr) q)

          module _ (s : K (m + 1) ≡ Some (kind.Sign sign.Colon)) where
            group_value : Tail (λ K. IsEntry K P) (Whole P) stops_expr K at (Computed k) (m + 1 + 1)
            group_value = tail_both (λ z. z) (tail_both (λ z. z) closed_key (step_tok (Map (Computed k) (Whole P)) s)) (step_map (Computed k) (Whole P))

            pub group_value_fails : {i : ℕ} → Refused (Whole P) stops_expr K (m + 1 + 1) i → Refused (λ K. IsEntry K P) stops_expr K at i
            group_value_fails r = tail_fails (Computed k) group_value r

            pub group_value_ok : {e : Expr} {n : ℕ} → Exact (Whole P) stops_expr K (m + 1 + 1) e n → Exact (λ K. IsEntry K P) stops_expr K at (Computed k e) n
            group_value_ok e = tail_end (Computed k) group_value e

    pub word_bad : {w : Word} → K at ≡ Some (kind.Word w) → (w ≡ word.True → ⊥) → (w ≡ word.False → ⊥) → (w ≡ word.Null → ⊥) → (w ≡ word.New → ⊥) → Refused (λ K. IsPrimary K P) stops_primary K at at
    word_bad {w} h a b c d = primary_bad P K (λ q. word_primary w a b c d (sym (ap begins_primary h) ∙ q))

    pub sign_bad : {s : Sign} → K at ≡ Some (kind.Sign s) → (s ≡ sign.ParenOpen → ⊥) → (s ≡ sign.BracketOpen → ⊥) → (s ≡ sign.BraceOpen → ⊥) → Refused (λ K. IsPrimary K P) stops_primary K at at
    sign_bad {s} h a b c = primary_bad P K (λ q. sign_primary s a b c (sym (ap begins_primary h) ∙ q))

    pub kind_bad : {k : TokenKind} → K at ≡ Some k → ((v : ℤ) → k ≡ kind.Int v → ⊥) → ((t : List ℕ) → k ≡ kind.Text t → ⊥) → ((n : List ℕ) → k ≡ kind.Name n → ⊥) → ((w : Word) → k ≡ kind.Word w → ⊥) → ((s : Sign) → k ≡ kind.Sign s → ⊥) → (k ≡ kind.GStringOpen → ⊥) → Refused (λ K. IsPrimary K P) stops_primary K at at
    kind_bad {k} h i t n w s g = primary_bad P K (λ q. kind_primary k i t n w s g (sym (ap begins_primary h) ∙ q))

    pub end_bad : K at ≡ None → Refused (λ K. IsPrimary K P) stops_primary K at at
    end_bad h = primary_bad P K (λ q. false≢true (sym (ap begins_primary h) ∙ q))

    -- what was answered for a closure is an answer for a primary
    pub closure_answer : K at ≡ Some (kind.Sign sign.BraceOpen) → (r : Result (Expr × ℕ) Refusal) → Reads (λ K. IsClosure K P) stops_closed K at r → Reads (λ K. IsPrimary K P) stops_primary K at r
    closure_answer h (Ok (x, n)) e = closure_ok P K h e
    closure_answer h (Err e) f = passed e f (λ i r. closure_fails P K h r)

    pub named_answer : {n : List ℕ} → K at ≡ Some (kind.Name n) → (r : Result (Entry × ℕ) Refusal) → Reads (λ K. IsNamed K P) stops_expr K at r → Reads (λ K. IsEntry K P) stops_expr K at r
    named_answer h (Ok (x, n)) e = named_entry_ok h e
    named_answer h (Err e) f = passed e f (λ i r. named_entry_fails h r)

    pub text_answer : {t : List ℕ} → K at ≡ Some (kind.Text t) → (r : Result (Entry × ℕ) Refusal) → Reads (λ K. IsNamed K P) stops_expr K at r → Reads (λ K. IsEntry K P) stops_expr K at r
    text_answer h (Ok (x, n)) e = text_entry_ok h e
    text_answer h (Err e) f = passed e f (λ i r. text_entry_fails h r)

    -- Where no other key stands, an entry has a name or a text.
    module _ (p : K at ≡ Some (kind.Sign sign.ParenOpen) → ⊥) (t : K at ≡ Some kind.GStringOpen → ⊥) (n : (v : ℤ) → K at ≡ Some (kind.Int v) → ⊥) where
      plain_in : (J : Stream) (y : Entry) (b : ℕ) → J at ≡ K at → IsEntry J P y at b → IsNamed J P y at b
      plain_in J y b same (entry_named r) = r
      plain_in J y b same (entry_number q c i) = absurd (n _ (sym same ∙ q))
      plain_in J y b same (entry_gstring g c i) = absurd (t (sym same ∙ gstring_first P g))
      plain_in J y b same (entry_group o k c s i) = absurd (p (sym same ∙ o))

      plain_turn : Turns (λ K. IsEntry K P) (λ K. IsNamed K P) stops_expr K at
      plain_turn = record { enter = λ J y b same r st. plain_in J y b same r; leave = λ J y b r st. entry_named r }

      pub plain_answer : (r : Result (Entry × ℕ) Refusal) → Reads (λ K. IsNamed K P) stops_expr K at r → Reads (λ K. IsEntry K P) stops_expr K at r
      plain_answer (Ok (x, m)) e = turn_ok plain_turn e
      plain_answer (Err e) f = passed e f (λ i r. turn_bad plain_turn r)

-- a copy of a name, a text, a number or a key stands for it
pub named_as : {k : Option TokenKind} {m n : List ℕ} → k ≡ Some (kind.Name n) → m ≡ n → k ≡ Some (kind.Name m)
named_as h e = h ∙ ap (λ u. Some (kind.Name u)) (sym e)

pub text_as : {k : Option TokenKind} {m n : List ℕ} → k ≡ Some (kind.Text n) → m ≡ n → k ≡ Some (kind.Text m)
text_as h e = h ∙ ap (λ u. Some (kind.Text u)) (sym e)

pub part_as : {k : Option TokenKind} {m n : List ℕ} → k ≡ Some (kind.GStringPart n) → m ≡ n → k ≡ Some (kind.GStringPart m)
part_as h e = h ∙ ap (λ u. Some (kind.GStringPart u)) (sym e)

pub number_as : {k : Option TokenKind} {m n : ℤ} → k ≡ Some (kind.Int n) → m ≡ n → k ≡ Some (kind.Int m)
number_as h e = h ∙ ap (λ u. Some (kind.Int u)) (sym e)

pub key_as : {K : Stream} {a : ℕ} {m n : List ℕ} → SeesKey K a n → m ≡ n → SeesKey K a m
key_as {K} {a} h e = subst (λ u. SeesKey K a u) (sym e) h

-- A suffix and a part of a text have a token at least.
pub suffix_longer : (P : Places) (K : Stream) {a n : ℕ} {s : Suffix} → Exact (λ K s. Suffixes K P (s ∷ [])) stops_primary K a s n → a + 1 ≤ n
suffix_longer P K e = nonempty P {R = λ K s. Suffixes K P (s ∷ [])} (λ t. begins_suffix t ≡ true) (λ J y a b r. suffix_first P r) (λ q. false≢true q) refl K e

pub part_longer : (P : Places) (K : Stream) {a n : ℕ} {p : Part} → Exact (λ K p. Parts K P (p ∷ [])) stops_part K a p n → a + 1 ≤ n
part_longer P K e = nonempty P {R = λ K p. Parts K P (p ∷ [])} (λ t. begins_part t ≡ true) (λ J y a b r. part_first P r) (λ q. false≢true q) refl K e
