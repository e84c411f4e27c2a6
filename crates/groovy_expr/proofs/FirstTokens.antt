-- What rules begin with, and the shortest spelling of an expression.
use Rattle.std.proofs.Common.{◌≡◌, ℕ, ◌+◌, Bool, true, false, List, [], ◌∷◌, refl, sym, ap, ◌∙◌, subst, Option, Some, pos}
use Rattle.model_syntax.specs.declared.sign.Sign.TheVariants as sign
use Rattle.model_syntax.specs.declared.word.Word.TheVariants as word
use Rattle.model_syntax.specs.declared.token.TokenKind.{TokenKind}
use Rattle.model_syntax.specs.declared.token.TokenKind.TheVariants as kind
use Rattle.model_syntax.specs.declared.tree.Expr.{Expr}
use Rattle.model_syntax.specs.declared.tree.Expr.TheVariants as expr
use Rattle.model_syntax.specs.declared.tree.Part.{Part}
use Rattle.model_syntax.specs.declared.tree.Arguments.{Arguments}
use Rattle.model_syntax.specs.declared.tree.Suffix.{Suffix}
use Rattle.model_syntax.specs.Stream.{Stream, Places}
use Rattle.model_syntax.specs.Operators.{by_or, by_and, by_equality, by_order, by_range, by_sum, by_product, Rank, rank_whole, rank_chain, rank_pair, rank_terms, rank_unary}
use Rattle.model_syntax.specs.Grammar.{IsExpr, whole, chain, pair_alone, terms, unary, choices_none, chain_end, terms_end, prefixes_none, Suffixes, suffixes_none, suffixes_property, suffixes_method, suffixes_index, dot, safe_dot, IsPrimary, primary_number, primary_text, primary_gstring, primary_true, primary_false, primary_null, primary_name, primary_call, primary_group, primary_no_list, primary_list, primary_no_map, primary_map, primary_closure, primary_new, primary_new_with, IsGString, gstring, IsClosure, closure_headed, closure_plain, IsCall, call_empty, call_some, call_closure}
use Rattle.groovy_expr.specs.Answers.{Stops}
use Rattle.groovy_expr.specs.Firsts.{begins_suffix, opens_call}
use Rattle.groovy_expr.proofs.Calculus.{Fill}

-- what a primary begins with
abbrev pub begins_primary : Option TokenKind → Bool
begins_primary (Some (kind.Name n)) = true
begins_primary (Some (kind.Int v)) = true
begins_primary (Some (kind.Text t)) = true
begins_primary (Some kind.GStringOpen) = true
begins_primary (Some (kind.Word word.True)) = true
begins_primary (Some (kind.Word word.False)) = true
begins_primary (Some (kind.Word word.Null)) = true
begins_primary (Some (kind.Word word.New)) = true
begins_primary (Some (kind.Sign sign.ParenOpen)) = true
begins_primary (Some (kind.Sign sign.BracketOpen)) = true
begins_primary (Some (kind.Sign sign.BraceOpen)) = true
begins_primary t = false

begun : (f : Option TokenKind → Bool) {x k : Option TokenKind} → f k ≡ true → x ≡ k → f x ≡ true
begun f p e = ap f e ∙ p

module _ (P : Places) where
  pub gstring_first : {J : Stream} {y : List Part} {a b : ℕ} → IsGString J P y a b → J a ≡ Some kind.GStringOpen
  gstring_first (gstring o ps c) = o

  pub closure_first : {J : Stream} {y : Expr} {a b : ℕ} → IsClosure J P y a b → J a ≡ Some (kind.Sign sign.BraceOpen)
  closure_first (closure_headed o h hs ss c) = o
  closure_first (closure_plain o h ss c) = o

  pub call_first : {J : Stream} {y : Arguments} {a b : ℕ} → IsCall J P y a b → opens_call (J a) ≡ true
  call_first (call_empty o c m) = begun opens_call refl o
  call_first (call_some o r c m) = begun opens_call refl o
  call_first (call_closure c) = begun opens_call refl (closure_first c)

  pub primary_first : {J : Stream} {y : Expr} {a b : ℕ} → IsPrimary J P y a b → begins_primary (J a) ≡ true
  primary_first (primary_number k) = begun begins_primary refl k
  primary_first (primary_text k) = begun begins_primary refl k
  primary_first (primary_gstring g) = begun begins_primary refl (gstring_first g)
  primary_first (primary_true k) = begun begins_primary refl k
  primary_first (primary_false k) = begun begins_primary refl k
  primary_first (primary_null k) = begun begins_primary refl k
  primary_first (primary_name k) = begun begins_primary refl k
  primary_first (primary_call k c) = begun begins_primary refl k
  primary_first (primary_group o e c) = begun begins_primary refl o
  primary_first (primary_no_list o c) = begun begins_primary refl o
  primary_first (primary_list o es m c) = begun begins_primary refl o
  primary_first (primary_no_map o m c) = begun begins_primary refl o
  primary_first (primary_map o es m c) = begun begins_primary refl o
  primary_first (primary_closure c) = begun begins_primary refl (closure_first c)
  primary_first (primary_new w n o c) = begun begins_primary refl w
  primary_first (primary_new_with w n o e c) = begun begins_primary refl w

  pub suffix_first : {J : Stream} {s : Suffix} {ss : List Suffix} {a b : ℕ} → Suffixes J P (s ∷ ss) a b → begins_suffix (J a) ≡ true
  suffix_first (suffixes_property (dot h) n r) = begun begins_suffix refl h
  suffix_first (suffixes_property (safe_dot h) n r) = begun begins_suffix refl h
  suffix_first (suffixes_method (dot h) n c r) = begun begins_suffix refl h
  suffix_first (suffixes_method (safe_dot h) n c r) = begun begins_suffix refl h
  suffix_first (suffixes_index o e c r) = begun begins_suffix refl o

  -- the number 0
  module _ {J : Stream} {a : ℕ} (h : J a ≡ Some (kind.Int (pos 0))) where
    zero_unary : IsExpr J P rank_unary (expr.Number (pos 0)) a (a + 1)
    zero_unary = unary prefixes_none (primary_number h) suffixes_none

    zero_range : IsExpr J P (rank_pair by_range) (expr.Number (pos 0)) a (a + 1)
    zero_range = pair_alone (terms (terms zero_unary terms_end) terms_end)

    zero_or : IsExpr J P (rank_chain by_or) (expr.Number (pos 0)) a (a + 1)
    zero_or = chain (chain (pair_alone (pair_alone zero_range)) chain_end) chain_end

    pub zero : (r : Rank) → IsExpr J P r (expr.Number (pos 0)) a (a + 1)
    zero rank_unary = zero_unary
    zero (rank_terms by_product) = terms zero_unary terms_end
    zero (rank_terms by_sum) = terms (terms zero_unary terms_end) terms_end
    zero (rank_pair by_range) = zero_range
    zero (rank_pair by_order) = pair_alone zero_range
    zero (rank_pair by_equality) = pair_alone (pair_alone zero_range)
    zero (rank_chain by_and) = chain (pair_alone (pair_alone zero_range)) chain_end
    zero (rank_chain by_or) = zero_or
    zero rank_whole = whole choices_none zero_or

  pub fill_rank : (r : Rank) (stops : Stops) → Fill (λ K. IsExpr K P r) stops
  fill_rank r stops = record { tokens = kind.Int (pos 0) ∷ []; fills = λ J a e st so. (expr.Number (pos 0), subst (λ k. IsExpr J P r (expr.Number (pos 0)) a k) (sym st.1) (zero st.0 r)) }

  pub fill_primary : (stops : Stops) → Fill (λ K. IsPrimary K P) stops
  fill_primary stops = record { tokens = kind.Int (pos 0) ∷ []; fills = λ J a e st so. (expr.Number (pos 0), subst (λ k. IsPrimary J P (expr.Number (pos 0)) a k) (sym st.1) (primary_number st.0)) }
