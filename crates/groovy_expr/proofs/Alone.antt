-- A name, a text or a number before `:` is an expression that ends there.
use Rattle.std.proofs.Common.{◌≡◌, ℕ, ℤ, ◌+◌, true, List, [], refl, sym, ap, ◌∙◌, Option, Some}
use Rattle.std.proofs.lemmas.Bool.{false≢true}
use Rattle.model_syntax.specs.declared.sign.Sign.{Sign}
use Rattle.model_syntax.specs.declared.sign.Sign.TheVariants as sign
use Rattle.model_syntax.specs.declared.token.TokenKind.{TokenKind}
use Rattle.model_syntax.specs.declared.token.TokenKind.TheVariants as kind
use Rattle.model_syntax.specs.declared.tree.Expr.{Expr}
use Rattle.model_syntax.specs.declared.tree.Operator.{Operator}
use Rattle.model_syntax.specs.Stream.{Stream, Places}
use Rattle.model_syntax.specs.Lookahead.{is_colon}
use Rattle.model_syntax.specs.Operators.{Chain, by_or, by_and, Pair, by_equality, by_order, by_range, Terms, by_sum, by_product, rank_whole, rank_chain, rank_pair, rank_terms, rank_unary, within_chain, within_pair, within_terms, chain_sign, pair_operator, terms_operator, chained, joined}
use Rattle.model_syntax.specs.Grammar.{IsExpr, IsPrimary, Prefixes}
use Rattle.groovy_expr.specs.Answers.{Exact}
use Rattle.groovy_expr.specs.Brackets.{begins_keyed}
use Rattle.groovy_expr.specs.Stops.{stops_rank, stops_expr, stops_primary, stops_unary, stops_prefixes}
use Rattle.groovy_expr.specs.Firsts.{begins_suffix, opens_call}
use Rattle.groovy_expr.proofs.Calculus.{tail_start}
use Rattle.groovy_expr.proofs.Lists.{all_read, first_read}
use Rattle.groovy_expr.proofs.RankRules.{chain_many, chain_join, chain_turn, terms_many, terms_join, terms_turn, pair_one, whole_start, whole_last, none_some}
use Rattle.groovy_expr.proofs.SuffixRules.{prefix_many, suffix_many, suffixes_start, unary_ok, IsPrefix}
use Rattle.groovy_expr.proofs.PrimaryRules.{number_ok, literal_ok, variable_ok}

colon_is : (s : Sign) → Some (kind.Sign sign.Colon) ≡ Some (kind.Sign s) → sign.Colon ≡ s
colon_is s e = cc

colon_pair : (l : Pair) (o : Operator) → pair_operator l sign.Colon ≡ Some o → ⊥
colon_pair by_equality o e = none_some o e
colon_pair by_order o e = none_some o e
colon_pair by_range o e = none_some o e

colon_terms : (l : Terms) (o : Operator) → terms_operator l sign.Colon ≡ Some o → ⊥
colon_terms by_sum o e = none_some o e
colon_terms by_product o e = none_some o e

colon_chain : (l : Chain) → Some (kind.Sign sign.Colon) ≡ Some (kind.Sign (chain_sign l)) → ⊥
colon_chain by_or e = cc
colon_chain by_and e = cc

colon_elvis : Some (kind.Sign sign.Colon) ≡ Some (kind.Sign sign.Elvis) → ⊥
colon_elvis e = cc

colon_question : Some (kind.Sign sign.Colon) ≡ Some (kind.Sign sign.Question) → ⊥
colon_question e = cc

name_sign : (n : List ℕ) (s : Sign) → Some (kind.Name n) ≡ Some (kind.Sign s) → ⊥
name_sign n s e = cc

text_sign : (n : List ℕ) (s : Sign) → Some (kind.Text n) ≡ Some (kind.Sign s) → ⊥
text_sign n s e = cc

int_sign : (n : ℤ) (s : Sign) → Some (kind.Int n) ≡ Some (kind.Sign s) → ⊥
int_sign n s e = cc

module _ (P : Places) (J : Stream) (a : ℕ) (c : J (a + 1) ≡ Some (kind.Sign sign.Colon)) where
  alone_terms : (l : Terms) {e : Expr} → Exact (λ K. IsExpr K P (within_terms l)) (stops_rank (within_terms l)) J a e (a + 1) → Exact (λ K. IsExpr K P (rank_terms l)) (stops_rank (rank_terms l)) J a e (a + 1)
  alone_terms l {e} i = all_read (terms_many P l) J (joined e) [] (first_read joined (terms_join P l) J (terms_turn P l J a) i)
      (λ t. colon_terms l t.1 (ap (terms_operator l) (colon_is t.0 (sym c ∙ t.2)) ∙ t.3))

  alone_pair : (l : Pair) {e : Expr} → Exact (λ K. IsExpr K P (within_pair l)) (stops_rank (within_pair l)) J a e (a + 1) → Exact (λ K. IsExpr K P (rank_pair l)) (stops_rank (rank_pair l)) J a e (a + 1)
  alone_pair l i = pair_one P l J i (λ s o h q. colon_pair l o (ap (pair_operator l) (colon_is s (sym c ∙ h)) ∙ q))

  alone_chain : (l : Chain) {e : Expr} → Exact (λ K. IsExpr K P (within_chain l)) (stops_rank (within_chain l)) J a e (a + 1) → Exact (λ K. IsExpr K P (rank_chain l)) (stops_rank (rank_chain l)) J a e (a + 1)
  alone_chain l {e} i = all_read (chain_many P l) J (chained l e) [] (first_read (chained l) (chain_join P l) J (chain_turn P l J a) i) (λ h. colon_chain l (sym c ∙ h))

  alone_unary : {e : Expr} → (IsPrefix (J a) → ⊥) → Exact (λ K. IsPrimary K P) stops_primary J a e (a + 1) → Exact (λ K. IsExpr K P rank_unary) stops_unary J a e (a + 1)
  alone_unary h i = unary_ok P J
      (all_read prefix_many J (λ z. z) [] (tail_start Prefixes stops_prefixes J a) h)
      i
      (all_read (suffix_many P) J (λ z. z) [] (suffixes_start P J (a + 1)) (λ e. false≢true (sym (ap begins_suffix c) ∙ e)))

  alone_whole : {e : Expr} → (IsPrefix (J a) → ⊥) → Exact (λ K. IsPrimary K P) stops_primary J a e (a + 1) → Exact (λ K. IsExpr K P rank_whole) stops_expr J a e (a + 1)
  alone_whole h i = whole_last P J [] (whole_start P J)
      (alone_chain by_or (alone_chain by_and (alone_pair by_equality (alone_pair by_order (alone_pair by_range (alone_terms by_sum (alone_terms by_product (alone_unary h i))))))))
      (λ e. colon_elvis (sym c ∙ e)) (λ e. colon_question (sym c ∙ e))

  alone_end : (k : Option TokenKind) → J a ≡ k → begins_keyed k (J (a + 1)) ≡ true → {x : Expr} {b : ℕ} → IsExpr J P rank_whole x a b → stops_expr (J b) ≡ true → b ≡ a + 1
  alone_end (Some (kind.Name n)) h q {x} {b} i st =
      let o = (alone_whole (λ t. name_sign n t.0 (sym h ∙ t.2)) (variable_ok P J h (ap opens_call c))).only J x b (λ k l. refl) i st in o.1
  alone_end (Some (kind.Text n)) h q {x} {b} i st =
      let o = (alone_whole (λ t. text_sign n t.0 (sym h ∙ t.2)) (literal_ok P J h)).only J x b (λ k l. refl) i st in o.1
  alone_end (Some (kind.Int n)) h q {x} {b} i st =
      let o = (alone_whole (λ t. int_sign n t.0 (sym h ∙ t.2)) (number_ok P J h)).only J x b (λ k l. refl) i st in o.1
  alone_end k h q i st = absurd (false≢true q)

colon_there : (k : Option TokenKind) → is_colon k ≡ true → k ≡ Some (kind.Sign sign.Colon)
colon_there (Some (kind.Sign sign.Colon)) h = refl
colon_there k h = absurd (false≢true h)

keyed_colon : (k l : Option TokenKind) → begins_keyed k l ≡ true → is_colon l ≡ true
keyed_colon (Some (kind.Name n)) l h = h
keyed_colon (Some (kind.Text n)) l h = h
keyed_colon (Some (kind.Int n)) l h = h
keyed_colon k l h = absurd (false≢true h)

-- An expression that begins with a key and `:` behind it ends before the `:`.
pub keyed_end : (P : Places) (J : Stream) (a : ℕ) → begins_keyed (J a) (J (a + 1)) ≡ true → {x : Expr} {b : ℕ} → IsExpr J P rank_whole x a b → stops_expr (J b) ≡ true → b ≡ a + 1
keyed_end P J a h i st = alone_end P J a (colon_there (J (a + 1)) (keyed_colon (J a) (J (a + 1)) h)) (J a) refl h i st

pub keyed_then_colon : (k l : Option TokenKind) → begins_keyed k l ≡ true → l ≡ Some (kind.Sign sign.Colon)
keyed_then_colon k l h = colon_there l (keyed_colon k l h)
