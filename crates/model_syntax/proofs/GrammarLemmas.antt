-- Small derivations, and how expressions begin.
use Rattle.std.proofs.Common.{◌≡◌, ℕ, List, refl, ap, ◌∙◌, Bool, true, false, Option, Some, None}
use Rattle.model_syntax.specs.declared.sign.Sign.{Sign}
use Rattle.model_syntax.specs.declared.sign.Sign.TheVariants as sign
use Rattle.model_syntax.specs.declared.word.Word.TheVariants as word
use Rattle.model_syntax.specs.declared.token.TokenKind.{TokenKind}
use Rattle.model_syntax.specs.declared.token.TokenKind.TheVariants as kind
use Rattle.model_syntax.specs.declared.tree.Expr.{Expr}
use Rattle.model_syntax.specs.declared.tree.Assignment.{Assignment}
use Rattle.model_syntax.specs.declared.tree.Suffix.{Suffix}
use Rattle.model_syntax.specs.declared.tree.Prefix.{Prefix}
use Rattle.model_syntax.specs.declared.tree.Target.{Target}
use Rattle.model_syntax.specs.Stream.{Stream, Places}
use Rattle.model_syntax.specs.Operators.{Rank, rank_whole, suffixed, prefix_of}
use Rattle.model_syntax.specs.Grammar.{IsExpr, whole, chain, pair_alone, pair, terms, unary, choices_none, choices_true, choices_set, chain_end, terms_end, prefixes_none, prefixes_more, Suffixes, suffixes_none, IsPrimary, primary_number, primary_text, primary_gstring, primary_true, primary_false, primary_null, primary_name, primary_call, primary_group, primary_no_list, primary_list, primary_no_map, primary_map, primary_closure, primary_new, primary_new_with, gstring, IsClosure, closure_headed, closure_plain, IsTarget, target_name, target_property, target_index, IsWhole, whole_call, whole_expr, IsAssign, assign_value, assign_up, assign_down}

-- A primary with what stands behind it is an expression of any rank.
pub with_suffixes : {K : Stream} {P : Places} {e : Expr} {ss : List Suffix} {a m b : ℕ} → IsPrimary K P e a m → Suffixes K P ss m b → IsExpr K P rank_whole (suffixed e ss) a b
with_suffixes p s = whole choices_none (chain (chain (pair_alone (pair_alone (pair_alone (terms (terms (unary prefixes_none p s) terms_end) terms_end)))) chain_end) chain_end)

pub just : {K : Stream} {P : Places} {e : Expr} {a b : ℕ} → IsPrimary K P e a b → IsExpr K P rank_whole e a b
just p = with_suffixes p suffixes_none

-- what an expression begins with
abbrev pub begins_expr : Option TokenKind → Bool
begins_expr (Some (kind.Name n)) = true
begins_expr (Some (kind.Int v)) = true
begins_expr (Some (kind.Text t)) = true
begins_expr (Some kind.GStringOpen) = true
begins_expr (Some (kind.Word word.True)) = true
begins_expr (Some (kind.Word word.False)) = true
begins_expr (Some (kind.Word word.Null)) = true
begins_expr (Some (kind.Word word.New)) = true
begins_expr (Some (kind.Sign sign.ParenOpen)) = true
begins_expr (Some (kind.Sign sign.BracketOpen)) = true
begins_expr (Some (kind.Sign sign.BraceOpen)) = true
begins_expr (Some (kind.Sign sign.Not)) = true
begins_expr (Some (kind.Sign sign.Minus)) = true
begins_expr (Some (kind.Sign sign.Plus)) = true
begins_expr k = false

begun : (x k : Option TokenKind) → begins_expr k ≡ true → x ≡ k → begins_expr x ≡ true
begun x k p e = ap begins_expr e ∙ p

closure_begins : {K : Stream} {P : Places} {e : Expr} {a b : ℕ} → IsClosure K P e a b → begins_expr (K a) ≡ true
closure_begins (closure_headed o h hs ss c) = begun _ _ refl o
closure_begins (closure_plain o h ss c) = begun _ _ refl o

pub primary_begins : {K : Stream} {P : Places} {e : Expr} {a b : ℕ} → IsPrimary K P e a b → begins_expr (K a) ≡ true
primary_begins (primary_number k) = begun _ _ refl k
primary_begins (primary_text k) = begun _ _ refl k
primary_begins (primary_gstring (gstring o ps c)) = begun _ _ refl o
primary_begins (primary_true k) = begun _ _ refl k
primary_begins (primary_false k) = begun _ _ refl k
primary_begins (primary_null k) = begun _ _ refl k
primary_begins (primary_name k) = begun _ _ refl k
primary_begins (primary_call k c) = begun _ _ refl k
primary_begins (primary_group o e c) = begun _ _ refl o
primary_begins (primary_no_list o c) = begun _ _ refl o
primary_begins (primary_list o es m c) = begun _ _ refl o
primary_begins (primary_no_map o m c) = begun _ _ refl o
primary_begins (primary_map o es m c) = begun _ _ refl o
primary_begins (primary_closure c) = closure_begins c
primary_begins (primary_new w n o c) = begun _ _ refl w
primary_begins (primary_new_with w n o e c) = begun _ _ refl w

prefix_begins : (s : Sign) (p : Prefix) → prefix_of s ≡ Some p → begins_expr (Some (kind.Sign s)) ≡ true
prefix_begins sign.Not p e = refl
prefix_begins sign.Minus p e = refl
prefix_begins sign.Plus p e = refl
prefix_begins s p e = absurd (let k : None ≡ Some p = e in cc)

-- Every expression begins so.
mutual
  pub expr_begins : {K : Stream} {P : Places} {r : Rank} {e : Expr} {a b : ℕ} → IsExpr K P r e a b → begins_expr (K a) ≡ true
  expr_begins (whole choices_none e) = expr_begins e
  expr_begins (whole (choices_true t q v c cs) e) = expr_begins t
  expr_begins (whole (choices_set v q cs) e) = expr_begins v
  expr_begins (chain e r) = expr_begins e
  expr_begins (pair_alone e) = expr_begins e
  expr_begins (pair e s o f) = expr_begins e
  expr_begins (terms e r) = expr_begins e
  expr_begins (unary prefixes_none p s) = primary_begins p
  expr_begins (unary (prefixes_more {s = s} {p = q} k i ps) p ss) = begun _ _ (prefix_begins s q i) k

pub target_begins : {K : Stream} {P : Places} {t : Target} {a b : ℕ} → IsTarget K P t a b → begins_expr (K a) ≡ true
target_begins (target_name n) = begun _ _ refl n
target_begins (target_property p s d n) = primary_begins p
target_begins (target_index p s o i c) = primary_begins p

pub whole_begins : {K : Stream} {P : Places} {e : Expr} {a b : ℕ} → IsWhole K P e a b → begins_expr (K a) ≡ true
whole_begins (whole_call i n r) = begun _ _ refl n
whole_begins (whole_expr i e) = expr_begins e

pub assign_begins : {K : Stream} {P : Places} {u : Assignment} {a b : ℕ} → IsAssign K P u a b → begins_expr (K a) ≡ true
assign_begins (assign_value t s o e) = target_begins t
assign_begins (assign_up t s) = target_begins t
assign_begins (assign_down t s) = target_begins t
