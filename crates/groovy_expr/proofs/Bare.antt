-- Expressions that are a primary with suffixes and nothing more, told by their trees.
use Rattle.std.proofs.Common.{◌≡◌, ℕ, ℤ, ◌+◌, List, [], ◌∷◌, refl, sym, ap, ◌∙◌, subst, Option, Some, None}
use Rattle.model_syntax.specs.declared.tree.Expr.{Expr, Expr-F, out-Expr, out-roll-Expr}
use Rattle.model_syntax.specs.declared.place.Declared.{Declared}
use Rattle.model_syntax.specs.declared.tree.Arguments.{Arguments}
use Rattle.model_syntax.specs.declared.tree.Arm.{Arm}
use Rattle.model_syntax.specs.declared.tree.Catch.{Catch}
use Rattle.model_syntax.specs.declared.tree.Assignment.{Assignment}
use Rattle.model_syntax.specs.declared.tree.Choice.{Choice}
use Rattle.model_syntax.specs.declared.tree.Entry.{Entry}
use Rattle.model_syntax.specs.declared.tree.NewClass.{NewClass}
use Rattle.model_syntax.specs.declared.tree.Operand.{Operand}
use Rattle.model_syntax.specs.declared.tree.Prefix.{Prefix}
use Rattle.model_syntax.specs.declared.tree.Stmt.{Stmt}
use Rattle.model_syntax.specs.declared.tree.Target.{Target}
use Rattle.model_syntax.specs.declared.tree.Expr.TheVariants as expr
use Rattle.model_syntax.specs.declared.tree.Suffix.{Suffix}
use Rattle.model_syntax.specs.declared.tree.Suffix.TheVariants.{Property, Method, Index}
use Rattle.model_syntax.specs.declared.sign.Sign.TheVariants as sign
use Rattle.model_syntax.specs.declared.tree.Part.{Part}
use Rattle.model_syntax.specs.Stream.{Stream, Places, Sees}
use Rattle.model_syntax.specs.Operators.{by_or, by_and, Rank, rank_whole, suffixed}
use Rattle.model_syntax.specs.Grammar.{IsExpr, whole, chain, pair_alone, pair, terms, unary, choices_none, choices_true, choices_set, chain_end, chain_more, terms_end, terms_more, prefixes_none, prefixes_more, Suffixes, suffixes_none, suffixes_property, suffixes_method, suffixes_index, IsPrimary, primary_number, primary_text, primary_gstring, primary_true, primary_false, primary_null, primary_name, primary_call, primary_group, primary_no_list, primary_list, primary_no_map, primary_map, primary_closure, primary_new, primary_new_with, IsGString, closure_headed, closure_plain}

-- What a tree is: a text with expressions, an expression in parentheses, one with signs or operators, or another.
pub data Form : Type 0 where
  text : Form
  group : Form
  built : Form
  other : Form

abbrev form_step : Expr-F Assignment Choice Entry Expr Part Stmt Suffix Target Arguments Arm Catch Operand → Form
form_step (Expr-F.GString ps) = text
form_step (Expr-F.Group e) = group
form_step (Expr-F.Prefixed ps e) = built
form_step (Expr-F.Joined e os) = built
form_step (Expr-F.And es) = built
form_step (Expr-F.Or es) = built
form_step (Expr-F.Chosen cs e) = built
form_step e = other

abbrev pub form : Expr → Form
form e = form_step (out-Expr e)

pub form_Number : (v : ℤ) → form (expr.Number v) ≡ other
form_Number v = ap (λ u. form_step (out-Expr u)) (sym (expr.rolls-Number v)) ∙ ap form_step (out-roll-Expr (Expr-F.Number v))

pub form_Literal : (t : List ℕ) → form (expr.Literal t) ≡ other
form_Literal t = ap (λ u. form_step (out-Expr u)) (sym (expr.rolls-Literal t)) ∙ ap form_step (out-roll-Expr (Expr-F.Literal t))

pub form_GString : (ps : List Part) → form (expr.GString ps) ≡ text
form_GString ps = ap (λ u. form_step (out-Expr u)) (sym (expr.rolls-GString ps)) ∙ ap form_step (out-roll-Expr (Expr-F.GString ps))

pub form_True : form expr.True ≡ other
form_True = ap (λ u. form_step (out-Expr u)) (sym expr.rolls-True) ∙ ap form_step (out-roll-Expr Expr-F.True)

pub form_False : form expr.False ≡ other
form_False = ap (λ u. form_step (out-Expr u)) (sym expr.rolls-False) ∙ ap form_step (out-roll-Expr Expr-F.False)

pub form_Null : form expr.Null ≡ other
form_Null = ap (λ u. form_step (out-Expr u)) (sym expr.rolls-Null) ∙ ap form_step (out-roll-Expr Expr-F.Null)

pub form_Variable : (n : List ℕ) → form (expr.Variable n) ≡ other
form_Variable n = ap (λ u. form_step (out-Expr u)) (sym (expr.rolls-Variable n)) ∙ ap form_step (out-roll-Expr (Expr-F.Variable n))

pub form_Call : (n : List ℕ) (a : Arguments) → form (expr.Call n a) ≡ other
form_Call n a = ap (λ u. form_step (out-Expr u)) (sym (expr.rolls-Call n a)) ∙ ap form_step (out-roll-Expr (Expr-F.Call n a))

pub form_Group : (e : Expr) → form (expr.Group e) ≡ group
form_Group e = ap (λ u. form_step (out-Expr u)) (sym (expr.rolls-Group e)) ∙ ap form_step (out-roll-Expr (Expr-F.Group e))

pub form_List : (es : List Expr) → form (expr.List es) ≡ other
form_List es = ap (λ u. form_step (out-Expr u)) (sym (expr.rolls-List es)) ∙ ap form_step (out-roll-Expr (Expr-F.List es))

pub form_Map : (es : List Entry) → form (expr.Map es) ≡ other
form_Map es = ap (λ u. form_step (out-Expr u)) (sym (expr.rolls-Map es)) ∙ ap form_step (out-roll-Expr (Expr-F.Map es))

pub form_Closure : (ds : Option (List Declared)) (ss : List Stmt) → form (expr.Closure ds ss) ≡ other
form_Closure ds ss = ap (λ u. form_step (out-Expr u)) (sym (expr.rolls-Closure ds ss)) ∙ ap form_step (out-roll-Expr (Expr-F.Closure ds ss))

pub form_New : (c : NewClass) (e : Option Expr) → form (expr.New c e) ≡ other
form_New c e = ap (λ u. form_step (out-Expr u)) (sym (expr.rolls-New c e)) ∙ ap form_step (out-roll-Expr (Expr-F.New c e))

pub form_Suffixed : (e : Expr) (ss : List Suffix) → form (expr.Suffixed e ss) ≡ other
form_Suffixed e ss = ap (λ u. form_step (out-Expr u)) (sym (expr.rolls-Suffixed e ss)) ∙ ap form_step (out-roll-Expr (Expr-F.Suffixed e ss))

pub form_Prefixed : (ps : List Prefix) (e : Expr) → form (expr.Prefixed ps e) ≡ built
form_Prefixed ps e = ap (λ u. form_step (out-Expr u)) (sym (expr.rolls-Prefixed ps e)) ∙ ap form_step (out-roll-Expr (Expr-F.Prefixed ps e))

pub form_Joined : (e : Expr) (os : List Operand) → form (expr.Joined e os) ≡ built
form_Joined e os = ap (λ u. form_step (out-Expr u)) (sym (expr.rolls-Joined e os)) ∙ ap form_step (out-roll-Expr (Expr-F.Joined e os))

pub form_And : (es : List Expr) → form (expr.And es) ≡ built
form_And es = ap (λ u. form_step (out-Expr u)) (sym (expr.rolls-And es)) ∙ ap form_step (out-roll-Expr (Expr-F.And es))

pub form_Or : (es : List Expr) → form (expr.Or es) ≡ built
form_Or es = ap (λ u. form_step (out-Expr u)) (sym (expr.rolls-Or es)) ∙ ap form_step (out-roll-Expr (Expr-F.Or es))

pub form_Chosen : (cs : List Choice) (e : Expr) → form (expr.Chosen cs e) ≡ built
form_Chosen cs e = ap (λ u. form_step (out-Expr u)) (sym (expr.rolls-Chosen cs e)) ∙ ap form_step (out-roll-Expr (Expr-F.Chosen cs e))

text_built : text ≡ built → ⊥
text_built e = cc

group_built : group ≡ built → ⊥
group_built e = cc

other_built : other ≡ built → ⊥
other_built e = cc

other_text : other ≡ text → ⊥
other_text e = cc

other_group : other ≡ group → ⊥
other_group e = cc

group_text : group ≡ text → ⊥
group_text e = cc

text_group : text ≡ group → ⊥
text_group e = cc

-- Its parts.
pub record BareParts (K : Stream) (P : Places) (x : Expr) (a b : ℕ) : Type 0 where
  pub primary : Expr
  pub suffixes : List Suffix
  pub middle : ℕ
  pub is_primary : IsPrimary K P primary a middle
  pub are_suffixes : Suffixes K P suffixes middle b
  pub tree : x ≡ suffixed primary suffixes

pub bare_in : {K : Stream} {P : Places} {r : Rank} {x : Expr} {a b : ℕ} → IsExpr K P r x a b → (form x ≡ built → ⊥) → BareParts K P x a b
bare_in (whole choices_none e) h = bare_in e h
bare_in (whole (choices_true t q v c cs) e) h = absurd (h (form_Chosen _ _))
bare_in (whole (choices_set v q cs) e) h = absurd (h (form_Chosen _ _))
bare_in (chain e chain_end) h = bare_in e h
bare_in (chain {l = by_or} e (chain_more s i r)) h = absurd (h (form_Or _))
bare_in (chain {l = by_and} e (chain_more s i r)) h = absurd (h (form_And _))
bare_in (pair_alone e) h = bare_in e h
bare_in (pair e s o f) h = absurd (h (form_Joined _ _))
bare_in (terms e terms_end) h = bare_in e h
bare_in (terms e (terms_more s o i r)) h = absurd (h (form_Joined _ _))
bare_in (unary prefixes_none p s) h = record { primary = _; suffixes = _; middle = _; is_primary = p; are_suffixes = s; tree = refl }
bare_in (unary (prefixes_more s p ps) i ss) h = absurd (h (form_Prefixed _ _))

-- A primary whose tree is a text with expressions is that text, and one whose tree is in parentheses is in them.
pub record TextParts (K : Stream) (P : Places) (x : Expr) (a b : ℕ) : Type 0 where
  pub parts : List Part
  pub is_gstring : IsGString K P parts a b
  pub tree : x ≡ expr.GString parts

pub text_primary : {K : Stream} {P : Places} {x : Expr} {a b : ℕ} → IsPrimary K P x a b → form x ≡ text → TextParts K P x a b
text_primary (primary_gstring g) h = record { parts = _; is_gstring = g; tree = refl }
text_primary (primary_number k) h = absurd (other_text (sym (form_Number _) ∙ h))
text_primary (primary_text k) h = absurd (other_text (sym (form_Literal _) ∙ h))
text_primary (primary_true k) h = absurd (other_text (sym (form_True) ∙ h))
text_primary (primary_false k) h = absurd (other_text (sym (form_False) ∙ h))
text_primary (primary_null k) h = absurd (other_text (sym (form_Null) ∙ h))
text_primary (primary_name k) h = absurd (other_text (sym (form_Variable _) ∙ h))
text_primary (primary_call k c) h = absurd (other_text (sym (form_Call _ _) ∙ h))
text_primary (primary_group o i c) h = absurd (group_text (sym (form_Group _) ∙ h))
text_primary (primary_no_list o c) h = absurd (other_text (sym (form_List _) ∙ h))
text_primary (primary_list o es m c) h = absurd (other_text (sym (form_List _) ∙ h))
text_primary (primary_no_map o m c) h = absurd (other_text (sym (form_Map _) ∙ h))
text_primary (primary_map o es m c) h = absurd (other_text (sym (form_Map _) ∙ h))
text_primary (primary_closure (closure_headed o u hs ss c)) h = absurd (other_text (sym (form_Closure _ _) ∙ h))
text_primary (primary_closure (closure_plain o u ss c)) h = absurd (other_text (sym (form_Closure _ _) ∙ h))
text_primary (primary_new w n o c) h = absurd (other_text (sym (form_New _ None) ∙ h))
text_primary (primary_new_with w n o i c) h = absurd (other_text (sym (form_New _ (Some _)) ∙ h))

pub record GroupParts (K : Stream) (P : Places) (x : Expr) (a b : ℕ) : Type 0 where
  pub inner : Expr
  pub middle : ℕ
  pub opens : Sees K a sign.ParenOpen
  pub is_expr : IsExpr K P rank_whole inner (a + 1) middle
  pub closes : Sees K middle sign.ParenClose
  pub tree : x ≡ expr.Group inner
  pub end : b ≡ middle + 1

pub group_primary : {K : Stream} {P : Places} {x : Expr} {a b : ℕ} → IsPrimary K P x a b → form x ≡ group → GroupParts K P x a b
group_primary (primary_group o i c) h = record { inner = _; middle = _; opens = o; is_expr = i; closes = c; tree = refl; end = refl }
group_primary (primary_number k) h = absurd (other_group (sym (form_Number _) ∙ h))
group_primary (primary_text k) h = absurd (other_group (sym (form_Literal _) ∙ h))
group_primary (primary_true k) h = absurd (other_group (sym (form_True) ∙ h))
group_primary (primary_false k) h = absurd (other_group (sym (form_False) ∙ h))
group_primary (primary_null k) h = absurd (other_group (sym (form_Null) ∙ h))
group_primary (primary_name k) h = absurd (other_group (sym (form_Variable _) ∙ h))
group_primary (primary_call k c) h = absurd (other_group (sym (form_Call _ _) ∙ h))
group_primary (primary_no_list o c) h = absurd (other_group (sym (form_List _) ∙ h))
group_primary (primary_list o es m c) h = absurd (other_group (sym (form_List _) ∙ h))
group_primary (primary_no_map o m c) h = absurd (other_group (sym (form_Map _) ∙ h))
group_primary (primary_map o es m c) h = absurd (other_group (sym (form_Map _) ∙ h))
group_primary (primary_closure (closure_headed o u hs ss c)) h = absurd (other_group (sym (form_Closure _ _) ∙ h))
group_primary (primary_closure (closure_plain o u ss c)) h = absurd (other_group (sym (form_Closure _ _) ∙ h))
group_primary (primary_new w n o c) h = absurd (other_group (sym (form_New _ None) ∙ h))
group_primary (primary_new_with w n o i c) h = absurd (other_group (sym (form_New _ (Some _)) ∙ h))
group_primary (primary_gstring g) h = absurd (text_group (sym (form_GString _) ∙ h))

-- An expression whose tree is one of these has no suffixes.
alone : (f : Form) → (other ≡ f → ⊥) → (e : Expr) (ss : List Suffix) → form (suffixed e ss) ≡ f → ss ≡ []
alone f h e [] q = refl
alone f h e (s ∷ ss) q = absurd (h (sym (form_Suffixed e (s ∷ ss)) ∙ q))

no_suffixes : {K : Stream} {P : Places} {ss : List Suffix} {a b : ℕ} → Suffixes K P ss a b → ss ≡ [] → b ≡ a
no_suffixes suffixes_none e = refl
no_suffixes (suffixes_property {d = d} {n = n} {ss = ss} o q r) e = absurd (let h : Property d n ∷ ss ≡ [] = e in cc)
no_suffixes (suffixes_method {d = d} {n = n} {args = x} {ss = ss} o q c r) e = absurd (let h : Method d n x ∷ ss ≡ [] = e in cc)
no_suffixes (suffixes_index {e = x} {ss = ss} o i c r) e = absurd (let h : Index x ∷ ss ≡ [] = e in cc)

module _ {K : Stream} {P : Places} {x : Expr} {a b : ℕ} (i : IsExpr K P rank_whole x a b) where
  alone_in : (f : Form) → (other ≡ f → ⊥) → (f ≡ built → ⊥) → form x ≡ f → IsPrimary K P x a b
  alone_in f not_other not_built h =
      let p = bare_in i (λ q. not_built (sym h ∙ q)) in
      let n = alone f not_other p.primary p.suffixes (ap form (sym p.tree) ∙ h) in
      let t : x ≡ p.primary = p.tree ∙ ap (suffixed p.primary) n in
      subst (λ k. IsPrimary K P x a k) (sym (no_suffixes p.are_suffixes n)) (subst (λ y. IsPrimary K P y a p.middle) (sym t) p.is_primary)

  pub text_in : form x ≡ text → TextParts K P x a b
  text_in h = text_primary (alone_in text other_text text_built h) h

  pub group_in : form x ≡ group → GroupParts K P x a b
  group_in h = group_primary (alone_in group other_group group_built h) h
