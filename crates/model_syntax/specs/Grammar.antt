-- The grammar: which tokens, from one place up to another, spell a tree (Groovy's, cut to this product's language).
-- K are the tokens and P their places. Each constructor is an alternative of the rule that its comment names.
use Rattle.std.specs.Prelude.{◌≡◌, ℕ, ◌+◌, ◌⊎◌, ℤ, true, false, Option, Some, None, List, [], ◌∷◌, codes}
use Rattle.model_syntax.specs.declared.place.Declared.{Declared}
use Rattle.model_syntax.specs.declared.sign.Sign.{Sign}
use Rattle.model_syntax.specs.declared.sign.Sign.TheVariants as sign
use Rattle.model_syntax.specs.declared.word.Word.TheVariants as word
use Rattle.model_syntax.specs.declared.token.TokenKind.TheVariants as kind
use Rattle.model_syntax.specs.declared.tree.Access.{Access}
use Rattle.model_syntax.specs.declared.tree.Access.TheVariants.{Direct, NullSafe}
use Rattle.model_syntax.specs.declared.tree.AssignSign.{AssignSign}
use Rattle.model_syntax.specs.declared.tree.Operator.{Operator}
use Rattle.model_syntax.specs.declared.tree.Prefix.{Prefix}
use Rattle.model_syntax.specs.declared.tree.Caught.{Caught}
use Rattle.model_syntax.specs.declared.tree.Caught.TheVariants.{Exceptions, Throwables}
use Rattle.model_syntax.specs.declared.tree.NewClass.{NewClass}
use Rattle.model_syntax.specs.declared.tree.NewClass.TheVariants as new
use Rattle.model_syntax.specs.declared.tree.Expr.{Expr}
use Rattle.model_syntax.specs.declared.tree.Expr.TheVariants as expr
use Rattle.model_syntax.specs.declared.tree.Stmt.{Stmt}
use Rattle.model_syntax.specs.declared.tree.Stmt.TheVariants as stmt
use Rattle.model_syntax.specs.declared.tree.Arm.{Arm}
use Rattle.model_syntax.specs.declared.tree.Catch.{Catch}
use Rattle.model_syntax.specs.declared.tree.Assignment.{Assignment}
use Rattle.model_syntax.specs.declared.tree.Assignment.TheVariants as assignment
use Rattle.model_syntax.specs.declared.tree.Init.{Init}
use Rattle.model_syntax.specs.declared.tree.Init.TheVariants as init
use Rattle.model_syntax.specs.declared.tree.Target.{Target}
use Rattle.model_syntax.specs.declared.tree.Target.TheVariants.{ToName, ToProperty, ToIndex}
use Rattle.model_syntax.specs.declared.tree.Operand.{Operand}
use Rattle.model_syntax.specs.declared.tree.Choice.{Choice}
use Rattle.model_syntax.specs.declared.tree.Choice.TheVariants.{IfTrue, IfSet}
use Rattle.model_syntax.specs.declared.tree.Suffix.{Suffix}
use Rattle.model_syntax.specs.declared.tree.Suffix.TheVariants.{Property, Method, Index}
use Rattle.model_syntax.specs.declared.tree.Arguments.{Arguments}
use Rattle.model_syntax.specs.declared.tree.Part.{Part}
use Rattle.model_syntax.specs.declared.tree.Part.TheVariants.{Plain, Inner}
use Rattle.model_syntax.specs.declared.tree.Entry.{Entry}
use Rattle.model_syntax.specs.declared.tree.Entry.TheVariants.{Named, Numbered, Computed}
use Rattle.model_syntax.specs.Stream.{Stream, Places, Sees, SeesWord, SeesName, declared}
use Rattle.model_syntax.specs.Lookahead.{is_call, is_named, has_heads}
use Rattle.model_syntax.specs.Operators.{Chain, by_or, Pair, Terms, Rank, rank_whole, rank_chain, rank_pair, rank_terms, rank_unary, within_chain, within_pair, within_terms, chain_sign, pair_operator, terms_operator, prefix_of, assign_sign, chosen, chained, joined, suffixed, prefixed, operand, with_closure, for_steps}

-- [ NL ]
pub data MayBreak (K : Stream) : ℕ → ℕ → Type 0 where
  no_break : {a : ℕ} → MayBreak K a a
  break : {a : ℕ} → K a ≡ Some kind.Newline → MayBreak K a (a + 1)

-- [ Seps ]
pub data MaySeparate (K : Stream) : ℕ → ℕ → Type 0 where
  no_separator : {a : ℕ} → MaySeparate K a a
  separator_line : {a b : ℕ} → K a ≡ Some kind.Newline → MaySeparate K (a + 1) b → MaySeparate K a b
  separator_sign : {a b : ℕ} → Sees K a sign.Semicolon → MaySeparate K (a + 1) b → MaySeparate K a b

-- Seps = (NL | ";") { NL | ";" }
pub data Separates (K : Stream) : ℕ → ℕ → Type 0 where
  separates_line : {a b : ℕ} → K a ≡ Some kind.Newline → MaySeparate K (a + 1) b → Separates K a b
  separates_sign : {a b : ℕ} → Sees K a sign.Semicolon → MaySeparate K (a + 1) b → Separates K a b

-- "def" | NAME before a declared name; type names are read and not checked (this product's own)
pub data SeesType (K : Stream) (a : ℕ) : Type 0 where
  type_def : SeesWord K a word.Def → SeesType K a
  type_name : {t : List ℕ} → SeesName K a t → SeesType K a

-- "." | "?."
pub data SeesDot (K : Stream) (a : ℕ) : Access → Type 0 where
  dot : Sees K a sign.Dot → SeesDot K a Direct
  safe_dot : Sees K a sign.SafeDot → SeesDot K a NullSafe

-- { "!" | "-" | "+" }
pub data Prefixes (K : Stream) : List Prefix → ℕ → ℕ → Type 0 where
  prefixes_none : {a : ℕ} → Prefixes K [] a a
  prefixes_more : {s : Sign} {p : Prefix} {ps : List Prefix} {a b : ℕ} → Sees K a s → prefix_of s ≡ Some p → Prefixes K ps (a + 1) b → Prefixes K (p ∷ ps) a b

-- NAME { "," NAME }
pub data NameList (K : Stream) (P : Places) : List Declared → ℕ → ℕ → Type 0 where
  names_last : {n : List ℕ} {a : ℕ} → SeesName K a n → NameList K P (declared n (P a) ∷ []) a (a + 1)
  names_more : {n : List ℕ} {ds : List Declared} {a b : ℕ} → SeesName K a n → Sees K (a + 1) sign.Comma → NameList K P ds (a + 1 + 1) b → NameList K P (declared n (P a) ∷ ds) a b

-- Heads = "->" | NAME { "," NAME } "->" | ("def" | NAME) NAME "->"
pub data Heads (K : Stream) (P : Places) : List Declared → ℕ → ℕ → Type 0 where
  heads_none : {a : ℕ} → Sees K a sign.Arrow → Heads K P [] a (a + 1)
  heads_names : {ds : List Declared} {a b : ℕ} → NameList K P ds a b → Sees K b sign.Arrow → Heads K P ds a (b + 1)
  heads_typed : {n : List ℕ} {a : ℕ} → SeesType K a → SeesName K (a + 1) n → Sees K (a + 1 + 1) sign.Arrow → Heads K P (declared n (P (a + 1)) ∷ []) a (a + 1 + 1 + 1)

-- { "." NAME } behind `$` NAME in a text
pub data Dotted (K : Stream) : List Suffix → ℕ → ℕ → Type 0 where
  dotted_none : {a : ℕ} → Dotted K [] a a
  dotted_more : {n : List ℕ} {ss : List Suffix} {a b : ℕ} → Sees K a sign.Dot → SeesName K (a + 1) n → Dotted K ss (a + 1 + 1) b → Dotted K (Property Direct n ∷ ss) a b

-- Class = "Exception" | "RuntimeException" | "Error"
abbrev pub class_text : NewClass → List ℕ
class_text new.Exception = codes "Exception"
class_text new.RuntimeException = codes "RuntimeException"
class_text new.Error = codes "Error"

-- "(" [ "Exception" | "Throwable" ] NAME ")" of a catch
pub data Catches (K : Stream) (P : Places) : Caught → Declared → ℕ → ℕ → Type 0 where
  catches_plain : {n : List ℕ} {a : ℕ} → Sees K a sign.ParenOpen → SeesName K (a + 1) n → Sees K (a + 1 + 1) sign.ParenClose → Catches K P Exceptions (declared n (P (a + 1))) a (a + 1 + 1 + 1)
  catches_exception : {n : List ℕ} {a : ℕ} → Sees K a sign.ParenOpen → SeesName K (a + 1) (codes "Exception") → SeesName K (a + 1 + 1) n → Sees K (a + 1 + 1 + 1) sign.ParenClose → Catches K P Exceptions (declared n (P (a + 1 + 1))) a (a + 1 + 1 + 1 + 1)
  catches_throwable : {n : List ℕ} {a : ℕ} → Sees K a sign.ParenOpen → SeesName K (a + 1) (codes "Throwable") → SeesName K (a + 1 + 1) n → Sees K (a + 1 + 1 + 1) sign.ParenClose → Catches K P Throwables (declared n (P (a + 1 + 1))) a (a + 1 + 1 + 1 + 1)

-- [ "," ] at the end of a list or map
pub data MayComma (K : Stream) : ℕ → ℕ → Type 0 where
  no_comma : {a : ℕ} → MayComma K a a
  comma_behind : {a : ℕ} → Sees K a sign.Comma → MayComma K a (a + 1)

mutual
  -- Expr and the ranks below it
  pub data IsExpr (K : Stream) (P : Places) : Rank → Expr → ℕ → ℕ → Type 0 where
    -- Expr = { Or ( "?" Or ":" | "?:" ) } Or
    whole : {cs : List Choice} {e : Expr} {a m b : ℕ} → Choices K P cs a m → IsExpr K P (rank_chain by_or) e m b → IsExpr K P rank_whole (chosen cs e) a b
    -- Or = And { "||" And }, And = Equal { "&&" Equal }
    chain : {l : Chain} {e : Expr} {es : List Expr} {a m b : ℕ} → IsExpr K P (within_chain l) e a m → ChainRest K P l es m b → IsExpr K P (rank_chain l) (chained l e es) a b
    -- Equal = Rel [ ("==" | "!=") Rel ], Rel = Range [ ("<" | "<=" | ">" | ">=") Range ], Range = Sum [ ".." Sum ]
    pair_alone : {l : Pair} {e : Expr} {a b : ℕ} → IsExpr K P (within_pair l) e a b → IsExpr K P (rank_pair l) e a b
    pair : {l : Pair} {s : Sign} {o : Operator} {e f : Expr} {a m b : ℕ} → IsExpr K P (within_pair l) e a m → Sees K m s → pair_operator l s ≡ Some o → IsExpr K P (within_pair l) f (m + 1) b → IsExpr K P (rank_pair l) (joined e (operand o f ∷ [])) a b
    -- Sum = Prod { ("+" | "-") Prod }, Prod = Unary { ("*" | "%") Unary }
    terms : {l : Terms} {e : Expr} {os : List Operand} {a m b : ℕ} → IsExpr K P (within_terms l) e a m → TermsRest K P l os m b → IsExpr K P (rank_terms l) (joined e os) a b
    -- Unary = { "!" | "-" | "+" } Primary { Suffix }
    unary : {ps : List Prefix} {e : Expr} {ss : List Suffix} {a m n b : ℕ} → Prefixes K ps a m → IsPrimary K P e m n → Suffixes K P ss n b → IsExpr K P rank_unary (prefixed ps (suffixed e ss)) a b

  -- { Or ( "?" Or ":" | "?:" ) }
  pub data Choices (K : Stream) (P : Places) : List Choice → ℕ → ℕ → Type 0 where
    choices_none : {a : ℕ} → Choices K P [] a a
    choices_true : {t v : Expr} {cs : List Choice} {a m n b : ℕ} → IsExpr K P (rank_chain by_or) t a m → Sees K m sign.Question → IsExpr K P (rank_chain by_or) v (m + 1) n → Sees K n sign.Colon → Choices K P cs (n + 1) b → Choices K P (IfTrue t v ∷ cs) a b
    choices_set : {v : Expr} {cs : List Choice} {a m b : ℕ} → IsExpr K P (rank_chain by_or) v a m → Sees K m sign.Elvis → Choices K P cs (m + 1) b → Choices K P (IfSet v ∷ cs) a b

  pub data ChainRest (K : Stream) (P : Places) : Chain → List Expr → ℕ → ℕ → Type 0 where
    chain_end : {l : Chain} {a : ℕ} → ChainRest K P l [] a a
    chain_more : {l : Chain} {e : Expr} {es : List Expr} {a m b : ℕ} → Sees K a (chain_sign l) → IsExpr K P (within_chain l) e (a + 1) m → ChainRest K P l es m b → ChainRest K P l (e ∷ es) a b

  pub data TermsRest (K : Stream) (P : Places) : Terms → List Operand → ℕ → ℕ → Type 0 where
    terms_end : {l : Terms} {a : ℕ} → TermsRest K P l [] a a
    terms_more : {l : Terms} {s : Sign} {o : Operator} {e : Expr} {os : List Operand} {a m b : ℕ} → Sees K a s → terms_operator l s ≡ Some o → IsExpr K P (within_terms l) e (a + 1) m → TermsRest K P l os m b → TermsRest K P l (operand o e ∷ os) a b

  -- Suffix = ("." | "?.") NAME [ Call ] | "[" Expr "]"
  pub data Suffixes (K : Stream) (P : Places) : List Suffix → ℕ → ℕ → Type 0 where
    suffixes_none : {a : ℕ} → Suffixes K P [] a a
    suffixes_property : {d : Access} {n : List ℕ} {ss : List Suffix} {a b : ℕ} → SeesDot K a d → SeesName K (a + 1) n → Suffixes K P ss (a + 1 + 1) b → Suffixes K P (Property d n ∷ ss) a b
    suffixes_method : {d : Access} {n : List ℕ} {args : Arguments} {ss : List Suffix} {a m b : ℕ} → SeesDot K a d → SeesName K (a + 1) n → IsCall K P args (a + 1 + 1) m → Suffixes K P ss m b → Suffixes K P (Method d n args ∷ ss) a b
    suffixes_index : {e : Expr} {ss : List Suffix} {a m b : ℕ} → Sees K a sign.BracketOpen → IsExpr K P rank_whole e (a + 1) m → Sees K m sign.BracketClose → Suffixes K P ss (m + 1) b → Suffixes K P (Index e ∷ ss) a b

  -- Call = "(" [ Args ] ")" [ Closure ] | Closure
  pub data IsCall (K : Stream) (P : Places) : Arguments → ℕ → ℕ → Type 0 where
    call_empty : {cs : List Expr} {a b : ℕ} → Sees K a sign.ParenOpen → Sees K (a + 1) sign.ParenClose → MayClose K P cs (a + 1 + 1) b → IsCall K P (record { named = []; ordered = cs }) a b
    call_some : {args : Arguments} {cs : List Expr} {a m b : ℕ} → Sees K a sign.ParenOpen → IsArguments K P args (a + 1) m → Sees K m sign.ParenClose → MayClose K P cs (m + 1) b → IsCall K P (with_closure args cs) a b
    call_closure : {e : Expr} {a b : ℕ} → IsClosure K P e a b → IsCall K P (record { named = []; ordered = e ∷ [] }) a b

  -- [ Closure ]
  pub data MayClose (K : Stream) (P : Places) : List Expr → ℕ → ℕ → Type 0 where
    no_closure : {a : ℕ} → MayClose K P [] a a
    closure_behind : {e : Expr} {a b : ℕ} → IsClosure K P e a b → MayClose K P (e ∷ []) a b

  -- Args = Named { "," Named } | Expr { "," Expr }
  pub data IsArguments (K : Stream) (P : Places) : Arguments → ℕ → ℕ → Type 0 where
    arguments_named : {es : List Entry} {a b : ℕ} → is_named (K a) (K (a + 1)) ≡ true → NamedList K P es a b → IsArguments K P (record { named = es; ordered = [] }) a b
    arguments_ordered : {es : List Expr} {a b : ℕ} → is_named (K a) (K (a + 1)) ≡ false → ExprList K P es a b → IsArguments K P (record { named = []; ordered = es }) a b

  -- Named = (NAME | TEXT) ":" Expr
  pub data IsNamed (K : Stream) (P : Places) : Entry → ℕ → ℕ → Type 0 where
    named_by_name : {n : List ℕ} {e : Expr} {a b : ℕ} → SeesName K a n → Sees K (a + 1) sign.Colon → IsExpr K P rank_whole e (a + 1 + 1) b → IsNamed K P (Named n e) a b
    named_by_text : {t : List ℕ} {e : Expr} {a b : ℕ} → K a ≡ Some (kind.Text t) → Sees K (a + 1) sign.Colon → IsExpr K P rank_whole e (a + 1 + 1) b → IsNamed K P (Named t e) a b

  pub data NamedList (K : Stream) (P : Places) : List Entry → ℕ → ℕ → Type 0 where
    named_last : {e : Entry} {a b : ℕ} → IsNamed K P e a b → NamedList K P (e ∷ []) a b
    named_more : {e : Entry} {es : List Entry} {a m b : ℕ} → IsNamed K P e a m → Sees K m sign.Comma → NamedList K P es (m + 1) b → NamedList K P (e ∷ es) a b

  -- Expr { "," Expr }
  pub data ExprList (K : Stream) (P : Places) : List Expr → ℕ → ℕ → Type 0 where
    exprs_last : {e : Expr} {a b : ℕ} → IsExpr K P rank_whole e a b → ExprList K P (e ∷ []) a b
    exprs_more : {e : Expr} {es : List Expr} {a m b : ℕ} → IsExpr K P rank_whole e a m → Sees K m sign.Comma → ExprList K P es (m + 1) b → ExprList K P (e ∷ es) a b

  -- Primary = INT | TEXT | GString | "true" | "false" | "null" | NAME [ Call ] | "(" Expr ")" | List | Map | Closure
  --         | "new" Class "(" [ Expr ] ")"
  pub data IsPrimary (K : Stream) (P : Places) : Expr → ℕ → ℕ → Type 0 where
    primary_number : {v : ℤ} {a : ℕ} → K a ≡ Some (kind.Int v) → IsPrimary K P (expr.Number v) a (a + 1)
    primary_text : {t : List ℕ} {a : ℕ} → K a ≡ Some (kind.Text t) → IsPrimary K P (expr.Literal t) a (a + 1)
    primary_gstring : {ps : List Part} {a b : ℕ} → IsGString K P ps a b → IsPrimary K P (expr.GString ps) a b
    primary_true : {a : ℕ} → SeesWord K a word.True → IsPrimary K P expr.True a (a + 1)
    primary_false : {a : ℕ} → SeesWord K a word.False → IsPrimary K P expr.False a (a + 1)
    primary_null : {a : ℕ} → SeesWord K a word.Null → IsPrimary K P expr.Null a (a + 1)
    primary_name : {n : List ℕ} {a : ℕ} → SeesName K a n → IsPrimary K P (expr.Variable n) a (a + 1)
    primary_call : {n : List ℕ} {args : Arguments} {a b : ℕ} → SeesName K a n → IsCall K P args (a + 1) b → IsPrimary K P (expr.Call n args) a b
    primary_group : {e : Expr} {a b : ℕ} → Sees K a sign.ParenOpen → IsExpr K P rank_whole e (a + 1) b → Sees K b sign.ParenClose → IsPrimary K P (expr.Group e) a (b + 1)
    -- List = "[" [ Expr { "," Expr } [ "," ] ] "]"
    primary_no_list : {a : ℕ} → Sees K a sign.BracketOpen → Sees K (a + 1) sign.BracketClose → IsPrimary K P (expr.List []) a (a + 1 + 1)
    primary_list : {es : List Expr} {a m b : ℕ} → Sees K a sign.BracketOpen → ExprList K P es (a + 1) m → MayComma K m b → Sees K b sign.BracketClose → IsPrimary K P (expr.List es) a (b + 1)
    -- Map = "[" ":" "]" | "[" Entry { "," Entry } [ "," ] "]"
    primary_no_map : {a : ℕ} → Sees K a sign.BracketOpen → Sees K (a + 1) sign.Colon → Sees K (a + 1 + 1) sign.BracketClose → IsPrimary K P (expr.Map []) a (a + 1 + 1 + 1)
    primary_map : {es : List Entry} {a m b : ℕ} → Sees K a sign.BracketOpen → EntryList K P es (a + 1) m → MayComma K m b → Sees K b sign.BracketClose → IsPrimary K P (expr.Map es) a (b + 1)
    primary_closure : {e : Expr} {a b : ℕ} → IsClosure K P e a b → IsPrimary K P e a b
    primary_new : {c : NewClass} {a : ℕ} → SeesWord K a word.New → SeesName K (a + 1) (class_text c) → Sees K (a + 1 + 1) sign.ParenOpen → Sees K (a + 1 + 1 + 1) sign.ParenClose → IsPrimary K P (expr.New c None) a (a + 1 + 1 + 1 + 1)
    primary_new_with : {c : NewClass} {e : Expr} {a b : ℕ} → SeesWord K a word.New → SeesName K (a + 1) (class_text c) → Sees K (a + 1 + 1) sign.ParenOpen → IsExpr K P rank_whole e (a + 1 + 1 + 1) b → Sees K b sign.ParenClose → IsPrimary K P (expr.New c (Some e)) a (b + 1)

  -- GString = OPEN { PART | "${" Expr "}" | "$" NAME { "." NAME } } CLOSE
  pub data IsGString (K : Stream) (P : Places) : List Part → ℕ → ℕ → Type 0 where
    gstring : {ps : List Part} {a b : ℕ} → K a ≡ Some kind.GStringOpen → Parts K P ps (a + 1) b → K b ≡ Some kind.GStringClose → IsGString K P ps a (b + 1)

  pub data Parts (K : Stream) (P : Places) : List Part → ℕ → ℕ → Type 0 where
    parts_none : {a : ℕ} → Parts K P [] a a
    parts_plain : {t : List ℕ} {ps : List Part} {a b : ℕ} → K a ≡ Some (kind.GStringPart t) → Parts K P ps (a + 1) b → Parts K P (Plain t ∷ ps) a b
    parts_braces : {e : Expr} {ps : List Part} {a m b : ℕ} → K a ≡ Some kind.ExpressionOpen → IsExpr K P rank_whole e (a + 1) m → Sees K m sign.BraceClose → Parts K P ps (m + 1) b → Parts K P (Inner e ∷ ps) a b
    parts_path : {n : List ℕ} {ss : List Suffix} {ps : List Part} {a m b : ℕ} → K a ≡ Some kind.PathOpen → SeesName K (a + 1) n → Dotted K ss (a + 1 + 1) m → Parts K P ps m b → Parts K P (Inner (suffixed (expr.Variable n) ss) ∷ ps) a b

  -- Entry = (NAME | TEXT | INT | GString | "(" Expr ")") ":" Expr
  pub data IsEntry (K : Stream) (P : Places) : Entry → ℕ → ℕ → Type 0 where
    entry_named : {e : Entry} {a b : ℕ} → IsNamed K P e a b → IsEntry K P e a b
    entry_number : {v : ℤ} {e : Expr} {a b : ℕ} → K a ≡ Some (kind.Int v) → Sees K (a + 1) sign.Colon → IsExpr K P rank_whole e (a + 1 + 1) b → IsEntry K P (Numbered v e) a b
    entry_gstring : {ps : List Part} {e : Expr} {a m b : ℕ} → IsGString K P ps a m → Sees K m sign.Colon → IsExpr K P rank_whole e (m + 1) b → IsEntry K P (Computed (expr.GString ps) e) a b
    entry_group : {k e : Expr} {a m b : ℕ} → Sees K a sign.ParenOpen → IsExpr K P rank_whole k (a + 1) m → Sees K m sign.ParenClose → Sees K (m + 1) sign.Colon → IsExpr K P rank_whole e (m + 1 + 1) b → IsEntry K P (Computed k e) a b

  pub data EntryList (K : Stream) (P : Places) : List Entry → ℕ → ℕ → Type 0 where
    entries_last : {e : Entry} {a b : ℕ} → IsEntry K P e a b → EntryList K P (e ∷ []) a b
    entries_more : {e : Entry} {es : List Entry} {a m b : ℕ} → IsEntry K P e a m → Sees K m sign.Comma → EntryList K P es (m + 1) b → EntryList K P (e ∷ es) a b

  -- Closure = "{" [ Heads ] Stmts "}"
  pub data IsClosure (K : Stream) (P : Places) : Expr → ℕ → ℕ → Type 0 where
    closure_headed : {ds : List Declared} {ss : List Stmt} {a m b : ℕ} → Sees K a sign.BraceOpen → has_heads (K (a + 1)) (K (a + 1 + 1)) (K (a + 1 + 1 + 1)) ≡ true → Heads K P ds (a + 1) m → IsStmts K P ss m b → Sees K b sign.BraceClose → IsClosure K P (expr.Closure (Some ds) ss) a (b + 1)
    closure_plain : {ss : List Stmt} {a b : ℕ} → Sees K a sign.BraceOpen → has_heads (K (a + 1)) (K (a + 1 + 1)) (K (a + 1 + 1 + 1)) ≡ false → IsStmts K P ss (a + 1) b → Sees K b sign.BraceClose → IsClosure K P (expr.Closure None ss) a (b + 1)

  -- Whole = NAME Args | Expr
  pub data IsWhole (K : Stream) (P : Places) : Expr → ℕ → ℕ → Type 0 where
    whole_call : {n : List ℕ} {args : Arguments} {a b : ℕ} → is_call (K a) (K (a + 1)) (K (a + 1 + 1)) ≡ true → SeesName K a n → IsArguments K P args (a + 1) b → IsWhole K P (expr.Call n args) a b
    whole_expr : {e : Expr} {a b : ℕ} → is_call (K a) (K (a + 1)) (K (a + 1 + 1)) ≡ false → IsExpr K P rank_whole e a b → IsWhole K P e a b

  -- Target: a NAME, or a Primary with suffixes of which the last is "." NAME without a call, or an index
  pub data IsTarget (K : Stream) (P : Places) : Target → ℕ → ℕ → Type 0 where
    target_name : {n : List ℕ} {a : ℕ} → SeesName K a n → IsTarget K P (ToName n) a (a + 1)
    target_property : {e : Expr} {ss : List Suffix} {n : List ℕ} {a m b : ℕ} → IsPrimary K P e a m → Suffixes K P ss m b → Sees K b sign.Dot → SeesName K (b + 1) n → IsTarget K P (ToProperty (suffixed e ss) n) a (b + 1 + 1)
    target_index : {e i : Expr} {ss : List Suffix} {a m n b : ℕ} → IsPrimary K P e a m → Suffixes K P ss m n → Sees K n sign.BracketOpen → IsExpr K P rank_whole i (n + 1) b → Sees K b sign.BracketClose → IsTarget K P (ToIndex (suffixed e ss) i) a (b + 1)

  -- Assign = Target ( ("=" | "+=" | "-=" | "*=" | "%=") Whole | "++" | "--" )
  pub data IsAssign (K : Stream) (P : Places) : Assignment → ℕ → ℕ → Type 0 where
    assign_value : {t : Target} {s : Sign} {o : AssignSign} {e : Expr} {a m b : ℕ} → IsTarget K P t a m → Sees K m s → assign_sign s ≡ Some o → IsWhole K P e (m + 1) b → IsAssign K P (assignment.Write t o e) a b
    assign_up : {t : Target} {a b : ℕ} → IsTarget K P t a b → Sees K b sign.Increment → IsAssign K P (assignment.Increment t) a (b + 1)
    assign_down : {t : Target} {a b : ℕ} → IsTarget K P t a b → Sees K b sign.Decrement → IsAssign K P (assignment.Decrement t) a (b + 1)

  -- Simple = "def" NAME [ "=" Whole ] | NAME NAME "=" Whole | Assign | Whole | "return" [ Whole ] | "break" | "continue"
  --        | "throw" Expr; a statement does not begin with "{"
  pub data IsSimple (K : Stream) (P : Places) : Stmt → ℕ → ℕ → Type 0 where
    simple_def : {n : List ℕ} {a : ℕ} → SeesWord K a word.Def → SeesName K (a + 1) n → IsSimple K P (stmt.Declare (declared n (P (a + 1))) None) a (a + 1 + 1)
    simple_declare : {n : List ℕ} {e : Expr} {a b : ℕ} → SeesType K a → SeesName K (a + 1) n → Sees K (a + 1 + 1) sign.Assign → IsWhole K P e (a + 1 + 1 + 1) b → IsSimple K P (stmt.Declare (declared n (P (a + 1))) (Some e)) a b
    simple_assign : {u : Assignment} {a b : ℕ} → (Sees K a sign.BraceOpen → ⊥) → IsAssign K P u a b → IsSimple K P (stmt.Assign u) a b
    simple_evaluate : {e : Expr} {a b : ℕ} → (Sees K a sign.BraceOpen → ⊥) → IsWhole K P e a b → IsSimple K P (stmt.Evaluate e) a b
    simple_return : {a : ℕ} → SeesWord K a word.Return → IsSimple K P (stmt.Return None) a (a + 1)
    simple_return_value : {e : Expr} {a b : ℕ} → SeesWord K a word.Return → IsWhole K P e (a + 1) b → IsSimple K P (stmt.Return (Some e)) a b
    simple_break : {a : ℕ} → SeesWord K a word.Break → IsSimple K P (stmt.Break (P a)) a (a + 1)
    simple_continue : {a : ℕ} → SeesWord K a word.Continue → IsSimple K P (stmt.Continue (P a)) a (a + 1)
    simple_throw : {e : Expr} {a b : ℕ} → SeesWord K a word.Throw → IsExpr K P rank_whole e (a + 1) b → IsSimple K P (stmt.Throw e) a b

  -- Stmt = If | While | For | Try | Simple
  pub data IsStmt (K : Stream) (P : Places) : Stmt → ℕ → ℕ → Type 0 where
    -- If = "if" "(" Expr ")" [ NL ] Body { "else" "if" "(" Expr ")" [ NL ] Body } [ "else" [ NL ] Body ]
    stmt_if : {t : Arm} {ts : List Arm} {o : Option (List Stmt)} {a m n b : ℕ} → IsArm K P t a m → ElseIfs K P ts m n → MayElse K P o n b → IsStmt K P (stmt.If (t ∷ ts) o) a b
    -- While = "while" "(" Expr ")" [ NL ] Body
    stmt_while : {e : Expr} {ss : List Stmt} {a m n b : ℕ} → SeesWord K a word.While → Sees K (a + 1) sign.ParenOpen → IsExpr K P rank_whole e (a + 1 + 1) m → Sees K m sign.ParenClose → MayBreak K (m + 1) n → IsBody K P ss n b → IsStmt K P (stmt.While e ss) a b
    -- For = "for" "(" ( Each | Init ";" Expr ";" Assign ) ")" [ NL ] Body
    stmt_for_each : {d : Declared} {e : Expr} {ss : List Stmt} {a m n b : ℕ} → SeesWord K a word.For → Sees K (a + 1) sign.ParenOpen → IsEach K P d e (a + 1 + 1) m → Sees K m sign.ParenClose → MayBreak K (m + 1) n → IsBody K P ss n b → IsStmt K P (stmt.ForEach d e ss) a b
    stmt_for_steps : {i : Init} {u : Assignment} {e : Expr} {ss : List Stmt} {a k l m n b : ℕ} → SeesWord K a word.For → Sees K (a + 1) sign.ParenOpen → IsInit K P i (a + 1 + 1) k → Sees K k sign.Semicolon → IsExpr K P rank_whole e (k + 1) l → Sees K l sign.Semicolon → IsAssign K P u (l + 1) m → Sees K m sign.ParenClose → MayBreak K (m + 1) n → IsBody K P ss n b → IsStmt K P (for_steps i e u ss) a b
    -- Try = "try" [ NL ] Block ( Catch { Catch } [ Finally ] | Finally )
    stmt_try_catch : {ss : List Stmt} {c : Catch} {cs : List Catch} {o : Option (List Stmt)} {a k l m n b : ℕ} → SeesWord K a word.Try → MayBreak K (a + 1) k → IsBlock K P ss k l → IsCatch K P c l m → CatchList K P cs m n → MayFinally K P o n b → IsStmt K P (stmt.Try ss (c ∷ cs) o) a b
    stmt_try_finally : {ss ts : List Stmt} {a k l b : ℕ} → SeesWord K a word.Try → MayBreak K (a + 1) k → IsBlock K P ss k l → IsFinally K P ts l b → IsStmt K P (stmt.Try ss [] (Some ts)) a b
    stmt_simple : {s : Stmt} {a b : ℕ} → IsSimple K P s a b → IsStmt K P s a b

  -- "if" "(" Expr ")" [ NL ] Body
  pub data IsArm (K : Stream) (P : Places) : Arm → ℕ → ℕ → Type 0 where
    arm : {e : Expr} {ss : List Stmt} {a m n b : ℕ} → SeesWord K a word.If → Sees K (a + 1) sign.ParenOpen → IsExpr K P rank_whole e (a + 1 + 1) m → Sees K m sign.ParenClose → MayBreak K (m + 1) n → IsBody K P ss n b → IsArm K P (record { test = e; body = ss }) a b

  -- { "else" "if" "(" Expr ")" [ NL ] Body }
  pub data ElseIfs (K : Stream) (P : Places) : List Arm → ℕ → ℕ → Type 0 where
    no_else_if : {a : ℕ} → ElseIfs K P [] a a
    else_if : {t : Arm} {ts : List Arm} {a m b : ℕ} → SeesWord K a word.Else → IsArm K P t (a + 1) m → ElseIfs K P ts m b → ElseIfs K P (t ∷ ts) a b

  -- [ "else" [ NL ] Body ]
  pub data MayElse (K : Stream) (P : Places) : Option (List Stmt) → ℕ → ℕ → Type 0 where
    no_else : {a : ℕ} → MayElse K P None a a
    else_body : {ss : List Stmt} {a m b : ℕ} → SeesWord K a word.Else → MayBreak K (a + 1) m → IsBody K P ss m b → MayElse K P (Some ss) a b

  -- Each = [ "def" | NAME ] NAME "in" Expr | ("def" | NAME) NAME ":" Expr
  pub data IsEach (K : Stream) (P : Places) : Declared → Expr → ℕ → ℕ → Type 0 where
    each_plain : {n : List ℕ} {e : Expr} {a b : ℕ} → SeesName K a n → SeesWord K (a + 1) word.In → IsExpr K P rank_whole e (a + 1 + 1) b → IsEach K P (declared n (P a)) e a b
    each_typed : {n : List ℕ} {e : Expr} {a b : ℕ} → SeesType K a → SeesName K (a + 1) n → SeesWord K (a + 1 + 1) word.In ⊎ Sees K (a + 1 + 1) sign.Colon → IsExpr K P rank_whole e (a + 1 + 1 + 1) b → IsEach K P (declared n (P (a + 1))) e a b

  -- Init = ("def" | NAME) NAME "=" Whole | Assign
  pub data IsInit (K : Stream) (P : Places) : Init → ℕ → ℕ → Type 0 where
    init_declare : {n : List ℕ} {e : Expr} {a b : ℕ} → SeesType K a → SeesName K (a + 1) n → Sees K (a + 1 + 1) sign.Assign → IsWhole K P e (a + 1 + 1 + 1) b → IsInit K P (init.Declare (declared n (P (a + 1))) e) a b
    init_assign : {u : Assignment} {a b : ℕ} → IsAssign K P u a b → IsInit K P (init.Assign u) a b

  -- Catch = "catch" "(" [ "Exception" | "Throwable" ] NAME ")" [ NL ] Block
  pub data IsCatch (K : Stream) (P : Places) : Catch → ℕ → ℕ → Type 0 where
    catch : {c : Caught} {d : Declared} {ss : List Stmt} {a m n b : ℕ} → SeesWord K a word.Catch → Catches K P c d (a + 1) m → MayBreak K m n → IsBlock K P ss n b → IsCatch K P (record { caught = c; name = d; body = ss }) a b

  pub data CatchList (K : Stream) (P : Places) : List Catch → ℕ → ℕ → Type 0 where
    no_catch : {a : ℕ} → CatchList K P [] a a
    catch_more : {c : Catch} {cs : List Catch} {a m b : ℕ} → IsCatch K P c a m → CatchList K P cs m b → CatchList K P (c ∷ cs) a b

  -- Finally = "finally" [ NL ] Block
  pub data IsFinally (K : Stream) (P : Places) : List Stmt → ℕ → ℕ → Type 0 where
    finally : {ss : List Stmt} {a m b : ℕ} → SeesWord K a word.Finally → MayBreak K (a + 1) m → IsBlock K P ss m b → IsFinally K P ss a b

  pub data MayFinally (K : Stream) (P : Places) : Option (List Stmt) → ℕ → ℕ → Type 0 where
    no_finally : {a : ℕ} → MayFinally K P None a a
    finally_behind : {ss : List Stmt} {a b : ℕ} → IsFinally K P ss a b → MayFinally K P (Some ss) a b

  -- Body = Block | Simple, which is read as a block that holds it alone
  pub data IsBody (K : Stream) (P : Places) : List Stmt → ℕ → ℕ → Type 0 where
    body_block : {ss : List Stmt} {a b : ℕ} → IsBlock K P ss a b → IsBody K P ss a b
    body_simple : {s : Stmt} {a b : ℕ} → IsSimple K P s a b → IsBody K P (s ∷ []) a b

  -- Block = "{" Stmts "}"
  pub data IsBlock (K : Stream) (P : Places) : List Stmt → ℕ → ℕ → Type 0 where
    block : {ss : List Stmt} {a b : ℕ} → Sees K a sign.BraceOpen → IsStmts K P ss (a + 1) b → Sees K b sign.BraceClose → IsBlock K P ss a (b + 1)

  -- Stmts = [ Seps ] [ Stmt { Seps Stmt } ] [ Seps ]
  pub data IsStmts (K : Stream) (P : Places) : List Stmt → ℕ → ℕ → Type 0 where
    stmts_none : {a b : ℕ} → MaySeparate K a b → IsStmts K P [] a b
    stmts_some : {s : Stmt} {ss : List Stmt} {a m n b : ℕ} → MaySeparate K a m → IsStmt K P s m n → StmtsRest K P ss n b → IsStmts K P (s ∷ ss) a b

  pub data StmtsRest (K : Stream) (P : Places) : List Stmt → ℕ → ℕ → Type 0 where
    stmts_end : {a b : ℕ} → MaySeparate K a b → StmtsRest K P [] a b
    stmts_more : {s : Stmt} {ss : List Stmt} {a m n b : ℕ} → Separates K a m → IsStmt K P s m n → StmtsRest K P ss n b → StmtsRest K P (s ∷ ss) a b
