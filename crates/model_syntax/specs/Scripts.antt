-- Whole scripts: functions stand at the top level only.
use Rattle.std.specs.Prelude.{ℕ, ◌+◌, List, [], ◌∷◌, length}
use Rattle.model_syntax.specs.declared.place.Declared.{Declared}
use Rattle.model_syntax.specs.declared.sign.Sign.TheVariants as sign
use Rattle.model_syntax.specs.declared.word.Word.TheVariants as word
use Rattle.model_syntax.specs.declared.token.TokenKind.{TokenKind}
use Rattle.model_syntax.specs.declared.tree.Stmt.{Stmt}
use Rattle.model_syntax.specs.declared.tree.Function.{Function}
use Rattle.model_syntax.specs.declared.tree.Top.{Top}
use Rattle.model_syntax.specs.declared.tree.Top.TheVariants as top
use Rattle.model_syntax.specs.declared.tree.Tree.{Tree}
use Rattle.model_syntax.specs.Stream.{Stream, Places, Sees, SeesWord, SeesName, declared, kind_at}
use Rattle.model_syntax.specs.Grammar.{MayBreak, MaySeparate, Separates, SeesType, IsBlock, IsStmt}

-- Param = [ "def" | NAME ] NAME
pub data IsParameter (K : Stream) (P : Places) : Declared → ℕ → ℕ → Type 0 where
  parameter_plain : {n : List ℕ} {a : ℕ} → SeesName K a n → IsParameter K P (declared n (P a)) a (a + 1)
  parameter_typed : {n : List ℕ} {a : ℕ} → SeesType K a → SeesName K (a + 1) n → IsParameter K P (declared n (P (a + 1))) a (a + 1 + 1)

-- Param { "," Param }
pub data ParameterList (K : Stream) (P : Places) : List Declared → ℕ → ℕ → Type 0 where
  parameters_last : {d : Declared} {a b : ℕ} → IsParameter K P d a b → ParameterList K P (d ∷ []) a b
  parameters_more : {d : Declared} {ds : List Declared} {a m b : ℕ} → IsParameter K P d a m → Sees K m sign.Comma → ParameterList K P ds (m + 1) b → ParameterList K P (d ∷ ds) a b

-- [ Param { "," Param } ]
pub data Parameters (K : Stream) (P : Places) : List Declared → ℕ → ℕ → Type 0 where
  no_parameters : {a : ℕ} → Parameters K P [] a a
  some_parameters : {ds : List Declared} {a b : ℕ} → ParameterList K P ds a b → Parameters K P ds a b

-- "def" | "void"
pub data SeesResult (K : Stream) (a : ℕ) : Type 0 where
  result_def : SeesWord K a word.Def → SeesResult K a
  result_void : SeesWord K a word.Void → SeesResult K a

-- Function = ("def" | "void") NAME "(" [ Param { "," Param } ] ")" [ NL ] Block
pub data IsFunction (K : Stream) (P : Places) : Function → ℕ → ℕ → Type 0 where
  function : {n : List ℕ} {ds : List Declared} {ss : List Stmt} {a m l b : ℕ} → SeesResult K a → SeesName K (a + 1) n → Sees K (a + 1 + 1) sign.ParenOpen → Parameters K P ds (a + 1 + 1 + 1) m → Sees K m sign.ParenClose → MayBreak K (m + 1) l → IsBlock K P ss l b → IsFunction K P (record { place = P a; name = declared n (P (a + 1)); parameters = ds; body = ss }) a b

-- Top = Function | Stmt
pub data IsTop (K : Stream) (P : Places) : Top → ℕ → ℕ → Type 0 where
  top_function : {f : Function} {a b : ℕ} → IsFunction K P f a b → IsTop K P (top.Function f) a b
  top_statement : {s : Stmt} {a b : ℕ} → IsStmt K P s a b → IsTop K P (top.Statement (P a) s) a b

-- { Seps Top } [ Seps ]
pub data TopsRest (K : Stream) (P : Places) : List Top → ℕ → ℕ → Type 0 where
  tops_end : {a b : ℕ} → MaySeparate K a b → TopsRest K P [] a b
  tops_more : {t : Top} {ts : List Top} {a m n b : ℕ} → Separates K a m → IsTop K P t m n → TopsRest K P ts n b → TopsRest K P (t ∷ ts) a b

-- [ NL ] [ Top { Seps Top } ] [ Seps ]
pub data Tops (K : Stream) (P : Places) : List Top → ℕ → ℕ → Type 0 where
  tops_none : {a m b : ℕ} → MayBreak K a m → MaySeparate K m b → Tops K P [] a b
  tops_some : {t : Top} {ts : List Top} {a m n b : ℕ} → MayBreak K a m → IsTop K P t m n → TopsRest K P ts n b → Tops K P (t ∷ ts) a b

-- Script = [ NL ] [ Top { Seps Top } ] [ Seps ] END: all of these tokens spell the tree.
abbrev pub IsScript : List TokenKind → Places → Tree → Type 0
IsScript ks P tree = Tops (kind_at ks) P tree.tops 0 (length ks)
