-- What reading a label says: the tokens, the condition behind some of them, and the fault (this product's own).
use Rattle.std.specs.Prelude.{◌≡◌, ℕ, ◌+◌, zero, suc, Bool, false, ◌&&◌, codes, ◌≤◌, nat_eq, not, if◌then◌else◌, List, [], ◌∷◌, map, length, Option, Some, Result, Ok, Err}
use denote.Bor.{Bor}
use Rattle.std.specs.List.{prefix_len}
use Rattle.label_expr.specs.declared.condition.Condition.{Condition}
use Rattle.label_expr.specs.declared.condition.LabelExpr.{LabelExpr}
use Rattle.label_expr.specs.declared.condition.LabelExpr.TheVariants.{Any, Where}
use Rattle.label_expr.specs.declared.refusal.LabelRefusal.{LabelRefusal}
use Rattle.label_expr.specs.declared.refusal.LabelRefusal.TheVariants.{Memory, Fault}
use Rattle.label_expr.specs.declared.token.Sign.{Sign}
use Rattle.label_expr.specs.declared.token.Sign.TheVariants as sign
use Rattle.label_expr.specs.declared.token.Token.{Token}
use Rattle.label_expr.specs.declared.token.Token.TheVariants as token
use Rattle.label_expr.specs.declared.token.Spot.{Spot}
use Rattle.model_run.specs.LabelTokens as tokens
use Rattle.model_run.specs.Labels.{Reading, Read, Stops, Expression, Says, FaultAt, closed, level_within, place_of}
use Rattle.label_expr.specs.Conditions.{formula}

-- the tokens, by the names of the definitions
abbrev pub sign_of : Sign → tokens.Token
sign_of sign.Not = tokens.NotSign
sign_of sign.And = tokens.AndSign
sign_of sign.Or = tokens.OrSign
sign_of sign.Implies = tokens.ImpliesSign
sign_of sign.Iff = tokens.IffSign
sign_of sign.Open = tokens.OpenParen
sign_of sign.Close = tokens.CloseParen
sign_of sign.Blank = tokens.Blank
sign_of sign.Unknown = tokens.Unknown

-- a token, by the names of the definitions
abbrev pub token_of : Token → tokens.Token
token_of (token.Name name) = tokens.Name name
token_of (token.Sign sign) = sign_of sign

-- the token read is this one, and its length is from 1 to `most`
abbrev pub IsToken : tokens.Token × ℕ → ℕ → Token × ℕ → Type 0
IsToken is most read = (is ≡ (token_of read.0, read.1)) × (1 ≤ read.1) × (read.1 ≤ most)

-- the token at the front of bytes that begin with no sign
abbrev pub no_sign : List ℕ → tokens.Token × ℕ
no_sign [] = (tokens.Unknown, 1)
no_sign (b ∷ bs) =
    if nat_eq b 34 then tokens.quoted (prefix_len (λ c. not (nat_eq c 34)) bs) bs
    else tokens.named (tokens.name_length (b ∷ bs)) (b ∷ bs)

-- whether a name that has begun goes on with these bytes
abbrev pub goes_on : List ℕ → Bool
goes_on [] = false
goes_on (b ∷ bs) = tokens.is_name_byte b && not (tokens.begins_with (b ∷ bs) (codes "->"))

-- a token and its place, by the names of the definitions
abbrev pub spot_of : Spot → tokens.Spot
spot_of s = tokens.spot (token_of s.token) s.at

-- the tokens that the grammar reads
abbrev pub seen : List Spot → List tokens.Spot
seen spots = map spot_of spots

-- tokens that begin with this one
abbrev pub BeginsWith : tokens.Token → List tokens.Spot → Type 0
BeginsWith t [] = ⊥
BeginsWith t (tokens.spot first at ∷ rest) = first ≡ t

-- `rest` are the tokens behind the first, which is this sign
abbrev pub IsBehind : Sign → List Spot → List Spot → Type 0
IsBehind sign spots rest = (at : ℕ) × (seen spots ≡ tokens.spot (sign_of sign) at ∷ seen rest) × (length rest + 1 ≡ length spots)

-- tokens that begin with a name
abbrev pub BeginsWithName : List tokens.Spot → Type 0
BeginsWithName [] = ⊥
BeginsWithName (tokens.spot first at ∷ rest) = (name : List ℕ) × (first ≡ tokens.Name name)

-- `rest` are the tokens behind the first, which is this name
abbrev pub IsBehindName : List ℕ → List Spot → List Spot → Type 0
IsBehindName name spots rest = (at : ℕ) × (seen spots ≡ tokens.spot (tokens.Name name) at ∷ seen rest) × (length rest + 1 ≡ length spots)

-- what an opening parenthesis begins, with so many left that may open
abbrev pub inside : ℕ → ℕ → List tokens.Spot → List tokens.Spot → Reading
inside zero n here behind = Stops here
inside (suc left) n here behind = closed (level_within left n behind)

-- a reading that stops at this place, in a text of this length
abbrev pub IsFaultAt : ℕ → ℕ → Reading → Type 0
IsFaultAt size at (Read f rest) = ⊥
IsFaultAt size at (Stops rest) = at ≡ place_of size rest

-- why a reading has no condition
abbrev pub IsStopped : ℕ → Reading → LabelRefusal → Type 0
IsStopped size reading Memory = Unit {0}
IsStopped size reading (Fault at) = IsFaultAt size at reading

-- what a rule of the grammar answers: the condition and the tokens behind it, or why there is none
abbrev pub Reads : ℕ → Reading → Result (Condition × Bor (List Spot)) LabelRefusal → Type 0
Reads size reading (Ok read) = reading ≡ Read (formula read.0) (seen read.1.now)
Reads size reading (Err refusal) = IsStopped size reading refusal

-- why a text has none
abbrev pub IsRefusal : Expression → LabelRefusal → Type 0
IsRefusal said Memory = Unit {0}
IsRefusal said (Fault at) = said ≡ FaultAt at

-- what a text says
abbrev pub IsSaid : Expression → LabelExpr → Type 0
IsSaid said Any = ⊥
IsSaid said (Where condition) = said ≡ Says (formula condition)

-- why the label of a `node` step is not read: it has this fault, or the memory was refused
abbrev pub IsFault : Option ℕ → LabelRefusal → Type 0
IsFault fault Memory = Unit {0}
IsFault fault (Fault at) = fault ≡ Some at
