-- Where a text is no label: the tokens before its fault begin some label, and with the next token, or as the text ends there,
-- they begin none (this product's own).
use Rattle.std.specs.Prelude.{◌≡◌, ℕ, List, [], ◌∷◌, ◌++◌, length}
use Rattle.label_expr.specs.declared.refusal.LabelRefusal.{LabelRefusal}
use Rattle.label_expr.specs.declared.refusal.LabelRefusal.TheVariants.{Memory, Fault}
use Rattle.model_run.specs.LabelTokens.{Spot, spots_of}
use Rattle.model_run.specs.Labels.{Formula, Read, level_within, place_of}

-- tokens that are a label, whatever their places
abbrev pub AreLabel : List Spot → Type 0
AreLabel spots = (f : Formula) × (level_within 64 (length spots) spots ≡ Read f [])

-- tokens with which some label begins
abbrev pub BeginLabel : List Spot → Type 0
BeginLabel spots = (more : List Spot) × AreLabel (spots ++ more)

-- with the next token they begin none, and where there is no next one they are none
abbrev pub FailsWith : List Spot → List Spot → Type 0
FailsWith before [] = AreLabel before → ⊥
FailsWith before (s ∷ rest) = BeginLabel (before ++ s ∷ []) → ⊥

-- the token at this place is the first bad one: `before` are the tokens before it, `rest` it and those behind it
pub record IsFirstBad (text : List ℕ) (at : ℕ) : Type 0 where
  pub before : List Spot
  pub rest : List Spot
  pub tokens : spots_of text ≡ before ++ rest
  pub place : at ≡ place_of (length text) rest
  pub begins : BeginLabel before
  pub fails : FailsWith before rest

-- a refusal tells the first bad token, or that the memory was refused
abbrev pub TellsFirstBad : List ℕ → LabelRefusal → Type 0
TellsFirstBad text Memory = Unit {0}
TellsFirstBad text (Fault at) = IsFirstBad text at
