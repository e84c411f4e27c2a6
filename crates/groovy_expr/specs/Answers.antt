-- What a function answers that reads a rule of the grammar from a place on.
use Rattle.std.specs.Prelude.{◌≡◌, ◌≢◌, None, ℕ, ◌+◌, ◌<◌, ◌≤◌, Bool, true, Option, Some, List, [], ◌∷◌, Result, Ok, Err}
use Rattle.model_syntax.specs.declared.token.TokenKind.{TokenKind}
use Rattle.model_syntax.specs.declared.token.Token.{Token}
use Rattle.model_syntax.specs.Stream.{Stream, kind_at, kinds_of}
use Rattle.groovy_expr.specs.declared.refusal.Refusal.{Refusal}
use Rattle.groovy_expr.specs.declared.refusal.Refusal.TheVariants.{Memory, Fault}

-- A rule of the grammar: which trees these tokens spell, from one place up to another.
abbrev pub Rule : Type 0 → Type 1
Rule A = Stream → A → ℕ → ℕ → Type 0

-- What may follow a rule where it is used.
abbrev pub Stops : Type 0
Stops = Option TokenKind → Bool

-- What stands at each place of these tokens.
abbrev pub kinds : List Token → Stream
kinds ts = kind_at (kinds_of ts)

-- J goes as K up to the place n and at it.
abbrev pub Agrees : ℕ → Stream → Stream → Type 0
Agrees n J K = (k : ℕ) → k ≤ n → J k ≡ K k

-- J goes as K before the place n.
abbrev pub Before : ℕ → Stream → Stream → Type 0
Before n J K = (k : ℕ) → k < n → J k ≡ K k

-- These tokens stand in J from i up to e.
abbrev pub Stands : Stream → ℕ → List TokenKind → ℕ → Type 0
Stands J i [] e = e ≡ i
Stands J i (t ∷ ts) e = (J i ≡ Some t) × Stands J (i + 1) ts e

-- At each place from a up to b stands a token.
abbrev pub Inside : Stream → ℕ → ℕ → Type 0
Inside K a b = (k : ℕ) → a ≤ k → k < b → K k ≢ None

-- From at up to n stands x: in every text that goes as K before n, where what follows may follow; and no text that goes
-- as K through n has another tree there, or one that ends elsewhere, where what follows may follow.
pub record Exact {A : Type 0} (R : Rule A) (stops : Stops) (K : Stream) (at : ℕ) (x : A) (n : ℕ) : Type 0 where
  pub after : at ≤ n
  pub inside : Inside K at n
  pub spelled : (J : Stream) → Before n J K → stops (J n) ≡ true → R J x at n
  pub only : (J : Stream) (y : A) (b : ℕ) → Agrees n J K → R J y at b → stops (J b) ≡ true → (y ≡ x) × (b ≡ n)

-- The tokens before the place i can go on: with these behind them they spell a tree.
pub record Viable {A : Type 0} (R : Rule A) (stops : Stops) (K : Stream) (at i : ℕ) : Type 0 where
  pub closing : List TokenKind
  pub closes : (J : Stream) (e : ℕ) → Before i J K → Stands J i closing e → stops (J e) ≡ true → (y : A) × R J y at e

-- No text that goes as K through i has a tree from at on, where what follows may follow; but one that goes as K before
-- i has.
pub record Refused {A : Type 0} (R : Rule A) (stops : Stops) (K : Stream) (at i : ℕ) : Type 0 where
  pub from : at ≤ i
  pub inside : Inside K at i
  pub never : (J : Stream) (y : A) (b : ℕ) → Agrees i J K → R J y at b → stops (J b) ≡ true → ⊥
  pub viable : Viable R stops K at i

-- A refusal is for want of memory, or at the first token with which the rule does not go on.
abbrev pub Fails : {A : Type 0} (R : Rule A) (stops : Stops) (K : Stream) (at : ℕ) → Refusal → Type 0
Fails R stops K at Memory = Unit {0}
Fails R stops K at (Fault i) = Refused R stops K at i

-- The tree and the place behind it, or a refusal.
abbrev pub Reads : {A : Type 0} (R : Rule A) (stops : Stops) (K : Stream) (at : ℕ) → Result (A × ℕ) Refusal → Type 0
Reads R stops K at (Ok found) = Exact R stops K at found.0 found.1
Reads R stops K at (Err e) = Fails R stops K at e
