-- What each rule of the grammar says of the tokens that it goes over.
use Rattle.std.proofs.Common.{◌≡◌, ℕ, zero, suc, ◌+◌, ◌-◌, ◌<◌, Bool, true, false, List, [], ◌∷◌, ◌++◌, length, map, refl, sym, ap, ◌∙◌, subst, arith, add-one, Result, Bor, ◌≢◌}
use Rattle.std.specs.Prelude.{MatchBool}
use Rattle.label_expr.specs.declared.token.Sign.{Sign}
use Rattle.label_expr.specs.declared.token.Sign.TheVariants as sign
use Rattle.label_expr.specs.declared.token.Token.{Token as Lexeme}
use Rattle.label_expr.specs.declared.token.Token.TheVariants as token
use Rattle.std.proofs.lemmas.List.{map-append, length-append}
use Rattle.label_expr.specs.declared.condition.Condition.{Condition}
use Rattle.label_expr.specs.declared.refusal.LabelRefusal.{LabelRefusal}
use Rattle.label_expr.specs.declared.refusal.LabelRefusal.TheVariants.{Memory, Fault}
use Rattle.label_expr.specs.declared.token.Spot.{Spot}
use Rattle.model_run.specs.LabelTokens as tokens
use Rattle.model_run.specs.LabelTokens.{Token, Blank, Name, NotSign, AndSign, OrSign, ImpliesSign, IffSign, OpenParen, CloseParen, Unknown, spot}
use Rattle.model_run.specs.Labels.{Formula, Named, Not, And, Or, Implies, Iff, Reading, Read, Stops, and_then, atom, negation, more_negations, conjunction, more_conjunctions, disjunction, behind_implies, behind_iff, behind_disjunction, level, closed, level_within, place_of}
use Rattle.label_expr.specs.Conditions.{formula, joined, negated}
use Rattle.label_expr.specs.Readings.{sign_of, token_of, seen, inside, BeginsWith, BeginsWithName, IsBehind, IsBehindName, IsStopped, Reads}

pub stopped_then : (size : ℕ) (r : Reading) (go : Formula → List tokens.Spot → Reading) (e : LabelRefusal) → IsStopped size r e → IsStopped size (and_then r go) e
stopped_then size r go Memory stopped = tt
stopped_then size (Read f rest) go (Fault at) stopped = absurd stopped
stopped_then size (Stops rest) go (Fault at) stopped = stopped

pub stopped_closed : (size : ℕ) (r : Reading) (e : LabelRefusal) → IsStopped size r e → IsStopped size (closed r) e
stopped_closed size r Memory stopped = tt
stopped_closed size (Read f rest) (Fault at) stopped = absurd stopped
stopped_closed size (Stops rest) (Fault at) stopped = stopped

-- a reading that begins with one that is stopped
pub stopped_by : (size : ℕ) (t r : Reading) (go : Formula → List tokens.Spot → Reading) (e : LabelRefusal) → t ≡ and_then r go → IsStopped size r e → IsStopped size t e
stopped_by size t r go e is stopped = subst (λ (q : Reading). IsStopped size q e) (sym is) (stopped_then size r go e stopped)

-- two equal readings have one answer
pub handed : (size : ℕ) {t u : Reading} (r : Result (Condition × Bor (List Spot)) LabelRefusal) → t ≡ u → Reads size u r → Reads size t r
handed size r e reads = subst (λ (q : Reading). Reads size q r) (sym e) reads

-- a reading that stops at tokens has its fault there
pub stops_at : (size : ℕ) (t : Reading) (spots : List tokens.Spot) → t ≡ Stops spots → IsStopped size t (Fault (place_of size spots))
stops_at size t spots e = subst (λ (q : Reading). IsStopped size q (Fault (place_of size spots))) (sym e) refl

pub joined-append : (sign : Formula → Formula → Formula) (f : Formula) (fs : List Formula) (g : Formula) → joined sign f (fs ++ g ∷ []) ≡ sign (joined sign f fs) g
joined-append sign f [] g = refl
joined-append sign f (h ∷ fs) g = joined-append sign (sign f h) fs g

pub joined-more : (sign : Formula → Formula → Formula) (f : Formula) (cs : List Condition) (c : Condition)
    → joined sign f (map formula (cs ++ c ∷ [])) ≡ sign (joined sign f (map formula cs)) (formula c)
joined-more sign f cs c = ap (joined sign f) (map-append formula cs (c ∷ [])) ∙ joined-append sign f (map formula cs) (formula c)

pub closed_none : (f : Formula) (rest : List tokens.Spot) → (BeginsWith CloseParen rest → ⊥) → closed (Read f rest) ≡ Stops rest
closed_none f [] without = refl
closed_none f (spot CloseParen at ∷ rest) without = absurd (without refl)
closed_none f (spot Blank at ∷ rest) without = refl
closed_none f (spot (Name name) at ∷ rest) without = refl
closed_none f (spot NotSign at ∷ rest) without = refl
closed_none f (spot AndSign at ∷ rest) without = refl
closed_none f (spot OrSign at ∷ rest) without = refl
closed_none f (spot ImpliesSign at ∷ rest) without = refl
closed_none f (spot IffSign at ∷ rest) without = refl
closed_none f (spot OpenParen at ∷ rest) without = refl
closed_none f (spot Unknown at ∷ rest) without = refl

module _ (G : List tokens.Spot → List tokens.Spot → Reading) (n : ℕ) where
  -- `!`
  pub negation_none : (spots : List tokens.Spot) → (BeginsWith NotSign spots → ⊥) → negation G n spots ≡ atom G n spots
  negation_none [] without = refl
  negation_none (spot NotSign at ∷ rest) without = absurd (without refl)
  negation_none (spot CloseParen at ∷ rest) without = refl
  negation_none (spot Blank at ∷ rest) without = refl
  negation_none (spot (Name name) at ∷ rest) without = refl
  negation_none (spot AndSign at ∷ rest) without = refl
  negation_none (spot OrSign at ∷ rest) without = refl
  negation_none (spot ImpliesSign at ∷ rest) without = refl
  negation_none (spot IffSign at ∷ rest) without = refl
  negation_none (spot OpenParen at ∷ rest) without = refl
  negation_none (spot Unknown at ∷ rest) without = refl

  pub read_as_is : (r : Reading) → r ≡ and_then r (λ f. Read f)
  read_as_is (Read f rest) = refl
  read_as_is (Stops rest) = refl

  negated_more : (k : ℕ) (r : Reading) → and_then (and_then r (λ f. Read (Not f))) (λ f. Read (negated k f)) ≡ and_then r (λ f. Read (negated (k + 1) f))
  negated_more k (Read f rest) = ap (λ m. Read (negated m f) rest) (sym (add-one k))
  negated_more k (Stops rest) = refl

  pub negation_more : (k at : ℕ) (S rest next : List tokens.Spot) → rest ≡ spot NotSign at ∷ next
      → negation G n S ≡ and_then (negation G n rest) (λ f. Read (negated k f))
      → negation G n S ≡ and_then (negation G n next) (λ f. Read (negated (k + 1) f))
  negation_more k at S rest next sign so_far =
      so_far ∙ ap (λ r. and_then (negation G n r) (λ f. Read (negated k f))) sign ∙ negated_more k (negation G n next)

  pub negation_done : (k : ℕ) (S rest : List tokens.Spot) → (BeginsWith NotSign rest → ⊥)
      → negation G n S ≡ and_then (negation G n rest) (λ f. Read (negated k f))
      → negation G n S ≡ and_then (atom G n rest) (λ f. Read (negated k f))
  negation_done k S rest without so_far = so_far ∙ ap (λ r. and_then r (λ f. Read (negated k f))) (negation_none rest without)

  -- `&&` and `||`
  pub more_negations_none : (m : ℕ) (f : Formula) (spots : List tokens.Spot) → (BeginsWith AndSign spots → ⊥) → more_negations G n m f spots ≡ Read f spots
  more_negations_none zero f spots without = refl
  more_negations_none (suc m) f [] without = refl
  more_negations_none (suc m) f (spot AndSign at ∷ rest) without = absurd (without refl)
  more_negations_none (suc m) f (spot NotSign at ∷ rest) without = refl
  more_negations_none (suc m) f (spot CloseParen at ∷ rest) without = refl
  more_negations_none (suc m) f (spot Blank at ∷ rest) without = refl
  more_negations_none (suc m) f (spot (Name name) at ∷ rest) without = refl
  more_negations_none (suc m) f (spot OrSign at ∷ rest) without = refl
  more_negations_none (suc m) f (spot ImpliesSign at ∷ rest) without = refl
  more_negations_none (suc m) f (spot IffSign at ∷ rest) without = refl
  more_negations_none (suc m) f (spot OpenParen at ∷ rest) without = refl
  more_negations_none (suc m) f (spot Unknown at ∷ rest) without = refl

  pub more_conjunctions_none : (m : ℕ) (f : Formula) (spots : List tokens.Spot) → (BeginsWith OrSign spots → ⊥) → more_conjunctions G n m f spots ≡ Read f spots
  more_conjunctions_none zero f spots without = refl
  more_conjunctions_none (suc m) f [] without = refl
  more_conjunctions_none (suc m) f (spot OrSign at ∷ rest) without = absurd (without refl)
  more_conjunctions_none (suc m) f (spot NotSign at ∷ rest) without = refl
  more_conjunctions_none (suc m) f (spot CloseParen at ∷ rest) without = refl
  more_conjunctions_none (suc m) f (spot Blank at ∷ rest) without = refl
  more_conjunctions_none (suc m) f (spot (Name name) at ∷ rest) without = refl
  more_conjunctions_none (suc m) f (spot AndSign at ∷ rest) without = refl
  more_conjunctions_none (suc m) f (spot ImpliesSign at ∷ rest) without = refl
  more_conjunctions_none (suc m) f (spot IffSign at ∷ rest) without = refl
  more_conjunctions_none (suc m) f (spot OpenParen at ∷ rest) without = refl
  more_conjunctions_none (suc m) f (spot Unknown at ∷ rest) without = refl

  less : (k : ℕ) → k < n → n - k ≡ suc (n - (k + 1))
  less k few = omega (arith, few)

  -- operands with one sign between them: the part, what goes on behind it, the token of the sign and the sign of formulas
  module _ (part : List tokens.Spot → Reading) (more : ℕ → Formula → List tokens.Spot → Reading) (token : Token) (sign : Formula → Formula → Formula)
      (on : (m at : ℕ) (f : Formula) (rest : List tokens.Spot) → more (suc m) f (spot token at ∷ rest) ≡ and_then (part rest) (λ g. more m (sign f g)))
      (off : (m : ℕ) (f : Formula) (rest : List tokens.Spot) → (BeginsWith token rest → ⊥) → more m f rest ≡ Read f rest) where
    first_operand : (S rest : List tokens.Spot) (c : Condition) → part S ≡ Read (formula c) rest
        → and_then (part S) (more n) ≡ more (n - 0) (joined sign (formula c) []) rest
    first_operand S rest c first = ap (λ r. and_then r (more n)) first ∙ ap (λ m. more m (formula c) rest) (omega arith)

    -- up to the sign behind k operands
    to_operand : (t : Reading) (k at : ℕ) (f : Formula) (rest next : List tokens.Spot) → k < n → rest ≡ spot token at ∷ next
        → t ≡ more (n - k) f rest → t ≡ and_then (part next) (λ g. more (n - (k + 1)) (sign f g))
    to_operand t k at f rest next few begins so_far =
        so_far ∙ ap (λ m. more m f rest) (less k few) ∙ ap (more (suc (n - (k + 1))) f) begins ∙ on (n - (k + 1)) at f next

    -- and behind the operand
    next_operand : (t : Reading) (at : ℕ) (f : Formula) (rest next then : List tokens.Spot) (cs : List Condition) (c : Condition) → length cs < n → rest ≡ spot token at ∷ next
        → t ≡ more (n - length cs) (joined sign f (map formula cs)) rest → part next ≡ Read (formula c) then
        → t ≡ more (n - length (cs ++ c ∷ [])) (joined sign f (map formula (cs ++ c ∷ []))) then
    next_operand t at f rest next then cs c few begins so_far operand =
        to_operand t (length cs) at (joined sign f (map formula cs)) rest next few begins so_far
        ∙ ap (λ r. and_then r (λ g. more (n - (length cs + 1)) (sign (joined sign f (map formula cs)) g))) operand
        ∙ ap (λ g. more (n - (length cs + 1)) g then) (sym (joined-more sign f cs c))
        ∙ ap (λ k. more (n - k) (joined sign f (map formula (cs ++ c ∷ []))) then) (sym (length-append cs (c ∷ [])))

    last_operand : (t : Reading) (m : ℕ) (f g : Formula) (rest : List tokens.Spot) → (BeginsWith token rest → ⊥) → t ≡ more m f rest → g ≡ f → t ≡ Read g rest
    last_operand t m f g rest without so_far made = so_far ∙ off m f rest without ∙ ap (λ h. Read h rest) (sym made)

  pub conjunction_first : (S rest : List tokens.Spot) (c : Condition) → negation G n S ≡ Read (formula c) rest → conjunction G n S ≡ more_negations G n (n - 0) (joined And (formula c) []) rest
  conjunction_first = first_operand (negation G n) (more_negations G n) AndSign And (λ m at f rest. refl) more_negations_none

  pub conjunction_to : (t : Reading) (k at : ℕ) (f : Formula) (rest next : List tokens.Spot) → k < n → rest ≡ spot AndSign at ∷ next
      → t ≡ more_negations G n (n - k) f rest → t ≡ and_then (negation G n next) (λ g. more_negations G n (n - (k + 1)) (And f g))
  conjunction_to = to_operand (negation G n) (more_negations G n) AndSign And (λ m at f rest. refl) more_negations_none

  pub conjunction_next : (t : Reading) (at : ℕ) (f : Formula) (rest next then : List tokens.Spot) (cs : List Condition) (c : Condition) → length cs < n → rest ≡ spot AndSign at ∷ next
      → t ≡ more_negations G n (n - length cs) (joined And f (map formula cs)) rest → negation G n next ≡ Read (formula c) then
      → t ≡ more_negations G n (n - length (cs ++ c ∷ [])) (joined And f (map formula (cs ++ c ∷ []))) then
  conjunction_next = next_operand (negation G n) (more_negations G n) AndSign And (λ m at f rest. refl) more_negations_none

  pub conjunction_last : (t : Reading) (m : ℕ) (f g : Formula) (rest : List tokens.Spot) → (BeginsWith AndSign rest → ⊥) → t ≡ more_negations G n m f rest → g ≡ f → t ≡ Read g rest
  conjunction_last = last_operand (negation G n) (more_negations G n) AndSign And (λ m at f rest. refl) more_negations_none

  pub disjunction_first : (S rest : List tokens.Spot) (c : Condition) → conjunction G n S ≡ Read (formula c) rest → disjunction G n S ≡ more_conjunctions G n (n - 0) (joined Or (formula c) []) rest
  disjunction_first = first_operand (conjunction G n) (more_conjunctions G n) OrSign Or (λ m at f rest. refl) more_conjunctions_none

  pub disjunction_to : (t : Reading) (k at : ℕ) (f : Formula) (rest next : List tokens.Spot) → k < n → rest ≡ spot OrSign at ∷ next
      → t ≡ more_conjunctions G n (n - k) f rest → t ≡ and_then (conjunction G n next) (λ g. more_conjunctions G n (n - (k + 1)) (Or f g))
  disjunction_to = to_operand (conjunction G n) (more_conjunctions G n) OrSign Or (λ m at f rest. refl) more_conjunctions_none

  pub disjunction_next : (t : Reading) (at : ℕ) (f : Formula) (rest next then : List tokens.Spot) (cs : List Condition) (c : Condition) → length cs < n → rest ≡ spot OrSign at ∷ next
      → t ≡ more_conjunctions G n (n - length cs) (joined Or f (map formula cs)) rest → conjunction G n next ≡ Read (formula c) then
      → t ≡ more_conjunctions G n (n - length (cs ++ c ∷ [])) (joined Or f (map formula (cs ++ c ∷ []))) then
  disjunction_next = next_operand (conjunction G n) (more_conjunctions G n) OrSign Or (λ m at f rest. refl) more_conjunctions_none

  pub disjunction_last : (t : Reading) (m : ℕ) (f g : Formula) (rest : List tokens.Spot) → (BeginsWith OrSign rest → ⊥) → t ≡ more_conjunctions G n m f rest → g ≡ f → t ≡ Read g rest
  disjunction_last = last_operand (conjunction G n) (more_conjunctions G n) OrSign Or (λ m at f rest. refl) more_conjunctions_none

  -- `->` and `<->`
  pub level_none : (f : Formula) (rest : List tokens.Spot) → (BeginsWith ImpliesSign rest → ⊥) → (BeginsWith IffSign rest → ⊥) → behind_disjunction G n f rest ≡ Read f rest
  level_none f [] without other = refl
  level_none f (spot ImpliesSign at ∷ rest) without other = absurd (without refl)
  level_none f (spot IffSign at ∷ rest) without other = absurd (other refl)
  level_none f (spot NotSign at ∷ rest) without other = refl
  level_none f (spot CloseParen at ∷ rest) without other = refl
  level_none f (spot Blank at ∷ rest) without other = refl
  level_none f (spot (Name name) at ∷ rest) without other = refl
  level_none f (spot AndSign at ∷ rest) without other = refl
  level_none f (spot OrSign at ∷ rest) without other = refl
  level_none f (spot OpenParen at ∷ rest) without other = refl
  level_none f (spot Unknown at ∷ rest) without other = refl

  pub behind_implies_none : (f : Formula) (rest : List tokens.Spot) → (BeginsWith IffSign rest → ⊥) → behind_implies G n f rest ≡ Read f rest
  behind_implies_none f [] without = refl
  behind_implies_none f (spot IffSign at ∷ rest) without = absurd (without refl)
  behind_implies_none f (spot ImpliesSign at ∷ rest) without = refl
  behind_implies_none f (spot NotSign at ∷ rest) without = refl
  behind_implies_none f (spot CloseParen at ∷ rest) without = refl
  behind_implies_none f (spot Blank at ∷ rest) without = refl
  behind_implies_none f (spot (Name name) at ∷ rest) without = refl
  behind_implies_none f (spot AndSign at ∷ rest) without = refl
  behind_implies_none f (spot OrSign at ∷ rest) without = refl
  behind_implies_none f (spot OpenParen at ∷ rest) without = refl
  behind_implies_none f (spot Unknown at ∷ rest) without = refl

  pub behind_iff_none : (f g : Formula) (rest : List tokens.Spot) → (BeginsWith ImpliesSign rest → ⊥) → behind_iff G n f g rest ≡ Read (Iff f g) rest
  behind_iff_none f g [] without = refl
  behind_iff_none f g (spot ImpliesSign at ∷ rest) without = absurd (without refl)
  behind_iff_none f g (spot IffSign at ∷ rest) without = refl
  behind_iff_none f g (spot NotSign at ∷ rest) without = refl
  behind_iff_none f g (spot CloseParen at ∷ rest) without = refl
  behind_iff_none f g (spot Blank at ∷ rest) without = refl
  behind_iff_none f g (spot (Name name) at ∷ rest) without = refl
  behind_iff_none f g (spot AndSign at ∷ rest) without = refl
  behind_iff_none f g (spot OrSign at ∷ rest) without = refl
  behind_iff_none f g (spot OpenParen at ∷ rest) without = refl
  behind_iff_none f g (spot Unknown at ∷ rest) without = refl

  -- up to the tokens behind the first operand's sign
  pub level_implies : (S rest next : List tokens.Spot) (at : ℕ) (f : Formula) → disjunction G n S ≡ Read f rest → rest ≡ spot ImpliesSign at ∷ next
      → level G n S ≡ and_then (disjunction G n next) (λ g. behind_implies G n (Implies f g))
  level_implies S rest next at f first sign = ap (λ r. and_then r (behind_disjunction G n)) first ∙ ap (behind_disjunction G n f) sign

  pub level_iff : (S rest next : List tokens.Spot) (at : ℕ) (f : Formula) → disjunction G n S ≡ Read f rest → rest ≡ spot IffSign at ∷ next
      → level G n S ≡ and_then (disjunction G n next) (behind_iff G n f)
  level_iff S rest next at f first sign = ap (λ r. and_then r (behind_disjunction G n)) first ∙ ap (behind_disjunction G n f) sign

-- the names and parentheses
pub atom_named : (G : List tokens.Spot → List tokens.Spot → Reading) (n at : ℕ) (spots rest : List tokens.Spot) (name : List ℕ) → spots ≡ spot (Name name) at ∷ rest → atom G n spots ≡ Read (Named name) rest
atom_named G n at spots rest name begins = ap (atom G n) begins

pub atom_none : (G : List tokens.Spot → List tokens.Spot → Reading) (n : ℕ) (spots : List tokens.Spot) → (BeginsWithName spots → ⊥) → (BeginsWith OpenParen spots → ⊥) → atom G n spots ≡ Stops spots
atom_none G n [] named opening = refl
atom_none G n (spot (Name name) at ∷ rest) named opening = absurd (named (name, refl))
atom_none G n (spot OpenParen at ∷ rest) named opening = absurd (opening refl)
atom_none G n (spot NotSign at ∷ rest) named opening = refl
atom_none G n (spot CloseParen at ∷ rest) named opening = refl
atom_none G n (spot Blank at ∷ rest) named opening = refl
atom_none G n (spot AndSign at ∷ rest) named opening = refl
atom_none G n (spot OrSign at ∷ rest) named opening = refl
atom_none G n (spot ImpliesSign at ∷ rest) named opening = refl
atom_none G n (spot IffSign at ∷ rest) named opening = refl
atom_none G n (spot Unknown at ∷ rest) named opening = refl

-- with none left, an opening parenthesis is a bad token
pub atom_too_deep : (left n at : ℕ) (spots rest : List tokens.Spot) → left ≡ 0 → spots ≡ spot OpenParen at ∷ rest → atom (inside left n) n spots ≡ Stops spots
atom_too_deep left n at spots rest none begins =
    ap (λ k. atom (inside k n) n spots) none ∙ ap (atom (inside 0 n) n) begins ∙ ap Stops (sym begins)

atom_opens : (left n at : ℕ) (rest : List tokens.Spot) → (left ≡ 0 → ⊥) → atom (inside left n) n (spot OpenParen at ∷ rest) ≡ closed (level_within (left - 1) n rest)
atom_opens zero n at rest some = absurd (some refl)
atom_opens (suc left) n at rest some = let less : left ≡ suc left - 1 = omega arith in ap (λ k. closed (level_within k n rest)) less

pub atom_open : (left n at : ℕ) (spots rest : List tokens.Spot) → (left ≡ 0 → ⊥) → spots ≡ spot OpenParen at ∷ rest → atom (inside left n) n spots ≡ closed (level_within (left - 1) n rest)
atom_open left n at spots rest some begins = ap (atom (inside left n) n) begins ∙ atom_opens left n at rest some

pub level_is : (left n : ℕ) (spots : List tokens.Spot) → level_within left n spots ≡ level (inside left n) n spots
level_is zero n spots = refl
level_is (suc left) n spots = refl

-- the sign or the name with which tokens begin
abbrev sign_back : tokens.Token → Sign
sign_back NotSign = sign.Not
sign_back AndSign = sign.And
sign_back OrSign = sign.Or
sign_back ImpliesSign = sign.Implies
sign_back IffSign = sign.Iff
sign_back OpenParen = sign.Open
sign_back CloseParen = sign.Close
sign_back Blank = sign.Blank
sign_back Unknown = sign.Unknown
sign_back (Name name) = sign.Unknown

sign_back-of : (s : Sign) → sign_back (sign_of s) ≡ s
sign_back-of sign.Not = refl
sign_back-of sign.And = refl
sign_back-of sign.Or = refl
sign_back-of sign.Implies = refl
sign_back-of sign.Iff = refl
sign_back-of sign.Open = refl
sign_back-of sign.Close = refl
sign_back-of sign.Blank = refl
sign_back-of sign.Unknown = refl

one_sign : (s t : Sign) → sign_of s ≡ sign_of t → s ≡ t
one_sign s t same = sym (sign_back-of s) ∙ ap sign_back same ∙ sign_back-of t

pub is_sign : (b : Bool) (t : Lexeme) (own s : Sign) → t ≡ token.Sign own → MatchBool b (own ≡ s) (own ≢ s) → MatchBool b (t ≡ token.Sign s) (token_of t ≡ sign_of s → ⊥)
is_sign true t own s is same = is ∙ ap token.Sign same
is_sign false t own s is other = λ e. other (one_sign own s (ap token_of (sym is) ∙ e))

name_no_sign : (name : List ℕ) (s : Sign) → Name name ≡ sign_of s → ⊥
name_no_sign name sign.Not e = cc
name_no_sign name sign.And e = cc
name_no_sign name sign.Or e = cc
name_no_sign name sign.Implies e = cc
name_no_sign name sign.Iff e = cc
name_no_sign name sign.Open e = cc
name_no_sign name sign.Close e = cc
name_no_sign name sign.Blank e = cc
name_no_sign name sign.Unknown e = cc

pub is_name : (t : Lexeme) (name : List ℕ) (s : Sign) → t ≡ token.Name name → token_of t ≡ sign_of s → ⊥
is_name t name s is e = name_no_sign name s (ap token_of (sym is) ∙ e)

sign_no_name : (s : Sign) (name : List ℕ) → sign_of s ≡ Name name → ⊥
sign_no_name s name e = name_no_sign name s (sym e)

pub behind_sign : (first : Spot) (rest spots : List Spot) (s : Sign) → spots ≡ first ∷ rest → length rest + 1 ≡ length spots → first.token ≡ token.Sign s → IsBehind s spots rest
behind_sign first rest spots s begins size is = (first.at, ap seen begins ∙ ap (λ t. spot (token_of t) first.at ∷ seen rest) is, size)

pub behind_name : (first : Spot) (rest spots : List Spot) (name : List ℕ) → spots ≡ first ∷ rest → length rest + 1 ≡ length spots → first.token ≡ token.Name name → IsBehindName name spots rest
behind_name first rest spots name begins size is = (first.at, ap seen begins ∙ ap (λ t. spot (token_of t) first.at ∷ seen rest) is, size)

pub no_sign_there : (first : Spot) (rest spots : List Spot) (s : Sign) → spots ≡ first ∷ rest → (token_of first.token ≡ sign_of s → ⊥) → BeginsWith (sign_of s) (seen spots) → ⊥
no_sign_there first rest spots s begins other = subst (λ (l : List Spot). BeginsWith (sign_of s) (seen l) → ⊥) (sym begins) other

pub no_name_there : (first : Spot) (rest spots : List Spot) (s : Sign) → spots ≡ first ∷ rest → first.token ≡ token.Sign s → BeginsWithName (seen spots) → ⊥
no_name_there first rest spots s begins is =
    subst (λ (l : List Spot). BeginsWithName (seen l) → ⊥) (sym begins) (λ named. sign_no_name s named.0 (ap token_of (sym is) ∙ named.1))

pub group_stops : (size left n : ℕ) (spots : List tokens.Spot) (e : LabelRefusal) → IsStopped size (level (inside left n) n spots) e → IsStopped size (closed (level_within left n spots)) e
group_stops size left n spots e stopped =
    stopped_closed size (level_within left n spots) e (subst (λ (q : Reading). IsStopped size q e) (sym (level_is left n spots)) stopped)

pub group_reads : (left n : ℕ) (spots rest : List tokens.Spot) (f : Formula) → level (inside left n) n spots ≡ Read f rest → closed (level_within left n spots) ≡ closed (Read f rest)
group_reads left n spots rest f reads = ap closed (level_is left n spots ∙ reads)
