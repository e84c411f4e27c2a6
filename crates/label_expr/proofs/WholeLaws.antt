-- A whole text: its expression, its fault, and which executors it fits.
use Rattle.std.proofs.Common.{◌≡◌, ℕ, suc, ◌-◌, ◌≤◌, Bool, true, false, List, [], ◌∷◌, length, refl, sym, ap, ◌∙◌, subst, arith, Some, None}
use Rattle.std.specs.Prelude.{if◌then◌else◌, ◌&&◌, ◌==◌}
use Rattle.std.specs.List.{list_all}
use Rattle.std.proofs.lemmas.List.{length-map}
use Rattle.label_expr.specs.declared.refusal.LabelRefusal.{LabelRefusal}
use Rattle.label_expr.specs.declared.refusal.LabelRefusal.TheVariants.{Memory, Fault}
use Rattle.label_expr.specs.declared.token.Spot.{Spot}
use Rattle.model_run.specs.LabelTokens as tokens
use Rattle.model_run.specs.LabelTokens.{is_blank, spot_before, spots_behind, spots_of}
use Rattle.model_run.specs.Labels.{Formula, holds, Reading, Read, Stops, level, level_within, place_of, whole, Says, FaultAt, expression, kept_fits, label_fits, says_of}
use Rattle.label_expr.specs.Readings.{seen, spot_of, inside, IsStopped, IsRefusal}
use Rattle.label_expr.proofs.GrammarLaws.{level_is}

whole_stops : (size : ℕ) (r : Reading) (e : LabelRefusal) → IsStopped size r e → IsRefusal (whole size r) e
whole_stops size r Memory stopped = tt
whole_stops size (Read f rest) (Fault at) stopped = absurd stopped
whole_stops size (Stops rest) (Fault at) stopped = ap FaultAt (sym stopped)

whole_more : (size : ℕ) (f : Formula) (rest : List Spot) → (rest ≡ [] → ⊥) → whole size (Read f (seen rest)) ≡ FaultAt (place_of size (seen rest))
whole_more size f [] some = absurd (some refl)
whole_more size f (s ∷ rest) some = refl

-- all tokens of the text, and how many these are
module _ (text : List ℕ) (spots : List Spot) (are : seen spots ≡ spots_of text) where
  enough : length spots ≤ length (spots_of text)
  enough = let same = length-map spots spot_of in let size = ap length are in omega (arith, same, size)

  reading_is : level_within 64 (length (spots_of text)) (spots_of text) ≡ level (inside 64 (length (spots_of text))) (length (spots_of text)) (seen spots)
  reading_is =
      let n = length (spots_of text) in
      level_is 64 n (spots_of text) ∙ ap (level (inside 64 n) n) (sym are)

  pub text_stops : (e : LabelRefusal) → ((n : ℕ) → length spots ≤ n → IsStopped (length text) (level (inside 64 n) n (seen spots)) e) → IsRefusal (expression text) e
  text_stops e stopped =
      let n = length (spots_of text) in
      let there : IsStopped (length text) (level_within 64 n (spots_of text)) e = subst (λ (q : Reading). IsStopped (length text) q e) (sym reading_is) (stopped n enough) in
      whole_stops (length text) (level_within 64 n (spots_of text)) e there

  module _ (f : Formula) (rest : List Spot) (reads : (n : ℕ) → length spots ≤ n → level (inside 64 n) n (seen spots) ≡ Read f (seen rest)) where
    text_reads : expression text ≡ whole (length text) (Read f (seen rest))
    text_reads = ap (whole (length text)) (reading_is ∙ reads (length (spots_of text)) enough)

    pub text_says : rest ≡ [] → expression text ≡ Says f
    text_says none = text_reads ∙ ap (λ s. whole (length text) (Read f (seen s))) none

    pub text_goes_on : (rest ≡ [] → ⊥) → expression text ≡ FaultAt (place_of (length text) (seen rest))
    text_goes_on some = text_reads ∙ whole_more (length text) f rest some

-- a blank text has no tokens
if_true : (c : Bool) (x y : tokens.Token × ℕ) → c ≡ true → (if c then x else y) ≡ x
if_true c x y e = ap (λ d. if d then x else y) e

blank_first : (b : ℕ) (bs : List ℕ) → is_blank b ≡ true → tokens.token_of (b ∷ bs) ≡ (tokens.Blank, 1)
blank_first b bs is = if_true (is_blank b) _ _ is

and_left : (a b : Bool) → (a && b) ≡ true → a ≡ true
and_left true b e = refl
and_left false b e = cc

and_right : (a b : Bool) → (a && b) ≡ true → b ≡ true
and_right true b e = e
and_right false b e = cc

blanks : (text : List ℕ) (at : ℕ) → list_all is_blank text ≡ true → spots_behind 0 at text ≡ []
blanks [] at blank = refl
blanks (b ∷ bs) at blank =
    let P : tokens.Token × ℕ → List tokens.Spot = λ p. spot_before p.0 at (spots_behind (p.1 - 1) (suc at) bs) in
    ap P (blank_first b bs (and_left (is_blank b) (list_all is_blank bs) blank)) ∙ blanks bs (suc at) (and_right (is_blank b) (list_all is_blank bs) blank)

-- so it is no expression
blank_fault : (text : List ℕ) (f : Formula) → list_all is_blank text ≡ true → expression text ≡ Says f → ⊥
blank_fault text f blank says =
    let none = ap (λ spots. whole (length text) (level_within 64 (length spots) spots)) (blanks text 0 blank) in
    let e : FaultAt (length text) ≡ Says f = sym none ∙ says in
    absurd (cc)

-- a label with an expression fits as this holds
pub says_fits : (labels : List (List ℕ)) (text : List ℕ) (f : Formula) → expression text ≡ Says f → holds labels f ≡ label_fits labels (Some text)
says_fits labels text f says = sym (by_blank (list_all is_blank text) refl)
  where
    by_blank : (b : Bool) → list_all is_blank text ≡ b → kept_fits labels (if b then None else Some text) ≡ holds labels f
    by_blank true blank = absurd (blank_fault text f blank says)
    by_blank false blank = ap (says_of labels) says

-- whether there are no tokens left
pub none_left : (rest : List Spot) → true ≡ (length rest == 0) → rest ≡ []
none_left [] e = refl
none_left (s ∷ rest) e = absurd (grind (arith, e))

pub some_left : (rest : List Spot) → false ≡ (length rest == 0) → rest ≡ [] → ⊥
some_left [] e none = cc
some_left (s ∷ rest) e none = cc
