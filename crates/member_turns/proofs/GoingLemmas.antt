-- How a pass goes on.
use Rattle.std.proofs.Common.{◌≡◌, ◌∙◌, ◌+◌, ◌≤◌, ℕ, suc, Bool, true, false, List, [], ◌∷◌, ◌++◌, length, refl, sym, ap, subst, append_assoc, append-nil, length-append, arith}
use Rattle.std.proofs.Math.Logic.{∥∥₁_elim, ∥∥₁_map, ∥∥₁_prop}
use Rattle.program_lock.specs.declared.view.Known.{Known}
use Rattle.program_lock.specs.History.{has, entries, keep_if, under, NoneUnder}
use Rattle.program_lock.specs.Legal.{Answers}
use Rattle.program_lock.proofs.HistoryLemmas.{entries-append, under-append}
use Rattle.member_turns.specs.Lower.locked_build.declared.ask.Ask.{Ask}
use Rattle.member_turns.specs.Lower.locked_build.declared.ask.Entry.{Entry}
use Rattle.member_turns.specs.Lower.locked_build.declared.ask.Reply.{Reply}
use Rattle.member_turns.proofs.TrailLemmas.{same_front}
use Rattle.member_turns.specs.Coming.{Came, EachIs, EachUnder}
use Rattle.member_turns.specs.Passing.{IsWhole, CameUnder, GoesOn}
use Rattle.member_turns.proofs.ComeLemmas.{each_append, each_none}

-- two that may be followed one by the other
pub both_ways : {X Y Z : Type 0} → ∥ (X → Y) ∥₁ → ∥ (Y → Z) ∥₁ → ∥ (X → Z) ∥₁
both_ways {X} {Y} {Z} f g = ∥∥₁_elim f ∥∥₁_prop (λ (one : X → Y). ∥∥₁_map g (λ (two : Y → Z). λ (x : X). two (one x)))

-- both at once
pub both_true : {X Y Z : Type 0} → (X → Y → Z) → ∥ X ∥₁ → ∥ Y ∥₁ → ∥ Z ∥₁
both_true {X} {Y} {Z} h f g = ∥∥₁_elim f ∥∥₁_prop (λ (one : X). ∥∥₁_map g (λ (two : Y). h one two))

module _ {E : Type 0} where
  under_short : (ns : List ℕ) (xs : List (ℕ × E)) → length (under ns xs) ≤ length xs
  under_short ns [] = omega arith
  under_short ns (x ∷ xs) = by (under_short ns xs) (has ns x.0)
    where
      by : length (under ns xs) ≤ length xs → (b : Bool) → length (keep_if b x (under ns xs)) ≤ suc (length xs)
      by short true = omega arith
      by short false = omega arith

  -- where all of a list stands under these numbers, all of its front does
  pub whole_front : (ns : List ℕ) (xs ys : List (ℕ × E)) → under ns (xs ++ ys) ≡ xs ++ ys → under ns xs ≡ xs
  whole_front ns xs ys all =
      let one = under_short ns xs in
      let two = under_short ns ys in
      let both : under ns xs ++ under ns ys ≡ xs ++ ys = sym (under-append ns xs ys) ∙ all in
      let long : length (under ns xs) + length (under ns ys) ≡ length xs + length ys =
      sym (length-append (under ns xs) (under ns ys)) ∙ ap length both ∙ length-append xs ys in
      (same_front (under ns xs) xs (under ns ys) ys both (omega arith)).0

  -- it is so of the first, and of the rest
  pub whole_first : (ns : List ℕ) (x : ℕ × E) (xs : List (ℕ × E)) → under ns (x ∷ xs) ≡ x ∷ xs → (has ns x.0 ≡ true) × (under ns xs ≡ xs)
  whole_first ns x xs all = by (under_short ns xs) (has ns x.0) refl all
    where
      tails : (us : List (ℕ × E)) → x ∷ us ≡ x ∷ xs → us ≡ xs
      tails us e = cc

      by : length (under ns xs) ≤ length xs → (b : Bool) → has ns x.0 ≡ b → keep_if b x (under ns xs) ≡ x ∷ xs → (has ns x.0 ≡ true) × (under ns xs ≡ xs)
      by short true is e = (is, tails (under ns xs) e)
      by short false is e = let long : length (under ns xs) ≡ suc (length xs) = ap length e in absurd (omega arith)

-- where all stands under these numbers, what holds of each under them holds of each
pub each_all : (P : List Entry → Entry → Type 0) (ns : List ℕ) (front xs : List (ℕ × Entry)) → under ns xs ≡ xs → EachUnder P ns front xs → EachIs P (entries front) (entries xs)
each_all P ns front [] all each = tt
each_all P ns front (x ∷ xs) all each =
    let w = whole_first ns x xs all in
    (each.0 w.0, subst (λ (l : List Entry). EachIs P l (entries xs)) (entries-append front (x ∷ [])) (each_all P ns (front ++ x ∷ []) xs w.1 each.1))

module _ {B : Type 0} (answers : Answers B Entry Ask Reply) where
  abbrev pub goes_same : (v : Known Entry B) → GoesOn answers v v
  goes_same v = record { base_stays = refl; more = []; begins = append-nil v.seen; whole = λ w. w; came = ∣ (λ c. c) ∣₁ }

  abbrev pub goes_further : (v w u : Known Entry B) → GoesOn answers v w → GoesOn answers w u → GoesOn answers v u
  goes_further v w u g h = record {
    base_stays = h.base_stays ∙ g.base_stays;
    more = g.more ++ h.more;
    begins = sym (append_assoc v.seen g.more h.more) ∙ ap (λ (es : List (ℕ × Entry)). es ++ h.more) g.begins ∙ h.begins;
    whole = λ w. g.whole (h.whole w);
    came = both_ways g.came h.came;
  }

  -- a pass that has seen more, of which nothing is its own
  abbrev pub goes_without : (v w : Known Entry B) (more : List (ℕ × Entry)) → w.base ≡ v.base → w.numbers ≡ v.numbers → v.seen ++ more ≡ w.seen → NoneUnder v.numbers more → GoesOn answers v w
  goes_without v w more same numbers begins none = record {
    base_stays = same;
    more = more;
    begins = begins;
    whole = λ (all : IsWhole w). whole_front v.numbers v.seen more ((λ i. under (sym numbers i) (begins i)) ∙ all ∙ sym begins);
    came = ∣ (λ (c : CameUnder answers v). λ base is.
        let P = Came (answers base) in
        subst (λ (ns : List ℕ). EachUnder P ns [] w.seen) (sym numbers)
        (subst (EachUnder P v.numbers []) begins (each_append P v.numbers [] v.seen more (c base (sym same ∙ is)) (each_none P v.numbers v.seen more none)))) ∣₁;
  }
