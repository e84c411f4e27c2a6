-- Members put at seats, and taken from them, one after the other.
use Rattle.std.proofs.Common.{◌≡◌, ◌∙◌, List, [], ◌∷◌, ◌++◌, length, map, reverse, sym, ap, subst, append_assoc, append-nil, arith}
use Rattle.std.specs.List.{AllByRecursion as AllAre}
use Rattle.std.proofs.lemmas.List.{map-append, reverse-append, reverse-reverse}
use Rattle.member_turns.proofs.PartLemmas.{all_append}

module _ {X Y : Type 0} (f : X → Y) where
  -- what comes behind the last one
  map_more : (xs all : List X) (x : X) → all ≡ xs ++ x ∷ [] → map f all ≡ map f xs ++ f x ∷ []
  map_more xs all x last = ap (map f) last ∙ map-append f xs (x ∷ [])

  last_first : (ys all : List Y) (y : Y) → all ≡ ys ++ y ∷ [] → reverse all ≡ y ∷ reverse ys
  last_first ys all y last = ap reverse last ∙ reverse-append ys (y ∷ [])

  -- the last of the others is put at the next seat
  pub seated_more : (seats now : List X) (seat : X) (rest others : List Y) (y : Y) → now ≡ seats ++ seat ∷ [] → f seat ≡ y → others ≡ rest ++ y ∷ [] → map f now ++ reverse rest ≡ map f seats ++ reverse others
  seated_more seats now seat rest others y more is last =
      ap (λ (l : List Y). l ++ reverse rest) (map_more seats now seat more)
      ∙ append_assoc (map f seats) (f seat ∷ []) (reverse rest)
      ∙ ap (λ (z : Y). map f seats ++ z ∷ reverse rest) is
      ∙ ap (λ (l : List Y). map f seats ++ l) (sym (last_first rest others y last))

  -- the last one is taken from its seat
  pub unseated_more : (ys now : List Y) (rest seats : List X) (seat : X) → now ≡ ys ++ f seat ∷ [] → seats ≡ rest ++ seat ∷ [] → now ++ reverse (map f rest) ≡ ys ++ reverse (map f seats)
  unseated_more ys now rest seats seat more last =
      ap (λ (l : List Y). l ++ reverse (map f rest)) more
      ∙ append_assoc ys (f seat ∷ []) (reverse (map f rest))
      ∙ ap (λ (l : List Y). ys ++ l) (sym (last_first (map f rest) (map f seats) (f seat) (map_more rest seats seat last)))

  -- none is left at a seat
  pub unseated_all : (ys now : List Y) (rest seats : List X) → length rest ≡ 0 → now ≡ reverse ys → ys ++ reverse (map f rest) ≡ reverse (map f seats) → now ≡ map f seats
  unseated_all ys now [] seats none is had = is ∙ ap reverse (sym (append-nil ys) ∙ had) ∙ reverse-reverse (map f seats)
  unseated_all ys now (x ∷ rest) seats none is had = absurd (omega arith)

  -- what all have the next one has too
  pub all_more : (P : Y → Type 0) (seats now : List X) (seat : X) → now ≡ seats ++ seat ∷ [] → AllAre P (map f seats) → P (f seat) → AllAre P (map f now)
  all_more P seats now seat more all one = subst (AllAre P) (sym (map_more seats now seat more)) (all_append P (map f seats) (f seat ∷ []) all (one, tt))
