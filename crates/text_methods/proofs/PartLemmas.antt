-- The pieces of a text, one character further.
use Rattle.std.proofs.Common.{◌≡◌, ℕ, ◌+◌, ◌<◌, ◌≤◌, Bool, true, false, cond, List, [], ◌∷◌, ◌++◌, length, take, drop, get_or, refl, sym, ap, ◌∙◌, arith}
use Rattle.std.proofs.Math.Dec.{eqb-suc-zero}
use Rattle.std.proofs.lemmas.List.{append_assoc, append-nil, drop_more, length-append, length-take-le, drop-drop, drop-take, take-append-drop, take-take}
use Rattle.model_values.specs.Characters.{byte_before, characters, part_of}
use Rattle.std.specs.Fmt.{is_char_start}
use Rattle.cell_heap.specs.Places.{place_of_character}
use Rattle.value_view.proofs.CharacterLemmas.{cuts, length-characters-behind, part_of-one}
use Rattle.model_values.specs.Searching.{is_among, onto_first, pieces, without_last_empty}
use Rattle.text_methods.specs.Parts.{cut, kept, kept_piece}

-- a list of pieces is never empty
record SomePieces (ps : List (List ℕ)) : Type 0 where
  pub first : List ℕ
  pub others : List (List ℕ)
  pub is : ps ≡ first ∷ others

some_onto : (c : List ℕ) (ps : List (List ℕ)) → SomePieces ps → SomePieces (onto_first c ps)
some_onto c ps s = record { first = c ++ s.first; others = s.others; is = ap (onto_first c) s.is }

some_cond : (b : Bool) (ps qs : List (List ℕ)) → SomePieces ps → SomePieces qs → SomePieces (cond b ps qs)
some_cond true ps qs p q = p
some_cond false ps qs p q = q

some_pieces : (cuts : List ℕ → Bool) (cs : List (List ℕ)) → SomePieces (pieces cuts cs)
some_pieces cuts [] = record { first = []; others = []; is = refl }
some_pieces cuts (c ∷ cs) = some_cond (cuts c) ([] ∷ pieces cuts cs) (onto_first c (pieces cuts cs)) (record { first = []; others = pieces cuts cs; is = refl }) (some_onto c (pieces cuts cs) (some_pieces cuts cs))

onto_onto : (a b : List ℕ) (ps : List (List ℕ)) → SomePieces ps → onto_first a (onto_first b ps) ≡ onto_first (a ++ b) ps
onto_onto a b ps s =
    ap (λ (qs : List (List ℕ)). onto_first a (onto_first b qs)) s.is
    ∙ ap (λ (x : List ℕ). x ∷ s.others) (sym (append_assoc a b s.first))
    ∙ ap (λ (qs : List (List ℕ)). onto_first (a ++ b) qs) (sym s.is)

onto_nothing : (ps : List (List ℕ)) → SomePieces ps → onto_first [] ps ≡ ps
onto_nothing ps s = ap (onto_first []) s.is ∙ sym s.is

pub cut_none : (cuts s : List ℕ) → cut cuts s ≡ onto_first (take 0 s) (cut cuts (drop 0 s))
cut_none cuts s = sym (onto_nothing (cut cuts s) (some_pieces (is_among (characters cuts)) (characters s)))

-- the next character c does not cut
pub cut_on : (cuts a s t c : List ℕ) → characters s ≡ c ∷ characters t → is_among (characters cuts) c ≡ false → onto_first a (cut cuts s) ≡ onto_first (a ++ c) (cut cuts t)
cut_on cuts a s t c is keeps =
    ap (λ (cs : List (List ℕ)). onto_first a (pieces (is_among (characters cuts)) cs)) is
    ∙ ap (λ (b : Bool). onto_first a (cond b ([] ∷ cut cuts t) (onto_first c (cut cuts t)))) keeps
    ∙ onto_onto a c (cut cuts t) (some_pieces (is_among (characters cuts)) (characters t))

-- it cuts
pub cut_here : (cuts a s t c : List ℕ) → characters s ≡ c ∷ characters t → is_among (characters cuts) c ≡ true → onto_first a (cut cuts s) ≡ a ∷ cut cuts t
cut_here cuts a s t c is cuts_it =
    ap (λ (cs : List (List ℕ)). onto_first a (pieces (is_among (characters cuts)) cs)) is
    ∙ ap (λ (b : Bool). onto_first a (cond b ([] ∷ cut cuts t) (onto_first c (cut cuts t)))) cuts_it
    ∙ ap (λ (x : List ℕ). x ∷ cut cuts t) (append-nil a)

-- the end of the text
pub cut_end : (cuts a : List ℕ) → onto_first a (cut cuts []) ≡ a ∷ []
cut_end cuts a = ap (λ (x : List ℕ). x ∷ []) (append-nil a)

-- a piece in front
kept_empty : (p : List ℕ) (cuts s : List ℕ) → without_last_empty (p ∷ cut cuts s) ≡ p ∷ without_last_empty (cut cuts s)
kept_empty [] cuts s =
    let some = some_pieces (is_among (characters cuts)) (characters s) in
    ap (λ (ps : List (List ℕ)). without_last_empty ([] ∷ ps)) some.is ∙ ap (λ (ps : List (List ℕ)). [] ∷ without_last_empty ps) (sym some.is)
kept_empty (b ∷ bs) cuts s = refl

kept_front : (keeps : Bool) (p cuts s : List ℕ) → kept keeps (p ∷ cut cuts s) ≡ kept_piece keeps p ++ kept keeps (cut cuts s)
kept_front true p cuts s = kept_empty p cuts s
kept_front false [] cuts s = refl
kept_front false (b ∷ bs) cuts s = refl

-- one piece further: p was cut from s, and t is behind
pub kept_more : (done : List (List ℕ)) (keeps : Bool) (cuts s p t : List ℕ) → cut cuts s ≡ p ∷ cut cuts t → done ++ kept keeps (cut cuts s) ≡ (done ++ kept_piece keeps p) ++ kept keeps (cut cuts t)
kept_more done keeps cuts s p t is =
    ap (λ (ps : List (List ℕ)). done ++ kept keeps ps) is
    ∙ ap (λ (ps : List (List ℕ)). done ++ ps) (kept_front keeps p cuts t)
    ∙ sym (append_assoc done (kept_piece keeps p) (kept keeps (cut cuts t)))

-- the last piece
kept_end : (keeps : Bool) (p : List ℕ) → kept keeps (p ∷ []) ≡ kept_piece false p
kept_end true [] = refl
kept_end false [] = refl
kept_end true (b ∷ bs) = refl
kept_end false (b ∷ bs) = refl

pub kept_last : (done : List (List ℕ)) (keeps : Bool) (cuts s : List ℕ) → cut cuts s ≡ s ∷ [] → done ++ kept keeps (cut cuts s) ≡ done ++ kept_piece false s
kept_last done keeps cuts s is = ap (λ (ps : List (List ℕ)). done ++ kept keeps ps) is ∙ ap (λ (ps : List (List ℕ)). done ++ ps) (kept_end keeps s)

-- one piece too many
pub too_many : (done ps all : List (List ℕ)) (p : List ℕ) → length done ≡ 65536 → done ++ (p ∷ []) ++ ps ≡ all → 65536 < length all
too_many done ps all p full is = omega (arith, ap length is, length-append (done ++ (p ∷ [])) ps, length-append done (p ∷ []))

pub too_many_last : (done all : List (List ℕ)) (p : List ℕ) → length done ≡ 65536 → done ++ (p ∷ []) ≡ all → 65536 < length all
too_many_last done all p full is = omega (arith, ap length is, length-append done (p ∷ []))

-- the first character of a text, by its bytes
pub record First (s c : List ℕ) : Type 0 where
  pub is : characters s ≡ c ∷ characters (drop (length c) s)
  pub front : take (length c) s ≡ c
  pub within : length c ≤ length s
  pub some : 0 < length c

pub first_is : (s : List ℕ) → 0 < length s → First s (part_of s 0 1)
first_is [] some = let none : ⊥ = omega (arith, some) in absurd none
first_is (b ∷ bs) some =
    let s = b ∷ bs in
    let by = cuts s 1 in
    let front : take (place_of_character s 1) s ≡ part_of s 0 1 = by.front in
    let count = length-characters-behind s (sym (eqb-suc-zero (length bs))) in
    let one : 0 < length (characters s) = omega (arith, count) in
    let size : length (part_of s 0 1) ≡ place_of_character s 1 = ap length (sym front) ∙ length-take-le (place_of_character s 1) s by.within in
    let first : part_of s 0 1 ≡ get_or (characters s) 0 [] = part_of-one s 0 one in record {
      is =
          drop_more (characters s) 0 [] one
          ∙ ap (λ (c : List ℕ). c ∷ drop 1 (characters s)) (sym first)
          ∙ ap (λ (cs : List (List ℕ)). part_of s 0 1 ∷ cs) (sym by.back)
          ∙ ap (λ n. part_of s 0 1 ∷ characters (drop n s)) (sym size);
      front = ap (λ n. take n s) size ∙ front;
      within = omega (arith, size, by.within);
      some = omega (arith, size);
    }

take_on : (s : List ℕ) (m n : ℕ) → take m s ++ take n (drop m s) ≡ take (m + n) s
take_on s m n =
    ap (λ (x : List ℕ). take m s ++ x) (sym (drop-take m n s))
    ∙ ap (λ (x : List ℕ). x ++ drop m (take (m + n) s)) (sym (take-take m (m + n) s (omega arith)))
    ∙ take-append-drop m (take (m + n) s)

-- a step over one character, in the words of the loop
pub cut_step : (cuts text c : List ℕ) (at : ℕ) → at ≤ length text → characters (drop at text) ≡ c ∷ characters (drop (length c) (drop at text)) → take (length c) (drop at text) ≡ c → is_among (characters cuts) c ≡ false → onto_first (take at text) (cut cuts (drop at text)) ≡ onto_first (take (at + length c) text) (cut cuts (drop (at + length c) text))
cut_step cuts text c at within is front keeps =
    cut_on cuts (take at text) (drop at text) (drop (length c) (drop at text)) c is keeps
    ∙ ap (λ (x : List ℕ). onto_first x (cut cuts (drop (length c) (drop at text)))) (ap (λ (x : List ℕ). take at text ++ x) (sym front) ∙ take_on text at (length c))
    ∙ ap (λ (x : List ℕ). onto_first (take (at + length c) text) (cut cuts x)) (drop-drop (length c) at text)

by_test : (t : Bool) (b d : ℕ) (ds : List ℕ) (cs : List (List ℕ)) → length (cond t ((b ∷ []) ∷ (d ∷ ds) ∷ cs) ((b ∷ d ∷ ds) ∷ cs)) ≤ 1 + length ((d ∷ ds) ∷ cs)
by_test true b d ds cs = omega arith
by_test false b d ds cs = omega arith

byte_length : (b : ℕ) (cs : List (List ℕ)) → length (byte_before b cs) ≤ 1 + length cs
byte_length b [] = omega arith
byte_length b ([] ∷ cs) = omega arith
byte_length b ((d ∷ ds) ∷ cs) = by_test (is_char_start d) b d ds cs

-- no more characters than bytes
pub length_characters : (s : List ℕ) → length (characters s) ≤ length s
length_characters [] = omega arith
length_characters (b ∷ bs) = omega (arith, byte_length b (characters bs), length_characters bs)
