-- The tokens of a text, one after the other.
use Rattle.std.proofs.Common.{◌≡◌, ℕ, zero, suc, ◌+◌, ◌-◌, ◌<◌, ◌≤◌, true, false, List, [], ◌∷◌, ◌++◌, length, take, drop, get_or, refl, sym, ap, ◌∙◌, arith, add-zero, take_all}
use Rattle.std.specs.Prelude.{not, ◌&&◌, codes, if◌then◌else◌}
use Rattle.std.proofs.lemmas.List.{drop-drop, length-drop, append_assoc, map-append}
use Rattle.label_expr.specs.declared.token.Spot.{Spot}
use Rattle.model_run.specs.LabelTokens as tokens
use Rattle.model_run.specs.LabelTokens.{Token, Blank, Name, NotSign, AndSign, OrSign, ImpliesSign, IffSign, OpenParen, CloseParen, Unknown, spot, spot_before, spots_behind}
use Rattle.label_expr.specs.Readings.{goes_on, token_of, spot_of, seen}

-- a name
name_on : (bs : List ℕ) → goes_on bs ≡ true → tokens.name_length bs ≡ suc (tokens.name_length (drop 1 bs))
name_on [] on = cc
name_on (b ∷ bs) on = ap (λ t. if t then suc (tokens.name_length bs) else 0) on

name_off : (bs : List ℕ) → goes_on bs ≡ false → tokens.name_length bs ≡ 0
name_off [] off = refl
name_off (b ∷ bs) off = ap (λ t. if t then suc (tokens.name_length bs) else 0) off

module _ (bs : List ℕ) (i : ℕ) where
  pub name_more : tokens.name_length bs ≡ i + tokens.name_length (drop i bs) → goes_on (drop i bs) ≡ true
      → tokens.name_length bs ≡ (i + 1) + tokens.name_length (drop (i + 1) bs)
  name_more so_far on =
      let more = name_on (drop i bs) on in
      let next = ap tokens.name_length (drop-drop 1 i bs) in
      grind (arith, so_far, more, next)

  pub name_done : tokens.name_length bs ≡ i + tokens.name_length (drop i bs) → goes_on (drop i bs) ≡ false
      → i ≡ tokens.name_length bs
  name_done so_far off =
      let none = name_off (drop i bs) off in
      omega (arith, so_far, none)

-- the spots behind k bytes are those of the bytes that are left
spots_skip : (k at : ℕ) (bs : List ℕ) → spots_behind k at bs ≡ spots_behind 0 (at + k) (drop k bs)
spots_skip zero at [] = refl
spots_skip zero at (b ∷ bs) = ap (λ n. spots_behind 0 n (b ∷ bs)) (sym (add-zero at))
spots_skip (suc k) at [] = refl
spots_skip (suc k) at (b ∷ bs) = let place : suc at + k ≡ at + suc k = omega arith in spots_skip k (suc at) bs ∙ ap (λ n. spots_behind 0 n (drop k bs)) place

spots_first : (t : Token) (n at : ℕ) (bs : List ℕ) → 0 < length bs → 1 ≤ n → tokens.token_of bs ≡ (t, n)
    → spots_behind 0 at bs ≡ spot_before t at (spots_behind 0 (at + n) (drop n bs))
spots_first t n at [] some one is = absurd (omega (arith, some))
spots_first t zero at (b ∷ bs) some one is = absurd (omega (arith, one))
spots_first t (suc n) at (b ∷ bs) some one is =
    let P : Token × ℕ → List tokens.Spot = λ p. spot_before p.0 at (spots_behind (p.1 - 1) (suc at) bs) in
    let less : suc n - 1 ≡ n = omega arith in
    let place : suc at + n ≡ at + suc n = omega arith in
    ap P is ∙ ap (spot_before t at) (ap (λ m. spots_behind m (suc at) bs) less ∙ spots_skip n (suc at) bs ∙ ap (λ m. spots_behind 0 m (drop n bs)) place)

spot_kept : (t : Token) (at : ℕ) (spots : List tokens.Spot) → (t ≡ Blank → ⊥) → spot_before t at spots ≡ spot t at ∷ spots
spot_kept Blank at spots shown = absurd (shown refl)
spot_kept (Name name) at spots shown = refl
spot_kept NotSign at spots shown = refl
spot_kept AndSign at spots shown = refl
spot_kept OrSign at spots shown = refl
spot_kept ImpliesSign at spots shown = refl
spot_kept IffSign at spots shown = refl
spot_kept OpenParen at spots shown = refl
spot_kept CloseParen at spots shown = refl
spot_kept Unknown at spots shown = refl

module _ (text : List ℕ) (at : ℕ) (done : List Spot) (n : ℕ) where
  pub after_first : (t : Token) → at < length text → 1 ≤ n → tokens.token_of (drop at text) ≡ (t, n)
      → spots_behind 0 at (drop at text) ≡ spot_before t at (spots_behind 0 (at + n) (drop (at + n) text))
  after_first t within one is =
      let left = length-drop at text in
      spots_first t n at (drop at text) (omega (arith, left, within)) one is
      ∙ ap (λ bs. spot_before t at (spots_behind 0 (at + n) bs)) (drop-drop n at text)

  -- the tokens kept so far, and those from here on
  pub token_passed : (t : Token) (kept : List Spot) → at < length text → 1 ≤ n → tokens.token_of (drop at text) ≡ (t, n)
      → ((rest : List tokens.Spot) → seen done ++ spot_before t at rest ≡ seen kept ++ rest)
      → tokens.spots_of text ≡ seen done ++ spots_behind 0 at (drop at text)
      → tokens.spots_of text ≡ seen kept ++ spots_behind 0 (at + n) (drop (at + n) text)
  token_passed t kept within one is keeps so_far =
      so_far ∙ ap (λ s. seen done ++ s) (after_first t within one is) ∙ keeps (spots_behind 0 (at + n) (drop (at + n) text))

-- what is done with one token
pub blank_kept : (done : List Spot) (t : Token) (at : ℕ) (rest : List tokens.Spot) → t ≡ Blank → seen done ++ spot_before t at rest ≡ seen done ++ rest
blank_kept done t at rest blank = ap (λ u. seen done ++ spot_before u at rest) blank

pub token_kept : (done : List Spot) (s : Spot) (rest : List tokens.Spot) → (token_of s.token ≡ Blank → ⊥)
    → seen done ++ spot_before (token_of s.token) s.at rest ≡ seen (done ++ s ∷ []) ++ rest
token_kept done s rest shown =
    ap (λ t. seen done ++ t) (spot_kept (token_of s.token) s.at rest shown)
    ∙ sym (append_assoc (seen done) (spot_of s ∷ []) rest)
    ∙ ap (λ t. t ++ rest) (sym (map-append spot_of done (s ∷ [])))

-- whether a name goes on
pub goes_on-none : (bs : List ℕ) → length bs < 1 → goes_on bs ≡ false
goes_on-none [] none = refl
goes_on-none (b ∷ bs) none = absurd (omega (arith, none))

pub goes_on-some : (bs : List ℕ) → 1 ≤ length bs → goes_on bs ≡ (tokens.is_name_byte (get_or bs 0 0) && not (tokens.begins_with bs (codes "->")))
goes_on-some [] some = absurd (omega (arith, some))
goes_on-some (b ∷ bs) some = refl

-- `&bytes[i..]`
pub from_here : (i : ℕ) (bs : List ℕ) → take (length bs - i) (drop i bs) ≡ drop i bs
from_here i bs = let size = length-drop i bs in take_all (length bs - i) (drop i bs) (omega (arith, size))
