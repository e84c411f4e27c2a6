-- Bytes that are read, and written, piece by piece.
use Rattle.std.proofs.Common.{◌≡◌, ◌≤◌, ◌++◌, ◌+◌, ◌-◌, ℕ, List, drop, take, length, sym, ap, ◌∙◌, arith, Option, subst}
use Rattle.std.proofs.lemmas.List.{take-append-drop, drop-drop, take_at, take_all, length-take, length-drop}
use Rattle.std.proofs.Math.Seq.{take-add}
use Rattle.std.proofs.KnownBytes.{Appends-trans}
use Rattle.std.specs.Io.KnownBytes.{Appends}

-- a piece that was read is the front of what was left, whatever the buffer held behind it
pub piece_read : (bytes piece rest : List ℕ) (at n : ℕ) → at + n ≤ length bytes → piece ≡ take (at + n - at) (drop at bytes)
    → drop at bytes ≡ take n (piece ++ rest) ++ drop (at + n) bytes
piece_read bytes piece rest at n within is =
    let count : at + n - at ≡ n = omega arith in
    let front : piece ≡ take n (drop at bytes) = is ∙ ap (λ k. take k (drop at bytes)) count in
    let size : length piece ≡ n = ap length front ∙ length-take n (drop at bytes) ∙ omega (arith, length-drop at bytes) in
    let read : take n (piece ++ rest) ≡ take n (drop at bytes) = take_at piece rest n size ∙ front in
    sym (take-append-drop n (drop at bytes)) ∙ ap (λ xs. xs ++ drop n (drop at bytes)) (sym read) ∙ ap (λ xs. take n (piece ++ rest) ++ xs) (drop-drop n at bytes)

-- what two writes appended, one after the other, is the front of the bytes
pub piece_written : (a b c : Option (List ℕ)) (bytes : List ℕ) (k n : ℕ)
    → Appends a b (take k bytes) → Appends b c (take n (take (length bytes - k) (drop k bytes))) → Appends a c (take (k + n) bytes)
piece_written a b c bytes k n first second =
    let all : take (length bytes - k) (drop k bytes) ≡ drop k bytes = take_all _ _ (omega (arith, length-drop k bytes)) in
    let front = subst (λ piece. Appends b c (take n piece)) all second in
    subst (Appends a c) (sym (take-add k n bytes)) (Appends-trans a b c (take k bytes) (take n (drop k bytes)) first front)
