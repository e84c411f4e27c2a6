-- Bytes that stand in an output from a place on.
use Rattle.std.proofs.Common.{◌≡◌, ◌≤◌, ◌+◌, ◌++◌, ◌∷◌, [], ℕ, List, length, take, drop, sym, ap, ◌∙◌, refl, arith, append_assoc, append-nil, length-append, length-drop, take-append-drop, drop-drop}
use Rattle.std.proofs.lemmas.List.{take_at, drop-append-le}
use Rattle.std.proofs.Math.Seq.{drop-append_seam}
use Rattle.agent_worker.specs.Delivering.{StandsFrom}

-- what stands there still does when the output has grown
pub stands-grown : (place : ℕ) (bytes output grown : List ℕ) → take (length output) grown ≡ output → StandsFrom place bytes output → StandsFrom place bytes grown
stands-grown place [] output grown front stands = (drop place grown, refl)
stands-grown place (b ∷ bytes) output grown front stands =
    let more = drop (length output) grown in
    let whole : output ++ more ≡ grown = ap (λ xs. xs ++ more) (sym front) ∙ take-append-drop (length output) grown in
    let some : length (drop place output) ≡ length (b ∷ bytes ++ stands.0) = ap length stands.1 in
    let inside : place ≤ length output = omega (arith, some, length-drop place output) in
    (stands.0 ++ more, ap (drop place) (sym whole) ∙ drop-append-le place output more inside ∙ ap (λ xs. xs ++ more) stands.1 ∙ append_assoc (b ∷ bytes) stands.0 more)

-- the bytes of a read from behind them stand behind them
pub stands-more : (place n : ℕ) (bytes read output : List ℕ) → StandsFrom place bytes output → read ≡ take n (drop (place + length bytes) output) → StandsFrom place (bytes ++ read) output
stands-more place n bytes read output stands is =
    let behind : drop (place + length bytes) output ≡ stands.0 = sym (drop-drop (length bytes) place output) ∙ ap (drop (length bytes)) stands.1 ∙ drop-append_seam bytes stands.0 in
    let front : read ≡ take n stands.0 = is ∙ ap (take n) behind in
    (drop n stands.0, stands.1 ∙ ap (λ xs. bytes ++ xs) (sym (take-append-drop n stands.0) ∙ ap (λ xs. xs ++ drop n stands.0) (sym front)) ∙ sym (append_assoc bytes read (drop n stands.0)))

none-left : (xs : List ℕ) → length xs ≡ 0 → xs ≡ []
none-left [] is = refl
none-left (x ∷ xs) is = absurd (omega (arith, is))

-- where the output ends there, they are all of it
pub stands-all : (place : ℕ) (bytes output : List ℕ) → StandsFrom place bytes output → length output ≤ place + length bytes → drop place output ≡ bytes
stands-all place bytes output stands ends =
    let size : length (drop place output) ≡ length bytes + length stands.0 = ap length stands.1 ∙ length-append bytes stands.0 in
    let none : stands.0 ≡ [] = none-left stands.0 (omega (arith, size, length-drop place output)) in
    stands.1 ∙ ap (λ xs. bytes ++ xs) none ∙ append-nil bytes

-- the bytes that a read put in front of the buffer
pub read-front : (n «from» : ℕ) (output old new : List ℕ) → new ≡ take n (drop «from» output) ++ drop n old → length new ≡ length old → n ≤ length old → take n new ≡ take n (drop «from» output)
read-front n «from» output old new is size room =
    let sizes : length new ≡ length (take n (drop «from» output)) + length (drop n old) = ap length is ∙ length-append (take n (drop «from» output)) (drop n old) in
    let all : length (take n (drop «from» output)) ≡ n = omega (arith, sizes, length-drop n old) in
    ap (take n) is ∙ take_at (take n (drop «from» output)) (drop n old) n all
