-- The frames that count as untouched, over moves and over turns.
use Rattle.std.proofs.Common.{◌≡◌, ◌∙◌, ℕ, ◌≤◌, List, ◌++◌, length, take, refl, ap, sym, arith}
use Rattle.std.proofs.lemmas.List.{length-append, take-append-le, take-take}
use Rattle.model_run.specs.declared.frame.Frame.{Frame}
use Rattle.script_thread.specs.Marks.{StaysBelow}

-- a shorter front of a common front
pub shorter_same : {A : Type 0} (m n : ℕ) (xs ys : List A) → m ≤ n → take n xs ≡ take n ys → take m xs ≡ take m ys
shorter_same m n xs ys h same = sym (take-take m n xs h) ∙ ap (take m) same ∙ take-take m n ys h

pub stays_itself : (n : ℕ) (xs : List Frame) → StaysBelow n xs n xs
stays_itself n xs = record { fewer = omega arith; same = refl }

pub stays_less : (n l : ℕ) (xs : List Frame) (m : ℕ) (ys : List Frame) → l ≤ n → StaysBelow l xs m ys → StaysBelow n xs m ys
stays_less n l xs m ys less h = record { fewer = omega (arith, h.fewer, less); same = h.same }

pub stays_further : (l : ℕ) (xs : List Frame) (m : ℕ) (ys : List Frame) (n : ℕ) (zs : List Frame) → StaysBelow l xs m ys → StaysBelow m ys n zs → StaysBelow l xs n zs
stays_further l xs m ys n zs h k = record { fewer = omega (arith, h.fewer, k.fewer); same = k.same ∙ shorter_same n m ys xs k.fewer h.same }

-- frames are put up on those that are there
pub stays_pushed : (n : ℕ) (xs gs ys : List Frame) → ys ≡ xs ++ gs → n ≤ length xs → StaysBelow n xs n ys
stays_pushed n xs gs ys pushed within = record { fewer = omega arith; same = ap (take n) pushed ∙ take-append-le n xs gs within }

-- and taken off down to a front
pub stays_front : (l n : ℕ) (xs gs ys : List Frame) → ys ≡ xs ++ gs → n ≤ l → n ≤ length xs → StaysBelow l ys n xs
stays_front l n xs gs ys over fewer within = record { fewer = fewer; same = sym (ap (take n) over ∙ take-append-le n xs gs within) }

pub within_pushed : (n : ℕ) (xs gs ys : List Frame) → ys ≡ xs ++ gs → n ≤ length xs → n ≤ length ys
within_pushed n xs gs ys pushed within = omega (arith, ap length pushed, length-append xs gs, within)
