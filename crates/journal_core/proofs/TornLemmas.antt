-- What a write leaves that a crash cuts short.
use Rattle.std.proofs.Common.{◌≡◌, ◌<◌, ◌≤◌, inl, inr, ℕ, ◌+◌, List, [], ◌∷◌, ◌++◌, length, get_or, take, drop, sym, ◌∙◌, ap, subst, arith, append_assoc, length-append, length-take, length-drop, take-append-drop}
use Rattle.std.proofs.lemmas.List.{take_at, drop_at, drop-drop, drop_more, ext_get_or, get_or-take, get_or-drop, get_or_append_left, get_or-append-add}
use Rattle.jp_disk.specs.Images.{IsTornWrite, after_write}

-- what stands before the range stays
pub front_kept : (xs ys c : List ℕ) (at n : ℕ) → at ≡ length xs → IsTornWrite at n (xs ++ ys) c → take at c ≡ xs
front_kept xs ys c at n is torn =
    let both = length-append xs ys in
    let long : at ≤ length c = omega (arith, is, both, torn.no_shorter) in
    let size : length (take at c) ≡ length xs = omega (arith, length-take at c, long, is) in
    ext_get_or 0 (take at c) xs size (λ k lt.
    let lt_at : k < at = omega (arith, lt, size, is) in
    let lt_xs : k < length xs = omega (arith, lt_at, is) in
    get_or-take at c k 0 lt_at ∙ torn.same k (omega (arith, lt_xs, both)) (inl lt_at, tt) ∙ get_or_append_left xs ys 0 k lt_xs)

-- and what stands behind it
pub back_kept : (xs ys c : List ℕ) (at n : ℕ) → at + n ≡ length xs → IsTornWrite at n (xs ++ ys) c → drop (at + n) c ≡ ys
back_kept xs ys c at n is torn =
    let both = length-append xs ys in
    let same_length : length c ≡ length (xs ++ ys) = omega (arith, is, both, torn.no_shorter, torn.no_longer) in
    let size : length (drop (at + n) c) ≡ length ys = omega (arith, length-drop (at + n) c, same_length, both, is) in
    ext_get_or 0 (drop (at + n) c) ys size (λ k lt.
    let lt_ys : k < length ys = omega (arith, lt, size) in
    get_or-drop (at + n) c k 0 ∙ torn.same (at + n + k) (omega (arith, lt_ys, both, is)) (inr (omega arith), tt)
    ∙ ap (λ (m : ℕ). get_or (xs ++ ys) (m + k) 0) is ∙ get_or-append-add xs ys k 0)

-- a closed gate stays in front of what is torn
pub torn_behind : (xs : List ℕ) (gate : ℕ) (rest c : List ℕ) (at n : ℕ) → at ≡ length xs → IsTornWrite (at + 1) n (xs ++ gate ∷ rest) c → c ≡ xs ++ gate ∷ drop (at + 1) c
torn_behind xs gate rest c at n is torn =
    let size : at + 1 ≡ length (xs ++ gate ∷ []) = omega (arith, is, length-append xs (gate ∷ [])) in
    let front = front_kept (xs ++ gate ∷ []) rest c (at + 1) n size (subst (λ (l : List ℕ). IsTornWrite (at + 1) n l c) (sym (append_assoc xs (gate ∷ []) rest)) torn) in
    sym (take-append-drop (at + 1) c) ∙ ap (λ (l : List ℕ). l ++ drop (at + 1) c) front ∙ append_assoc xs (gate ∷ []) (drop (at + 1) c)

-- a torn gate leaves what stands round it
pub torn_gate : (xs : List ℕ) (gate : ℕ) (rest c : List ℕ) (at : ℕ) → at ≡ length xs → IsTornWrite at 1 (xs ++ gate ∷ rest) c → c ≡ xs ++ get_or c at 0 ∷ rest
torn_gate xs gate rest c at is torn =
    let long : at < length c = omega (arith, is, length-append xs (gate ∷ rest), torn.no_shorter) in
    let front = front_kept xs (gate ∷ rest) c at 1 is torn in
    let size : at + 1 ≡ length (xs ++ gate ∷ []) = omega (arith, is, length-append xs (gate ∷ [])) in
    let back = back_kept (xs ++ gate ∷ []) rest c at 1 size (subst (λ (l : List ℕ). IsTornWrite at 1 l c) (sym (append_assoc xs (gate ∷ []) rest)) torn) in
    sym (take-append-drop at c) ∙ ap (λ (l : List ℕ). l ++ drop at c) front ∙ ap (λ (l : List ℕ). xs ++ l) (drop_more c at 0 long ∙ ap (λ (l : List ℕ). get_or c at 0 ∷ l) back)

pub written_behind : (xs : List ℕ) (gate : ℕ) (rest bytes : List ℕ) (at : ℕ) → at ≡ length xs → after_write (xs ++ gate ∷ rest) (at + 1) bytes ≡ xs ++ gate ∷ (bytes ++ drop (length bytes) rest)
written_behind xs gate rest bytes at is =
    let front = xs ++ gate ∷ [] in
    let split : xs ++ gate ∷ rest ≡ front ++ rest = sym (append_assoc xs (gate ∷ []) rest) in
    let size : length front ≡ at + 1 = omega (arith, is, length-append xs (gate ∷ [])) in
    ap (λ (l : List ℕ). after_write l (at + 1) bytes) split
    ∙ ap (λ (l : List ℕ). l ++ bytes ++ drop (at + 1 + length bytes) (front ++ rest)) (take_at front rest (at + 1) size)
    ∙ ap (λ (l : List ℕ). front ++ bytes ++ l) (sym (drop-drop (length bytes) (at + 1) (front ++ rest)) ∙ ap (λ (l : List ℕ). drop (length bytes) l) (drop_at front rest (at + 1) size))
    ∙ append_assoc front bytes (drop (length bytes) rest) ∙ append_assoc xs (gate ∷ []) (bytes ++ drop (length bytes) rest)

pub written_gate : (xs : List ℕ) (gate : ℕ) (rest : List ℕ) (at new : ℕ) → at ≡ length xs → after_write (xs ++ gate ∷ rest) at (new ∷ []) ≡ xs ++ new ∷ rest
written_gate xs gate rest at new is =
    ap (λ (l : List ℕ). l ++ (new ∷ []) ++ drop (at + 1) (xs ++ gate ∷ rest)) (take_at xs (gate ∷ rest) at (sym is))
    ∙ ap (λ (l : List ℕ). xs ++ (new ∷ []) ++ l) (sym (drop-drop 1 at (xs ++ gate ∷ rest)) ∙ ap (λ (l : List ℕ). drop 1 l) (drop_at xs (gate ∷ rest) at (sym is)))
    ∙ append_assoc xs (new ∷ []) rest
