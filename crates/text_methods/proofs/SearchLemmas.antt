-- Where a text stands in another, and what replaces it there.
use Rattle.std.proofs.Common.{◌≡◌, ℕ, zero, suc, ◌+◌, ◌-◌, ◌<◌, ◌≤◌, nat_eq, Bool, true, false, ◌&&◌, cond, List, [], ◌∷◌, ◌++◌, length, take, drop, reverse, Some, None, Err, ltb, refl, sym, ap, ap₂, ◌∙◌, subst, arith}
use Rattle.std.proofs.lemmas.Bool.{ltb-true, lt-ltb, true≢false, false_from_ne_true, and_parts, eqb-true, eq-eqb}
use Rattle.std.proofs.lemmas.Bool.Decides.{nat_tests, Decides-eqb}
use Rattle.std.proofs.lemmas.List.{reverse-append, reverse-reverse, length-append, length-drop}
use Rattle.std.proofs.lemmas.List.Prefix.{at_from_reads, at_reads, front_fits}
use Rattle.std.proofs.lemmas.List.Sums.{sum_by-cons}
use Rattle.std.proofs.lemmas.Slice.Eq.{ends_is}
use Rattle.std.specs.Fmt.{is_char_start}
use Rattle.std.specs.List.{count_by, starts_with, ends_with as ends_by}
use Rattle.memchr.specs.Find.{FindsNeedle, OccursAt}
use Rattle.model_values.specs.Limits.{product_limits}
use Rattle.model_values.specs.TextOf.{Wrote, Stops, behind}
use Rattle.model_values.specs.declared.limit.LimitKind.{LimitKind}
use Rattle.model_values.specs.declared.limit.LimitKind.TheVariants.{TextLength}
use Rattle.value_view.specs.Answers.{IsWritten, Writes}
use Rattle.value_view.specs.declared.refusal.OpRefusal.{OpRefusal}
use Rattle.value_view.specs.declared.refusal.OpRefusal.TheVariants.{Memory, Thrown, Limit}
use Rattle.model_values.specs.Searching.{begins_with, ends_with, found_from, replaced_behind}

eqb_flip : (b c : ℕ) → nat_eq c b ≡ nat_eq b c
eqb_flip b c = grind (arith, nat_tests)

pub begins_is : (s t : List ℕ) → starts_with nat_eq s t ≡ begins_with s t
begins_is s [] = refl
begins_is [] (c ∷ cs) = refl
begins_is (b ∷ bs) (c ∷ cs) = ap₂ (λ (x y : Bool). x && y) (eqb_flip b c) (begins_is bs cs)

pub begins_rest : (s t : List ℕ) → begins_with s t ≡ true → s ≡ t ++ drop (length t) s
begins_rest s [] e = refl
begins_rest [] (c ∷ cs) e = cc
begins_rest (b ∷ bs) (c ∷ cs) e =
    let p = and_parts (nat_eq b c) (begins_with bs cs) e in
    ap₂ (λ (x : ℕ) (xs : List ℕ). x ∷ xs) (eqb-true b c p.0) (begins_rest bs cs p.1)

eqb_same : (b : ℕ) → nat_eq b b ≡ true
eqb_same b = eq-eqb b b refl

pub begins_front : (t rest : List ℕ) → begins_with (t ++ rest) t ≡ true
begins_front [] rest = refl
begins_front (c ∷ cs) rest = ap₂ (λ (x y : Bool). x && y) (eqb_same c) (begins_front cs rest)

same_true : (a b : Bool) → (a ≡ true → b ≡ true) → (b ≡ true → a ≡ true) → a ≡ b
same_true true b f g = sym (f refl)
same_true false true f g = g refl
same_true false false f g = refl

pub ends_is_ends : (s t : List ℕ) → ends_by nat_eq s t ≡ ends_with s t
ends_is_ends s t =
    let by = ends_is Decides-eqb s t (ends_by nat_eq s t) refl in
    same_true (ends_by nat_eq s t) (ends_with s t)
    (λ e. let front = take (length s - length t) s in let turned : reverse s ≡ reverse t ++ reverse front = ap reverse (by.0 e) ∙ reverse-append front t in subst (λ (r : List ℕ). begins_with r (reverse t) ≡ true) (sym turned) (begins_front (reverse t) (reverse front)))
    (λ e. let rest = drop (length (reverse t)) (reverse s) in let turned : reverse (reverse s) ≡ reverse rest ++ reverse (reverse t) = ap reverse (begins_rest (reverse s) (reverse t) e) ∙ reverse-append (reverse t) rest in by.1 (reverse rest) (sym (reverse-reverse s) ∙ turned ∙ ap (λ (r : List ℕ). reverse rest ++ r) (reverse-reverse t)))

-- a place where it stands
pub occurs_begins : (s t : List ℕ) (k : ℕ) → OccursAt s t k → begins_with (drop k s) t ≡ true
occurs_begins s t k o =
    subst (λ (r : List ℕ). begins_with r t ≡ true) (sym (at_from_reads 0 s t k o.fits o.reads)) (begins_front t (drop (k + length t) s))

begins_occurs : (s t : List ℕ) (k : ℕ) → k ≤ length s → begins_with (drop k s) t ≡ true → OccursAt s t k
begins_occurs s t k within e =
    let rest = drop (length t) (drop k s) in
    let is : drop k s ≡ t ++ rest = begins_rest (drop k s) t e in
    let fits : length t ≤ length (drop k s) = front_fits (drop k s) t rest is in record {
      fits = omega (arith, length-drop k s);
      reads = at_reads 0 s t k rest is;
    }

pub begins_not : (s t : List ℕ) (k : ℕ) → k ≤ length s → (OccursAt s t k → ⊥) → begins_with (drop k s) t ≡ false
begins_not s t k within never = false_from_ne_true (begins_with (drop k s) t) (λ e. never (begins_occurs s t k within e))

-- t stands in s at the first place k
pub record FirstAt (s t : List ℕ) (k : ℕ) : Type 0 where
  pub here : begins_with (drop k s) t ≡ true
  pub before : (j : ℕ) → j < k → begins_with (drop j s) t ≡ false
  pub within : k ≤ length s

pub first_at : (s t : List ℕ) (k : ℕ) → FindsNeedle s t 0 (Some k) → FirstAt s t k
first_at s t k f = record {
  here = occurs_begins s t k f.1;
  before = λ j lt. begins_not s t j (omega (arith, f.0.high)) (f.0.before j (omega arith) lt);
  within = omega (arith, f.0.high);
}

pub nowhere : (s t : List ℕ) → FindsNeedle s t 0 None → (j : ℕ) → j ≤ length s → begins_with (drop j s) t ≡ false
nowhere s t f j le = begins_not s t j le (f j (omega arith) (omega arith))

earlier : (b : ℕ) (bs t : List ℕ) (k : ℕ) → FirstAt (b ∷ bs) t (suc k) → FirstAt bs t k
earlier b bs t k f = record { here = f.here; before = λ j lt. f.before (suc j) (omega arith); within = omega (arith, f.within) }

starts : ℕ → ℕ
starts x = cond (is_char_start x) 1 0

more_start : (n b : ℕ) (c : ℕ) → cond (is_char_start b) (n + 1) n + c ≡ n + (cond (is_char_start b) 1 0 + c)
more_start n b c = grind (arith, nat_tests)

pub found_at : (n : ℕ) (s t : List ℕ) (k : ℕ) → FirstAt s t k → found_from n s t ≡ Some (n + count_by is_char_start (take k s))
found_at n [] t zero f = ap (λ (x : Bool). cond x (Some n) None) f.here ∙ ap Some (omega arith)
found_at n [] t (suc k) f = let no : ⊥ = omega (arith, f.within) in absurd no
found_at n (b ∷ bs) t zero f = ap (λ (x : Bool). cond x (Some n) (found_from (cond (is_char_start b) (n + 1) n) bs t)) f.here ∙ ap Some (omega arith)
found_at n (b ∷ bs) t (suc k) f =
    ap (λ (x : Bool). cond x (Some n) (found_from (cond (is_char_start b) (n + 1) n) bs t)) (f.before 0 (omega arith))
    ∙ found_at (cond (is_char_start b) (n + 1) n) bs t k (earlier b bs t k f)
    ∙ ap Some (more_start n b (count_by is_char_start (take k bs)) ∙ ap (λ m. n + m) (sym (sum_by-cons (λ x. cond (is_char_start x) 1 0) b (take k bs))))

pub found_nowhere : (n : ℕ) (s t : List ℕ) → ((j : ℕ) → j ≤ length s → begins_with (drop j s) t ≡ false) → found_from n s t ≡ None
found_nowhere n [] t never = ap (λ (x : Bool). cond x (Some n) None) (never 0 (omega arith))
found_nowhere n (b ∷ bs) t never =
    ap (λ (x : Bool). cond x (Some n) (found_from (cond (is_char_start b) (n + 1) n) bs t)) (never 0 (omega arith))
    ∙ found_nowhere (cond (is_char_start b) (n + 1) n) bs t (λ j le. never (suc j) (omega arith))

-- what was replaced is passed over
replaced_skip : (k : ℕ) (s a b : List ℕ) → replaced_behind k s a b ≡ replaced_behind zero (drop k s) a b
replaced_skip zero s a b = refl
replaced_skip (suc k) [] a b = refl
replaced_skip (suc k) (c ∷ cs) a b = replaced_skip k cs a b

pub replaced_at : (s a b : List ℕ) (k : ℕ) → 0 < length a → FirstAt s a k → replaced_behind zero s a b ≡ take k s ++ b ++ replaced_behind zero (drop (k + length a) s) a b
replaced_at s [] b k some f = let no : ⊥ = omega (arith, some) in absurd no
replaced_at [] (x ∷ xs) b zero some f = absurd (true≢false (sym f.here))
replaced_at [] (x ∷ xs) b (suc k) some f = absurd (true≢false (sym f.here))
replaced_at (c ∷ cs) (x ∷ xs) b zero some f =
    let n : length (x ∷ xs) - 1 ≡ length xs = omega arith in
    let m : 0 + length (x ∷ xs) ≡ suc (length xs) = omega arith in
    ap (λ (t : Bool). cond t (b ++ replaced_behind (length (x ∷ xs) - 1) cs (x ∷ xs) b) (c ∷ replaced_behind zero cs (x ∷ xs) b)) f.here
    ∙ ap (λ (r : List ℕ). b ++ r) (ap (λ j. replaced_behind j cs (x ∷ xs) b) n ∙ replaced_skip (length xs) cs (x ∷ xs) b ∙ ap (λ j. replaced_behind zero (drop j (c ∷ cs)) (x ∷ xs) b) (sym m))
replaced_at (c ∷ cs) (x ∷ xs) b (suc k) some f =
    let m : suc k + length (x ∷ xs) ≡ suc (k + length (x ∷ xs)) = omega arith in
    ap (λ (t : Bool). cond t (b ++ replaced_behind (length (x ∷ xs) - 1) cs (x ∷ xs) b) (c ∷ replaced_behind zero cs (x ∷ xs) b)) (f.before 0 (omega arith))
    ∙ ap (λ (r : List ℕ). c ∷ r) (replaced_at cs (x ∷ xs) b k some (earlier c cs (x ∷ xs) k f))
    ∙ ap (λ j. c ∷ take k cs ++ b ++ replaced_behind zero (drop j (c ∷ cs)) (x ∷ xs) b) (sym m)

pub replaced_nowhere : (s a b : List ℕ) → ((j : ℕ) → j ≤ length s → begins_with (drop j s) a ≡ false) → replaced_behind zero s a b ≡ s
replaced_nowhere [] a b never = refl
replaced_nowhere (c ∷ cs) a b never =
    ap (λ (t : Bool). cond t (b ++ replaced_behind (length a - 1) cs a b) (c ∷ replaced_behind zero cs a b)) (never 0 (omega arith))
    ∙ ap (λ (r : List ℕ). c ∷ r) (replaced_nowhere cs a b (λ j le. never (suc j) (omega arith)))

-- a part that was too long, or that was written, in the whole
carry_by : (b b' : Bool) (u v : List ℕ) (k : LimitKind) → (b ≡ true → b' ≡ true) → cond b (Stops TextLength) (Wrote u) ≡ Stops k → cond b' (Stops TextLength) (Wrote v) ≡ Stops k
carry_by true b' u v k f e = ap (λ (x : Bool). cond x (Stops TextLength) (Wrote v)) (f refl) ∙ e
carry_by false b' u v k f e = absurd (cc)

pub carry : (more t whole u new : List ℕ) (e : OpRefusal) → length t + length more ≤ length u + length whole → Writes (behind product_limits [] more t) new (Err e) → IsWritten (behind product_limits [] whole u) (Err e)
carry more t whole u new Memory le h = tt
carry more t whole u new (Thrown c) le h = h
carry more t whole u new (Limit k) le h =
    carry_by (ltb 1048576 (length t + length more)) (ltb 1048576 (length u + length whole)) (t ++ more) (u ++ whole) k
    (λ x. lt-ltb 1048576 (length u + length whole) (omega (arith, le, ltb-true 1048576 (length t + length more) x))) h

wrote_by : (b : Bool) (u v : List ℕ) → cond b (Stops TextLength) (Wrote u) ≡ Wrote v → (b ≡ false) × (u ≡ v)
wrote_by true u v e = absurd (cc)
wrote_by false u v e = (refl, cc)

pub wrote : (more t v : List ℕ) → behind product_limits [] more t ≡ Wrote v → v ≡ t ++ more
wrote more t v e = sym (wrote_by (ltb 1048576 (length t + length more)) (t ++ more) v e).1

pub wrote_whole : (more t v whole : List ℕ) → behind product_limits [] more t ≡ Wrote v → whole ≡ t ++ more → behind product_limits [] whole [] ≡ Wrote v
wrote_whole more t v whole e is =
    let w = wrote_by (ltb 1048576 (length t + length more)) (t ++ more) v e in
    let size : length t + length more ≡ 0 + length whole = omega (arith, ap length is, length-append t more) in
    let none : List ℕ = [] in
    ap (λ (b : Bool). cond b (Stops TextLength) (Wrote (none ++ whole))) (ap (λ n. ltb 1048576 n) (sym size) ∙ w.0) ∙ ap Wrote (is ∙ w.1)
