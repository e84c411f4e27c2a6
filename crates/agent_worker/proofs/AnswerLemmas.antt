-- A line that comes byte by byte.
use Rattle.std.proofs.Common.{◌≡◌, ◌≢◌, ◌<◌, ◌≤◌, ◌-◌, ◌++◌, ◌∷◌, [], ℕ, List, length, take, sym, ap, ◌∙◌, refl, arith, append_assoc, append-nil, length-append, length-take, take_all}
use Rattle.std.proofs.lemmas.List.{take-append-le}
use Rattle.std.proofs.Common.{Bool, true, false, suc, nat_eq, nat_le, slice_index, ne_eqb, if◌then◌else◌}
use Rattle.std.proofs.lemmas.Bool.Decides.{nat_tests}
use Rattle.agent_worker.specs.declared.worked.Worked.{Worked}
use Rattle.agent_worker.specs.declared.worked.Worked.TheVariants as worked
use Rattle.agent_worker.specs.AnswerBytes.{short, without_cr, NoNewline, lines_of, begun_after, kept_line, last_line}
use Rattle.agent_worker.specs.Operating.{Ask, given_in, read_in, has_ended, GivesLines}

-- one byte more, where there is room
pub short-more : (bytes : List ℕ) (b : ℕ) → length (short bytes) < 1026 → short bytes ++ b ∷ [] ≡ short (bytes ++ b ∷ [])
short-more bytes b room =
    let few : length bytes < 1026 = omega (arith, room, length-take 1026 bytes) in
    ap (λ (l : List ℕ). l ++ b ∷ []) (take_all 1026 bytes (omega (arith, few))) ∙ sym (take_all 1026 (bytes ++ b ∷ []) (omega (arith, few, length-append bytes (b ∷ []))))

-- and where there is none
pub short-full : (bytes : List ℕ) (b : ℕ) → 1026 ≤ length (short bytes) → short bytes ≡ short (bytes ++ b ∷ [])
short-full bytes b full =
    let many : 1026 ≤ length bytes = omega (arith, full, length-take 1026 bytes) in
    sym (take-append-le 1026 bytes (b ∷ []) many)

-- the lines of two pieces, one after the other
pub lines-on : (begun bytes more : List ℕ) → lines_of begun (bytes ++ more) ≡ lines_of begun bytes ++ lines_of (begun_after begun bytes) more
lines-on begun [] more = refl
lines-on begun (b ∷ bytes) more = by (lines-on [] bytes more) (lines-on (begun ++ b ∷ []) bytes more) (nat_eq b 10)
  where
    by : (lines_of [] (bytes ++ more) ≡ lines_of [] bytes ++ lines_of (begun_after [] bytes) more)
        → (lines_of (begun ++ b ∷ []) (bytes ++ more) ≡ lines_of (begun ++ b ∷ []) bytes ++ lines_of (begun_after (begun ++ b ∷ []) bytes) more)
        → (newline : Bool) → (if newline then kept_line begun ++ lines_of [] (bytes ++ more) else lines_of (begun ++ b ∷ []) (bytes ++ more))
        ≡ (if newline then kept_line begun ++ lines_of [] bytes else lines_of (begun ++ b ∷ []) bytes) ++ lines_of (if newline then begun_after [] bytes else begun_after (begun ++ b ∷ []) bytes) more
    by ended going true = ap (λ (l : List (List ℕ)). kept_line begun ++ l) ended ∙ sym (append_assoc (kept_line begun) (lines_of [] bytes) (lines_of (begun_after [] bytes) more))
    by ended going false = going

-- what has begun after two pieces
pub begun-on : (begun bytes more : List ℕ) → begun_after begun (bytes ++ more) ≡ begun_after (begun_after begun bytes) more
begun-on begun [] more = refl
begun-on begun (b ∷ bytes) more = by (begun-on [] bytes more) (begun-on (begun ++ b ∷ []) bytes more) (nat_eq b 10)
  where
    by : (begun_after [] (bytes ++ more) ≡ begun_after (begun_after [] bytes) more) → (begun_after (begun ++ b ∷ []) (bytes ++ more) ≡ begun_after (begun_after (begun ++ b ∷ []) bytes) more)
        → (newline : Bool) → (if newline then begun_after [] (bytes ++ more) else begun_after (begun ++ b ∷ []) (bytes ++ more))
        ≡ begun_after (if newline then begun_after [] bytes else begun_after (begun ++ b ∷ []) bytes) more
    by ended going true = ended
    by ended going false = going

-- bytes without a newline only go on with the line
pub begun-plain : (begun bytes : List ℕ) → NoNewline bytes → begun_after begun bytes ≡ begun ++ bytes
begun-plain begun [] plain = sym (append-nil begun)
begun-plain begun (b ∷ bytes) plain =
    by (nat_eq b 10) (ne_eqb b 10 (plain 0 0 (omega arith)))
    (begun-plain (begun ++ b ∷ []) bytes (λ k d inside. plain (suc k) d (omega (arith, inside))) ∙ append_assoc begun (b ∷ []) bytes)
  where
    by : (newline : Bool) → newline ≡ false → begun_after (begun ++ b ∷ []) bytes ≡ begun ++ b ∷ bytes → (if newline then begun_after [] bytes else begun_after (begun ++ b ∷ []) bytes) ≡ begun ++ b ∷ bytes
    by true is going = cc
    by false is going = going

pub lines-plain : (begun bytes : List ℕ) → NoNewline bytes → lines_of begun bytes ≡ []
lines-plain begun [] plain = refl
lines-plain begun (b ∷ bytes) plain =
    by (nat_eq b 10) (ne_eqb b 10 (plain 0 0 (omega arith)))
    (lines-plain (begun ++ b ∷ []) bytes (λ k d inside. plain (suc k) d (omega (arith, inside))))
  where
    by : (newline : Bool) → newline ≡ false → lines_of (begun ++ b ∷ []) bytes ≡ [] → (if newline then kept_line begun ++ lines_of [] bytes else lines_of (begun ++ b ∷ []) bytes) ≡ []
    by true is going = cc
    by false is going = going

too-long : (n : ℕ) → 1024 < n → nat_le n 1024 ≡ false
too-long n many = grind (arith, nat_tests)

long-none : (line : List ℕ) → 1025 < length line → kept_line line ≡ []
long-none line many = by (nat_eq (slice_index line (length line - 1)) 13)
  where
    by : (cr : Bool) → (if nat_le (length (if cr then take (length line - 1) line else line)) 1024 then (if cr then take (length line - 1) line else line) ∷ [] else []) ≡ []
    by true = ap (λ (b : Bool). if b then take (length line - 1) line ∷ [] else []) (too-long (length (take (length line - 1) line)) (omega (arith, many, length-take (length line - 1) line)))
    by false = ap (λ (b : Bool). if b then line ∷ [] else []) (too-long (length line) (omega (arith, many)))

-- what is kept of a line is enough
pub kept-short : (bytes : List ℕ) → kept_line (short bytes) ≡ kept_line bytes
kept-short bytes = by (nat_le (length bytes) 1026) refl
  where
    by : (few : Bool) → nat_le (length bytes) 1026 ≡ few → kept_line (short bytes) ≡ kept_line bytes
    by true is = ap kept_line (take_all 1026 bytes (grind (arith, nat_tests)))
    by false is =
        let many : 1026 < length bytes = grind (arith, nat_tests) in
        long-none (short bytes) (omega (arith, many, length-take 1026 bytes)) ∙ sym (long-none bytes (omega (arith, many)))

pub line-one : (begun bytes : List ℕ) → NoNewline bytes → lines_of begun (bytes ++ 10 ∷ []) ≡ kept_line (begun ++ bytes)
line-one begun bytes plain =
    lines-on begun bytes (10 ∷ []) ∙ ap (λ (l : List (List ℕ)). l ++ lines_of (begun_after begun bytes) (10 ∷ [])) (lines-plain begun bytes plain)
    ∙ append-nil (kept_line (begun_after begun bytes)) ∙ ap kept_line (begun-plain begun bytes plain)

-- a line that is not too long, and one that is
pub kept-line : (line : List ℕ) → length (without_cr line) ≤ 1024 → kept_line line ≡ without_cr line ∷ []
kept-line line few = ap (λ (b : Bool). if b then without_cr line ∷ [] else []) (not-long (length (without_cr line)) few)
  where
    not-long : (n : ℕ) → n ≤ 1024 → nat_le n 1024 ≡ true
    not-long n few = grind (arith, nat_tests)

pub passed-line : (line : List ℕ) → 1024 < length (without_cr line) → kept_line line ≡ []
passed-line line many = ap (λ (b : Bool). if b then without_cr line ∷ [] else []) (too-long (length (without_cr line)) many)

-- what was given so far, and what has come of the next line
pub record LinesSoFar (begun line : List ℕ) (past : List Ask) : Type 0 where
  pub kept : line ≡ short (begun_after begun (read_in past))
  pub given : given_in past ≡ lines_of begun (read_in past)

-- an ask reads nothing and gives no line
pub lines-asked : (begun line : List ℕ) (past next_past : List Ask) → LinesSoFar begun line past → read_in next_past ≡ read_in past → given_in next_past ≡ given_in past → LinesSoFar begun line next_past
lines-asked begun line past next_past so same_read same_given = record {
  kept = so.kept ∙ ap (λ (l : List ℕ). short (begun_after begun l)) (sym same_read);
  given = same_given ∙ so.given ∙ ap (lines_of begun) (sym same_read);
}

-- bytes of the line that comes give no whole line
lines-same : (begun bytes more : List ℕ) → NoNewline more → lines_of begun (bytes ++ more) ≡ lines_of begun bytes
lines-same begun bytes more plain =
    lines-on begun bytes more ∙ ap (λ (l : List (List ℕ)). lines_of begun bytes ++ l) (lines-plain (begun_after begun bytes) more plain) ∙ append-nil (lines_of begun bytes)

begun-more : (begun bytes more : List ℕ) → NoNewline more → begun_after begun (bytes ++ more) ≡ begun_after begun bytes ++ more
begun-more begun bytes more plain = begun-on begun bytes more ∙ begun-plain (begun_after begun bytes) more plain

-- one line more, with its newline
pub one-line-more : (begun line next : List ℕ) (past next_past : List Ask) → LinesSoFar begun line past → (xs : List ℕ) → NoNewline xs → read_in next_past ≡ read_in past ++ (xs ++ 10 ∷ [])
    → next ≡ short (begun_after begun (read_in past) ++ xs) → given_in next_past ≡ given_in past ++ kept_line next
    → LinesSoFar begun [] next_past
one-line-more begun line next past next_past so xs plain read_is next_is given =
    let old = read_in past in
    let now = begun_after begun old in
    let line_is : kept_line next ≡ lines_of now (xs ++ 10 ∷ []) = ap kept_line next_is ∙ kept-short (now ++ xs) ∙ sym (line-one now xs plain) in
    record {
      kept = ap short (sym (ap (begun_after begun) read_is ∙ begun-on begun old (xs ++ 10 ∷ []) ∙ begun-on now xs (10 ∷ [])));
      given = given ∙ ap (λ (l : List (List ℕ)). l ++ kept_line next) so.given ∙ ap (λ (l : List (List ℕ)). lines_of begun old ++ l) line_is ∙ sym (ap (lines_of begun) read_is ∙ lines-on begun old (xs ++ 10 ∷ []));
    }

-- the work ends before the answers do
pub gives-so-far : (begun line last : List ℕ) (past next_past : List Ask) (answer : Worked) → LinesSoFar begun line past → last ≡ line
    → read_in next_past ≡ read_in past → given_in next_past ≡ given_in past → has_ended next_past ≡ false → GivesLines begun last next_past answer
gives-so-far begun line last past next_past answer so same same_read same_given not_ended = record {
  given = same_given ∙ so.given ∙ ap (lines_of begun) (sym same_read) ∙ sym (append-nil (lines_of begun (read_in next_past)))
      ∙ ap (λ (e : Bool). lines_of begun (read_in next_past) ++ (if e then last_line (begun_after begun (read_in next_past)) else [])) (sym not_ended);
  kept = λ not_memory. same ∙ so.kept ∙ ap (λ (l : List ℕ). short (begun_after begun l)) (sym same_read) ∙ ap (λ (e : Bool). short (if e then [] else begun_after begun (read_in next_past))) (sym not_ended);
}

-- and within a line
pub gives-begun : (begun line next : List ℕ) (past next_past : List Ask) (answer : Worked) → LinesSoFar begun line past → (xs : List ℕ) → NoNewline xs
    → read_in next_past ≡ read_in past ++ xs → given_in next_past ≡ given_in past → has_ended next_past ≡ false
    → (answer ≢ worked.Memory → next ≡ short (begun_after begun (read_in past) ++ xs)) → GivesLines begun next next_past answer
gives-begun begun line next past next_past answer so xs plain read_is same_given not_ended next_is = record {
  given = same_given ∙ so.given ∙ sym (ap (lines_of begun) read_is ∙ lines-same begun (read_in past) xs plain) ∙ sym (append-nil (lines_of begun (read_in next_past)))
      ∙ ap (λ (e : Bool). lines_of begun (read_in next_past) ++ (if e then last_line (begun_after begun (read_in next_past)) else [])) (sym not_ended);
  kept = λ not_memory. next_is not_memory ∙ ap short (sym (ap (begun_after begun) read_is ∙ begun-more begun (read_in past) xs plain))
      ∙ ap (λ (e : Bool). short (if e then [] else begun_after begun (read_in next_past))) (sym not_ended);
}

-- the end of the answers, within a line or behind one
pub gives-all : (begun line last_kept : List ℕ) (past next_past : List Ask) (last : List (List ℕ)) (answer : Worked) → LinesSoFar begun line past → (xs : List ℕ) → NoNewline xs
    → read_in next_past ≡ read_in past ++ xs → last ≡ last_line (begun_after begun (read_in past) ++ xs) → given_in next_past ≡ given_in past ++ last
    → last_kept ≡ [] → has_ended next_past ≡ true → GivesLines begun last_kept next_past answer
gives-all begun line last_kept past next_past last answer so xs plain read_is last_is given none ended = record {
  given = given ∙ ap (λ (l : List (List ℕ)). l ++ last) (so.given ∙ sym (ap (lines_of begun) read_is ∙ lines-same begun (read_in past) xs plain))
      ∙ ap (λ (l : List (List ℕ)). lines_of begun (read_in next_past) ++ l) (last_is ∙ ap last_line (sym (ap (begun_after begun) read_is ∙ begun-more begun (read_in past) xs plain)))
      ∙ ap (λ (e : Bool). lines_of begun (read_in next_past) ++ (if e then last_line (begun_after begun (read_in next_past)) else [])) (sym ended);
  kept = λ not_memory. none ∙ ap (λ (e : Bool). short (if e then [] else begun_after begun (read_in next_past))) (sym ended);
}

pub none-begun : (bytes : List ℕ) → short bytes ≡ [] → [] ≡ last_line bytes
none-begun [] is = refl
none-begun (b ∷ bytes) is = absurd (omega (arith, ap length is, length-take 1026 (b ∷ bytes)))

pub last-kept : (bytes : List ℕ) → (short bytes ≡ [] → ⊥) → kept_line (short bytes) ≡ last_line bytes
last-kept [] some = absurd (some refl)
last-kept (b ∷ bytes) some = kept-short (b ∷ bytes)
