use Rattle.std.proofs.Common.{rules, ◌≡◌, ℕ, ◌+◌, ◌-◌, ◌≤◌, List, [], ◌∷◌, ◌++◌, length, take, drop, set, sym, ◌∙◌, ap, arith, decimal, length-take, length-drop, length-append}
use Rattle.std.proofs.Math.Seq.{drop-append_seam}
use Rattle.std.proofs.lemmas.Fmt.{length-decimal-le}
use Rattle.std.proofs.lemmas.List.{drop-drop, drop-set, drop_all, length-set, length-take-le, take_all}
use borrow.Rule.Slice.PartMut.{mid_of, put_mid}
use Rattle.task_host.proofs.memory.behavior.echo.Goals as goal

-- the room before the digits
room : (line : List ℕ) (r : ℕ) → 4 ≤ r → r ≤ length line → length (mid_of (r - 4) (r - (r - 4)) line) ≡ 4
room line r least within = omega (arith, length-take (r - (r - 4)) (drop (r - 4) line), length-drop (r - 4) line, least, within)

-- what is put there stands before what ends the line
put_before : (line part end : List ℕ) (r : ℕ) → 4 ≤ r → r ≤ length line → r + length end ≡ 15 → length part ≡ 4 → drop r line ≡ end
    → mid_of (r - 4) (15 - (r - 4)) (put_mid (r - 4) (r - (r - 4)) line part) ≡ part ++ end
put_before line part end r least within long four is =
    let behind = drop (r - (r - 4)) (drop (r - 4) line) in
    let at : r - 4 + (r - (r - 4)) ≡ r = omega (arith, least) in
    let ends : behind ≡ end = drop-drop (r - (r - 4)) (r - 4) line ∙ ap (λ (n : ℕ). drop n line) at ∙ is in
    let front : length (take (r - 4) line) ≡ r - 4 = length-take-le (r - 4) line (omega (arith, within)) in
    let put : drop (r - 4) (take (r - 4) line ++ (part ++ behind)) ≡ part ++ end =
    ap (λ (n : ℕ). drop n (take (r - 4) line ++ (part ++ behind))) (sym front)
    ∙ drop-append_seam (take (r - 4) line) (part ++ behind)
    ∙ ap (λ (l : List ℕ). part ++ l) ends in
    ap (take (15 - (r - 4))) put ∙ take_all (15 - (r - 4)) (part ++ end) (omega (arith, length-append part end, least, long, four))

pub write_digits-digits-requires : goal.write_digits-digits-requires
write_digits-digits-requires c =
    let short = length-decimal-le 10 c.from.result (omega arith) (omega arith) (omega arith) in
    (omega (arith, short), search rules)

pub overflow_sub-digits : goal.overflow_sub-digits
overflow_sub-digits c =
    let short = length-decimal-le 10 c.from.result (omega arith) (omega arith) (omega arith) in
    omega (arith, short, c.write_digits-digits.ensures.start)

pub copy_from_slice-requires : goal.copy_from_slice-requires
copy_from_slice-requires c =
    let w = c.write_digits-digits in
    let short = length-decimal-le 10 c.from.result (omega arith) (omega arith) (omega arith) in
    let size : length w.new.buf ≡ 15 = omega (arith, w.auto.buf, length-set c.args.line.now 14 10) in
    room w.new.buf w.result (omega (arith, short, w.ensures.start)) (omega (arith, size, w.ensures.start))

pub returns : goal.returns
returns c =
    let w = c.write_digits-digits in
    let short = length-decimal-le 10 c.from.result (omega arith) (omega arith) (omega arith) in
    let size : length w.new.buf ≡ 15 = omega (arith, w.auto.buf, length-set c.args.line.now 14 10) in
    let end : List ℕ = decimal c.args.task ++ 10 ∷ [] in
    let newline : drop 14 (set c.args.line.now 14 10) ≡ 10 ∷ [] = drop-set c.args.line.now 14 10 (omega arith) ∙ ap (λ (l : List ℕ). 10 ∷ l) (drop_all 15 c.args.line.now (omega arith)) in
    let same : decimal c.from.result ≡ decimal c.args.task = ap decimal c.from.ensures in
    let ends : drop w.result w.new.buf ≡ end = w.ensures.written ∙ ap (λ (l : List ℕ). decimal c.from.result ++ l) newline ∙ ap (λ (l : List ℕ). l ++ 10 ∷ []) same in
    let long : w.result + length end ≡ 15 = omega (arith, length-append (decimal c.args.task) (10 ∷ []), ap length same, w.ensures.start) in
    let part = c.copy_from_slice.new.self in
    put_before w.new.buf part end w.result (omega (arith, short, w.ensures.start)) (omega (arith, size, w.ensures.start)) long (ap length c.copy_from_slice.ensures.after) ends
    ∙ ap (λ (l : List ℕ). l ++ end) c.copy_from_slice.ensures.after
