use Rattle.std.proofs.Common.{◌≡◌, ℕ, zero, ◌+◌, ◌≤◌, List, [], ◌++◌, length, take, drop, sym, ap, ◌∙◌, arith}
use Rattle.std.proofs.lemmas.List.{append_assoc, length-append, take_rest}
use Rattle.std.proofs.lemmas.Result.{err_from_is_err_and}
use Rattle.model_values.specs.Searching.{replaced_behind}
use Rattle.text_methods.proofs.SearchLemmas.{carry, first_at, nowhere, replaced_at, replaced_nowhere, wrote, wrote_whole}
use Rattle.text_methods.proofs.search.replaced.Goals as goal

-- the parts of the whole
sizes : (built front new back whole : List ℕ) → built ++ (front ++ new ++ back) ≡ whole → length built + length front + length new ≤ length whole
sizes built front new back whole is =
    omega (arith, ap length is, length-append built (front ++ new ++ back), length-append (front ++ new) back, length-append front new)

grown : (built front one two new : List ℕ) → one ≡ built ++ front → two ≡ one ++ new → two ≡ built ++ front ++ new
grown built front one two new a b = b ∙ ap (λ (x : List ℕ). x ++ new) a

regrouped : (built front new back : List ℕ) → (built ++ front ++ new) ++ back ≡ built ++ (front ++ new ++ back)
regrouped built front new back = simp append_assoc

pub returns-in_err-write_bytes : goal.returns-in_err-write_bytes
returns-in_err-write_bytes c =
    let p = err_from_is_err_and c.from_residual.result c.from_residual.ensures.1 in
    let rest = c.loop-at.rest.now in let old = c.args.old.now in let new = c.args.new.now in let at = c.in-Some.at in
    let whole = replaced_behind zero c.args.text.now old new in
    let back = replaced_behind zero (drop (at + length old) rest) old new in
    let split = ap (λ (r : List ℕ). c.loop-at.built ++ r) (sym (replaced_at rest old new at c.requires (first_at rest old at c.in-Some.ensures))) ∙ c.loop-at.invariant in
    rw (p.1, p.2) (carry (take at rest) c.loop-at.built whole [] c.write_bytes.new.text c.in_err-write_bytes.field-0.0 (omega (arith, sizes c.loop-at.built (take at rest) new back whole split)) c.in_err-write_bytes.ensures)

pub returns-in_err-write_bytes-2 : goal.returns-in_err-write_bytes-2
returns-in_err-write_bytes-2 c =
    let p = err_from_is_err_and c.from_residual-in_err-write_bytes-2.result c.from_residual-in_err-write_bytes-2.ensures.1 in
    let rest = c.loop-at.rest.now in let old = c.args.old.now in let new = c.args.new.now in let at = c.in-Some.at in
    let whole = replaced_behind zero c.args.text.now old new in
    let back = replaced_behind zero (drop (at + length old) rest) old new in
    let split = ap (λ (r : List ℕ). c.loop-at.built ++ r) (sym (replaced_at rest old new at c.requires (first_at rest old at c.in-Some.ensures))) ∙ c.loop-at.invariant in
    let one = wrote (take at rest) c.loop-at.built c.write_bytes.new.text c.in_ok-write_bytes.ensures in
    rw (p.1, p.2) (carry new c.write_bytes.new.text whole [] c.write_bytes-in-Some.new.text c.in_err-write_bytes-2.field-0.0 (omega (arith, ap length one, length-append c.loop-at.built (take at rest), sizes c.loop-at.built (take at rest) new back whole split)) c.in_err-write_bytes-2.ensures)

pub loop-at-preserved : goal.loop-at-preserved
loop-at-preserved c =
    let rest = c.loop-at.rest.now in let old = c.args.old.now in let new = c.args.new.now in let at = c.in-Some.at in
    let back = replaced_behind zero (drop (at + length old) rest) old new in
    let split = ap (λ (r : List ℕ). c.loop-at.built ++ r) (sym (replaced_at rest old new at c.requires (first_at rest old at c.in-Some.ensures))) ∙ c.loop-at.invariant in
    let one = wrote (take at rest) c.loop-at.built c.write_bytes.new.text c.in_ok-write_bytes.ensures in
    let two = wrote new c.write_bytes.new.text c.write_bytes-in-Some.new.text c.in_ok-write_bytes-2.ensures in
    ap (λ (x : List ℕ). c.write_bytes-in-Some.new.text ++ replaced_behind zero x old new) (take_rest rest (at + length old))
    ∙ ap (λ (x : List ℕ). x ++ back) (grown c.loop-at.built (take at rest) c.write_bytes.new.text c.write_bytes-in-Some.new.text new one two)
    ∙ regrouped c.loop-at.built (take at rest) new back ∙ split

pub returns-in_err-write_bytes-3 : goal.returns-in_err-write_bytes-3
returns-in_err-write_bytes-3 c =
    let p = err_from_is_err_and c.from_residual-in_err-write_bytes-3.result c.from_residual-in_err-write_bytes-3.ensures.1 in
    let rest = c.loop-at.rest.now in let old = c.args.old.now in let new = c.args.new.now in
    let whole = replaced_behind zero c.args.text.now old new in
    let is : whole ≡ c.loop-at.built ++ rest = sym c.loop-at.invariant ∙ ap (λ (r : List ℕ). c.loop-at.built ++ r) (replaced_nowhere rest old new (nowhere rest old c.in_default.ensures)) in
    rw (p.1, p.2) (carry rest c.loop-at.built whole [] c.write_bytes-2.new.text c.in_err-write_bytes-3.field-0.0 (omega (arith, ap length is, length-append c.loop-at.built rest)) c.in_err-write_bytes-3.ensures)

pub returns : goal.returns
returns c =
    let rest = c.loop-at.rest.now in let old = c.args.old.now in let new = c.args.new.now in
    let whole = replaced_behind zero c.args.text.now old new in
    let is : whole ≡ c.loop-at.built ++ rest = sym c.loop-at.invariant ∙ ap (λ (r : List ℕ). c.loop-at.built ++ r) (replaced_nowhere rest old new (nowhere rest old c.in_default.ensures)) in
    wrote_whole rest c.loop-at.built c.write_bytes-2.new.text whole c.in_ok-write_bytes-3.ensures is
