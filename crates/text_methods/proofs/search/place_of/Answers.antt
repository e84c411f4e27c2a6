use Rattle.std.proofs.Common.{◌≡◌, ◌+◌, take, sym, ap, ◌∙◌, Some, arith}
use Rattle.std.specs.Fmt.{is_char_start}
use Rattle.std.specs.List.{count_by}
use Rattle.text_methods.proofs.SearchLemmas.{first_at, nowhere, found_at, found_nowhere}
use Rattle.text_methods.proofs.search.place_of.Goals as goal

pub returns-in_err-at-clause-place : goal.returns-in_err-at-clause-place
returns-in_err-at-clause-place c =
    let e = found_nowhere 0 c.args.text.now c.args.part.now (nowhere c.args.text.now c.args.part.now c.in_err-at.ensures) in
    cc c.from_residual.ensures

pub returns-clause-place : goal.returns-clause-place
returns-clause-place c =
    let text = c.args.text.now in
    let first = first_at text c.args.part.now c.in_ok-at.at c.in_ok-at.ensures in
    let count : c.start_count.result ≡ 0 + count_by is_char_start (take c.in_ok-at.at text) = omega (arith, c.start_count.ensures.count) in
    ap Some count ∙ sym (found_at 0 text c.args.part.now c.in_ok-at.at first)
