use Rattle.std.proofs.Common.{Some, None, rules}
use Rattle.std.proofs.lemmas.Slice.Eq.{strip_prefix_is}
use Rattle.image_changes.proofs.GrownCells.{list_grown, list_replaced, list_stands}
use Rattle.image_changes.proofs.written.written_list.Goals as goal

pub returns-in-Some-empty : goal.returns-in-Some-empty
returns-in-Some-empty c =
    let rest = c.in-Some-empty.field-0 in
    list_stands c.args.had.now rest.now c.args.has.now (strip_prefix_is (λ a b. search rules) c.args.has.now c.args.had.now (Some rest) c.in-Some-empty.ensures.cases) c.in-Some-empty.len_below

pub returns-in_ok-values-in-Some : goal.returns-in_ok-values-in-Some
returns-in_ok-values-in-Some c =
    rw c.in_ok-values-in-Some.ensures
    (list_grown c.args.had.now c.in-Some.more.now c.args.has.now (strip_prefix_is (λ a b. search rules) c.args.has.now c.args.had.now (Some c.in-Some.more) c.in-Some.ensures.cases) c.in-Some.len_at_least)

pub returns-in_ok-values-in-None : goal.returns-in_ok-values-in-None
returns-in_ok-values-in-None c =
    rw c.in_ok-values-in-None.ensures
    (list_replaced c.args.had.now c.args.has.now (strip_prefix_is (λ a b. search rules) c.args.has.now c.args.had.now None c.in-None.ensures.cases))
