use Rattle.std.proofs.Common.{◌≡◌, List, [], ◌∷◌, ◌++◌, Ok, subst}
use Rattle.field_form.specs.Reading.{Read}
use Rattle.field_form.proofs.Lists.{goes_on}
use Rattle.field_form.proofs.list.take_items.Goals as goal

pub loop-preserved : goal.loop-preserved
loop-preserved g c =
    let behind = g.L.Listing.behind in
    let bytes = c.args.bytes.now in
    let pushed : c.push.new.self ≡ c.loop.items ++ c.in_ok-item.item ∷ [] = c.in_ok-push.ensures.pushed in
    let made : Read g.row.T.Denot = Ok (c.in_ok-item.item, c.in_ok-item.behind) in
    let read : (behind c.loop.items).reading bytes c.loop.at ≡ made = subst (λ (l : List g.row.T.Denot). (behind l).reading bytes c.loop.at ≡ made) c.as_slice.ensures c.in_ok-item.ensures in
    rw pushed (goes_on behind c.args.count c.loop.counter c.loop.items bytes c.loop.at c.loop-test.true c.in_ok-item.item c.in_ok-item.behind _ read c.loop.invariant)
