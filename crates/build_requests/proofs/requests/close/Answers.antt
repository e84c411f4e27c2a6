use Rattle.std.proofs.Common.{◌≡◌, ◌∙◌, Some, sym, ap, length, arith, slice_index_or}
use Rattle.std.specs.List.{remove}
use Rattle.build_requests.specs.Places.{place_of}
use Rattle.build_requests.proofs.Lists.{found_at, found_below, found_if_open, removed_at}
use Rattle.build_requests.proofs.requests.close.Goals as goal

pub unreachable-requires : goal.unreachable-requires
unreachable-requires c =
    found_if_open c.args.number c.args.requests.now
    (ap (λ rs. place_of c.args.number rs) (sym c.as_slice.ensures) ∙ sym c.place_of.ensures ∙ c.in_default.is) c.requires.open

place_is : (c : goal.After-drop-requests) → place_of c.args.number c.args.requests.now ≡ Some c.in-Some.place
place_is c = ap (λ rs. place_of c.args.number rs) (sym c.as_slice.ensures) ∙ sym c.place_of.ensures ∙ c.in-Some.is

pub remove-closed-requires : goal.remove-closed-requires
remove-closed-requires c =
    let place = ap (λ rs. place_of c.args.number rs) (sym c.as_slice.ensures) ∙ sym c.place_of.ensures ∙ c.in-Some.is in
    let whole = c.into_vec-rows.ensures ∙ c.replace.ensures.value in
    omega (arith, ap (λ rs. length rs) whole, found_below c.args.number c.args.requests.now c.in-Some.place place, c.into_vec-rows.result.ok)

pub returns-clause-closed : goal.returns-clause-closed
returns-clause-closed c =
    (found_at c.args.number c.args.requests.now c.in-Some.place c.remove-closed.result (place_is c)).1
    ∙ ap (λ rs. Some (slice_index_or rs c.in-Some.place c.remove-closed.result)) (sym (c.into_vec-rows.ensures ∙ c.replace.ensures.value))
    ∙ ap (λ r. Some r) (sym c.remove-closed.ensures.value)

pub returns-clause-others : goal.returns-clause-others
returns-clause-others c =
    c.from_vec.ensures ∙ c.remove-closed.ensures.items ∙ ap (λ rs. remove rs c.in-Some.place) (c.into_vec-rows.ensures ∙ c.replace.ensures.value)
    ∙ removed_at c.args.number 0 c.requires.rise.0 c.args.requests.now c.in-Some.place c.requires.rise.1 (place_is c)
