use Rattle.std.proofs.Common.{◌∙◌, ap, length, arith}
use Rattle.std.specs.List.{insert}
use Rattle.build_requests.specs.Workspaces.{place_for}
use Rattle.build_requests.proofs.Lists.{held_at}
use Rattle.build_requests.proofs.executors.hold.Goals as goal

pub insert-requires : goal.insert-requires
insert-requires c =
    let k = (held_at c.args.one c.args.held.now).0 in
    let same = c.as_slice.ensures.value ∙ c.into_vec-rows.ensures ∙ c.replace.ensures.value in
    omega (arith, k, c.place_for-place.ensures, ap (λ hs. place_for c.args.one.executor hs) same, ap (λ hs. length hs) same, c.as_slice.ensures.len)

pub returns : goal.returns
returns c =
    let whole = c.into_vec-rows.ensures ∙ c.replace.ensures.value in
    let place = c.place_for-place.ensures ∙ ap (λ hs. place_for c.args.one.executor hs) (c.as_slice.ensures.value ∙ whole) in
    c.from_vec.ensures ∙ c.in_ok-insert.ensures.items
    ∙ ap (λ hs. insert hs c.place_for-place.result c.args.one) whole
    ∙ ap (λ i. insert c.args.held.now i c.args.one) place
    ∙ (held_at c.args.one c.args.held.now).1
