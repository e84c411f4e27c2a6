use Rattle.std.proofs.Common.{◌≡◌, ◌+◌, suc, List, [], ◌∷◌, ◌++◌, length, take, sym, ap, ◌∙◌, add-one, arith}
use Rattle.std.proofs.lemmas.List.{take_all}
use Rattle.std.proofs.Math.Seq.{take-suc}
use Rattle.field_form.specs.Forms.{spelled}
use Rattle.record_form.proofs.Sums.{length_push, length_list}
use Rattle.record_form.proofs.lists.list_size.Goals as goal

pub loop-place-preserved : goal.loop-place-preserved
loop-place-preserved g c =
    let items = c.as_slice-items.result.now in
    let place = c.loop-place.place in
    let item = c.index-items-place.result in
    let behind = g.L.Listing.behind in
    let one_more : take place items ++ item ∷ [] ≡ take (suc place) items = ap (λ (x : g.row.T.Denot). take place items ++ x ∷ []) c.index-items-place.is ∙ sym (take-suc items place item c.loop-place-test.true) in
    let longer : length (spelled behind [] (take (suc place) items)) ≡ length (spelled behind [] (take place items)) + length ((behind (take place items)).spelling item) =
    ap (λ (xs : List g.row.T.Denot). length (spelled behind [] xs)) (sym one_more) ∙ length_push behind (take place items) item in
    rw add-one (omega (arith, longer, c.loop-place.invariant, c.size.ensures, c.saturating_add-size.ensures))

pub returns : goal.returns
returns g c =
    let items = c.as_slice-items.result.now in
    let place = c.loop-place.place in
    let behind = g.L.Listing.behind in
    let all : take place items ≡ c.args.list.now = take_all place items (omega (arith, c.loop-place-test.false)) ∙ c.as_slice-items.ensures in
    omega (arith, c.loop-place.invariant, ap (λ (xs : List g.row.T.Denot). length (spelled behind [] xs)) all, length_list behind (length c.args.list.now) c.args.list.now)
