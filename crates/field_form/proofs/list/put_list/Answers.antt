use Rattle.std.proofs.Common.{◌≡◌, suc, List, [], ◌∷◌, ◌++◌, length, take, sym, ap, ◌∙◌, subst, add-one, arith}
use Rattle.std.proofs.lemmas.List.{take_all}
use Rattle.std.proofs.Math.Seq.{take-suc}
use Rattle.byte_form.specs.Fields.{u32_spelling}
use Rattle.field_form.specs.Forms.{AllBehind, spelled}
use Rattle.field_form.proofs.Lists.{all_at, all_push, written_more}
use Rattle.field_form.proofs.list.put_list.Goals as goal

pub spell-requires : goal.spell-requires
spell-requires g c =
    let items = c.as_slice-items.result.now in
    let place = c.loop-place.place in
    let item = c.index-items-place.result in
    let P = λ (before : List g.row.T.Denot) (x : g.row.T.Denot). (g.L.Listing.behind before).Needs x in
    let all : AllBehind P [] items = subst (AllBehind P []) (sym c.as_slice-items.ensures) c.requires.1 in
    subst (P (take place items)) (sym c.index-items-place.is) (all_at P [] items place item all c.loop-place-test.true)

pub loop-place-preserved : goal.loop-place-preserved
loop-place-preserved g c =
    let items = c.as_slice-items.result.now in
    let place = c.loop-place.place in
    let item = c.index-items-place.result in
    let P = λ (before : List g.row.T.Denot) (x : g.row.T.Denot). (g.L.Listing.behind before).Fits x in
    let one_more : take place items ++ item ∷ [] ≡ take (suc place) items = ap (λ (x : g.row.T.Denot). take place items ++ x ∷ []) c.index-items-place.is ∙ sym (take-suc items place item c.loop-place-test.true) in
    let w = c.in_ok-spell.ensures in
    let inv = c.loop-place.invariant in
    let new = c.spell.new.out.items in
    let start = c.args.out.now.items in
    rw add-one (
      subst (λ (l : List g.row.T.Denot). new ≡ start ++ (u32_spelling (length items) ++ spelled g.L.Listing.behind [] l)) one_more (written_more g.L.Listing.behind (length items) start _ new (take place items) item inv.0 w),
      subst (AllBehind P []) one_more (all_push P [] (take place items) item inv.1 w.fits),
    )

pub returns : goal.returns
returns g c =
    let items = c.as_slice-items.result.now in
    let place = c.loop-place.place in
    let inv = c.loop-place.invariant in
    let P = λ (before : List g.row.T.Denot) (x : g.row.T.Denot). (g.L.Listing.behind before).Fits x in
    let all : take place items ≡ c.args.list.now = take_all place items (omega (arith, c.loop-place-test.false)) ∙ c.as_slice-items.ensures in
    let start = c.args.out.now.items in
    record {
      fits = (c.requires.0, subst (AllBehind P []) all inv.1);
      spelled = inv.0
          ∙ ap (λ (l : List g.row.T.Denot). start ++ (u32_spelling (length l) ++ spelled g.L.Listing.behind [] (take place items))) c.as_slice-items.ensures
          ∙ ap (λ (l : List g.row.T.Denot). start ++ (u32_spelling (length c.args.list.now) ++ spelled g.L.Listing.behind [] l)) all;
    }
