use Rattle.std.proofs.Common.{◌≡◌, ◌<◌, ◌≤◌, ◌∙◌, ℕ, drop, sym, ap, subst, add-one, arith}
use Rattle.std.proofs.lemmas.List.{drop_all, length-drop, take_all}
use Rattle.delta_form.specs.Numbers.{from_number}
use Rattle.delta_form.proofs.NoneInBoth.{here, passed}
use Rattle.delta_form.proofs.apart.from_number.Goals as goal

pub loop-place-preserved : goal.loop-place-preserved
loop-place-preserved g c =
    let number = g.T.Numbered.by in
    let items = c.args.items.now in
    let lower = subst (λ (k : ℕ). k < c.args.number) c.number.ensures c.if-number.false in
    subst (λ (k : ℕ). from_number number c.args.number (drop k items) ≡ from_number number c.args.number items) (sym (add-one c.loop-place.place))
    (passed number c.args.number items c.loop-place.place c.index-items-place.result c.loop-place-test.true c.index-items-place.is lower ∙ c.loop-place.invariant)

pub returns-then-number : goal.returns-then-number
returns-then-number g c =
    let items = c.args.items.now in
    let place = c.loop-place.place in
    let high = subst (λ (k : ℕ). c.args.number ≤ k) c.number.ensures c.if-number.true in
    take_all _ (drop place items) (omega (arith, length-drop place items))
    ∙ here g.T.Numbered.by c.args.number items place c.index-items-place.result c.loop-place-test.true c.index-items-place.is high
    ∙ c.loop-place.invariant

pub returns : goal.returns
returns g c = ap (from_number g.T.Numbered.by c.args.number) (sym (drop_all c.loop-place.place c.args.items.now c.loop-place-test.false)) ∙ c.loop-place.invariant
