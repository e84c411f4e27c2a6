use Rattle.std.proofs.Common.{◌≡◌, List, [], ◌∷◌, ◌++◌, length, sym, ap, ◌∙◌, append_assoc, arith}
use Rattle.std.proofs.lemmas.List.{append-nil}
use Rattle.field_form.specs.Forms.{spelled}
use Rattle.record_form.proofs.Sums.{length_push, length_list}
use Rattle.record_form.proofs.lists.ChainMeasured.size.Goals as goal

pub loop-item-preserved : goal.loop-item-preserved
loop-item-preserved g c =
    let inv = c.loop-item.invariant in
    let item = c.in-Some.item.now in
    let form = g.T.Field.form in
    let longer = length_push (λ (b : List g.row.T.Denot). form) inv.0 item in (
      inv.0 ++ item ∷ [],
      append_assoc inv.0 (item ∷ []) c.in-Some.behind.now ∙ ap (λ (l : List g.row.T.Denot). inv.0 ++ l) (sym c.in-Some.ensures) ∙ inv.1,
      omega (arith, longer, inv.2, c.size.ensures, c.saturating_add-size.ensures),
    )

pub returns : goal.returns
returns g c =
    let inv = c.loop-item.invariant in
    let form = g.T.Field.form in
    let all : inv.0 ≡ c.args.self.now = sym (append-nil inv.0) ∙ ap (λ (l : List g.row.T.Denot). inv.0 ++ l) (sym c.in_default.ensures) ∙ inv.1 in
    omega (arith, inv.2, ap (λ (xs : List g.row.T.Denot). length (spelled (λ (b : List g.row.T.Denot). form) [] xs)) all, length_list (λ (b : List g.row.T.Denot). form) (length c.args.self.now) c.args.self.now)
