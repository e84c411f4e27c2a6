use Rattle.std.proofs.Common.{◌≡◌, List, [], ◌∷◌, ◌++◌, length, sym, ap, ◌∙◌, subst, append_assoc}
use Rattle.std.proofs.lemmas.List.{append-nil}
use Rattle.byte_form.specs.Fields.{u32_spelling}
use Rattle.field_form.specs.Forms.{AllBehind, spelled}
use Rattle.field_form.proofs.Lists.{all_behind, all_push, written_more}
use Rattle.field_form.proofs.list.ChainField.spell.Goals as goal

pub spell-requires : goal.spell-requires
spell-requires g c =
    let inv = c.loop-item.invariant in
    let P = λ (before : List g.row.T.Denot) (x : g.row.T.Denot). g.T.Field.form.Needs x in
    let parts = ap (λ (l : List g.row.T.Denot). inv.0 ++ l) (sym c.in-Some.ensures) ∙ inv.1 in
    all_behind P [] inv.0 c.in-Some.item.now c.in-Some.behind.now (subst (AllBehind P []) (sym parts) c.requires.1)

pub loop-item-preserved : goal.loop-item-preserved
loop-item-preserved g c =
    let inv = c.loop-item.invariant in
    let item = c.in-Some.item.now in
    let w = c.in_ok-spell.ensures in
    let form = g.T.Field.form in (
      inv.0 ++ item ∷ [],
      append_assoc inv.0 (item ∷ []) c.in-Some.behind.now ∙ ap (λ (l : List g.row.T.Denot). inv.0 ++ l) (sym c.in-Some.ensures) ∙ inv.1,
      written_more (λ (b : List g.row.T.Denot). form) (length c.args.self.now) c.args.out.now.items _ _ inv.0 item inv.2 w,
      all_push (λ (b : List g.row.T.Denot) (x : g.row.T.Denot). form.Fits x) [] inv.0 item inv.3 w.fits,
    )

pub returns : goal.returns
returns g c =
    let inv = c.loop-item.invariant in
    let form = g.T.Field.form in
    let all : inv.0 ≡ c.args.self.now = sym (append-nil inv.0) ∙ ap (λ (l : List g.row.T.Denot). inv.0 ++ l) (sym c.in_default.ensures) ∙ inv.1 in
    record {
      fits = (c.requires.0, subst (AllBehind (λ (b : List g.row.T.Denot) (x : g.row.T.Denot). form.Fits x) []) all inv.3);
      spelled = inv.2 ∙ ap (λ (l : List g.row.T.Denot). c.args.out.now.items ++ (u32_spelling (length c.args.self.now) ++ spelled (λ (b : List g.row.T.Denot). form) [] l)) all;
    }
