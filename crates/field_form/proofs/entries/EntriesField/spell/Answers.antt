use Rattle.std.proofs.Common.{◌≡◌, ◌<◌, List, ℕ, pos, [], ◌++◌, length, take, sym, ap, ◌∙◌, subst, add-one, arith, get_or}
use Rattle.std.proofs.lemmas.List.{take_all}
use Rattle.std.specs.List.{AllByRecursion}
use Rattle.byte_form.specs.Fields.{u32_spelling}
use Rattle.field_form.specs.Forms.{spelled, Written}
use Rattle.field_form.specs.Cells.{entry_form, entry_behind}
use Rattle.model_values.specs.declared.key.Key.{Key}
use Rattle.model_values.specs.declared.key.Key.TheVariants as key
use Rattle.model_values.specs.declared.value.Value.{Value}
use Rattle.model_values.specs.declared.value.Value.TheVariants as value
use Rattle.std.proofs.Math.Seq.{take-suc}
use Rattle.field_form.proofs.Lists.{spelled_push, written_behind}
use Rattle.field_form.proofs.NewKeys.{all_fit, one_more_fits}
use Rattle.field_form.proofs.entries.EntriesField.spell.Goals as goal

pub loop-place-preserved : goal.loop-place-preserved
loop-place-preserved c =
    let d : Key × Value = (key.Int (pos 0), value.Null) in
    let es = c.args.self.now in
    let i = c.loop-place.place in
    let lt : i < length es = omega (arith, c.loop-place-test.true, c.len-count.ensures.len) in
    let e = get_or es i d in
    let new = c.spell_entry.new.out.items in
    let start = c.args.out.now.items in
    let w : Written entry_form e c.loop-place.out.items new = c.in_ok-spell_entry.ensures d in
    let inv = c.loop-place.invariant in
    let behind : new ≡ start ++ (u32_spelling (length es) ++ (spelled entry_behind [] (take i es) ++ entry_form.spelling e)) = written_behind (length es) start _ new (spelled entry_behind [] (take i es)) (entry_form.spelling e) inv.0 w.spelled in
    rw add-one (
      behind ∙ ap (λ (l : List ℕ). start ++ (u32_spelling (length es) ++ l)) (sym (spelled_push entry_behind [] (take i es) e) ∙ ap (spelled entry_behind []) (sym (take-suc es i d lt))),
      one_more_fits entry_form.Fits es i d lt inv.1 w.fits,
    )

pub returns : goal.returns
returns c =
    let es = c.args.self.now in
    let inv = c.loop-place.invariant in
    let all : take c.loop-place.place es ≡ es = take_all c.loop-place.place es (omega (arith, c.loop-place-test.false, c.len-count.ensures.len)) in
    record {
      fits = (c.requires.0, all_fit es (subst (AllByRecursion entry_form.Fits) all inv.1) c.len-count.ensures.distinct);
      spelled = inv.0 ∙ ap (λ (l : List (Key × Value)). c.args.out.now.items ++ (u32_spelling (length es) ++ spelled entry_behind [] l)) all;
    }
