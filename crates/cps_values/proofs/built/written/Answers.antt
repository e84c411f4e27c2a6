use Rattle.std.proofs.Common.{◌∙◌, ◌≤◌, ◌+◌, length, drop, ap, sym, arith}
use Rattle.std.specs.Option.{option_copied}
use Rattle.std.proofs.lemmas.Result.{err_from_is_err_and}
use Rattle.model_values.specs.TextOf.{Wrote}
use Rattle.model_run.specs.Gathering.{text_parts}
use Rattle.model_run.specs.Nesting.{shape_at}
use Rattle.cps_code.specs.Script.{script_of}
use Rattle.cps_frames.specs.Standing.{world_of}
use Rattle.cps_values.specs.Values.{values_given}
use Rattle.cps_values.proofs.CountLaws.{behind_part, behind_value, value_there}
use Rattle.cps_values.proofs.ListLaws.{from_part, no_element, one_below, split_here}
use Rattle.cps_values.proofs.TextLaws.{not_plain, plain_refused, plain_wrote, value_refused, value_wrote}
use Rattle.cps_values.proofs.built.written.Goals as goal
use Rattle.cps_values.proofs.built.written.Goals.{in-PlainPart+in_ok-write_bytes, in_default+in-Some+in_ok-write_value}

pub returns-in_err-write_bytes : goal.returns-in_err-write_bytes
returns-in_err-write_bytes c = λ t.
    let fs = (shape_at (script_of c.args.shared.now.code) c.args.node).parts in
    let w = world_of c.args.shared.now t in
    let p = err_from_is_err_and c.from_residual.result c.from_residual.ensures.1 in
    rw (p.1, p.2) (plain_refused w c.part_form.result.now (drop (c.loop-at.at + 1) fs) (drop c.loop-at.at fs) (drop c.loop-at.used c.args.values.now) c.loop-at.text (from_part fs c.loop-at.at c.part_form.result.now (omega (arith, c.arity-at-end.ensures)) c.part_form.ensures)
    c.in-PlainPart.plain c.as_slice.result.now _ c.write_bytes.new.text _ (c.loop-at.invariant.same t) c.in-PlainPart.is c.as_slice.ensures c.in_err-write_bytes.ensures)

pub write_value-requires : goal.write_value-requires
write_value-requires c = one_below _ c.args.values.now c.loop-at.used c.in-Some.value.now c.requires.below (sym c.get.ensures.value ∙ ap option_copied c.in-Some.is)

pub returns-in_err-write_value : goal.returns-in_err-write_value
returns-in_err-write_value c = λ t.
    let fs = (shape_at (script_of c.args.shared.now.code) c.args.node).parts in
    let w = world_of c.args.shared.now t in
    let p = err_from_is_err_and c.from_residual-in_err-write_value.result c.from_residual-in_err-write_value.ensures.1 in
    rw (p.1, p.2) (value_refused w c.part_form.result.now (drop (c.loop-at.at + 1) fs) (drop c.loop-at.at fs) (drop c.loop-at.used c.args.values.now) c.loop-at.text (from_part fs c.loop-at.at c.part_form.result.now (omega (arith, c.arity-at-end.ensures)) c.part_form.ensures)
    c.in-Some.value.now (drop (c.loop-at.used + 1) c.args.values.now) _ c.write_value.new.text _ (c.loop-at.invariant.same t) (not_plain c.part_form.result.now c.in_default.not-PlainPart) (split_here c.args.values.now c.loop-at.used c.in-Some.value.now (sym c.get.ensures.value ∙ ap option_copied c.in-Some.is)) c.in_err-write_value.ensures)

pub unreachable-requires : goal.unreachable-requires
unreachable-requires c =
    let fs = (shape_at (script_of c.args.shared.now.code) c.args.node).parts in
    value_there c.part_form.result.now (drop (c.loop-at.at + 1) fs) (drop c.loop-at.at fs) c.loop-at.used c.args.values.now (from_part fs c.loop-at.at c.part_form.result.now (omega (arith, c.arity-at-end.ensures)) c.part_form.ensures) c.loop-at.invariant.enough
    (not_plain c.part_form.result.now c.in_default.not-PlainPart) (sym c.get.ensures.value ∙ no_element c.get.result c.in_default-get.not-Some)

pub loop-at-preserved : goal.loop-at-preserved
loop-at-preserved c =
    let fs = (shape_at (script_of c.args.shared.now.code) c.args.node).parts in
    let here = from_part fs c.loop-at.at c.part_form.result.now (omega (arith, c.arity-at-end.ensures)) c.part_form.ensures in
    elim c.match-part_form.branch [
      | in-PlainPart+in_ok-write_bytes w ↦ record {
        same = λ t. c.loop-at.invariant.same t
            ∙ plain_wrote (world_of c.args.shared.now t) c.part_form.result.now (drop (c.loop-at.at + 1) fs) (drop c.loop-at.at fs) (drop c.loop-at.used c.args.values.now) c.loop-at.text here w.in-PlainPart.plain w.as_slice.result.now c.match-part_form.text w.in-PlainPart.is w.as_slice.ensures (w.in_ok-write_bytes.ensures ∙ ap Wrote (sym w.text-is))
            ∙ ap (λ n. text_parts (world_of c.args.shared.now t) (drop (c.loop-at.at + 1) fs) (drop n c.args.values.now) c.match-part_form.text) (sym w.used-is);
        low = omega (arith, w.used-is, c.loop-at.invariant.low);
        enough = let e : c.loop-at.used + values_given (drop (c.loop-at.at + 1) fs) ≤ length c.args.values.now = behind_part c.part_form.result.now (drop (c.loop-at.at + 1) fs) (drop c.loop-at.at fs) c.loop-at.used (length c.args.values.now) here c.loop-at.invariant.enough in omega (arith, w.used-is, e);
      }
      | in_default+in-Some+in_ok-write_value w ↦ record {
        same = λ t. c.loop-at.invariant.same t
            ∙ value_wrote (world_of c.args.shared.now t) c.part_form.result.now (drop (c.loop-at.at + 1) fs) (drop c.loop-at.at fs) (drop c.loop-at.used c.args.values.now) c.loop-at.text here w.in-Some.value.now (drop (c.loop-at.used + 1) c.args.values.now) c.match-part_form.text (not_plain c.part_form.result.now w.in_default.not-PlainPart) (split_here c.args.values.now c.loop-at.used w.in-Some.value.now (sym w.get.ensures.value ∙ ap option_copied w.in-Some.is)) (w.in_ok-write_value.ensures ∙ ap Wrote (sym w.text-is))
            ∙ ap (λ n. text_parts (world_of c.args.shared.now t) (drop (c.loop-at.at + 1) fs) (drop n c.args.values.now) c.match-part_form.text) (sym w.used-is);
        low = omega (arith, w.used-is, c.loop-at.invariant.low);
        enough = let e : c.loop-at.used + 1 + values_given (drop (c.loop-at.at + 1) fs) ≤ length c.args.values.now = behind_value c.part_form.result.now (drop (c.loop-at.at + 1) fs) (drop c.loop-at.at fs) c.loop-at.used (length c.args.values.now) here c.loop-at.invariant.enough (not_plain c.part_form.result.now w.in_default.not-PlainPart) in omega (arith, w.used-is, e);
      }
    ]
