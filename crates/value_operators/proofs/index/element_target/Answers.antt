use Rattle.std.proofs.Common.{◌≡◌, length, sym, ap, ◌∙◌, rules, arith}
use Rattle.std.proofs.lemmas.Int.{ints}
use mir.Syntax.{w32}
use mir.Val.{to_z, of_z}
use Rattle.model_values.specs.Index.{set_kind_at}
use Rattle.model_values.specs.Kinds.{kind}
use Rattle.model_values.specs.Limits.{product_limits}
use Rattle.value_view.specs.Seen.{seen}
use Rattle.value_operators.proofs.TargetLemmas.{set_outside, set_no_collection}
use Rattle.value_operators.proofs.index.element_target.Goals as goal

pub returns-in_ok-outside-in_default-place_of : goal.returns-in_ok-outside-in_default-place_of
returns-in_ok-outside-in_default-place_of c =
    let h = c.args.heap.now.cells in
    let i = c.in-List-Number.index in
    let same : to_z w32 (of_z w32 i) ≡ i = omega (arith, ints) in
    let place = rw (same, c.len.ensures) at c.place_of.ensures in
    let answer = rw (same, c.len-in_default-place_of.ensures) at (c.in_ok-outside-in_default-place_of.ensures.answer h) in
    record {
      read = λ v. answer ∙ sym (set_outside h c.args.a.now c.args.b.now v c.in-List-Number.cell c.in-List-Number.values.now i c.place_of.result (sym c.kind_of-on.ensures.kind ∙ ap seen c.in-List-Number.is-0) (sym c.kind_of-index.ensures.kind ∙ ap seen c.in-List-Number.is-1) place c.in_default-place_of.not-At);
      below = c.in_ok-outside-in_default-place_of.ensures.below (length h);
    }

pub returns-in_ok-bad_argument-in-List-default : goal.returns-in_ok-bad_argument-in-List-default
returns-in_ok-bad_argument-in-List-default c =
    let h = c.args.heap.now.cells in
    let there = c.in_ok-bad_argument-in-List-default.ensures.answer h in
    record {
      read = λ v. search rules;
      below = c.in_ok-bad_argument-in-List-default.ensures.below (length h);
    }

pub returns-in_ok-bad_key-in-None-clause-below : goal.returns-in_ok-bad_key-in-None-clause-below
returns-in_ok-bad_key-in-None-clause-below c = c.in_ok-bad_key-in-None.ensures.below (length c.args.heap.now.cells)

pub returns-in_ok-no_method-in_default : goal.returns-in_ok-no_method-in_default
returns-in_ok-no_method-in_default c =
    let h = c.args.heap.now.cells in
    record {
      read = λ v. c.in_ok-no_method-in_default.ensures.answer h
          ∙ sym (set_no_collection h c.args.b.now v c.kind_of-on.result c.in_default.not-List-0 c.in_default.not-Map-0)
          ∙ ap (λ k. set_kind_at product_limits h k (kind h c.args.b.now) v) c.kind_of-on.ensures.kind;
      below = c.in_ok-no_method-in_default.ensures.below (length h);
    }
