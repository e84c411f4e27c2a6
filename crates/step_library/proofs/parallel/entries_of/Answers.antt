use Rattle.std.proofs.Common.{◌≡◌, ◌∙◌, ◌+◌, List, ap, drop, false, subst, sym}
use Rattle.std.specs.List.{All}
use Rattle.indexmap.specs.IndexMap.{insert_all}
use Rattle.cell_heap.specs.Soundness.{ValueBelow}
use Rattle.cell_heap.proofs.EntryLemmas.{All-insert}
use Rattle.model_values.specs.Keys.{same_key}
use Rattle.model_values.specs.declared.key.Key.{Key}
use Rattle.model_values.specs.declared.key.Key.TheVariants.{Text as TextKey}
use Rattle.model_values.specs.declared.value.Value.{Value}
use Rattle.model_run.specs.Steps.{is_thrown, outcome_value, values_of}
use Rattle.model_run.specs.declared.wait.BranchEnd.{BranchEnd}
use Rattle.step_arguments.proofs.Rests.{next_item}
use Rattle.step_library.specs.Branches.{OutcomeBelow}
use Rattle.step_library.proofs.BranchLaws.{value_below}
use Rattle.step_library.proofs.parallel.entries_of.Goals as goal

pub put_value-requires : goal.put_value-requires
put_value-requires c = subst (λ (x : BranchEnd). is_thrown x.end.outcome ≡ false) (sym c.branch-item.is) (c.requires c.loop-branch.branch-index c.branch-item.result c.loop-branch-test.true)

pub loop-branch-preserved : goal.loop-branch-preserved
loop-branch-preserved c =
    let ends = c.args.ends.now in
    let i = c.loop-branch.branch-index in
    let b = c.branch-item.result in
    let value = outcome_value b.end.outcome in
    record {
      rest = ap (λ (es : List (Key × Value)). insert_all same_key es (values_of (drop (i + 1) ends))) c.in_ok-put_value.ensures ∙ sym (next_item (λ (bs : List BranchEnd). insert_all same_key c.loop-branch.entries (values_of bs)) ends i b c.loop-branch-test.true c.branch-item.is) ∙ c.loop-branch.invariant.rest;
      below = λ n all. subst (λ (es : List (Key × Value)). All (λ e. ValueBelow n e.1) es) (sym c.in_ok-put_value.ensures)
          (All-insert (TextKey b.name) value (ValueBelow n) c.loop-branch.entries (value_below n b.end.outcome (subst (λ (x : BranchEnd). OutcomeBelow n x.end.outcome) (sym c.branch-item.is) (all i b c.loop-branch-test.true))) (c.loop-branch.invariant.below n all));
    }
