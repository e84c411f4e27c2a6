use Rattle.std.proofs.Common.{◌∙◌, ◌+◌, drop, length, ap, sym, subst, arith}
use Rattle.std.specs.List.{AllByRecursion as AllAre}
use Rattle.cell_heap.specs.Soundness.{ValueBelow}
use Rattle.model_values.proofs.CellGrowth.{all_insert}
use Rattle.model_run.specs.Gathering.{entries_of}
use Rattle.model_run.specs.Nesting.{shape_at}
use Rattle.script_laws.specs.NodeParts.{is_entry}
use Rattle.cps_code.specs.Script.{script_of}
use Rattle.cps_values.proofs.CountLaws.{behind_own, few_own, own_values}
use Rattle.cps_values.proofs.EntryLaws.{goes_on}
use Rattle.cps_values.proofs.ListLaws.{from_part}
use Rattle.cps_values.proofs.entries.entries_of.Goals as goal

pub entry_from-requires-clause-form : goal.entry_from-requires-clause-form
entry_from-requires-clause-form c = ap is_entry c.part_form-form.ensures ∙ c.requires.entries c.loop-at.at (omega (arith, c.arity-at-end.ensures))

pub entry_from-requires-clause-enough : goal.entry_from-requires-clause-enough
entry_from-requires-clause-enough c =
    let fs = (shape_at (script_of c.args.shared.now.code) c.args.node).parts in
    let f = c.part_form-form.result.now in
    let at = c.loop-at.at in
    own_values f (drop (at + 1) fs) (drop at fs) c.loop-at.used (length c.args.values.now) (from_part fs at f (omega (arith, c.arity-at-end.ensures)) c.part_form-form.ensures) c.loop-at.invariant.enough

pub loop-at-preserved : goal.loop-at-preserved
loop-at-preserved c =
    let h = c.args.shared.now.heap.cells in
    let fs = (shape_at (script_of c.args.shared.now.code) c.args.node).parts in
    let vs = c.args.values.now in
    let at = c.loop-at.at in
    let used = c.loop-at.used in
    let es = c.loop-at.entries in
    let f = c.part_form-form.result.now in
    let e = c.in_ok-key.field-0 in
    let own = c.in_ok-key.ensures.taken in
    record {
      same = c.loop-at.invariant.same
          ∙ goes_on h fs vs es at used f (omega (arith, c.arity-at-end.ensures)) c.part_form-form.ensures e c.in-Some.key (c.in_ok-key.ensures.entry (drop (at + 1) fs) es) c.in-Some.is
          ∙ ap (λ xs. entries_of h (drop (at + 1) fs) (drop (used + e.taken) vs) xs) (sym c.in_ok-put.ensures.put);
      below = subst (λ xs. AllAre (λ x. ValueBelow (length h) x.1) xs) (sym c.in_ok-put.ensures.put) (all_insert (ValueBelow (length h)) c.in-Some.key e.value es c.loop-at.invariant.below c.in_ok-key.ensures.below);
      low = let few = few_own f e.taken own in omega (arith, c.loop-at.invariant.low, few);
      enough = behind_own f (drop (at + 1) fs) (drop at fs) used (length vs) (from_part fs at f (omega (arith, c.arity-at-end.ensures)) c.part_form-form.ensures) c.loop-at.invariant.enough e.taken own;
    }
