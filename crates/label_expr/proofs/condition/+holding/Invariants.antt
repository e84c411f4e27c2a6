use Rattle.std.proofs.Common.{◌≡◌, map, drop}
use Rattle.std.specs.List.{list_all, list_any}
use Rattle.model_run.specs.Labels.{holds}
use Rattle.label_expr.specs.Conditions.{formula}
use Rattle.label_expr.proofs.condition.+holding.Given as goal

abbrev pub invariant-all_hold-loop-condition : goal.invariant-all_hold-loop-condition
invariant-all_hold-loop-condition l = list_all (holds l.labels) (map formula (drop l.condition-index l.conditions)) ≡ list_all (holds l.labels) (map formula l.conditions)

abbrev pub invariant-any_holds-loop-condition : goal.invariant-any_holds-loop-condition
invariant-any_holds-loop-condition l = list_any (holds l.labels) (map formula (drop l.condition-index l.conditions)) ≡ list_any (holds l.labels) (map formula l.conditions)
