use Rattle.std.proofs.Common.{◌≤◌, length, drop}
use Rattle.model_run.specs.Among.{AreAmong}
use Rattle.image_changes.specs.Walks.{BindingsReach}
use Rattle.image_changes.proofs.lists.new_bindings.Given as goal

abbrev pub invariant-loop-binding : goal.invariant-loop-binding
invariant-loop-binding l = record {
  within : l.place ≤ length l.before;
  among : AreAmong (drop l.place l.before) (drop l.binding-index l.now);
  reach : BindingsReach l.before l.now l.place l.binding-index l.news;
}
