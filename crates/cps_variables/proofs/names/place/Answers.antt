use Rattle.std.proofs.Common.{rules, of_calls}
use Rattle.std.proofs.lemmas.Fn.{always_returns_same}
use Rattle.cps_variables.specs.Places.{is_up_to}
use Rattle.cps_variables.proofs.PlaceLaws.{parted}
use Rattle.cps_variables.proofs.names.place.Goals as goal

pub returns : goal.returns
returns c = record {
  within = c.partition_point.ensures.bound;
  parts = c.partition_point.ensures.partitioned (is_up_to c.args.name.now) (always_returns_same _ _ _ (λ a r f k. search (rules, of_calls))) (parted c.args.name.now c.args.binding.now c.requires);
}
