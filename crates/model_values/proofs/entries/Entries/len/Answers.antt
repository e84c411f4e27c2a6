use Rattle.std.specs.List.{IsDistinct}
use Rattle.std.specs.Map.{keys_of}
use Rattle.std.proofs.Common.{subst}
use Rattle.model_values.specs.Keys.{same_key}
use Rattle.model_values.proofs.KeyOrderLaws.{keys_differ}
use Rattle.model_values.proofs.entries.Entries.len.Goals as goal

pub returns-clause-distinct : goal.returns-clause-distinct
returns-clause-distinct c =
    subst (λ l. IsDistinct same_key (keys_of l)) c.self.view_is (keys_differ (keys_of c.self.inside.entries.items) c.self.inside.places.places.items c.self.invariant)
