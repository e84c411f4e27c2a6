-- How far a build counts while it runs: no further than an image has room for (this product's own).
use Rattle.std.specs.Prelude.{◌<◌, ◌≤◌, suc, ◌+◌, Bool, length}
use Rattle.std.specs.List.{AllByRecursion as AllAre}
use Rattle.model_values.specs.Cells.{heap_bytes, cell_size}
use Rattle.model_run.specs.declared.site.Site.{Site}
use Rattle.model_run.specs.State.{RunLimits, Common}
use Rattle.model_run.specs.Fitting.{NamesRise, NodesFit, RequestFits, most_nodes}

-- The limits of a build are no wider than an image has room for; this product's are far narrower.
pub record Narrow (limits : RunLimits) : Type 0 where
  pub cells : limits.values.cells < 4294967296
  pub bytes : limits.values.bytes < 2147483648
  pub nodes : limits.flow_nodes ≤ 100000000

-- What a sound build that has ended or not asks of its shared state, beside that what is named is there (`SharedFits`): what is
-- counted stays in its bounds, binding variables and flow nodes stand in their order, and what is asked can be answered.
pub record InBounds (ended : Bool) (site : Site) (u : Common) : Type 0 where
  pub short : AllAre (λ c. cell_size c < 2147483648) u.cells
  pub few_cells : length u.cells < 4294967296
  pub few_bytes : heap_bytes u.cells ≤ 4611686018427387904
  pub names : NamesRise u.binding
  pub few_nodes : length u.nodes ≤ most_nodes ended
  pub nodes : NodesFit 2 u.nodes
  pub few_requests : u.next_request ≤ 100000000 + length u.nodes
  pub asks : AllAre (λ r. RequestFits site (length u.log) r.request) u.requests

-- one request more may be made
abbrev pub HasRoom : Common → Type 0
HasRoom u = suc u.next_request ≤ 100000000 + length u.nodes
