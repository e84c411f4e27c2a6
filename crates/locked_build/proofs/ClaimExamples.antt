-- Worked examples of claims, over one open task, of executor 0: it is given to that executor; another one rests while no claim is open,
-- and is idle while one is.
use Rattle.std.proofs.Common.{false, List, [], ◌∷◌, refl, arith}
use Rattle.agent_worker.specs.declared.gate.Claim.TheVariants as claim
use Rattle.model_run.specs.declared.request.OpenRequest.{OpenRequest}
use Rattle.model_run.specs.declared.request.Request.TheVariants.{Task}
use Rattle.task_host.specs.declared.order.Order.{Order}
use Rattle.locked_build.specs.declared.ask.Entry.{Entry}
use Rattle.locked_build.specs.declared.ask.Entry.TheVariants.{Claimed}
use Rattle.locked_build.specs.Claims.{ClaimSays}

abbrev one_task : List OpenRequest
one_task = record { number = 4; thread = 1; request = Task 0 [] [] [] [] false false 0 [] } ∷ []

abbrev its_order : Order
its_order = record { task = 4; executor = 0; workspace = []; folder = []; env = []; script = []; keep_out = false; kept_log = 0; kept_out = 0 }

abbrev its_claim : List Entry
its_claim = Claimed 0 4 false 0 0 ∷ []

gives : ClaimSays one_task [] 0 (claim.Order its_order) its_claim
gives = (record { number = 4; thread = 1; request = Task 0 [] [] [] [] false false 0 [] }, refl, refl, refl)

rests : ClaimSays one_task [] 1 claim.Rest []
rests = (refl, refl, refl)

is_idle : ClaimSays one_task its_claim 1 (claim.Idle 1) []
is_idle = (refl, refl, omega arith, refl)

-- the executor that has claimed it too
is_idle_itself : ClaimSays one_task its_claim 0 (claim.Idle 1) []
is_idle_itself = (refl, refl, omega arith, refl)
