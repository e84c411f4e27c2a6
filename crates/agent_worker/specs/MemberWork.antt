-- The work of a member.
use Rattle.std.specs.Prelude.{◌≡◌, ◌≤◌, ◌≢◌, ◌↔◌, List, ℕ, true, Option}
use Rattle.device_faults.specs.Faults.{CountsFault}
use Rattle.agent_worker.specs.declared.worked.Worked.{Worked}
use Rattle.agent_worker.specs.declared.worked.Worked.TheVariants as worked
use Rattle.agent_worker.specs.declared.member.Member.{Member}
use Rattle.agent_worker.specs.declared.member.Member.TheVariants.{Executor, Operator}
use Rattle.agent_worker.specs.Gate.{GateTells, Stays}
use Rattle.agent_worker.specs.Operating.{Operates}
use Rattle.agent_worker.specs.Working.{Works, Telling}
use Rattle.task_host.specs.View.{HostView}
use Rattle.jp_io.specs.View.{SourceView}

module _ {H A G : Type 0} where
  -- An executor works as such, and gives no lines; the count of its host's faults does not fall. The operator claims nothing, and gives the lines that it reads; it says
  -- that they could not be read only where their source counted a fault.
  abbrev pub WorksAs : HostView H → (H → G → Telling) → (G → GateTells) → SourceView A → ℕ → Member H A → Member H A → G → G → Worked → Type 0
  WorksAs host telling told source looks (Executor number machine) (Executor now next) old new answer =
      (now ≡ number) × (host.honest next ↔ host.honest machine) × (host.faults machine ≤ host.faults next) × Works number looks (host.honest machine) (telling machine old) (telling next new) answer × Stays (told old).lines (told new).lines
  WorksAs host telling told source looks (Operator answers line ended failed) (Operator next kept now_ended now_failed) old new answer =
      Operates (told old) (told new) (source.left answers) (source.left next) line kept ended now_ended answer
      × CountsFault (source.faults answers) (source.faults next) (answer ≡ worked.AnswersFailed)
      × (answer ≡ worked.AnswersFailed → now_failed ≡ true) × (answer ≢ worked.AnswersFailed → now_failed ≡ failed)
  WorksAs host telling told source looks (Executor number machine) (Operator next kept now_ended now_failed) old new answer = ⊥
  WorksAs host telling told source looks (Operator answers line ended failed) (Executor now next) old new answer = ⊥
