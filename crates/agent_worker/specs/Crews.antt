-- Who works on a build: an executor for each one of its site, with the host of its place, and then the operator (this product's own).
use Rattle.std.specs.Prelude.{◌≡◌, false, List, [], ◌∷◌, ◌++◌}
use Rattle.model_run.specs.declared.site.Executor.{Executor as SiteExecutor}
use Rattle.agent_worker.specs.declared.member.Member.{Member}
use Rattle.agent_worker.specs.declared.member.Member.TheVariants.{Executor, Operator}

module _ {H : Type 0} where
  -- the executors of a site, each with the host of its place, as long as there are hosts
  abbrev pub seats_of : {A : Type 0} → List SiteExecutor → List H → List (Member H A)
  seats_of [] hosts = []
  seats_of (x ∷ executors) [] = []
  seats_of (x ∷ executors) (host ∷ hosts) = Executor x.number host ∷ seats_of executors hosts

  -- and the hosts that are left
  abbrev pub others_of : List SiteExecutor → List H → List H
  others_of [] hosts = hosts
  others_of (x ∷ executors) [] = []
  others_of (x ∷ executors) (host ∷ hosts) = others_of executors hosts

  -- the members of a build, at its beginning
  abbrev pub members_of : {A : Type 0} → List SiteExecutor → List H → A → List (Member H A)
  members_of executors hosts answers = seats_of executors hosts ++ Operator answers [] false false ∷ []

  -- the hosts of the executors among members, and the answers of the operators
  abbrev pub hosts_in : {A : Type 0} → List (Member H A) → List H
  hosts_in [] = []
  hosts_in (Executor number host ∷ members) = host ∷ hosts_in members
  hosts_in (Operator answers line ended failed ∷ members) = hosts_in members

  abbrev pub answers_in : {A : Type 0} → List (Member H A) → List A
  answers_in [] = []
  answers_in (Executor number host ∷ members) = answers_in members
  answers_in (Operator answers line ended failed ∷ members) = answers ∷ answers_in members

  -- executors, and behind them an operator
  abbrev pub IsCrew : {A : Type 0} → List (Member H A) → Type 0
  IsCrew [] = ⊥
  IsCrew (Executor number host ∷ members) = IsCrew members
  IsCrew (Operator answers line ended failed ∷ members) = members ≡ []
