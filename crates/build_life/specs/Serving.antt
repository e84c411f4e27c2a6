-- What a life makes of its members: hosts fit the events from before it and those at its end, and the answers are read on (this product's own).
use Rattle.std.specs.Prelude.{◌≡◌, ◌≤◌, ◌↔◌, ℕ, Bool, true, false, List, [], ◌∷◌, ◌++◌, Option, Some}
use Rattle.std.specs.Io.KnownBytes.{Consumes, IsAtEnd}
use Rattle.device_faults.specs.Faults.{CountsFault}
use Rattle.task_host.specs.declared.call.Call.{Call}
use Rattle.agent_worker.specs.declared.member.Member.{Member}
use Rattle.agent_worker.specs.declared.member.Member.TheVariants.{Executor, Operator}
use Rattle.agent_worker.specs.Serve.{tasks_at}
use Rattle.launch_laws.specs.Fitting as fitting
use Rattle.launch_laws.specs.Fitting.{ExecutorHost}
use Rattle.model_run.specs.declared.event.Event.{Event}
use Rattle.model_run.specs.State.{Setting}
use Rattle.task_host.specs.View.{HostView}
use Rattle.jp_io.specs.View.{SourceView}

-- What became of an operator's answers, by what they had left at the beginning and at the end and by its two marks: these bytes were read; it
-- says that they are at their end only where they are; and that they could not be read exactly where their source counted a fault.
pub record ReadOn (left next : Option (List ℕ)) (faults now_faults : ℕ) (ended now_ended failed now_failed : Bool) : Type 0 where
  pub read : List ℕ
  pub answers : Consumes left next read
  pub at_end : ended ≡ false → now_ended ≡ true → IsAtEnd next
  pub counts : failed ≡ false → CountsFault faults now_faults (now_failed ≡ true)

-- What became of a host: it is honest where it was, its count of faults does not fall, and the calls that it tells, where it does, go on from
-- those that it told.
pub record HostStays (was_honest honest : Type 0) (faults now_faults : ℕ) (calls now_calls : Option (List Call)) : Type 0 where
  pub honest_stays : honest ↔ was_honest
  pub never_falls : faults ≤ now_faults
  pub called : (list : List Call) → now_calls ≡ Some list → (before : List Call) × (more : List Call) × (calls ≡ Some before) × (list ≡ before ++ more)

module _ {H A : Type 0} where
  -- the hosts of the executors among them are honest
  abbrev pub AreHonest : HostView H → List (Member H A) → Type 0
  AreHonest host [] = Unit {0}
  AreHonest host (Executor number machine ∷ members) = host.honest machine × AreHonest host members
  AreHonest host (Operator answers line ended failed ∷ members) = AreHonest host members

  -- the hosts of the executors among them, with their numbers
  abbrev pub hosts_of : HostView H → List (Member H A) → List ExecutorHost
  hosts_of host [] = []
  hosts_of host (Executor number machine ∷ members) = record { number = number; tasks = tasks_at (host.launches machine) (host.dirs machine) } ∷ hosts_of host members
  hosts_of host (Operator answers line ended failed ∷ members) = hosts_of host members

  -- they fit these events
  abbrev pub AllFit : HostView H → Setting → List Event → List (Member H A) → Type 0
  AllFit host setting events members = fitting.AllFit setting events (hosts_of host members)

  -- Member by member: an executor stays one, of the same number, and its host stays one; and an operator reads on.
  abbrev pub AreServed : HostView H → SourceView A → List (Member H A) → List (Member H A) → Type 0
  AreServed host source [] [] = Unit {0}
  AreServed host source (Executor number machine ∷ old) (Executor now next ∷ new) =
      ((now ≡ number) × HostStays (host.honest machine) (host.honest next) (host.faults machine) (host.faults next) (host.calls machine) (host.calls next)) × AreServed host source old new
  AreServed host source (Operator answers line ended failed ∷ old) (Operator next kept now_ended now_failed ∷ new) =
      ReadOn (source.left answers) (source.left next) (source.faults answers) (source.faults next) ended now_ended failed now_failed × AreServed host source old new
  AreServed host source (Executor number machine ∷ old) (Operator next kept now_ended now_failed ∷ new) = ⊥
  AreServed host source (Operator answers line ended failed ∷ old) (Executor now next ∷ new) = ⊥
  AreServed host source [] (member ∷ new) = ⊥
  AreServed host source (member ∷ old) [] = ⊥
