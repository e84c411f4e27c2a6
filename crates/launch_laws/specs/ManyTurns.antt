-- The turns of an executor on its host in one life, and what the events of the life say of them (this product's own).
use Rattle.std.specs.Prelude.{◌≡◌, ℕ, nat_eq, true, List, [], ◌∷◌, ◌++◌, map}
use Rattle.std.specs.List.{AllByRecursion as AllAre, IsDistinct}
use Rattle.model_run.specs.declared.event.Event.{Event}
use Rattle.model_run.specs.declared.taken.Taken.TheVariants.{Accepted}
use Rattle.model_run.specs.Fitting.{Some_of}
use Rattle.model_run.specs.Requests.{IsTaskOf}
use Rattle.model_run.specs.State.{Setting}
use Rattle.model_run.specs.World.{answer_to, world_in}
use Rattle.agent_worker.specs.Gate.{Told, Claimed}
use Rattle.agent_worker.specs.Working.{Deed, IsWork, AreOf, OnHost, WorksOnHost, work_told, work_claims}

-- One turn: what the executor did, the latest first; which events its gate told then and which tasks it was given; and what that made of an
-- honest host.
pub record Turn (executor looks : ℕ) (told : List Told) (claimed : List Claimed) (old now : OnHost) : Type 0 where
  pub past : List Deed
  pub lawful : IsWork looks past
  pub orders : AreOf executor past
  pub tells : told ≡ work_told past []
  pub claims : claimed ≡ work_claims past []
  pub on_host : WorksOnHost past old now

-- Turns one after the other, from this host on: all that was told, all that was claimed, and the host behind them.
pub data Turns (executor looks : ℕ) (start : OnHost) : List Told → List Claimed → OnHost → Type 0 where
  none : Turns executor looks start [] [] start
  more : {old_told told : List Told} {old_claimed claimed : List Claimed} {old now : OnHost} → Turns executor looks start old_told old_claimed old
      → Turn executor looks told claimed old now → Turns executor looks start (old_told ++ told) (old_claimed ++ claimed) now

-- Events that were taken one after the other, behind those from before: each was accepted, by a build that had begun.
pub record IsTaken (setting : Setting) (before : List Event) (e : Event) : Type 0 where
  pub begun : (world_in setting before).started ≡ true
  pub accepted : answer_to setting (world_in setting before) e ≡ Accepted

abbrev pub AllTaken : Setting → List Event → List Event → Type 0
AllTaken setting before [] = Unit {0}
AllTaken setting before (e ∷ es) = IsTaken setting before e × AllTaken setting (before ++ e ∷ []) es

-- The task was an open one of the executor in this life: in the world of the events from before it and the first ones of those taken in it.
pub record InLife (setting : Setting) (begun taken : List Event) (executor task : ℕ) : Type 0 where
  pub front : List Event
  pub rest : List Event
  pub is : taken ≡ front ++ rest
  pub has_begun : (world_in setting (begun ++ front)).started ≡ true
  pub task_of : IsTaskOf executor task (world_in setting (begun ++ front)).shared

-- What the history of a life says of what an executor was told and given: what it was told is accepted was taken; the tasks that it was given
-- were open ones of the executor that the claim was for, and no two are the same.
pub record IsOfLife (setting : Setting) (begun taken : List Event) (told : List Told) (claimed : List Claimed) : Type 0 where
  pub taken_so : AllAre (λ (t : Told). t.accepted ≡ true → Some_of (λ e. e ≡ t.event) taken) told
  pub given : AllAre (λ (c : Claimed). InLife setting begun taken c.executor c.task) claimed
  pub once : IsDistinct nat_eq (map (λ (c : Claimed). c.task) claimed)
