-- An output that was reported in a serve is one of a task that was claimed in the same turn.
use Rattle.std.proofs.Common.{◌≡◌, inl, inr, ℕ, List, [], ◌∷◌, ◌++◌, sym, subst}
use Rattle.agent_worker.specs.declared.gate.Claim.{Claim}
use Rattle.agent_worker.specs.Acts.{Act, Called, Reported}
use Rattle.agent_worker.specs.Gate.{Claimed, claimed_as, claimed_in}
use Rattle.agent_worker.specs.Working.{Deed, Claims, Serves, Pauses, Halts, IsWork, AreOf, work_claims}
use Rattle.model_run.specs.declared.event.Event.{Event}
use Rattle.model_run.specs.declared.event.Event.TheVariants.{Output}
use Rattle.model_run.specs.declared.event.Stream.{Stream}
use Rattle.model_run.specs.Fitting.{Some_of}
use Rattle.build_life.specs.Lower.member_turns.Turning.{IsCausedIn, IsCausedBy}
use Rattle.task_host.specs.declared.order.Order.{Order}
use Rattle.world_laws.proofs.Places.{some_front, some_behind}

module _ (looks task : ℕ) (stream : Stream) (place : ℕ) (bytes : List ℕ) where
  abbrev its : Event
  its = Output task stream place bytes

  caused_in : (order : Order) (acts : List Act) → IsCausedIn order looks its acts → task ≡ order.task
  caused_in order [] caused = absurd caused
  caused_in order (Called c ∷ acts) caused = caused_in order acts caused
  caused_in order (Reported other answer ∷ acts) (inl caused) = caused.1.0
  caused_in order (Reported other answer ∷ acts) (inr caused) = caused_in order acts caused

  -- the executor was given that task
  abbrev IsGivenTo : ℕ → Claimed → Type 0
  IsGivenTo number c = (c.executor ≡ number) × (c.task ≡ task)

  later : (number : ℕ) (c : Claim) (old : List Claimed) → Some_of (IsGivenTo number) old → Some_of (IsGivenTo number) (old ++ claimed_in c)
  later number c old there = some_front (IsGivenTo number) old (claimed_in c) there

  pub caused_by : (number : ℕ) (past : List Deed) → IsWork looks past → AreOf number past → IsCausedBy looks past its → Some_of (IsGivenTo number) (work_claims past [])
  caused_by number [] lawful own caused = absurd caused
  caused_by number (Claims c ∷ past) lawful own caused = later number c (work_claims past []) (caused_by number past lawful.1 own caused)
  caused_by number (Serves order acts answer ∷ past) lawful own (inl caused) =
      let claims = lawful.0.0 in
      subst (λ (p : List Deed). Some_of (IsGivenTo number) (work_claims p [])) (sym claims.1)
      (some_behind (IsGivenTo number) (work_claims claims.0 []) (claimed_as order ∷ []) (inl (own.0, sym (caused_in order acts caused))))
  caused_by number (Serves order acts answer ∷ past) lawful own (inr caused) = caused_by number past lawful.1 own.1 caused
  caused_by number (Pauses ∷ past) lawful own caused = caused_by number past lawful.1 own caused
  caused_by number (Halts ∷ past) lawful own caused = caused_by number past lawful.1 own caused
