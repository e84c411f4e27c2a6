-- What an accepted event makes of a build that goes on, where no world is at hand; and when memory may be wanted for it.
use Rattle.std.proofs.Common.{◌≡◌, ◌≤◌, ◌∙◌, ℕ, [], ◌∷◌, true, false, refl, sym, ap, subst, Option, Some, None, inl, inr}
use Rattle.model_values.specs.declared.limit.LimitKind.{LimitKind}
use Rattle.model_values.specs.Limits.{limit_line}
use Rattle.model_run.specs.declared.event.Why.{Why}
use Rattle.model_run.specs.declared.result.BuildResult.TheVariants.{Failure}
use Rattle.model_run.specs.Results.{worse}
use Rattle.model_run.specs.State.{Common}
use Rattle.model_run.specs.Taking.{taken}
use Rattle.model_run.specs.World as W
use Rattle.green_threads.specs.declared.runner.Stop.{Stop}
use Rattle.green_threads.specs.declared.settled.Settled.{Settled}
use Rattle.green_threads.specs.declared.settled.Settled.TheVariants as settled
use Rattle.green_threads.specs.Grouping.{ready_count}
use Rattle.green_threads.specs.Order.{Settles, turns_left, all_wait}
use Rattle.green_threads.specs.Threads as G
use Rattle.cps_frames.specs.declared.shared.Shared.{Shared}
use Rattle.cps_frames.specs.Standing.{setting_of, common_of}
use Rattle.settle_laws.specs.Stances.{Stance}
use Rattle.settle_laws.specs.Standing.{heads}
use Rattle.script_thread.specs.Names.{Event, ExitedEvent, LostEvent, Answer, Accepted}
use Rattle.script_thread.specs.Events.{shared_after, EndsNot, answer_by, seats_answered, seats_after}
use Rattle.build_requests.specs.Memory.{NeedsMemory}
use Rattle.build_core.specs.declared.phase.Phase.{Phase}
use Rattle.build_core.specs.declared.phase.Phase.TheVariants.{Unbegun, Running, Ended, Stopped}
use Rattle.build_core.specs.Endings.{IsOver}
use Rattle.build_core.specs.Phases.{has_begun, has_ended, standing_in}
use Rattle.build_core.specs.Taking.{EndsAs, GoesOnBy, Passes, StepsOn, MayWant, answered_group}
use Rattle.build_core.proofs.Rests.{none_first}

module _ {T : Type 0} (stance : T → Stance) (seated : T → ℕ → Option ℕ → T) (head : T → ℕ) (turns : T → Shared → Answer → Stop T → T → Shared → Type 0) (room : Shared → ℕ) where
  abbrev By : G.Threads T → Shared → Phase → G.Threads T → Shared → Type 0
  By g u p g2 u2 = GoesOnBy stance seated head turns room g u p g2 u2

  abbrev On : Event → G.Threads T → Shared → Phase → G.Threads T → Shared → Type 0
  On event g u p g2 u2 = StepsOn stance seated head turns room event g u p g2 u2

  -- threads that have settled so
  pub settled_so : (g : G.Threads T) (u : Shared) (out : Settled) (g1 : G.Threads T) (u1 : Shared) → Settles W.run_limits.threads seated head turns (turns_left room g u) g u out g1 u1 → (q : Settled) → out ≡ q → (p : Phase) (g2 : G.Threads T) (u2 : Shared) → EndsAs stance q g1 u1 p g2 u2 → By g u p g2 u2
  settled_so g u out g1 u1 order q e p g2 u2 end = record {
    out = q;
    threads = g1;
    shared = u1;
    settles = subst (λ o. Settles W.run_limits.threads seated head turns (turns_left room g u) g u o g1 u1) e order;
    ends = end;
  }

  -- where none is ready, nothing goes on
  pub settled_at : (g : G.Threads T) (u : Shared) → ready_count g.seats ≤ 0 → By g u Running g u
  settled_at g u few = record {
    out = settled.AllWait;
    threads = g;
    shared = u;
    settles = all_wait (turns_left room g u) g u (none_first g.seats few);
    ends = (refl, refl, refl);
  }

  module _ (event : Event) (g : G.Threads T) (u : Shared) where
    abbrev Over : LimitKind → Phase → G.Threads T → Shared → Type 0
    Over k p g2 u2 = IsOver p g u (W.finished (heads stance g.seats) (limit_line k ∷ []) (worse u.result Failure) (common_of (record u { count = 0 }))) g2 u2

    -- an event that answers a request
    pub steps_answered : (n : ℕ) (x : Answer) → answer_by event u.requests ≡ Some (n, x) → ((k : LimitKind) → Passes u event k → ⊥) → (t : ℕ) → W.thread_of n u.requests ≡ t → (y : Answer) → x ≡ y → (u1 : Shared) → u1 ≡ shared_after event u → (p : Phase) (g2 : G.Threads T) (u2 : Shared) → By (answered_group t y g) u1 p g2 u2 → On event g u p g2 u2
    steps_answered n x e never t at y is u1 same p g2 u2 k = record {
      goes_on = λ ends_not.
          subst (λ (o : Option (ℕ × Answer)). By (record { seats = seats_answered u.requests o g.seats; next = g.next }) (shared_after event u) p g2 u2) (sym e)
          (subst (λ v. By (answered_group (W.thread_of n u.requests) x g) v p g2 u2) same
          (subst (λ z. By (answered_group (W.thread_of n u.requests) z g) u1 p g2 u2) (sym is)
          (subst (λ m. By (answered_group m y g) u1 p g2 u2) (sym at) k)));
      limited = λ j passes. absurd (never j passes);
    }

    -- output that passes no limit answers none
    pub steps_rested : answer_by event u.requests ≡ None → ready_count g.seats ≤ 0 → ((k : LimitKind) → Passes u event k → ⊥) → (u1 : Shared) → u1 ≡ shared_after event u → On event g u Running g u1
    steps_rested e few never u1 same = record {
      goes_on = λ ends_not.
          subst (λ v. By (record { seats = seats_after event u.requests g.seats; next = g.next }) (shared_after event u) Running g v) (sym same)
          (subst (λ (o : Option (ℕ × Answer)). By (record { seats = seats_answered u.requests o g.seats; next = g.next }) (shared_after event u) Running g (shared_after event u)) (sym e)
          (settled_at g (shared_after event u) few));
      limited = λ j passes. absurd (never j passes);
    }

    -- output beyond a limit
    pub steps_limited : (k : LimitKind) → (EndsNot u event → ⊥) → ((j : LimitKind) → Passes u event j → j ≡ k) → (u0 : Shared) → common_of u0 ≡ common_of (record u { count = 0 }) → setting_of u0 ≡ setting_of u → (p : Phase) (g2 : G.Threads T) (u2 : Shared) → IsOver p g u0 (W.finished (heads stance g.seats) (limit_line k ∷ []) (worse u0.result Failure) (common_of u0)) g2 u2 → On event g u p g2 u2
    steps_limited k never is u0 same same_setting p g2 u2 o = record {
      goes_on = λ ends_not. absurd (never ends_not);
      limited = λ j passes.
          subst (λ i. Over i p g2 u2) (sym (is j passes))
          (record {
            phase = o.phase;
            threads = o.threads;
            shared = o.shared ∙ ap (λ (v : Common). W.finished (heads stance g.seats) (limit_line k ∷ []) (worse v.result Failure) v) same;
            setting = o.setting ∙ same_setting;
          });
    }

-- a lost task ends as one with the code of its loss
pub steps_lost : {T : Type 0} (stance : T → Stance) (seated : T → ℕ → Option ℕ → T) (head : T → ℕ) (turns : T → Shared → Answer → Stop T → T → Shared → Type 0) (room : Shared → ℕ) (n : ℕ) (why : Why) (g : G.Threads T) (u : Shared) (p : Phase) (g2 : G.Threads T) (u2 : Shared)
    → StepsOn stance seated head turns room (ExitedEvent n (W.lost_code why)) g u p g2 u2 → StepsOn stance seated head turns room (LostEvent n why) g u p g2 u2
steps_lost stance seated head turns room n why g u p g2 u2 k = record { goes_on = k.goes_on; limited = k.limited }

-- memory is wanted for an accepted event, and for a grant that is looked up
pub wants_accepted : (p : Phase) (u : Shared) (event : Event) → taken (standing_in p u) event ≡ Accepted → MayWant p (standing_in p u) event
wants_accepted Unbegun u event e = e
wants_accepted Running u event e = inl e
wants_accepted Ended u event e = absurd (cc e)
wants_accepted Stopped u event e = tt

pub wants_looked_up : (p : Phase) (u : Shared) (event : Event) → has_begun p ≡ true → has_ended p ≡ false → NeedsMemory (standing_in p u) event → MayWant p (standing_in p u) event
wants_looked_up Unbegun u event begun going needs = absurd (cc begun)
wants_looked_up Running u event begun going needs = inr needs
wants_looked_up Ended u event begun going needs = absurd (cc going)
wants_looked_up Stopped u event begun going needs = tt
