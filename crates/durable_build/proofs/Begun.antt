-- A build that has accepted an event has begun.
use Rattle.std.proofs.Common.{◌≡◌, ◌+◌, ℕ, Bool, true, false, List, [], ◌∷◌, length, Option, refl, sym, ap, ◌∙◌, subst, arith}
use Rattle.std.specs.Prelude.{nat_lt}
use Rattle.std.proofs.lemmas.Bool.{ltb-true, ltb-false}
use Rattle.model_values.specs.declared.limit.LimitKind.TheVariants.{LogSize, TextLength}
use Rattle.model_run.specs.declared.event.Event.{Event}
use Rattle.model_run.specs.declared.event.Event.TheVariants as event
use Rattle.model_run.specs.declared.event.Stream.TheVariants.{Log as LogStream, Out as OutStream}
use Rattle.model_run.specs.declared.taken.Taken.TheVariants.{Accepted}
use Rattle.model_run.specs.declared.wait.Answer.{Answer}
use Rattle.model_run.specs.State.{Common, Setting}
use Rattle.model_run.specs.Taking.{request_of, taken}
use Rattle.model_run.specs.World as W
use Rattle.green_threads.specs.declared.runner.Stop.{Stop}
use Rattle.green_threads.specs.declared.runner.Seated.{Seated}
use Rattle.green_threads.specs.declared.settled.Settled.{Settled}
use Rattle.green_threads.specs.declared.settled.Settled.TheVariants.{AllWait, Ended as ScriptEnded, Limit as LimitMet}
use Rattle.green_threads.specs.Threads.{Threads}
use Rattle.build_images.specs.Lower.cps_frames.declared.shared.Shared.{Shared}
use Rattle.build_images.specs.Lower.cps_frames.Standing.{setting_of}
use Rattle.settle_laws.specs.Stances.{Stance}
use Rattle.settle_laws.specs.Standing.{Matches, OnlyScript, Rising}
use Rattle.durable_build.proofs.StaysBegun.{starts_begun}
use Rattle.build_images.specs.Lower.build_core.Builds.{Parts, StandsFor, setting_in, standing_of}
use Rattle.build_images.specs.Lower.build_core.Phases.{IsEmpty, SoundIn, StandsIn, has_begun, recounted}
use Rattle.build_images.specs.Lower.build_core.Taking.{EndsAs, StepsOn}
use Rattle.build_images.specs.Lower.build_core.declared.phase.Phase.{Phase}
use Rattle.build_images.specs.Lower.build_core.declared.phase.Phase.TheVariants.{Unbegun, Running, Ended, Stopped}
use Rattle.store_laws.proofs.Starts.{only_start}
use Rattle.store_laws.proofs.Stories.{IsStart}

pub starts_first : (s : Setting) (e : Event) → IsStart e → (W.world_in s (e ∷ [])).started ≡ true
starts_first s (event.Start script agents) start = starts_begun s script agents
starts_first s (event.Granted request executor) start = absurd start
starts_first s (event.Output task stream from bytes) start = absurd start
starts_first s (event.Exited task code) start = absurd start
starts_first s (event.Lost task why) start = absurd start
starts_first s (event.Decided request proceed name) start = absurd start

module _ {T : Type 0} (stance : T → Stance) where
  -- a build before its `Start` stands for the one of the definitions
  unbegun_stands : (g : Threads T) (u : Shared) → IsEmpty g u → StandsIn stance Unbegun g u (recounted u.count W.unbegun)
  unbegun_stands g u h =
      let count : u.count ≡ 0 = ap (λ (c : Common). c.count) h.shared in
      record {
        started = refl;
        ended = refl;
        stand = record {
          shared = ap (λ (n : ℕ). record W.no_state { count = n }) count ∙ sym (ap (λ (c : Common). record c { nodes = [] }) h.shared);
          next = sym (ap (λ (t : Threads T). t.next) h.threads);
          rising = subst (λ (t : Threads T). Rising 0 t.seats t.next) (sym h.threads) (omega arith);
          script = subst (λ (t : Threads T). OnlyScript t.seats) (sym h.threads) tt;
          threads = subst (λ (t : Threads T). Matches stance (setting_of u) t.seats []) (sym h.threads) tt;
        };
      }

  -- threads have settled
  settled_begun : (out : Settled) (g : Threads T) (u : Shared) (p : Phase) (g' : Threads T) (u' : Shared) → EndsAs stance out g u p g' u' → has_begun p ≡ true
  settled_begun AllWait g u p g' u' is = ap has_begun is.0
  settled_begun (ScriptEnded o) g u p g' u' is = ap has_begun is.phase
  settled_begun (LimitMet k) g u p g' u' is = ap has_begun is.phase

  module _ (seated : T → ℕ → Option ℕ → T) (head : T → ℕ) (turns : T → Shared → Answer → Stop T → T → Shared → Type 0) (room : Shared → ℕ) where
    goes_begun : (e : Event) (g : Threads T) (u : Shared) (p : Phase) (g' : Threads T) (u' : Shared) → StepsOn stance seated head turns room e g u p g' u' → has_begun p ≡ true
    goes_begun (event.Output task LogStream from bytes) g u p g' u' is = one (nat_lt W.run_limits.log (length u.log + length bytes)) refl
      where
        one : (b : Bool) → nat_lt W.run_limits.log (length u.log + length bytes) ≡ b → has_begun p ≡ true
        one true past = ap has_begun (is.limited LogSize (refl, ltb-true _ _ past)).phase
        one false within = let ends = is.goes_on (ltb-false _ _ within) in settled_begun ends.out ends.threads ends.shared p g' u' ends.ends
    goes_begun (event.Output task OutStream from bytes) g u p g' u' is = one (nat_lt W.run_limits.values.text (length (W.kept_output (request_of u.requests task)) + length bytes)) refl
      where
        one : (b : Bool) → nat_lt W.run_limits.values.text (length (W.kept_output (request_of u.requests task)) + length bytes) ≡ b → has_begun p ≡ true
        one true past = ap has_begun (is.limited TextLength (refl, ltb-true _ _ past)).phase
        one false within = let ends = is.goes_on (ltb-false _ _ within) in settled_begun ends.out ends.threads ends.shared p g' u' ends.ends
    goes_begun (event.Start script agents) g u p g' u' is = let ends = is.goes_on tt in settled_begun ends.out ends.threads ends.shared p g' u' ends.ends
    goes_begun (event.Granted request executor) g u p g' u' is = let ends = is.goes_on tt in settled_begun ends.out ends.threads ends.shared p g' u' ends.ends
    goes_begun (event.Exited task code) g u p g' u' is = let ends = is.goes_on tt in settled_begun ends.out ends.threads ends.shared p g' u' ends.ends
    goes_begun (event.Lost task why) g u p g' u' is = let ends = is.goes_on tt in settled_begun ends.out ends.threads ends.shared p g' u' ends.ends
    goes_begun (event.Decided request proceed name) g u p g' u' is = let ends = is.goes_on tt in settled_begun ends.out ends.threads ends.shared p g' u' ends.ends

    module _ (number : T → ℕ) (parent : T → Option ℕ) (branch : T → Bool) (fits : List (Seated T) → Shared → Type 0) (old new : Parts T) (e : Event) (accepted : taken (standing_of old) e ≡ Accepted)
        (goes : (w : W.Build) → StandsFor stance old w → StandsFor stance new (W.after_one (setting_in old) w e)) where
      first_begun : old.phase ≡ Unbegun → IsEmpty old.group old.shared → has_begun new.phase ≡ true
      first_begun is empty =
          let before : StandsFor stance old W.unbegun = subst (λ (p : Phase). StandsIn stance p old.group old.shared (recounted old.shared.count W.unbegun)) (sym is) (unbegun_stands old.group old.shared empty) in
          sym (goes W.unbegun before).started ∙ starts_first (setting_in old) e (only_start (standing_of old) e (ap has_begun is) accepted)

      pub accepted_begun : SoundIn number parent branch fits old.phase old.group old.shared → (old.phase ≡ Running → StepsOn stance seated head turns room e old.group old.shared new.phase new.group new.shared)
          → (old.phase ≡ Ended → ⊥) → (old.phase ≡ Stopped → ⊥) → has_begun new.phase ≡ true
      accepted_begun sound steps going running = by_phase old.phase refl sound
        where
          by_phase : (p : Phase) → old.phase ≡ p → SoundIn number parent branch fits p old.group old.shared → has_begun new.phase ≡ true
          by_phase Unbegun is empty = first_begun is empty
          by_phase Running is on = goes_begun e old.group old.shared new.phase new.group new.shared (steps is)
          by_phase Ended is on = absurd (going is)
          by_phase Stopped is on = absurd (running is)
