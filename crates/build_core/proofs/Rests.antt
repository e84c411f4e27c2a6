-- A build whose threads have settled stands for the build of the definitions whose threads have.
use Rattle.std.proofs.Common.{◌≡◌, ◌≤◌, ℕ, List, [], ◌∷◌, true, false, refl, sym, ap, subst, ◌∙◌, None, arith}
use Rattle.model_run.specs.State.{Setting, Common}
use Rattle.model_run.specs.Threads.{Thread}
use Rattle.model_run.specs.World as W
use Rattle.green_threads.specs.WaitTypes.{Wait, Ready, RequestWait, BranchesWait}
use Rattle.green_threads.specs.declared.runner.Seated.{Seated}
use Rattle.green_threads.specs.declared.settled.Settled.TheVariants as settled
use Rattle.green_threads.specs.Threads as G
use Rattle.green_threads.specs.Grouping.{one_ready, ready_count}
use Rattle.cps_frames.specs.declared.shared.Shared.{Shared}
use Rattle.cps_frames.specs.Standing.{setting_of, common_of}
use Rattle.settle_laws.specs.Stances.{Stance}
use Rattle.settle_laws.specs.Standing.{Matches, Comes, over, Rising, OnlyScript}
use Rattle.settle_laws.proofs.Link.{matches_none, rests}
use Rattle.build_core.specs.declared.phase.Phase.{Phase}
use Rattle.build_core.specs.declared.phase.Phase.TheVariants.{Running}
use Rattle.build_core.specs.Endings.{IsOver}
use Rattle.build_core.specs.Phases.{StandsIn}

module _ {T : Type 0} where
  -- where none is ready, no thread goes on
  pub none_first : (xs : List (Seated T)) → ready_count xs ≤ 0 → G.first_ready xs ≡ None
  none_first [] few = refl
  none_first (x ∷ xs) few = go (none_first xs (omega (arith, few))) x.wait refl
    where
      go : G.first_ready xs ≡ None → (w : Wait) → x.wait ≡ w → G.turn_if x x.wait (G.first_ready xs) ≡ None
      go rest (Ready a) e = let n : one_ready x.wait ≡ 1 = ap one_ready e in let q : ⊥ = omega (arith, few, n) in absurd q
      go rest (RequestWait r) e = ap (λ v. G.turn_if x v (G.first_ready xs)) e ∙ rest
      go rest (BranchesWait js) e = ap (λ v. G.turn_if x v (G.first_ready xs)) e ∙ rest

module _ {T : Type 0} (stance : T → Stance) where
  no_thread : (setting : Setting) (xs : List (Seated T)) (hs : List Thread) → xs ≡ [] → Matches stance setting xs hs → W.first_ready hs ≡ None
  no_thread setting [] [] e m = refl
  no_thread setting [] (h ∷ hs) e m = absurd m
  no_thread setting (x ∷ xs) hs e m = absurd (cc e)

  -- so a build of the definitions stays as it is
  pub waits_on : (n : ℕ) (p : Phase) (g : G.Threads T) (u : Shared) (c : W.Build) (setting : Setting) → StandsIn stance p g u c → ready_count g.seats ≤ 0 → W.settle n setting c ≡ c
  waits_on n p g u c setting st few = rests n setting c (matches_none stance (setting_of u) g.seats c.threads st.stand.threads (none_first g.seats few))

  pub stays_over : (n : ℕ) (p : Phase) (g : G.Threads T) (u : Shared) (c : W.Build) (setting : Setting) → StandsIn stance p g u c → g.seats ≡ [] → W.settle n setting c ≡ c
  stays_over n p g u c setting st e = rests n setting c (no_thread (setting_of u) g.seats c.threads e st.stand.threads)

  -- a build that is over
  pub over_stands : (p : Phase) (g : G.Threads T) (u : Shared) (d : Common) (g' : G.Threads T) (u' : Shared) (w : W.Build) → IsOver p g u d g' u' → w.started ≡ true → StandsIn stance p g' u' (over w g.next d)
  over_stands p g u d g' u' w o begun =
      subst (λ q. StandsIn stance q g' u' (over w g.next d)) (sym o.phase)
      (record {
        started = begun;
        ended = refl;
        stand = record {
          shared = sym o.shared;
          next = sym (ap (λ (k : G.Threads T). k.next) o.threads);
          rising = subst (λ (k : G.Threads T). Rising 0 k.seats k.next) (sym o.threads) (omega arith);
          script = subst (λ (k : G.Threads T). OnlyScript k.seats) (sym o.threads) tt;
          threads = subst (λ (k : G.Threads T). Matches stance (setting_of u') k.seats []) (sym o.threads) tt;
        };
      })

  -- a build whose threads wait
  pub wait_stands : (g : G.Threads T) (u : Shared) (w c : W.Build) → Comes stance (setting_of u) settled.AllWait g (common_of u) w c → w.started ≡ true → w.ended ≡ false → StandsIn stance Running g u c
  wait_stands g u w c k begun going = record { started = k.1 ∙ begun; ended = k.2 ∙ going; stand = k.0 }
