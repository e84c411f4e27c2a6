-- Where the threads of a build have settled, so have those of the build of the definitions.
use Rattle.std.proofs.Common.{◌≡◌, ◌≤◌, ◌+◌, ◌-◌, ℕ, [], false, sym, subst, ◌∙◌, length, Option, arith}
use Rattle.model_values.specs.declared.value.Outcome.{Outcome}
use Rattle.model_values.specs.declared.limit.LimitKind.{LimitKind}
use Rattle.model_run.specs.Fitting.{SharedFits}
use Rattle.model_run.specs.World as W
use Rattle.green_threads.specs.WaitTypes.{Answer}
use Rattle.green_threads.specs.declared.runner.Stop.{Stop}
use Rattle.green_threads.specs.declared.settled.Settled.{Settled}
use Rattle.green_threads.specs.declared.settled.Settled.TheVariants as settled
use Rattle.green_threads.specs.Threads as G
use Rattle.green_threads.specs.Order.{Settles}
use Rattle.cps_code.specs.Script.{script_of}
use Rattle.cps_frames.specs.declared.shared.Shared.{Shared}
use Rattle.cps_frames.specs.Standing.{setting_of, common_of}
use Rattle.settle_laws.specs.Stances.{Stance, seated_as, Turns}
use Rattle.settle_laws.specs.Standing.{Comes, over, HeadsStand}
use Rattle.settle_laws.proofs.Turning.{settles_sound, settles_more, settles_heads, settles_some, settles_setting, settles_comes}
use Rattle.build_core.specs.declared.phase.Phase.{Phase}
use Rattle.build_core.specs.declared.phase.Phase.TheVariants.{Running}
use Rattle.build_core.specs.Endings.{IsOver}
use Rattle.build_core.specs.Phases.{StandsIn}
use Rattle.build_core.proofs.Rests.{wait_stands, over_stands}

-- The shared state is sound, each thread stands behind a flow node, and few threads have begun.
pub record Soundly {T : Type 0} (stance : T → Stance) (g : G.Threads T) (u : Shared) : Type 0 where
  pub sound : SharedFits (setting_of u) false (common_of u)
  pub heads : HeadsStand stance u.graph g.seats
  pub few_threads : g.next ≤ 100000000 + length u.graph

module _ {T : Type 0} (stance : T → Stance) (seated : T → ℕ → Option ℕ → T) (head : T → ℕ) (turns : T → Shared → Answer → Stop T → T → Shared → Type 0) (head_is : (t : T) → head t ≡ (stance t).own.head) (turned : (t : T) (u : Shared) (x : Answer) (k : Stop T) (t' : T) (u' : Shared) → turns t u x k t' u' → Turns stance common_of setting_of t u x k t' u') (n : ℕ) (g : G.Threads T) (u : Shared) (out : Settled) (g' : G.Threads T) (u' : Shared) (order : Settles 256 seated head turns n g u out g' u') where
  pub setting_after : setting_of u' ≡ setting_of u
  setting_after = settles_setting stance common_of (λ v. script_of v.code) (λ v. v.site) seated head turns head_is turned n g u out g' u' order

  pub some_after : (o : Outcome) → out ≡ settled.Ended o → g'.seats ≡ [] → ⊥
  some_after o e = settles_some stance common_of (λ v. script_of v.code) (λ v. v.site) seated head turns head_is turned n g u out g' u' order o e

  -- what holds of threads that went on soundly
  pub soundly : ((t : T) (m : ℕ) (q : Option ℕ) → stance (seated t m q) ≡ seated_as m q (stance t)) → (room : Shared → ℕ) → ((v : Shared) → room v ≡ W.run_limits.flow_nodes - length v.graph) → SharedFits (setting_of u) false (common_of u) → HeadsStand stance u.graph g.seats → g.next ≤ 100000000 + length u.graph → g'.next + room u' ≤ g.next + room u → Soundly stance g' u'
  soundly seated_is room room_is sound stand few bounded =
      let more : length u.graph ≤ length u'.graph = settles_more stance common_of (λ v. script_of v.code) (λ v. v.site) seated head turns head_is turned n g u out g' u' order in
      record {
        sound = settles_sound stance common_of (λ v. script_of v.code) (λ v. v.site) seated head turns head_is turned n g u out g' u' order sound;
        heads = settles_heads stance common_of (λ v. script_of v.code) (λ v. v.site) seated head turns head_is turned seated_is n g u out g' u' order stand;
        few_threads = omega (arith, few, bounded, more, room_is u, room_is u');
      }

  module _ (seated_is : (t : T) (m : ℕ) (q : Option ℕ) → stance (seated t m q) ≡ seated_as m q (stance t)) (le : n ≤ W.turn_bound W.run_limits) (w : W.Build) (st : StandsIn stance Running g u w) where
    pub comes : Comes stance (setting_of u') out g' (common_of u') w (W.settle (W.turn_bound W.run_limits) (setting_of u) w)
    comes = settles_comes stance common_of (λ v. script_of v.code) (λ v. v.site) seated head turns head_is turned seated_is n g u out g' u' order (W.turn_bound W.run_limits) le w st.stand

    -- each waits
    pub waits : out ≡ settled.AllWait → StandsIn stance Running g' u' (W.settle (W.turn_bound W.run_limits) (setting_of u) w)
    waits e = wait_stands stance g' u' w _ (subst (λ o. Comes stance (setting_of u') o g' (common_of u') w (W.settle (W.turn_bound W.run_limits) (setting_of u) w)) e comes) st.started st.ended

    -- all is over
    pub ends : (o : Outcome) → out ≡ settled.Ended o → (p : Phase) (g2 : G.Threads T) (u2 : Shared) (d : _) → IsOver p g' u' d g2 u2 → Comes stance (setting_of u') (settled.Ended o) g' (common_of u') w (over w g'.next d) → StandsIn stance p g2 u2 (W.settle (W.turn_bound W.run_limits) (setting_of u) w)
    ends o e p g2 u2 d k same =
        let c = subst (λ q. Comes stance (setting_of u') q g' (common_of u') w (W.settle (W.turn_bound W.run_limits) (setting_of u) w)) e comes in
        subst (λ b. StandsIn stance p g2 u2 b) (same ∙ sym c) (over_stands stance p g' u' d g2 u2 w k st.started)

    pub limits : (l : LimitKind) → out ≡ settled.Limit l → (p : Phase) (g2 : G.Threads T) (u2 : Shared) (d : _) → IsOver p g' u' d g2 u2 → Comes stance (setting_of u') (settled.Limit l) g' (common_of u') w (over w g'.next d) → StandsIn stance p g2 u2 (W.settle (W.turn_bound W.run_limits) (setting_of u) w)
    limits l e p g2 u2 d k same =
        let c = subst (λ q. Comes stance (setting_of u') q g' (common_of u') w (W.settle (W.turn_bound W.run_limits) (setting_of u) w)) e comes in
        subst (λ b. StandsIn stance p g2 u2 b) (same ∙ sym c) (over_stands stance p g' u' d g2 u2 w k st.started)
