-- The thread of a script fits the shared state of a build that begins.
use Rattle.std.proofs.Common.{arith, ◌≡◌, false, [], ◌∷◌, ◌++◌, Some, None, refl, ap, subst, sym}
use Rattle.std.specs.Prelude.{drop}
use Rattle.std.specs.List.{AllByRecursion as AllAre}
use Rattle.model_run.specs.declared.context.Context.{Context}
use Rattle.model_run.specs.declared.ending.Entry.TheVariants.{First}
use Rattle.model_run.specs.declared.wait.Answer.{Answer}
use Rattle.model_run.specs.declared.wait.Answer.TheVariants.{Begin}
use Rattle.model_run.specs.declared.wait.Wait.TheVariants.{Ready}
use Rattle.model_run.specs.Fitting.{AnswerFits, Distinct, IsFlowNode, IsWaitedFor, SharedFits}
use Rattle.model_run.specs.Nesting.{Begun, CallsClosures, Spot}
use Rattle.model_run.specs.State.{Common}
use Rattle.model_run.specs.Threads.{Runs}
use Rattle.model_run.specs.World.{begun, first_own, no_context}
use Rattle.run_laws.specs.Worlds.{SharedSound}
use Rattle.run_laws.proofs.EventBounds.{begun_shared}
use Rattle.green_threads.specs.declared.runner.Seated.{Seated}
use Rattle.settle_laws.specs.Stances.{Stance, script_stance}
use Rattle.script_thread.specs.Events.{IsBegun, first_seat}
use Rattle.cps_frames.specs.Places.{IsHeld, Poised}
use Rattle.cps_frames.specs.Standing.{common_of, setting_of}
use Rattle.cps_frames.specs.declared.shared.Shared.{Shared}
use Rattle.cps_frames.specs.declared.thread.Move.TheVariants as move
use Rattle.cps_frames.proofs.Beginnings.{script_poised}
use Rattle.cps_code.specs.Script.{script_of}
use Rattle.thread_fits.specs.Seats.{Fits, HasBegun, SeatStands, StartStands, as_seat, first_of, standing_as}
use Rattle.thread_fits.proofs.Facts.{facts_of}
use Rattle.thread_fits.proofs.SharedLaws.{limits_narrow, sound_of}

-- the shared state of a build that begins is that of a sound build
pub begun_fits_shared : (u : Shared) → common_of u ≡ begun.shared → SharedFits (setting_of u) false (common_of u)
begun_fits_shared u e =
    let s : SharedSound (setting_of u) false begun.shared = begun_shared limits_narrow in
    subst (SharedFits (setting_of u) false) (sym e) (record {
      cells = s.cells;
      short = (s.bounds).short;
      few_cells = (s.bounds).few_cells;
      few_bytes = (s.bounds).few_bytes;
      binding = s.binding;
      names = (s.bounds).names;
      some_node = omega arith;
      few_nodes = (s.bounds).few_nodes;
      nodes = (s.bounds).nodes;
      requests = tt;
      few_requests = (s.bounds).few_requests;
      asks = (s.bounds).asks;
      rising = tt;
      held = tt;
      differ = tt;
    })

module _ {T : Type 0} (stance : T → Stance) where
  -- The thread of a script, with the number 0 and no parent.
  pub script_fits : (t : T) (u : Shared) → stance t ≡ script_stance → IsBegun u → Fits stance (first_seat t ∷ []) u
  script_fits t u e b =
      let shared : SharedFits (setting_of u) false (common_of u) = begun_fits_shared u b.shared in
      let head : IsFlowNode u.graph 2 = subst (λ (c : Common). IsFlowNode c.nodes 2) (sym b.shared) (omega arith, omega arith) in
      let poised : Poised (setting_of u) no_context (Begun 0) (standing_as u script_stance) (move.Enter First 0 []) =
      script_poised (setting_of u) (facts_of (script_of u.code) b.script) (common_of u) first_own None u.heap (sound_of u shared) head in
      record {
        script = b.script;
        shared = shared;
        numbers = (tt, tt);
        family = record { main = λ e. absurd (cc e); parents = (refl, tt); joins = (tt, tt) };
        seats = (
          record {
            poised = subst (λ (x : Stance). Poised (setting_of u) no_context (Begun 0) (standing_as u x) (first_of x.runs Begin)) (sym e) poised;
            closures = subst (λ (x : Stance). CallsClosures (script_of u.code) (Begun 0) x.frames) (sym e) tt;
            begun = subst (λ (x : Stance). HasBegun (Ready Begin) x.runs) (sym e) refl;
            start = subst (λ (x : Stance). StartStands x.runs None x.frames) (sym e) (refl, refl);
            number = ap (λ (x : Stance). x.own.number) e;
            parent = ap (λ (x : Stance). x.parent) e;
            wait = tt;
          },
          tt,
        );
        holds = (subst (λ (x : Stance). AllAre (IsHeld u.held) x.own.context.held) (sym e) tt, tt);
        differ = subst (λ (x : Stance). Distinct ((drop 0 x.own.context.held ++ []) ++ [])) (sym e) tt;
        alone = ((λ given. absurd given), tt);
        waited_for = subst (λ (c : Common). AllAre (IsWaitedFor (as_seat stance (first_seat t) ∷ [])) c.requests) (sym b.shared) tt;
      }

  -- A thread that has not begun passes the test of an image: it is ready to begin.
  pub unbegun_fits : (u : Shared) (above : Context) (x : Seated T) (r : Runs) (a : Answer) (at : Spot) → (stance x.thread).runs ≡ Some r → x.wait ≡ Ready a → SeatStands stance u above x → AnswerFits (common_of u) at [] a
  unbegun_fits u above x r a at runs ready h =
      let begins : a ≡ Begin = subst (HasBegun (Ready a)) runs (subst (λ w. HasBegun w (stance x.thread).runs) ready h.begun) in
      subst (AnswerFits (common_of u) at []) (sym begins) tt
