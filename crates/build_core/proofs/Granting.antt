-- A sound build has a queue: its labels have no fault, and its held executors are of the site.
use Rattle.std.proofs.Common.{◌≡◌, ℕ, Option, length, List, [], ◌∷◌, Some, None, Bool, false, refl, sym, ap, subst, ◌∙◌}
use Rattle.std.specs.Prelude.{find, option_map, if◌then◌else◌}
use Rattle.std.specs.List.{AllByRecursion as AllAre}
use Rattle.std.specs.Option.{is_none}
use Rattle.model_run.specs.Fitting.{SharedFits, HeldFits, RequestFits}
use Rattle.model_run.specs.Grants.{executor_of}
use Rattle.model_run.specs.State.{Setting, Common}
use Rattle.agent_queue.specs.declared.refusal.QueueRefusal.{QueueRefusal}
use Rattle.agent_queue.specs.declared.refusal.QueueRefusal.TheVariants.{Unknown}
use Rattle.agent_queue.specs.Standing.{WithoutFault, first_unknown, IsRefusal}
use Rattle.green_threads.specs.declared.runner.Seated.{Seated}
use Rattle.green_threads.specs.Threads.{Threads}
use Rattle.cps_frames.specs.declared.shared.Shared.{Shared}
use Rattle.build_core.specs.Phases.{SoundIn, GoOn}
use Rattle.script_thread.specs.Names.{Executor, Held, OpenRequest, Request, NodeRequest, TaskRequest, InputRequest}
use Rattle.build_core.specs.declared.phase.Phase.{Phase}
use Rattle.build_core.specs.declared.phase.Phase.TheVariants.{Running}

pub labels_fit : (setting : Setting) (v : Common) → SharedFits setting false v → AllAre (λ r. WithoutFault r.request) v.requests
labels_fit setting v fit = go (length v.log) v.requests fit.asks
  where
    one : (r : Request) (logged : ℕ) → RequestFits setting.site logged r → WithoutFault r
    one (NodeRequest label) logged f = f
    one (TaskRequest executor workspace folder env script status keep_out taken out) logged f = tt
    one (InputRequest id) logged f = tt

    go : (logged : ℕ) (rs : List OpenRequest) → AllAre (λ r. RequestFits setting.site logged r.request) rs → AllAre (λ r. WithoutFault r.request) rs
    go logged [] a = tt
    go logged (r ∷ rs) a = (one r.request logged a.0, go logged rs a.1)

pub held_known : (setting : Setting) (v : Common) → SharedFits setting false v → first_unknown setting.site v.held ≡ None
held_known setting v fit = go v.held fit.held
  where
    known : (o : Option Executor) → (o ≡ None → ⊥) → is_none {T = Executor} o ≡ false
    known None f = absurd (f refl)
    known (Some x) f = refl

    go : (hs : List Held) → AllAre (HeldFits setting.site v) hs → first_unknown setting.site hs ≡ None
    go [] a = refl
    go (h ∷ hs) a =
        ap (λ b. option_map (λ (x : Held). x.executor) (if b then Some h else find (λ x. is_none (executor_of setting.site x.executor)) hs)) (known (executor_of setting.site h.executor) a.0.executor) ∙ go hs a.1

pub never_unknown : (o : Option ℕ) (refusal : QueueRefusal) (n : ℕ) → refusal ≡ Unknown n → IsRefusal o refusal → o ≡ None → ⊥
never_unknown o refusal n e told none =
    let h : o ≡ Some n = subst (λ r. IsRefusal o r) e told in
    let q : Some n ≡ None = sym h ∙ none in
    absurd (cc q)

-- a build that goes on fits
pub running_fits : {T : Type 0} (number : T → ℕ) (parent : T → Option ℕ) (branch : T → Bool) (fits : List (Seated T) → Shared → Type 0) (p : Phase) (g : Threads T) (u : Shared) → p ≡ Running → SoundIn number parent branch fits p g u → fits g.seats u
running_fits number parent branch fits p g u e so =
    let go : GoOn number parent branch fits 0 g u = subst (λ q. SoundIn number parent branch fits q g u) e so in
    go.fit
