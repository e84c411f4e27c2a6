-- The thread of an empty script meets what a build asks of threads, and its turn is that of the definitions (for the tests).
use Rattle.std.proofs.Common.{◌≡◌, ℕ, zero, suc, List, [], ◌∷◌, ◌++◌, true, false, refl, sym, ap, subst, ◌∙◌, length, Option, Some, arith, slice_get}
use Rattle.model_syntax.specs.declared.node.NodeForm.TheVariants as form
use Rattle.model_run.specs.Meaning.{ev, eval}
use Rattle.model_run.specs.declared.ending.Entry.TheVariants.{First}
use Rattle.model_run.specs.Fitting.{IsFlowNode, SharedFits}
use Rattle.model_run.specs.Terms.{Term, Numbered, no_terms, and_then, nodes_of, term_at, form_of}
use Rattle.model_run.specs.declared.ending.Ending.TheVariants.{Normal}
use Rattle.model_run.specs.State.{Setting, Common, Reply, State, Ended}
use Rattle.model_run.specs.Threads.{Script, Thread, stands, stands_from, evaluated}
use Rattle.model_values.specs.declared.value.Value.TheVariants.{Null}
use Rattle.model_run.specs.World as W
use Rattle.model_values.specs.declared.value.Outcome.TheVariants.{Value}
use Rattle.green_threads.specs.declared.runner.Stop.TheVariants as stop
use Rattle.cps_code.specs.Script.{script_of}
use Rattle.green_threads.specs.WaitTypes.{Answer}
use Rattle.green_threads.specs.declared.runner.Seated.{Seated}
use Rattle.cps_frames.specs.declared.shared.Shared.{Shared}
use Rattle.cps_frames.specs.Standing.{setting_of, common_of}
use Rattle.settle_laws.specs.Stances.{Stance, StandsAt, StandsFor, Left, Turns}
use Rattle.script_thread.specs.Names.{Site}
use Rattle.script_thread.specs.Events.{first_seat}
use Rattle.build_trials.specs.EmptyScripts.{stance_of, AsBegun}

-- a script of one node that is no other
script_of_one : (root : Term) → length (nodes_of root) ≡ 1 → form_of (term_at root 0) ≡ form.Script → (k : ℕ) × (root ≡ Numbered k form.Script no_terms)
unfolding term_at
script_of_one (Numbered k f no_terms) one e = (k, ap (λ g. Numbered k g no_terms) e)
script_of_one (Numbered k f (and_then (Numbered m g ps) ts)) one e = let q : ⊥ = omega (arith, one) in absurd q

-- it ends at once, and changes nothing
ends_at_once : (root : Term) (k n : ℕ) (s : State) → ev root (suc n) First (Numbered k form.Script no_terms) [] s ≡ Ended (Normal Null) s
unfolding ev eval
ends_at_once root k n s = refl

-- So a turn of its thread that has not begun ends with null, and changes nothing that threads share.
pub one_turn : (script : Term) (site : Site) (n : ℕ) (p : Option ℕ) (u : Common) (x : Answer) → length (nodes_of script) ≡ 1 → form_of (term_at script 0) ≡ form.Script → (h : Thread) → StandsFor (W.setting_of W.run_limits script site) (stance_of n p false) h →
    (s : State) × (stands (W.setting_of W.run_limits script site) (W.given_answer u x h) ≡ Ended (Normal Null) s) × Left s (stance_of n p true) u
one_turn script site n p u x one e h st = go h.history refl st.at
  where
    setting : Setting
    setting = W.setting_of W.run_limits script site

    reply : Reply
    reply = record { shared = u; answer = x }

    state : State
    state = record { world = record { setting = setting; shared = u; own = h.own }; replies = [] }

    alone : (k : ℕ) → script ≡ Numbered k form.Script no_terms → evaluated script 3000000 Script state ≡ Ended (Normal Null) state
    alone k q = ap (λ t. evaluated t 3000000 Script state) q ∙ ends_at_once (Numbered k form.Script no_terms) k 2999999 state

    go : (rs : List Reply) → h.history ≡ rs → StandsAt setting (stance_of n p false) h rs → (s : State) × (stands setting (W.given_answer u x h) ≡ Ended (Normal Null) s) × Left s (stance_of n p true) u
    go [] q at =
        let r : Script ≡ h.runs = cc at.0 in
        let k = script_of_one script one e in (
          state,
          ap (λ rs. stands_from setting h.runs h.own (rs ++ reply ∷ [])) q ∙ ap (λ z. stands_from setting z h.own (reply ∷ [])) (sym r) ∙ alone k.0 k.1,
          record { shared = refl; own = sym at.1 },
        )
    go (r ∷ rs) q at = absurd (cc at.0)

-- the thread that is resumed is the one that has just begun
pub thread_is : {T : Type 0} (one t : T) (xs : List (Seated T)) (x : Seated T) (i : ℕ) (u : Shared) → AsBegun one xs u → slice_get xs i ≡ Some x → x.thread ≡ t → t ≡ one
thread_is {T} one t xs x i u a at e = sym e ∙ go i (ap (λ ys. slice_get ys i) (sym a.threads) ∙ at)
  where
    go : (j : ℕ) → slice_get (first_seat one ∷ []) j ≡ Some x → x.thread ≡ one
    go zero k = let q : x ≡ first_seat one = cc k in ap (λ (z : Seated T). z.thread) q
    go (suc j) k = absurd (cc k)

pub turn_meets : {T : Type 0} (stance : T → Stance) (t t' : T) (u : Shared) (x : Answer) (n : ℕ) (p : Option ℕ) → stance t ≡ stance_of n p false → stance t' ≡ stance_of n p true → length (nodes_of (script_of u.code)) ≡ 1 → form_of (term_at (script_of u.code) 0) ≡ form.Script → SharedFits (setting_of u) false (common_of u) → IsFlowNode u.graph 2 → Turns stance common_of setting_of t u x (stop.Ended (Value Null)) t' u
turn_meets stance t t' u x n p before behind one e sound first = record {
  begun = ap (λ (y : Stance). y.runs) behind;
  number = ap (λ (y : Stance). y.own.number) behind ∙ sym (ap (λ (y : Stance). y.own.number) before);
  parent = ap (λ (y : Stance). y.parent) behind ∙ sym (ap (λ (y : Stance). y.parent) before);
  same_setting = refl;
  nodes_stay = omega arith;
  sound = sound;
  head = subst (λ (y : Stance). IsFlowNode u.graph y.own.head) (sym behind) first;
  branches = tt;
  stops = λ h st.
      let k = one_turn (script_of u.code) u.site n p (common_of u) x one e h (subst (λ y. StandsFor (setting_of u) y h) before st) in
      (Normal Null, k.0, k.1, refl, subst (λ y. Left k.0 y (common_of u)) (sym behind) k.2);
}
