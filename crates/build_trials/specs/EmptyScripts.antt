-- The build of an empty script, which ends with its first turn: what the definitions see of its thread (for the tests).
use Rattle.std.specs.Prelude.{◌≡◌, ℕ, zero, suc, Bool, true, false, List, [], ◌∷◌, Option, Some, None, is_some, length, map, replicate, refl}
use Rattle.std.proofs.Common.{lit<, lit≤, ap, sym, subst}
use Rattle.cell_heap.specs.Region.{Region}
use Rattle.model_run.specs.Fitting.{IsFlowNode, SharedFits}
use Rattle.model_run.specs.State.{Common}
use Rattle.model_run.specs.Taking.{request_of}
use Rattle.model_run.specs.World as W
use Rattle.model_run.specs.Threads.{Runs, Script}
use Rattle.green_threads.specs.declared.runner.Seated.{Seated}
use Rattle.green_threads.specs.Grouping.{ready_count}
use Rattle.green_threads.specs.Threads.{marked_in, waits_for_request}
use Rattle.cps_frames.specs.declared.shared.Shared.{Shared}
use Rattle.cps_frames.specs.Standing.{setting_of, common_of}
use Rattle.settle_laws.specs.Stances.{Stance, seated_as, script_stance}
use Rattle.settle_laws.specs.Standing.{HeadsStand}
use Rattle.script_thread.specs.Events.{IsBegun, first_seat, seats_after, shared_after}
use Rattle.script_thread.specs.Marks.{marked}
use Rattle.script_thread.specs.Names.{Event}

abbrev pub runs_of : Bool → Option Runs
runs_of true = None
runs_of false = Some Script

-- a thread with this number and parent, which has begun or not
abbrev pub stance_of : ℕ → Option ℕ → Bool → Stance
stance_of n p has_begun = record { own = record { number = n; head = 2; context = W.no_context; calls = 0 }; parent = p; runs = runs_of has_begun; frames = [] }

-- the build has just begun, with this one thread
pub record AsBegun {T : Type 0} (t : T) (xs : List (Seated T)) (u : Shared) : Type 0 where
  pub begun : IsBegun u
  pub threads : xs ≡ first_seat t ∷ []

-- What a build asks of such a thread.
abbrev pub IsNone : Option Runs → Type 0
IsNone None = Unit {0}
IsNone (Some r) = ⊥

abbrev pub IsFalse : Bool → Type 0
IsFalse false = Unit {0}
IsFalse true = ⊥

abbrev pub IsPositive : ℕ → Type 0
IsPositive zero = ⊥
IsPositive (suc n) = Unit {0}

module _ {T : Type 0} where
  pub begins : (make : Bool → T) (n : ℕ) (p : Option ℕ) (h : Bool) (u : Shared) → seated_as 0 None (stance_of n p h) ≡ script_stance → IsBegun u → AsBegun (make false) (first_seat (make h) ∷ []) u
  begins make n p true u e b = absurd (subst (λ (x : Stance). IsNone x.runs) e tt)
  begins make n p false u e b = record { begun = b; threads = refl }

  pub begun_marked : (t : T) (xs : List (Seated T)) (u : Shared) → AsBegun t xs u → AsBegun t (map (marked_in (λ x. x)) xs) (marked u)
  begun_marked t xs u a = record {
    begun = record { script = a.begun.script; shared = a.begun.shared; heap = ap (λ (h : Region). record h { changed = replicate (length h.cells) false }) a.begun.heap };
    threads = ap (map (marked_in (λ x. x))) a.threads;
  }

  pub begun_sound : (t : T) (xs : List (Seated T)) (u : Shared) → AsBegun t xs u → SharedFits (setting_of u) false (common_of u)
  begun_sound t xs u a = subst (λ v. SharedFits (setting_of u) false v) (sym a.begun.shared) (record {
    cells = tt;
    short = tt;
    few_cells = lit< tt;
    few_bytes = lit≤ tt;
    binding = tt;
    names = tt;
    some_node = lit< tt;
    few_nodes = lit≤ tt;
    nodes = (refl, refl, tt, tt);
    requests = tt;
    few_requests = lit≤ tt;
    asks = tt;
    rising = tt;
    held = tt;
    differ = tt;
  })

  pub first_node : (t : T) (xs : List (Seated T)) (u : Shared) → AsBegun t xs u → IsFlowNode u.graph 2
  first_node t xs u a = subst (λ (v : Common). IsFlowNode v.nodes 2) (sym a.begun.shared) (lit≤ tt, lit< tt)

  pub heads_begun : (stance : T → Stance) (t : T) (xs : List (Seated T)) (u : Shared) → (stance t).own.head ≡ 2 → AsBegun t xs u → HeadsStand stance u.graph xs
  heads_begun stance t xs u e a =
      subst (λ ys. HeadsStand stance u.graph ys) (sym a.threads)
      (subst (λ n. IsFlowNode u.graph n) (sym e) (first_node t xs u a), tt)

  pub none_open : (t : T) (xs : List (Seated T)) (u : Shared) (n : ℕ) → AsBegun t xs u → is_some (request_of u.requests n) ≡ true → waits_for_request (W.thread_of n u.requests) xs ≡ true
  none_open t xs u n a there = absurd (subst IsFalse (subst (λ (v : Common). is_some (request_of v.requests n) ≡ true) a.begun.shared there) tt)

  pub never_rests : (t : T) (xs : List (Seated T)) (u : Shared) (event : Event) → AsBegun t xs u → ready_count xs ≡ 0 → AsBegun t (seats_after event u.requests xs) (shared_after event u)
  never_rests t xs u event a none = absurd (subst IsPositive (subst (λ ys. ready_count ys ≡ 0) a.threads none) tt)
