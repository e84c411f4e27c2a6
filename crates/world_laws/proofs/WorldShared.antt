-- What a sound build asks of flow nodes, requests and held executors by themselves, as far as it is known of every world.
use Rattle.std.proofs.Common.{arith, ◌≡◌, ◌<◌, ◌≤◌, refl, subst, sym, ℕ, Bool, true, false, fold, List, [], ◌∷◌, length}
use Rattle.std.specs.Prelude.{if◌then◌else◌}
use Rattle.std.specs.List.{AllByRecursion as AllAre}
use Rattle.model_syntax.specs.Nodes.{Node}
use Rattle.model_run.specs.declared.event.Event.{Event}
use Rattle.model_run.specs.declared.event.Event.TheVariants.{Start as StartEvent, Granted as GrantedEvent, Output as OutputEvent, Exited as ExitedEvent, Lost as LostEvent, Decided as DecidedEvent}
use Rattle.model_run.specs.declared.taken.Taken.{Taken}
use Rattle.model_run.specs.declared.taken.Taken.TheVariants.{Accepted, NotOpen, Finished}
use Rattle.model_run.specs.State.{Setting}
use Rattle.model_run.specs.Below.{Small}
use Rattle.model_run.specs.Requests.{RequestsFit}
use Rattle.model_run.specs.Taking.{answered}
use Rattle.model_run.specs.Terms.{term}
use Rattle.model_run.specs.Waiting.{Stood}
use Rattle.model_run.specs.World.{Build, unbegun, begun, standing, settle, turn_bound, uncounted, after_event, after_one, answer_to, world_in}
use Rattle.model_run.proofs.Asking.{rise_lower}
use Rattle.model_run.proofs.Front.{front_length}
use Rattle.model_run.proofs.LaterWorlds.{settle_goes, one_goes, world_requests}
use Rattle.model_run.proofs.WaitingLaws.{changed_stood, event_stood}
use Rattle.world_laws.specs.Agreement.{SharedAgrees}

module _ (setting : Setting) (p : Node) (e : setting.script ≡ term 0 p) (small : Small setting) where
  abbrev HasNode : Build → Type 0
  HasNode b = b.started ≡ true → 0 < length b.shared.nodes

  begins : (b : Build) → AllAre (Stood setting) b.threads → HasNode b → (script agents : List ℕ) (ended started : Bool) → HasNode (after_event setting b (StartEvent script agents) (if ended then Finished else if started then NotOpen else Accepted))
  begins b all h script agents true started = h
  begins b all h script agents false true = h
  begins b all h script agents false false = λ s.
      omega (arith, front_length begun.shared.nodes (settle (turn_bound setting.limits) setting begun).shared.nodes ((settle_goes setting p e small (turn_bound setting.limits) begun (changed_stood setting (StartEvent script agents) (uncounted b) all)).later).nodes)

  -- a build that has not begun takes nothing else
  waits_to_begin : (b : Build) (x : Event) (a : Taken) (ended started : Bool) → started ≡ false → HasNode b → HasNode (after_event setting b x (if ended then Finished else if started then a else NotOpen))
  waits_to_begin b x a true started s h = h
  waits_to_begin b x a false true s h = absurd (cc)
  waits_to_begin b x a false false s h = h

  goes_on : (b : Build) → AllAre (Stood setting) b.threads → HasNode b → (x : Event) → b.started ≡ true → HasNode (after_one setting b x)
  goes_on b all h x s = λ now. (let some : 0 < length b.shared.nodes = h s in omega (arith, some, front_length b.shared.nodes (after_one setting b x).shared.nodes ((one_goes setting p e small b all s x).later).nodes))

  either : (b : Build) → AllAre (Stood setting) b.threads → HasNode b → (x : Event) → (b.started ≡ false → HasNode (after_one setting b x)) → (s : Bool) → b.started ≡ s → HasNode (after_one setting b x)
  either b all h x other true s = goes_on b all h x s
  either b all h x other false s = other s

  one_node : (b : Build) → AllAre (Stood setting) b.threads → HasNode b → (x : Event) → HasNode (after_one setting b x)
  one_node b all h (StartEvent script agents) = begins b all h script agents b.ended b.started
  one_node b all h (GrantedEvent request executor) = either b all h (GrantedEvent request executor) (λ s. waits_to_begin b (GrantedEvent request executor) (answered (standing setting b) (GrantedEvent request executor)) b.ended b.started s h) b.started refl
  one_node b all h (OutputEvent task stream from bytes) = either b all h (OutputEvent task stream from bytes) (λ s. waits_to_begin b (OutputEvent task stream from bytes) (answered (standing setting b) (OutputEvent task stream from bytes)) b.ended b.started s h) b.started refl
  one_node b all h (ExitedEvent task code) = either b all h (ExitedEvent task code) (λ s. waits_to_begin b (ExitedEvent task code) (answered (standing setting b) (ExitedEvent task code)) b.ended b.started s h) b.started refl
  one_node b all h (LostEvent task why) = either b all h (LostEvent task why) (λ s. waits_to_begin b (LostEvent task why) (answered (standing setting b) (LostEvent task why)) b.ended b.started s h) b.started refl
  one_node b all h (DecidedEvent request proceed name) = either b all h (DecidedEvent request proceed name) (λ s. waits_to_begin b (DecidedEvent request proceed name) (answered (standing setting b) (DecidedEvent request proceed name)) b.ended b.started s h) b.started refl

  fold_node : (b : Build) → AllAre (Stood setting) b.threads → HasNode b → (es : List Event) → HasNode (fold (after_one setting) b es)
  fold_node b all h [] = h
  fold_node b all h (x ∷ es) = fold_node (after_one setting b x) (event_stood setting b x (answer_to setting b x) all) (one_node b all h x) es

  -- In every world that has begun there is a flow node; open requests have rising numbers below the next one; held executors rise, are the
  -- site's, and each has a request of its own that was made and is closed.
  pub world_shared : (events : List Event) → (world_in setting events).started ≡ true → SharedAgrees setting.site (world_in setting events).shared
  world_shared events started =
      let h : RequestsFit setting.site (world_in setting events).shared = world_requests setting p e small events in
      record {
        some_node = fold_node unbegun tt (λ s. absurd (cc)) events started;
        requests = rise_lower 0 1 (world_in setting events).shared.next_request _ (omega arith) h.requests;
        rising = h.rising;
        held = h.held;
        differ = h.differ;
      }
