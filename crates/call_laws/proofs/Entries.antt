-- The combinators of evaluation keep what is entered inside frames: a relation that the laws of every form are read at.
use Rattle.std.proofs.Common.{◌≡◌, ◌∙◌, ap, sym, subst, refl, inl, inr, ℕ, true, List, [], ◌∷◌, Option, Some, None}
use Rattle.model_values.specs.Later.{CellsLater}
use Rattle.model_values.proofs.LaterLaws.{later_on}
use Rattle.model_values.specs.declared.limit.LimitKind.{LimitKind}
use Rattle.model_values.specs.declared.cell.Cell.{Cell}
use Rattle.model_values.specs.declared.cell.Cell.TheVariants.{Closure as ClosureCell}
use Rattle.model_run.specs.declared.frame.Frame.{Frame}
use Rattle.model_run.specs.declared.frame.FrameKind.{FrameKind}
use Rattle.model_run.specs.declared.frame.FrameKind.TheVariants as kind
use Rattle.model_run.specs.declared.ending.Ending.{Ending}
use Rattle.model_run.specs.declared.ending.Asked.{Asked}
use Rattle.model_run.specs.declared.ending.Asked.TheVariants.{ForRequest, ForBranches}
use Rattle.model_run.specs.declared.request.Request.{Request}
use Rattle.model_run.specs.Terms.{Term}
use Rattle.model_run.specs.State.{World, Reply, State, Result, Ended, Waits, Limited, Unfinished, with_world, through, changed, unless_limit, guarded, reply_to}
use Rattle.model_run.specs.Around.{Shape}
use Rattle.model_run.specs.Steps.{with_request}
use Rattle.model_run.specs.FrameTable.{Within, Called, Executor_wait, Task_wait, Person_wait, Branches_wait, row_of}
use Rattle.model_run.specs.Nesting.{Spot, Begun, Any_body, CallsByName, Leads, itself, Enters, own_frame, WaitsFor, is_own, shape_at, spot, spot_in}
use Rattle.model_run.proofs.Relation.{AskedAt, Relation}
use Rattle.call_laws.specs.Entering.{HasClosureAt, IsCallee, BeginsAt, EnteredAt, Entered, Behind, ComesTo}

pub closure_stays : (h g : List Cell) → CellsLater h g → (n : ℕ) → HasClosureAt h n → HasClosureAt g n
closure_stays h g later n has = (has.0, has.1, later.stays has.0 (ClosureCell n has.1) has.2)

-- a body of a closure begins in the place of any node
pub callee_begins : (root : Term) (h : List Cell) (k n : ℕ) → IsCallee root h n → (d : FrameKind) → BeginsAt root h k n d
callee_begins root h k n is kind.CallBody = inl is
callee_begins root h k n is d = tt

-- and so does every body where a name is called
pub name_begins : (root : Term) (h : List Cell) (k n : ℕ) → CallsByName root k → (d : FrameKind) → BeginsAt root h k n d
name_begins root h k n named kind.CallBody = inr named
name_begins root h k n named d = tt

-- a frame of a node's own is no body
pub own_begins : (root : Term) (h : List Cell) (k n : ℕ) (d : FrameKind) → is_own d ≡ true → BeginsAt root h k n d
own_begins root h k n kind.CallBody own = absurd (cc)
own_begins root h k n d own = tt

-- a request is waited for at a spot of its kind
pub request_waits : (root : Term) (k : ℕ) (w : Within) (r : Request) (n : ℕ) → AskedAt w r → WaitsFor (spot root k w) (ForRequest n)
request_waits root k Executor_wait r n asked = tt
request_waits root k Task_wait r n asked = tt
request_waits root k Person_wait r n asked = tt
request_waits root k w r n asked = absurd asked

-- a frame of a node's own stands at its node
pub own_stands : (root : Term) (k : ℕ) (x : Frame) → x.node ≡ k → is_own x.kind ≡ true → Enters root x (Begun k)
own_stands root k x at own = own_frame own (subst (λ j. Leads root k j) (sym at) itself)

-- what stands inside a frame of node k
pub inside_is : (root : Term) (k : ℕ) (sh : Shape) → shape_at root k ≡ sh → (x : Frame) → x.node ≡ k → spot_in root x ≡ spot root k (row_of sh x).inside
inside_is root k sh there x at = ap (λ z. spot root x.node (row_of z x).inside) (ap (shape_at root) at ∙ there) ∙ ap (λ j. spot root j (row_of sh x).inside) at

module _ (root : Term) where
  -- what begins behind later cells begins behind earlier ones
  pub comes_before : (h g : List Cell) → CellsLater h g → (at : Spot) (r : Result) → ComesTo root g at r → ComesTo root h at r
  comes_before h g later at (Ended e s) q = (q.0, later_on h g s.world.shared.cells later q.1)
  comes_before h g later at (Waits asked path s) q = (later_on h g s.world.shared.cells later q.0, q.1)
  comes_before h g later at (Limited k s) q = tt
  comes_before h g later at Unfinished q = tt

  -- from one spot, at which no wait stands, to another, where this holds of the first frame
  pub comes_as : (h : List Cell) (at to : Spot) → ((asked : Asked) → WaitsFor at asked → ⊥) → ((f : Frame) → Enters root f at → Enters root f to) → ((g : List Cell) → CellsLater h g → (f : Frame) → EnteredAt root g at f → EnteredAt root g to f) → (r : Result) → ComesTo root h at r → ComesTo root h to r
  comes_as h at to never stands up (Ended e s) q = q
  comes_as h at to never stands up (Waits asked [] s) q = absurd (never asked q.1)
  comes_as h at to never stands up (Waits asked (f ∷ fs) s) q = (q.0, (stands f q.1.0, up s.world.shared.cells q.0 f q.1.1, q.1.2))
  comes_as h at to never stands up (Limited k s) q = tt
  comes_as h at to never stands up Unfinished q = tt

  module _ (h : List Cell) where
    pub comes_through : (at inside : Spot) (x : Frame) → Enters root x at → ((g : List Cell) → EnteredAt root g at x) → spot_in root x ≡ inside → (go : Ending → State → Result) → ((e : Ending) (s : State) → Behind h s → ComesTo root h at (go e s)) → (r : Result) → ComesTo root h inside r → ComesTo root h at (through x go r)
    unfolding through
    comes_through at inside x stands enters is go law (Ended e s) q = law e s q
    comes_through at inside x stands enters is go law (Waits asked path s) q = (q.0, (stands, enters s.world.shared.cells, subst (λ w. Entered root s.world.shared.cells w path asked) (sym is) q.1))
    comes_through at inside x stands enters is go law (Limited k s) q = tt
    comes_through at inside x stands enters is go law Unfinished q = tt

    pub comes_unless : (at : Spot) (o : Option LimitKind) (go : State → Result) (s : State) → ComesTo root h at (go s) → ComesTo root h at (unless_limit o go s)
    comes_unless at (Some k) go s q = tt
    comes_unless at None go s q = q

    pub comes_reply : (at : Spot) (asked : Asked) (s : State) (rs : List Reply) → rs ≡ [] → CellsLater h s.world.shared.cells → WaitsFor at asked → ComesTo root h at (reply_to asked s rs)
    comes_reply at asked s [] none later waits = (later, waits)
    comes_reply at asked s (r ∷ rs) none later waits = absurd (cc)

    pub behind_change : (g : World → World) (s : State) → CellsLater s.world.shared.cells (g s.world).shared.cells → Behind h s → Behind h (with_world (g s.world) s)
    behind_change g s later q = (q.0, later_on h s.world.shared.cells (g s.world).shared.cells q.1 later)

    module _ (k : ℕ) (at : Spot) (C : Result → Type 0) where
      -- a frame of node k at this spot, with this inside it; what is called inside it comes to what is asked there
      pub record StandsSo (x : Frame) (w : Within) : Type 0 where
        pub stands : Enters root x at
        pub enters : (g : List Cell) → EnteredAt root g at x
        pub inside : spot_in root x ≡ spot root k w
        pub bodies : w ≡ Called → (r : Result) → C r → ComesTo root h Any_body r

      -- one evaluation of node k from this spot on, where calls come to C
      abbrev pub entering : Relation
      entering = record {
        States = λ s s'. Behind h s;
        Less = λ s s'. Behind h s;
        Results = λ r r'. ComesTo root h at r;
        Inner = λ w r r'. ComesTo root h (spot root k w) r;
        Turns = λ r r'. ComesTo root h at r;
        Calls = λ r r'. C r;
        Fits = λ f go. Unit {0};
        Stands = StandsSo;
        ends = λ e s s' q. q;
        limits = λ l s s' q. tt;
        changes = λ g s s' keeps q. behind_change g s keeps.cells q;
        weakens = λ s s' q. q;
        turned = λ r r' q. q;
        looks = λ go go' s s' q law. law;
        looks_less = λ go go' s s' q law. law;
        descends = λ limit g go go' law s s' spends q. comes_unless at (limit s.world) (changed g go) s (law (with_world (g s.world) s) s' (behind_change g s (spends.keeps).cells q));
        asks = λ r w asked s s' q. comes_reply (spot root k w) (ForRequest s.world.shared.next_request) (with_world (with_request r s.world) s) s.replies q.0 q.1 (request_waits root k w r s.world.shared.next_request asked);
        forks = λ b bs s s' q. comes_reply (spot root k Branches_wait) (ForBranches (b ∷ bs)) s s.replies q.0 q.1 tt;
        throughs = λ f w go go' fits st law r r' q. comes_through at (spot root k w) f st.stands st.enters st.inside go (λ e s b. law e s s b) r q;
        descends_through = λ f go go' fits st law limit g body body' b s s' spends q.
            comes_through at Any_body f st.stands st.enters st.inside go (λ e s b. law e s s b) (guarded limit g body s)
            (comes_unless Any_body (limit s.world) (changed g body) s (st.bodies refl (body (with_world (g s.world) s)) (b (with_world (g s.world) s) s' (behind_change g s (spends.keeps).cells q))));
      }
