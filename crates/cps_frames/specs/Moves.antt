-- What a move of the machine has to do: the one form of contract of all forms, frames and steps.
use Rattle.std.specs.Prelude.{ℕ, suc, ◌<◌, ◌≤◌, ◌+◌, ◌^◌, ◌⊎◌, List, [], ◌∷◌, ◌++◌, ◌≡◌, Result as Outcome, IfSome, length}
use Rattle.std.specs.List.{AllByRecursion as AllAre}
use Rattle.model_run.specs.declared.ending.Asked.{Asked}
use Rattle.model_run.specs.declared.ending.Asked.TheVariants.{ForRequest, ForBranches}
use Rattle.model_run.specs.declared.ending.Entry.{Entry}
use Rattle.model_run.specs.declared.ending.Entry.TheVariants.{Body, First, Inside, On, Turn}
use Rattle.model_run.specs.declared.frame.Frame.{Frame}
use Rattle.model_run.specs.Terms.{Term, nodes_of, part_of, term_at}
use Rattle.model_run.specs.State.{Reply, State, Env, Result, Ended, Limited, Unfinished, through, awaiting}
use Rattle.model_run.specs.Around.{Around, Shape}
use Rattle.model_run.specs.Forms.{after}
use Rattle.cps_frames.specs.Standing.{Standing, Beside, state, shape_at, room_of}
use Rattle.cps_frames.specs.Order.{ranks}
use Rattle.cps_frames.specs.Halts.{move_of}
use Rattle.cps_frames.specs.declared.halt.Halt.{Halt}
use Rattle.cps_frames.specs.declared.thread.Move.{Move}
use Rattle.cps_frames.specs.declared.thread.Move.TheVariants.{Ends, Hits, Enter, Asks}

-- How a node is entered from another: as its part i, as its next turn, as the body of what it calls.
pub data How : Type 0 where
  Part : ℕ → How
  Again : How
  Call : How

-- what a move comes to at a node
abbrev pub enters : Around → How → Entry → ℕ → Env → State → Result
enters a (Part i) e p env s = a.part e i env s
enters a Again (Turn i kept) p env s = a.again i kept env s
enters a Again e p env s = Unfinished
enters a Call (Body args) p env s = a.call p args env s
enters a Call e p env s = Unfinished

abbrev pub does : Around → How → Move → State → Result
does a how (Ends e) s = Ended e s
does a how (Hits k) s = Limited k s
does a how (Enter e p env) s = enters a how e p env s
does a how (Asks asked) s = awaiting asked s

-- the node that is entered is that part, which stands behind its node, or the node itself; a body is called with an entry of its own
pub record IsPart (root : Term) (k i p : ℕ) : Type 0 where
  pub found : term_at root p ≡ part_of root (term_at root k) i
  pub behind : k < p
  pub within : p < length (nodes_of root)

abbrev pub IsOfPart : Entry → Type 0
IsOfPart First = Unit {0}
IsOfPart (Inside i) = Unit {0}
IsOfPart (On v) = Unit {0}
IsOfPart e = ⊥

abbrev pub IsTurn : Entry → Type 0
IsTurn (Turn i kept) = Unit {0}
IsTurn e = ⊥

abbrev pub IsBody : Entry → Type 0
IsBody (Body args) = Unit {0}
IsBody e = ⊥

abbrev pub Entered : Term → ℕ → How → Entry → ℕ → Type 0
Entered root k (Part i) e p = IsPart root k i p × IsOfPart e
Entered root k Again e p = (p ≡ k) × IsTurn e
Entered root k Call e p = IsBody e

-- what is entered stands there; and nothing ends inside new frames
abbrev pub Placed : Term → ℕ → How → List Frame → Move → Type 0
Placed root k how fs (Enter e p env) = Entered root k how e p
Placed root k how fs (Asks asked) = Unit {0}
Placed root k how fs m = fs ≡ []

-- inside new frames of one node
abbrev pub over : Shape → Around → List Frame → Result → Result
over sh a [] r = r
over sh a (f ∷ fs) r = through f (after f sh a) (over sh a fs r)

-- new frames stand at node k
abbrev pub IsNew : ℕ → Frame → Type 0
IsNew k f = f.node ≡ k

-- a part of this node is entered, or no node at all; or, behind a turn of a walk, the node again: the frame of a turn ranks so high
-- that the node may be entered in its place. The new frames rank n together, and r bounds them.
abbrev pub IsNear : ℕ → ℕ → How → Move → Type 0
IsNear n r (Part i) m = Unit {0}
IsNear n r Again (Enter e p env) = n + 2 ^ 71 ≤ r
IsNear n r Call (Enter e p env) = ⊥
IsNear n r how m = Unit {0}

-- the branches that a thread waits for
abbrev pub forked_by : Asked → ℕ
forked_by (ForRequest r) = 0
forked_by (ForBranches bs) = length bs

abbrev pub forked : Move → ℕ
forked (Asks asked) = forked_by asked
forked m = 0

-- A move at node k: what the definitions say there, in one world, is what the move says in another, inside the frames that were put
-- on the stack; the thread that waits for this one stays, and changed cells are marked. What may still be counted falls by the
-- branches that begin. The frames rank below r together and a part is entered or no node, unless something was counted: then they
-- rank below 2 ^ 72, which is above the ranks of all frames that one move puts up.
pub record Comes (k r : ℕ) (says : Shape → Around → State → Result) (u : Standing) (move : Move) (v : Standing) : Type 0 where
  pub frames : List Frame
  pub pushed : v.stack ≡ u.stack ++ frames
  pub new : AllAre (IsNew k) frames
  pub how : How
  pub placed : Placed u.world.setting.script k how frames move
  pub setting : v.world.setting ≡ u.world.setting
  pub beside : Beside u v
  pub same : (a : Around) (rs : List Reply) → says (shape_at u.world k) a (state u.world rs) ≡ over (shape_at u.world k) a frames (does a how move (state v.world rs))
  pub less : room_of v.world + forked move ≤ room_of u.world
  pub falls : ((suc (room_of v.world) ≤ room_of u.world) × (ranks frames < 2 ^ 72)) ⊎ (IsNear (ranks frames) r how move × (ranks frames < r))

-- What a function answers comes to: nothing is said where the memory was refused.
abbrev pub ComesTo : (k r : ℕ) → (Shape → Around → State → Result) → Standing → Outcome Move Halt → Standing → Type 0
ComesTo k r says u result v = IfSome (move_of result) (λ move. Comes k r says u move v)
