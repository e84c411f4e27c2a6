-- What an evaluation of a node begins with, and with what a frame goes on (this product's own).
use Rattle.std.specs.Prelude.{◌≡◌, ◌<◌, ℕ, Bool, true, false, List, [], length, drop, None, slice_get}
use Rattle.std.specs.List.{AllByRecursion as AllAre}
use Rattle.model_syntax.specs.declared.node.NodeForm.{NodeForm}
use Rattle.model_syntax.specs.declared.node.NodeForm.TheVariants as form
use Rattle.model_values.specs.Fitting.{There, HasVariable, CellsFit}
use Rattle.model_values.specs.declared.value.Value.{Value}
use Rattle.model_run.specs.declared.wait.Answer.{Answer}
use Rattle.model_run.specs.declared.wait.Answer.TheVariants.{Granted, Joined}
use Rattle.model_run.specs.declared.ending.Ending.{Ending}
use Rattle.model_run.specs.declared.ending.Ending.TheVariants.{Answered}
use Rattle.model_run.specs.declared.ending.Entry.{Entry}
use Rattle.model_run.specs.declared.ending.Entry.TheVariants.{First, Inside, On, Turn, Body, Branched}
use Rattle.model_run.specs.declared.held.Held.{Held}
use Rattle.model_run.specs.declared.site.Site.{Site}
use Rattle.model_run.specs.Grants.{executor_of}
use Rattle.model_run.specs.Steps.{held_by}
use Rattle.model_run.specs.Terms.{Term, nodes_of}
use Rattle.model_run.specs.State.{Setting, Common, Reply, Env, Result, Ended}
use Rattle.model_run.specs.Around.{Shape, form_at, value_at}
use Rattle.model_run.specs.FrameTable.{Within, Part, Executor_wait, Task_wait, Person_wait, Branches_wait, is_declaration, is_callable, is_closure_form}
use Rattle.model_run.specs.Nesting.{Spot, Begun, For_executor, For_task, For_person, For_branches, shape_at}
use Rattle.model_run.specs.Threads.{Runs, Script, Closure}
use Rattle.model_run.specs.Scoping.{Names, names_at, names_within, names_after}
use Rattle.model_run.specs.Fitting.{EnvFits, IsFlowNode, EndFits as BranchEnded, Later, request_in, closure_rule}
use Rattle.run_laws.specs.Bounds.{Narrow, InBounds}
use Rattle.run_laws.specs.Soundness.{EndFits, Open, Base, within, At, Holds}

-- the forms of parts that are evaluated part by part: an arm, a catch, an entry, an operand, and so on
abbrev pub has_inner : NodeForm → Bool
has_inner form.Arm = true
has_inner (form.Catch caught x) = true
has_inner form.Finally = true
has_inner (form.ToProperty p) = true
has_inner form.ToIndex = true
has_inner (form.NamedEntry t) = true
has_inner (form.NumberedEntry z) = true
has_inner form.ComputedEntry = true
has_inner (form.Operand o) = true
has_inner form.IfTrue = true
has_inner form.IfSet = true
has_inner f = false

-- what is called is a closure or a function of the script, with its variables
pub record CalleeFits (root : Term) (u : Common) (k : ℕ) (env : Env) : Type 0 where
  pub below : k < length (nodes_of root)
  pub callable : is_callable (shape_at root k).form ≡ true
  pub variables : EnvFits u.cells (names_at root k) env

-- what a turn is begun with: what a `for` goes over; or of a walk its value, its closure and what it keeps
abbrev pub TurnFits : NodeForm → Common → List Value → Type 0
TurnFits (form.ForEach x) u kept = There u.cells (value_at 0 kept)
TurnFits (form.Method access f) u kept = There u.cells (value_at 0 kept) × There u.cells (value_at 1 kept) × AllAre (There u.cells) (drop 2 kept)
TurnFits f u kept = Unit {0}

-- what a further turn sees: in a `for` also what its head declared
abbrev pub turn_names : NodeForm → List NodeForm → Names → Names
turn_names form.ForSteps fs xs = names_after fs 1 xs
turn_names f fs xs = xs

-- What node k is entered with, for each entry: the variables that it sees there, and values that are there.
abbrev pub EntryFits : Term → Common → Entry → ℕ → Env → Type 0
EntryFits root u First k env = EnvFits u.cells (names_at root k) env
EntryFits root u (Inside j) k env = (has_inner (shape_at root k).form ≡ true) × EnvFits u.cells (names_within (shape_at root k).form j (names_at root k)) env
EntryFits root u (On v) k env = There u.cells v × EnvFits u.cells (names_at root k) env
EntryFits root u (Turn i kept) k env =
    (is_declaration (shape_at root k).form ≡ false) × EnvFits u.cells (turn_names (shape_at root k).form (shape_at root k).parts (names_at root k)) env × TurnFits (shape_at root k).form u kept
EntryFits root u (Body args) k env = (is_callable (shape_at root k).form ≡ true) × EnvFits u.cells (names_at root k) env × AllAre (There u.cells) args
EntryFits root u (Branched start) k env = (is_closure_form (shape_at root k).form ≡ true) × EnvFits u.cells (names_at root k) env × IsFlowNode u.nodes start

-- as which form a node of form f ends: what is not the node itself declares nothing, as a block
abbrev pub ends_as : Entry → NodeForm → NodeForm
ends_as First f = f
ends_as (Turn i kept) f = f
ends_as e f = form.Block

-- what branches ended with is there, and their last flow nodes; of other answers nothing is asked here
abbrev pub AnswerThere : Common → Answer → Type 0
AnswerThere u (Joined ends) = AllAre (λ b. BranchEnded u b.end) ends
AnswerThere u x = Unit {0}

abbrev pub IsAnswer : Common → Ending → Type 0
IsAnswer u (Answered x) = AnswerThere u x
IsAnswer u e = ⊥

-- With what a frame at a node of this shape goes on: what stands directly inside it has ended so.
abbrev pub InsideFits : Shape → Within → Common → Ending → Type 0
InsideFits sh (Part i) u e = EndFits (form_at sh.parts i) u e
InsideFits sh Executor_wait u e = IsAnswer u e
InsideFits sh Task_wait u e = IsAnswer u e
InsideFits sh Person_wait u e = IsAnswer u e
InsideFits sh Branches_wait u e = IsAnswer u e
InsideFits sh w u e = EndFits form.Block u e

-- the request whose executor an answer grants
abbrev pub granted_of : List Held → Answer → List ℕ
granted_of held (Granted x) = request_in (held_by x held)
granted_of held x = []

-- the answer grants the executor of the one request that is given back by the node's end, or none where none is given back
abbrev pub Grants : List Held → List ℕ → Ending → Type 0
Grants held gone (Answered x) = granted_of held x ≡ gone
Grants held gone e = ⊥

-- each held executor is one of the site's
abbrev pub AllOfSite : Site → List Held → Type 0
AllOfSite site held = AllAre (λ h. executor_of site h.executor ≡ None → ⊥) held

-- before a `node` body is opened
abbrev pub unopened : Base → Base
unopened g = within (record g.around { gone = [] }) g

module _ (g : Base) where
  -- the answer to a wait
  abbrev pub IsAnswered : Common → Result → Type 0
  IsAnswered u (Ended e s) = At g u s × IsAnswer s.world.shared e
  IsAnswered u r = ⊥

  -- the answer to the wait for an executor
  abbrev pub IsGranted : Common → Result → Type 0
  IsGranted u (Ended e s) = At (unopened g) u s × IsAnswer s.world.shared e × Grants s.world.shared.held g.around.gone e × AllOfSite g.site s.world.shared.held
  IsGranted u r = ⊥

  -- What stands at a place inside frames comes to, that began behind u.
  abbrev pub HoldsAt : Spot → Common → Result → Type 0
  HoldsAt (Begun k) u r = Holds g (shape_at g.script k).form u r
  HoldsAt For_executor u r = IsGranted u r
  HoldsAt For_task u r = IsAnswered u r
  HoldsAt For_person u r = IsAnswered u r
  HoldsAt For_branches u r = IsAnswered u r
  HoldsAt at u r = Holds g form.Block u r

-- what an answer to the wait at a place opens: the body whose executor it grants, or nothing
abbrev pub opened_at : Spot → List Held → Answer → List ℕ
opened_at For_executor held x = granted_of held x
opened_at at held x = []

-- what is open around a thread in a turn: the requests and folders with which it began, the executors that are held as the turn begins,
-- and the requests of its own bodies, whose executors are given back by the thread's end
abbrev pub turn_open : List ℕ → ℕ → List Held → List ℕ → Open
turn_open nodes folders was gone = record { nodes = nodes; folders = folders; was = was; gone = gone }

abbrev pub based : Setting → Open → Base
based g o = record { script = g.script; site = g.site; limits = g.limits; around = o }

-- What a thread runs fits: of a branch its closure, which is one of the script's, and its flow node.
abbrev pub RunsFit : Term → Common → Runs → Type 0
RunsFit root u Script = Unit {0}
RunsFit root u (Closure k env start) = (k < length (nodes_of root)) × EntryFits root u (Branched start) k env

-- A shared state behind u, as a thread is given it with its next answer: later and sound, and the answer names what is there.
pub record ReplyFits (g : Setting) (u : Common) (r : Reply) : Type 0 where
  pub later : Later u r.shared
  pub narrow : Narrow g.limits
  pub cells : CellsFit (closure_rule g.script) r.shared.cells
  pub binding : AllAre (λ b. HasVariable (slice_get r.shared.cells b.cell)) r.shared.binding
  pub bounds : InBounds false g.site r.shared
  pub answer : AnswerThere r.shared r.answer
