-- Where a thread may stand between two moves: its frames meet the table exactly and stand one inside the other, each with its
-- variables, over a sound world; its context holds what the frames have opened; and what is done next may stand inside the last of
-- them. Each move that meets no limit keeps it so. Of how many of its frames are bodies, which it counts, nothing is said here.
use Rattle.std.specs.Prelude.{◌≡◌, ◌<◌, ◌≤◌, ◌+◌, ◌++◌, ℕ, true, false, List, [], None, length}
use Rattle.std.specs.List.{AllByRecursion as AllAre}
use Rattle.model_syntax.specs.declared.node.NodeForm.TheVariants as form
use Rattle.model_values.specs.Fitting.{There}
use Rattle.model_run.specs.declared.ending.Ending.{Ending}
use Rattle.model_run.specs.declared.ending.Ending.TheVariants.{Answered}
use Rattle.model_run.specs.declared.ending.Entry.{Entry}
use Rattle.model_run.specs.declared.ending.Entry.TheVariants.{Body, Branched, First, Inside, On, Turn}
use Rattle.model_run.specs.declared.wait.Answer.TheVariants.{Begin}
use Rattle.model_run.specs.declared.frame.Frame.{Frame}
use Rattle.model_run.specs.Terms.{Term, nodes_of}
use Rattle.model_run.specs.State.{Setting, Common, Env, World}
use Rattle.model_run.specs.FrameTable.{enters_body, is_declaration}
use Rattle.model_run.specs.Nesting.{Spot, Begun, Any_body, Body_of, Any_branch, For_executor, For_task, For_person, For_branches, FrameFits, Leads, Chained, WaitsFor, innermost, part_number, shape_at, spot_in}
use Rattle.model_run.specs.Scoping.{names_at, names_for}
use Rattle.model_run.specs.declared.context.Context.{Context}
use Rattle.model_run.specs.declared.held.Held.{Held}
use Rattle.model_run.specs.Steps.{held_for}
use Rattle.model_run.specs.Fitting.{AnswerFits, Distinct, EnvFits, holds_executor, holds_folder, known}
use Rattle.run_laws.specs.Soundness.{AskedFits, EndFits, SoundWorld, open_folders, open_nodes}
use Rattle.script_laws.specs.NodeParts.{is_function}
use Rattle.run_laws.specs.Evaluation.{AllOfSite, EntryFits, granted_of}
use Rattle.cps_code.specs.Script.{IsScript}
use Rattle.cps_frames.specs.Standing.{Standing}
use Rattle.cps_frames.specs.declared.thread.Move.{Move}
use Rattle.cps_frames.specs.declared.thread.Move.TheVariants.{Ends, Hits, Enter, Asks}

-- a frame that meets the table exactly, with its variables
pub record FrameStands (root : Term) (u : Common) (f : Frame) : Type 0 where
  pub fits : FrameFits (known u) root f
  pub names : EnvFits u.cells (names_for root f) f.env

-- the answer to a wait at this spot: that a thread begins is none
abbrev pub AnswersAt : Common → Spot → Ending → Type 0
AnswersAt u at (Answered Begin) = ⊥
AnswersAt u at (Answered x) = AnswerFits u at [] x
AnswersAt u at e = ⊥

-- What stands at a spot has ended so: a node as its form does, a body as a block, a wait with its answer.
abbrev pub EndsAt : Term → Common → Spot → Ending → Type 0
EndsAt root u (Begun k) e = EndFits (shape_at root k).form u e
EndsAt root u For_executor e = AnswersAt u For_executor e
EndsAt root u For_task e = AnswersAt u For_task e
EndsAt root u For_person e = AnswersAt u For_person e
EndsAt root u For_branches e = AnswersAt u For_branches e
EndsAt root u at e = EndFits form.Block u e

-- What node k is entered with. A function sees nothing of what is around it, and as a part it does nothing, whatever it is entered with.
abbrev pub EntersWith : Term → Common → Entry → ℕ → Env → Type 0
EntersWith root u First k env = is_function (shape_at root k).form ≡ false → EnvFits u.cells (names_at root k) env
EntersWith root u (On v) k env = There u.cells v × (is_function (shape_at root k).form ≡ false → EnvFits u.cells (names_at root k) env)
EntersWith root u e k env = EntryFits root u e k env

-- a call stands in the place of node k
abbrev pub CallStands : Term → ℕ → Type 0
CallStands root k = (j : ℕ) × Leads root k j × (enters_body (shape_at root j).form ≡ true)

-- Node p, entered so, may stand at a spot.
abbrev pub EntersBy : Term → Spot → Entry → ℕ → Type 0
EntersBy root (Begun k) First p = Leads root k p
EntersBy root (Begun k) (Inside j) p = Leads root k (part_number root p j)
EntersBy root (Begun k) (On v) p = Leads root k p × (is_declaration (shape_at root p).form ≡ false)
EntersBy root (Begun k) (Turn i kept) p = Leads root k p
EntersBy root (Begun k) (Body args) p = CallStands root k
EntersBy root (Begun k) (Branched start) p = ⊥
EntersBy root Any_body (Body args) p = Unit {0}
EntersBy root (Body_of k) (Body args) p = p ≡ k
EntersBy root Any_branch (Branched start) p = Unit {0}
EntersBy root at e p = ⊥

-- A move that may be made at a spot: what it names is there.
abbrev pub MoveFits : Term → Common → Spot → Move → Type 0
MoveFits root u at (Ends e) = EndsAt root u at e
MoveFits root u at (Hits k) = Unit {0}
MoveFits root u at (Enter e p env) = EntersBy root at e p × (p < length (nodes_of root)) × EntersWith root u e p env
MoveFits root u at (Asks asked) = WaitsFor at asked × AskedFits root u asked

-- What a thread has opened itself: the requests in its context are those of the context above it and then one for each `node` body that
-- is open on its stack, and it has one folder more for each body with a folder.
pub record HasOpened (above : Context) (u : Standing) : Type 0 where
  pub own : List ℕ
  pub held : u.world.own.context.held ≡ above.held ++ own
  pub many : length own ≡ open_nodes u.stack
  pub folders : length u.world.own.context.folders ≡ length above.folders + open_folders u.stack

-- A thread between two moves, from the spot where it began on, under this context.
pub record Poised (g : Setting) (above : Context) (at : Spot) (u : Standing) (m : Move) : Type 0 where
  pub sound : SoundWorld g u.world
  pub executors : AllOfSite g.site u.world.shared.held
  pub opened : HasOpened above u
  pub frames : AllAre (FrameStands g.script u.world.shared) u.stack
  pub chain : Chained g.script at u.stack
  pub move : MoveFits g.script u.world.shared (innermost g.script at u.stack) m

-- the request of the executor that is about to be given
abbrev pub granted_by : List Held → Move → List ℕ
granted_by held (Ends (Answered x)) = granted_of held x
granted_by held m = []

abbrev pub IsHeld : List Held → ℕ → Type 0
IsHeld held r = held_for r held ≡ None → ⊥

-- the executor of each request in a thread's context is held
abbrev pub HoldsExecutors : World → Type 0
HoldsExecutors w = AllAre (IsHeld w.shared.held) w.own.context.held

-- They are held, and they differ, the one that is about to be given included.
pub record Holding (w : World) (m : Move) : Type 0 where
  pub holds : HoldsExecutors w
  pub differ : Distinct (w.own.context.held ++ granted_by w.shared.held m)

-- a context has no fewer folders than requests: a `node` body opens one of both, `dir` a folder alone
abbrev pub HasFolders : Context → Type 0
HasFolders c = length c.held ≤ length c.folders

-- A frame may go on with this ending: it stood innermost in such a thread, the executors of the requests in its context are held, and for
-- each of these requests it has a folder. Behind a `node` body the context has its request, behind a body with a folder that folder.
pub record MayGoOn (u : Standing) (f : Frame) (e : Ending) : Type 0 where
  pub script : IsScript u.world.setting.script
  pub sound : SoundWorld u.world.setting u.world
  pub frame : FrameStands u.world.setting.script u.world.shared f
  pub ending : EndsAt u.world.setting.script u.world.shared (spot_in u.world.setting.script f) e
  pub executors : AllOfSite u.world.setting.site u.world.shared.held
  pub holds : HoldsExecutors u.world
  pub executor : holds_executor f.kind ≡ true → 0 < length u.world.own.context.held
  pub folder : holds_folder f.kind ≡ true → 0 < length u.world.own.context.folders
  pub enough : HasFolders u.world.own.context

-- A node may be entered so, in a thread whose executors are held, with a folder for each.
pub record MayEnter (u : Standing) (e : Entry) (k : ℕ) (env : Env) : Type 0 where
  pub script : IsScript u.world.setting.script
  pub sound : SoundWorld u.world.setting u.world
  pub node : k < length (nodes_of u.world.setting.script)
  pub entry : EntersWith u.world.setting.script u.world.shared e k env
  pub executors : AllOfSite u.world.setting.site u.world.shared.held
  pub holds : HoldsExecutors u.world
  pub enough : HasFolders u.world.own.context
