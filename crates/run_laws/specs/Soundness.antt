-- An evaluation that begins in a sound state goes to a later one, ends with what is there, and waits inside frames that fit
-- (this product's own).
use Rattle.std.specs.Prelude.{◌≡◌, ◌<◌, ◌≤◌, ◌+◌, ◌-◌, ℕ, zero, suc, Bool, true, false, List, [], ◌∷◌, ◌++◌, length, filter, slice_get, pos}
use Rattle.std.specs.List.{AllByRecursion as AllAre}
use Rattle.model_syntax.specs.declared.node.NodeForm.{NodeForm}
use Rattle.model_syntax.specs.declared.node.NodeForm.TheVariants as form
use Rattle.model_values.specs.Fitting.{There, HasVariable, HasThrowable, CellsFit}
use Rattle.model_values.specs.declared.value.Value.{Value}
use Rattle.model_values.specs.declared.value.Value.TheVariants.{Int as Whole}
use Rattle.model_run.specs.declared.ending.Ending.{Ending}
use Rattle.model_run.specs.declared.ending.Ending.TheVariants.{Normal, Thrown, Returned, Broke, Continued, Declared, Answered}
use Rattle.model_run.specs.declared.ending.Branch.{Branch}
use Rattle.model_run.specs.declared.ending.Asked.{Asked}
use Rattle.model_run.specs.declared.ending.Asked.TheVariants.{ForRequest, ForBranches}
use Rattle.model_run.specs.declared.frame.Frame.{Frame}
use Rattle.model_run.specs.declared.frame.FrameKind.{FrameKind}
use Rattle.model_run.specs.declared.frame.FrameKind.TheVariants as kind
use Rattle.model_run.specs.declared.held.Held.{Held}
use Rattle.model_run.specs.declared.site.Site.{Site}
pub use Rattle.script_laws.specs.NodeParts.{is_target, is_operand}
use Rattle.model_run.specs.Terms.{Term}
use Rattle.model_run.specs.Grants.{without_request}
use Rattle.model_run.specs.State.{RunLimits, Setting, Common, World, State, Result, Ended, Waits, Limited, Unfinished}
use Rattle.model_run.specs.Around.{form_at, arity, position, value_at}
use Rattle.model_run.specs.FrameTable.{Up_to, is_block, is_target_form, is_declaration, same_form}
use Rattle.model_run.specs.Nesting.{Sorts, FrameFits, shape_at}
use Rattle.model_run.specs.Scoping.{names_for}
use Rattle.model_run.specs.Fitting.{EnvFits, closure_rule, IsFlowNode, known, Later, holds_executor, holds_folder}
use Rattle.run_laws.specs.Bounds.{Narrow, InBounds}

-- The nodes of a script stand as those of a tree do, as far as names depend on it.
abbrev pub may_declare : NodeForm → ℕ → Bool
may_declare form.ForSteps zero = true
may_declare form.ForSteps (suc i) = false
may_declare f i = is_block f

-- a declaration stands only in a row of statements, or first in the head of a `for`; what is assigned to is a target; behind a first
-- operand stand operands; and the head of a `for` has a first part
pub record Shaped (root : Term) : Type 0 where
  pub declares : (k i : ℕ) → is_declaration (form_at (shape_at root k).parts i) ≡ true → may_declare (shape_at root k).form i ≡ true
  pub targets : (k : ℕ) → is_target_form (shape_at root k).form ≡ true → is_target (form_at (shape_at root k).parts 0) ≡ true
  pub operands : (k i : ℕ) → same_form form.Joined (shape_at root k).form ≡ true → suc i < arity (shape_at root k) → is_operand (form_at (shape_at root k).parts (suc i)) ≡ true
  pub steps : (k : ℕ) → same_form form.ForSteps (shape_at root k).form ≡ true → 0 < arity (shape_at root k)

-- What a value of each sort is in a state, as in a sound build, but bounded numbers of any size.
abbrev pub seen : Common → Sorts
seen u (Up_to n) (Whole (pos m)) = Unit {0}
seen u s v = known u s v

-- The numbers that a frame keeps are as small as the table says where it bounds them, since they count what the build has: the position of
-- a `for`, the result of `catchError`, the variables of `withEnv`.
abbrev pub NumbersFit : FrameKind → List Value → Type 0
NumbersFit kind.EachBody vs = position (value_at 1 vs) ≤ 2147483646
NumbersFit kind.CatchErrorBody vs = position (value_at 2 vs) ≤ 4
NumbersFit kind.WithEnvBody vs = position (value_at 2 vs) ≤ 2147483647
NumbersFit d vs = Unit {0}

-- A frame that fits, with its variables.
pub record Sits (root : Term) (u : Common) (f : Frame) : Type 0 where
  pub fits : FrameFits (seen u) root f
  pub names : EnvFits u.cells (names_for root f) f.env
  pub numbers : NumbersFit f.kind f.values

-- A branch begins with a closure of the script, behind a flow node.
pub record BranchFits (root : Term) (u : Common) (b : Branch) : Type 0 where
  pub closure : closure_rule root b.closure b.env
  pub variables : AllAre (λ x. HasVariable (slice_get u.cells x.cell)) b.env
  pub head : IsFlowNode u.nodes b.head

abbrev pub AskedFits : Term → Common → Asked → Type 0
AskedFits root u (ForRequest r) = Unit {0}
AskedFits root u (ForBranches bs) = AllAre (BranchFits root u) bs

-- A node of this form ends with what is there; a declaration alone declares, and under its name.
abbrev pub declares_as : NodeForm → List ℕ → Type 0
declares_as (form.Declare x) y = x ≡ y
declares_as f y = ⊥

abbrev pub EndFits : NodeForm → Common → Ending → Type 0
EndFits f u (Normal v) = There u.cells v × (is_declaration f ≡ false)
EndFits f u (Thrown c) = HasThrowable (slice_get u.cells c)
EndFits f u (Returned v) = There u.cells v
EndFits f u Broke = Unit {0}
EndFits f u Continued = Unit {0}
EndFits f u (Declared b) = declares_as f b.name × HasVariable (slice_get u.cells b.cell)
EndFits f u (Answered x) = ⊥

-- What is open around a node: the requests of the `node` bodies, and how many folders; and the executors that were held when the turn
-- began, with the requests whose executors are given back by the node's end.
pub record Open : Type 0 where
  pub nodes : List ℕ
  pub folders : ℕ
  pub was : List Held
  pub gone : List ℕ

-- in what a node is evaluated: the setting of the build, and what is open
pub record Base : Type 0 where
  pub script : Term
  pub site : Site
  pub limits : RunLimits
  pub around : Open

abbrev pub setting_of : Base → Setting
setting_of g = record { script = g.script; site = g.site; limits = g.limits }

abbrev pub within : Open → Base → Base
within o g = record g { around = o }

-- what is open inside a body that has a folder of its own, and inside one that holds an executor
abbrev pub in_folder : Bool → Open → Open
in_folder true o = record o { folders = suc o.folders }
in_folder false o = o

abbrev pub next_node_in : List ℕ → Open → Open
next_node_in [] o = o
next_node_in (r ∷ rs) o = record o { nodes = o.nodes ++ r ∷ []; gone = rs }

abbrev pub in_node : Bool → Open → Open
in_node true o = next_node_in o.gone o
in_node false o = o

abbrev pub open_in : FrameKind → Open → Open
open_in k o = in_folder (holds_folder k) (in_node (holds_executor k) o)

abbrev pub inside : FrameKind → Base → Base
inside k g = within (open_in k g.around) g

-- held executors without those of these requests
abbrev pub without_all : List ℕ → List Held → List Held
without_all [] held = held
without_all (r ∷ rs) held = without_request r (without_all rs held)

-- how many of these bodies are open on a path
abbrev pub open_nodes : List Frame → ℕ
open_nodes path = length (filter (λ f. holds_executor f.kind) path)

abbrev pub open_folders : List Frame → ℕ
open_folders path = length (filter (λ f. holds_folder f.kind) path)

-- how many flow nodes a wait owes: for branches one for each and one for the block
abbrev pub branching : Asked → ℕ
branching (ForRequest r) = 0
branching (ForBranches bs) = suc (length bs)

-- A sound world, as far as an evaluation depends on it: cells and binding variables name what is there, and so does the thread its
-- last flow node; and what is counted stays in its bounds.
pub record SoundWorld (g : Setting) (w : World) : Type 0 where
  pub setting : w.setting ≡ g
  pub narrow : Narrow g.limits
  pub cells : CellsFit (closure_rule g.script) w.shared.cells
  pub binding : AllAre (λ b. HasVariable (slice_get w.shared.cells b.cell)) w.shared.binding
  pub head : IsFlowNode w.shared.nodes w.own.head
  pub bounds : InBounds false g.site w.shared

-- the thread's requests and the number of its folders are as at the node's beginning, and the executors are held that
-- shall be
pub record Same (o : Open) (w : World) : Type 0 where
  pub nodes : w.own.context.held ≡ o.nodes
  pub folders : length w.own.context.folders ≡ o.folders
  pub held : w.shared.held ≡ without_all o.gone o.was

-- At a wait: of the requests whose executors shall be given back, those of the bodies on its path still have theirs.
pub record Pausing (o : Open) (path : List Frame) (w : World) : Type 0 where
  pub own : List ℕ
  pub rest : List ℕ
  pub gone : o.gone ≡ own ++ rest
  pub nodes : w.own.context.held ≡ o.nodes ++ own
  pub many : length own ≡ open_nodes path
  pub folders : length w.own.context.folders ≡ o.folders + open_folders path
  pub held : w.shared.held ≡ without_all rest o.was

module _ (g : Base) where
  abbrev pub Sound : World → Type 0
  Sound w = SoundWorld (setting_of g) w

  -- how many flow nodes may still be made
  abbrev pub left : Common → ℕ
  left u = g.limits.flow_nodes - length u.nodes

  -- a sound state, later than u, in which no answer is still to come, with nothing else open than at the beginning
  pub record At (u : Common) (s : State) : Type 0 where
    pub later : Later u s.world.shared
    pub sound : Sound s.world
    pub alone : s.replies ≡ []
    pub same : Same g.around s.world

  -- a wait, in such a state
  pub record Paused (u : Common) (asked : Asked) (path : List Frame) (s : State) : Type 0 where
    pub later : Later u s.world.shared
    pub sound : Sound s.world
    pub alone : s.replies ≡ []
    pub pausing : Pausing g.around path s.world
    pub spent : left s.world.shared + branching asked ≤ left u

  -- where a limit stops it the world is sound, and later
  pub record Stopped (u : Common) (s : State) : Type 0 where
    pub later : Later u s.world.shared
    pub sound : Sound s.world

  -- what a node of form f comes to that begins behind u
  abbrev pub Holds : NodeForm → Common → Result → Type 0
  Holds f u (Ended e s) = At u s × EndFits f s.world.shared e
  Holds f u (Waits asked path s) = Paused u asked path s × AskedFits g.script s.world.shared asked × AllAre (Sits g.script s.world.shared) path
  Holds f u (Limited k s) = Stopped u s
  Holds f u Unfinished = Unit {0}

  abbrev pub Goes : NodeForm → Common → (State → Result) → Type 0
  Goes f u go = (s : State) → At u s → Holds f u (go s)
