-- Targets of assignments: what is read of one, what its last suffix counts, and what has to be there.
use Rattle.std.specs.Prelude.{◌≡◌, ◌<◌, ◌≤◌, ◌+◌, ℕ, Bool, true, false, List, Option, None, length}
use Rattle.std.specs.List.{AllByRecursion as AllAre}
use Rattle.model_syntax.specs.declared.node.NodeForm.{NodeForm}
use Rattle.model_syntax.specs.declared.node.NodeForm.TheVariants as form
use Rattle.model_values.specs.Cells.{Answer}
use Rattle.model_values.specs.Fitting.{There}
use Rattle.model_values.specs.Index.{get_at, get_property}
use Rattle.model_values.specs.Operators.{decremented, incremented}
use Rattle.model_values.specs.declared.limit.LimitKind.{LimitKind}
use Rattle.model_values.specs.declared.value.Value.{Value}
use Rattle.model_run.specs.Around.{Shape, cells, form_at, limits, value_at}
use Rattle.model_run.specs.Assignments.{operator_in, place_size}
use Rattle.model_run.specs.FrameTable.{is_assignment, is_target_form, operator_count}
use Rattle.model_run.specs.Names.{read_name}
use Rattle.model_run.specs.Nesting.{shape_at}
use Rattle.model_run.specs.State.{Common, Env, World, counted, may_count}
use Rattle.model_run.specs.Terms.{Term, nodes_of}
use Rattle.cps_code.specs.Script.{IsScript}
use Rattle.cps_variables.specs.Sight.{Sees}

-- what a target reads
abbrev pub read_answer : NodeForm → List Value → Env → World → Answer
read_answer (form.ToName x) place env w = read_name x env w
read_answer (form.ToProperty p) place env w = get_property (limits w) (cells w) (value_at 0 place) p
read_answer f place env w = get_at (limits w) (cells w) (value_at 0 place) (value_at 1 place)

-- the last suffix of a target counts; a name has none
abbrev pub suffix_limit : NodeForm → World → Option LimitKind
suffix_limit (form.ToName x) w = None
suffix_limit f w = may_count w

abbrev pub suffix_counted : NodeForm → World → World
suffix_counted (form.ToName x) w = w
suffix_counted f w = counted w

-- a name, and a property
abbrev pub is_name : NodeForm → Bool
is_name (form.ToName x) = true
is_name f = false

abbrev pub is_property : NodeForm → Bool
is_property (form.ToProperty p) = true
is_property f = false

-- one more, or one less
abbrev pub stepped : Bool → World → Value → Answer
stepped true w v = incremented (limits w) (cells w) v
stepped false w v = decremented (limits w) (cells w) v

-- a node that has a target, and one that assigns a value to it
pub record HasTarget (root : Term) (k : ℕ) : Type 0 where
  pub script : IsScript root
  pub node : k < length (nodes_of root)
  pub form : is_target_form (shape_at root k).form ≡ true

pub record HasAssignment (root : Term) (k : ℕ) : Type 0 where
  pub script : IsScript root
  pub node : k < length (nodes_of root)
  pub form : is_assignment (shape_at root k).form ≡ true

-- how many values are kept while the value of an assignment is evaluated: those of its target, and what that has read
abbrev pub kept_size : Shape → ℕ
kept_size sh = place_size (form_at sh.parts 0) + operator_count (operator_in sh.form)

-- a target that is of these values, no fewer than it needs, seen from a place with these variables
pub record TargetStands (root : Term) (u : Common) (k : ℕ) (env : Env) (place : List Value) : Type 0 where
  pub target : HasTarget root k
  pub sees : Sees u.cells u.binding env
  pub there : AllAre (There u.cells) place
  pub size : place_size (form_at (shape_at root k).parts 0) ≤ length place
