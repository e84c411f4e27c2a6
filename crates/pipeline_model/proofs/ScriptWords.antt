-- Words for the scripts of the worked examples, each for one rule of the grammar, and for the builds that run them.
use Prim.Native.String.{String}
use Rattle.std.specs.Prelude.{ℕ, pos, true, false, List, [], ◌∷◌, map, codes, Option, Some, None}
use Rattle.model_syntax.specs.declared.node.NodeForm.{NodeForm}
use Rattle.model_syntax.specs.declared.node.NodeForm.TheVariants as form
use Rattle.model_syntax.specs.declared.tree.Access.TheVariants.{Direct, NullSafe}
use Rattle.model_syntax.specs.declared.tree.AssignSign.{AssignSign}
use Rattle.model_syntax.specs.declared.tree.AssignSign.TheVariants.{Set}
use Rattle.model_syntax.specs.declared.tree.Caught.TheVariants.{Exceptions, Throwables}
use Rattle.model_syntax.specs.declared.tree.NewClass.{NewClass}
use Rattle.model_syntax.specs.declared.tree.Operator.{Operator}
use Rattle.model_syntax.specs.declared.tree.Operator.TheVariants as operator
use Rattle.model_syntax.specs.declared.tree.Prefix.{Prefix}
use Rattle.model_syntax.specs.Nodes.{Node, node, nodes}
use Rattle.model_run.specs.declared.event.Event.{Event}
use Rattle.model_run.specs.declared.event.Event.TheVariants.{Start as StartEvent, Granted as GrantedEvent, Output as OutputEvent, Exited as ExitedEvent, Decided as DecidedEvent}
use Rattle.model_run.specs.declared.event.Stream.TheVariants.{Log as LogStream, Out as OutStream}
use Rattle.model_run.specs.declared.site.Executor.{Executor}
use Rattle.model_run.specs.declared.site.Site.{Site}
use Rattle.model_run.specs.declared.taken.Taken.{Taken}
use Rattle.model_run.specs.GraphText.{graph_text}
use Rattle.model_run.specs.State.{RunLimits}
use Rattle.model_run.specs.Terms.{Term, term}
use Rattle.model_run.specs.World.{Build, world, world_in, setting_of, run_limits, next_grant, answer_to}

abbrev pub leaf : NodeForm → Node
leaf f = node f (nodes [])

-- Expressions.
abbrev pub text : String → Node
text t = leaf (form.Literal (codes t))

abbrev pub number : ℕ → Node
number n = leaf (form.Number (pos n))

abbrev pub truth : Node
truth = leaf form.True

abbrev pub falsehood : Node
falsehood = leaf form.False

abbrev pub nothing : Node
nothing = leaf form.Null

abbrev pub variable : String → Node
variable x = leaf (form.Variable (codes x))

-- `"a${e}"`, with its plain parts
abbrev pub written : List Node → Node
written parts = node form.GString (nodes parts)

abbrev pub plain : String → Node
plain t = leaf (form.PlainPart (codes t))

abbrev pub call : String → List Node → Node
call f args = node (form.Call (codes f)) (nodes args)

-- `name: e`, in a map or among arguments
abbrev pub entry : String → Node → Node
entry key e = node (form.NamedEntry (codes key)) (nodes (e ∷ []))

abbrev pub computed_entry : Node → Node → Node
computed_entry key e = node form.ComputedEntry (nodes (key ∷ e ∷ []))

abbrev pub group : Node → Node
group e = node form.Group (nodes (e ∷ []))

abbrev pub list : List Node → Node
list es = node form.List (nodes es)

abbrev pub map_of : List Node → Node
map_of es = node form.Map (nodes es)

abbrev pub new : NewClass → List Node → Node
new class message = node (form.New class) (nodes message)

abbrev pub block : List Node → Node
block ss = node form.Block (nodes ss)

-- `{ .. }`, and a closure with heads
abbrev pub closure : List Node → Node
closure ss = node (form.Closure None) (nodes (block ss ∷ []))

abbrev pub closure_with : List String → List Node → Node
closure_with names ss = node (form.Closure (Some (map codes names))) (nodes (block ss ∷ []))

abbrev pub suffixed : Node → List Node → Node
suffixed e suffixes = node form.Suffixed (nodes (e ∷ suffixes))

abbrev pub property : String → Node
property p = leaf (form.Property Direct (codes p))

abbrev pub safe_property : String → Node
safe_property p = leaf (form.Property NullSafe (codes p))

abbrev pub method : String → List Node → Node
method f args = node (form.Method Direct (codes f)) (nodes args)

abbrev pub safe_method : String → List Node → Node
safe_method f args = node (form.Method NullSafe (codes f)) (nodes args)

abbrev pub index : Node → Node
index i = node form.Index (nodes (i ∷ []))

abbrev pub joined : Node → List Node → Node
joined e operands = node form.Joined (nodes (e ∷ operands))

abbrev pub operand : Operator → Node → Node
operand o e = node (form.Operand o) (nodes (e ∷ []))

abbrev pub plus : Node → Node → Node
plus a b = joined a (operand operator.Plus b ∷ [])

abbrev pub minus : Node → Node → Node
minus a b = joined a (operand operator.Minus b ∷ [])

abbrev pub less : Node → Node → Node
less a b = joined a (operand operator.Less b ∷ [])

abbrev pub greater : Node → Node → Node
greater a b = joined a (operand operator.Greater b ∷ [])

abbrev pub range : Node → Node → Node
range a b = joined a (operand operator.Range b ∷ [])

abbrev pub equals : Node → Node → Node
equals a b = joined a (operand operator.Equal b ∷ [])

abbrev pub all_of : List Node → Node
all_of es = node form.And (nodes es)

abbrev pub any_of : List Node → Node
any_of es = node form.Or (nodes es)

-- `test ? a : b`, and `a ?: b`
abbrev pub choose : Node → Node → Node → Node
choose test a b = node form.Chosen (nodes (node form.IfTrue (nodes (test ∷ a ∷ [])) ∷ b ∷ []))

abbrev pub or_else : Node → Node → Node
or_else a b = node form.Chosen (nodes (node form.IfSet (nodes (a ∷ [])) ∷ b ∷ []))

abbrev pub prefixed : Prefix → Node → Node
prefixed p e = node form.Prefixed (nodes (leaf (form.Prefix p) ∷ e ∷ []))

-- Statements.
abbrev pub statement : Node → Node
statement e = node form.Evaluate (nodes (e ∷ []))

abbrev pub step : String → List Node → Node
step f args = statement (call f args)

abbrev pub echo : Node → Node
echo message = step "echo" (message ∷ [])

abbrev pub declare : String → Node → Node
declare x e = node (form.Declare (codes x)) (nodes (e ∷ []))

abbrev pub declare_empty : String → Node
declare_empty x = leaf (form.Declare (codes x))

abbrev pub to_name : String → Node
to_name x = leaf (form.ToName (codes x))

abbrev pub to_property : Node → String → Node
to_property e p = node (form.ToProperty (codes p)) (nodes (e ∷ []))

abbrev pub to_index : Node → Node → Node
to_index e i = node form.ToIndex (nodes (e ∷ i ∷ []))

abbrev pub assign_by : AssignSign → Node → Node → Node
assign_by sign target e = node (form.Assign sign) (nodes (target ∷ e ∷ []))

abbrev pub assign : Node → Node → Node
assign target e = assign_by Set target e

abbrev pub increment : Node → Node
increment target = node form.Increment (nodes (target ∷ []))

abbrev pub decrement : Node → Node
decrement target = node form.Decrement (nodes (target ∷ []))

abbrev pub arm : Node → List Node → Node
arm test ss = node form.Arm (nodes (test ∷ block ss ∷ []))

abbrev pub if_then : Node → List Node → Node
if_then test ss = node form.If (nodes (arm test ss ∷ []))

abbrev pub if_else : Node → List Node → List Node → Node
if_else test ss others = node form.If (nodes (arm test ss ∷ block others ∷ []))

abbrev pub while_loop : Node → List Node → Node
while_loop test ss = node form.While (nodes (test ∷ block ss ∷ []))

abbrev pub for_each : String → Node → List Node → Node
for_each x e ss = node (form.ForEach (codes x)) (nodes (e ∷ block ss ∷ []))

abbrev pub for_steps : Node → Node → Node → List Node → Node
for_steps first test next ss = node form.ForSteps (nodes (first ∷ test ∷ next ∷ block ss ∷ []))

abbrev pub try_block : List Node → List Node → Node
try_block ss handlers = node form.Try (nodes (block ss ∷ handlers))

abbrev pub catch_exceptions : String → List Node → Node
catch_exceptions x ss = node (form.Catch Exceptions (codes x)) (nodes (block ss ∷ []))

abbrev pub catch_throwables : String → List Node → Node
catch_throwables x ss = node (form.Catch Throwables (codes x)) (nodes (block ss ∷ []))

abbrev pub finally_block : List Node → Node
finally_block ss = node form.Finally (nodes (block ss ∷ []))

abbrev pub give : Node → Node
give e = node form.Return (nodes (e ∷ []))

abbrev pub give_nothing : Node
give_nothing = leaf form.Return

abbrev pub throw_of : Node → Node
throw_of e = node form.Throw (nodes (e ∷ []))

abbrev pub function : String → List String → List Node → Node
function f names ss = node (form.Function (codes f) (map codes names)) (nodes (block ss ∷ []))

abbrev pub script : List Node → Term
script ss = term 0 (node form.Script (nodes ss))

-- Builds. The site has an agent `m` with root `/w`, no labels and one executor.
abbrev pub executor : ℕ → String → String → List String → ℕ → Executor
executor number agent root labels slot = record { number = number; agent = codes agent; root = codes root; labels = map codes labels; slot = slot }

abbrev pub site_of : List Executor → Site
site_of executors = record { job = codes "demo"; looks = 100000; executors = executors }

abbrev pub site : Site
site = site_of (executor 0 "m" "/w" [] 0 ∷ [])

abbrev pub start : Event
start = StartEvent [] []

-- what a build of these functions and statements is that took these events behind its start
abbrev pub build : List Node → List Event → Build
build ss events = world (script ss) site (start ∷ events)

abbrev pub log_of : List Node → List Event → List ℕ
log_of ss events = (build ss events).shared.log

abbrev pub granted : ℕ → ℕ → Event
granted request executor = GrantedEvent request executor

-- output of a task for the log, and output that is kept
abbrev pub logged : ℕ → ℕ → String → Event
logged task from bytes = OutputEvent task LogStream from (codes bytes)

abbrev pub kept : ℕ → ℕ → String → Event
kept task from bytes = OutputEvent task OutStream from (codes bytes)

abbrev pub exited : ℕ → ℕ → Event
exited task code = ExitedEvent task (pos code)

abbrev pub proceeds : ℕ → String → Event
proceeds request name = DecidedEvent request true (codes name)

abbrev pub aborts : ℕ → String → Event
aborts request name = DecidedEvent request false (codes name)

abbrev pub graph_of : Build → List ℕ
graph_of b = graph_text b.shared.nodes

-- the same on another site
abbrev pub build_on : Site → List Node → List Event → Build
build_on site ss events = world (script ss) site (start ∷ events)

abbrev pub log_on : Site → List Node → List Event → List ℕ
log_on site ss events = (build_on site ss events).shared.log

-- the grant that is made next
abbrev pub next_grant_of : Site → List Node → List Event → Option (ℕ × ℕ)
next_grant_of site ss events = next_grant (setting_of run_limits (script ss) site) (build_on site ss events)

-- the answer to one event more
abbrev pub answer_of : List Node → List Event → Event → Taken
answer_of ss events e = answer_to (setting_of run_limits (script ss) site) (build ss events) e

-- the same with other limits
abbrev pub build_in : RunLimits → List Node → List Event → Build
build_in limits ss events = world_in (setting_of limits (script ss) site) (start ∷ events)

abbrev pub log_in : RunLimits → List Node → List Event → List ℕ
log_in limits ss events = (build_in limits ss events).shared.log
