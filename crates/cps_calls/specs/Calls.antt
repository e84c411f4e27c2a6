-- What calls do, as the program has it.
use Rattle.std.specs.Prelude.{◌≡◌, ℕ, slice_get, Bool, true, false, List, [], map, length, Result as Outcome, Ok, Err, Option, Some, None, codes}
use Rattle.model_syntax.specs.declared.node.NodeForm.{NodeForm}
use Rattle.model_syntax.specs.declared.node.NodeForm.TheVariants as form
use Rattle.model_values.specs.Cells.{Answer, Gives, with_new}
use Rattle.model_values.specs.Fitting.{HasClosure}
use Rattle.model_values.specs.Limits.{product_limits}
use Rattle.model_values.specs.MethodNames.{Method, Call}
use Rattle.model_values.specs.Methods.{Called, Walks, CallsClosure, Done}
use Rattle.model_values.specs.declared.cell.Cell.{Cell}
use Rattle.model_values.specs.declared.cell.Cell.TheVariants.{Variable}
use Rattle.model_values.specs.declared.value.Value.{Value}
use Rattle.model_values.specs.declared.value.Value.TheVariants.{Null, Cell as InCell}
use Rattle.model_run.specs.declared.callee.Callee.{Callee}
use Rattle.model_run.specs.declared.frame.FrameKind.{FrameKind}
use Rattle.model_run.specs.declared.frame.FrameKind.TheVariants as kind
use Rattle.model_run.specs.declared.ending.Entry.TheVariants.{First}
use Rattle.model_run.specs.Around.{Around, Shape, frame, under, ended, limits, cells}
use Rattle.model_run.specs.Callables.{after_call, calling, closure_of, parameters_of}
use Rattle.model_run.specs.Calls.{walk, walk_method}
use Rattle.model_run.specs.Names.{bind_all}
use Rattle.model_run.specs.State.{World, State, Env, Result, answered, changed, operating, raised, seeing}
use Rattle.value_ops.specs.Effects.{EffectBelow, effect_answer}
use Rattle.value_view.specs.declared.refusal.OpRefusal.{OpRefusal}
use Rattle.value_walks.specs.Walking.{walk_kept, walk_method as method_of}
use Rattle.cps_frames.specs.Changes.{GivesNothing}
use Rattle.cps_calls.specs.declared.methods.ClosureCall.{ClosureCall}
use Rattle.cps_calls.specs.declared.methods.ClosureCall.TheVariants as does

-- what makes cells alone gives null
abbrev pub given_null : Outcome (Unit {0}) OpRefusal → Outcome Value OpRefusal
given_null (Ok done) = Ok Null
given_null (Err refusal) = Err refusal

-- new variables with these values
abbrev pub making : List Value → World → Answer
making vs w = with_new (limits w) (cells w) (map Variable vs) (λ g. Gives g Null)

-- a body in which each parameter is a variable that was made from cell c on
abbrev pub body_from : Around → Shape → ℕ → Env → ℕ → State → Result
body_from a sh k env c = under a (frame kind.CallBody k 0 env []) after_call First 0 (bind_all (parameters_of sh.form) c env)

-- a body that may be called, with what its parameters hold
abbrev pub body_of_values : Around → Shape → ℕ → Env → List Value → State → Result
body_of_values a sh k env vs = seeing (λ w. operating (making vs) (λ v. body_from a sh k env (length (cells w))))

-- the method that a node calls: by its name; or `call`, where the value of a variable is called
abbrev pub method_name : NodeForm → List ℕ
method_name (form.Method access f) = f
method_name f = codes "call"

-- the closure that a value is, where the method is `call`
abbrev pub called_closure : Method → World → Value → Option Callee
called_closure Call w v = closure_of w v
called_closure m w v = None

-- what a method call comes to, behind its count
abbrev pub called_behind : Around → ℕ → Shape → Env → World → Value → List Value → Called → State → Result
called_behind a k sh env w on args (Done answer n) = changed (raised n) (answered answer ended)
called_behind a k sh env w on args (Walks m c) = walk a k env (walk_method sh.form) 0 on (InCell c) []
called_behind a k sh env w on args (CallsClosure c) = calling (closure_of w (InCell c)) (ended Null) (λ callee. a.call callee.node args callee.env)

-- what a method call comes to that gives nothing without a closure, where n nodes were evaluated
abbrev pub IsCalled : World → NodeForm → ℕ → Called → ClosureCall → Type 0
IsCalled w f n called (does.Calls callee) = (c : ℕ) × (called ≡ CallsClosure c) × (closure_of w (InCell c) ≡ Some callee)
IsCalled w f n called (does.Walks walk c) = (called ≡ Walks (method_of walk) c) × (method_of walk ≡ walk_method f) × (walk_kept walk ≡ [])
IsCalled w f n called (does.Throws effect) = called ≡ Done (effect_answer product_limits (cells w) effect) n

-- what it names is among these cells, what a walk has is a closure, and a throw gives no value
abbrev pub CallFits : List Cell → ClosureCall → Type 0
CallFits h (does.Calls callee) = Unit {0}
CallFits h (does.Walks walk c) = HasClosure (slice_get h c)
CallFits h (does.Throws effect) = EffectBelow (length h) effect × GivesNothing (effect_answer product_limits h effect)

-- the frames of this crate
abbrev pub is_call_frame : FrameKind → Bool
is_call_frame kind.CallBody = true
is_call_frame kind.WalkTurn = true
is_call_frame f = false
