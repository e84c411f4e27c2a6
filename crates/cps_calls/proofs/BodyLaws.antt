-- The bodies of closures and functions.
use Rattle.std.proofs.Common.{◌≡◌, ◌≤◌, ℕ, List, true, sym, subst, refl, arith}
use Rattle.std.specs.Prelude.{Result as Outcome}
use Rattle.model_syntax.specs.declared.node.NodeForm.{NodeForm}
use Rattle.model_syntax.specs.declared.node.NodeForm.TheVariants as form
use Rattle.model_values.specs.declared.value.Value.{Value}
use Rattle.model_run.specs.Around.{Around, Shape}
use Rattle.model_run.specs.Callables.{body, call_limit, opened}
use Rattle.model_run.specs.FrameTable.{is_callable, is_closure_form}
use Rattle.model_run.specs.Forms.{body_of}
use Rattle.model_run.specs.State.{Env, State, guarded}
use Rattle.cps_frames.specs.Changes.{Passed}
use Rattle.cps_frames.specs.Moves.{ComesTo}
use Rattle.cps_frames.specs.Parts.{least_parts}
use Rattle.cps_frames.specs.Standing.{Standing, room_of, shape_at}
use Rattle.cps_frames.specs.declared.halt.Halt.{Halt}
use Rattle.cps_frames.specs.declared.thread.Move.{Move}
use Rattle.cps_frames.proofs.MoveLaws.{Saying, passed, passed_beside, passed_setting, to_after}

-- behind a call that was opened
pub to_opened : (k r : ℕ) (go : Saying) (u u' : Standing) (result : Outcome Move Halt) (v : Standing) → Passed call_limit opened u u' → ComesTo k r go u' result v → ComesTo k r (λ sh a. guarded call_limit opened (go sh a)) u result v
to_opened k r go u u' result v p =
    to_after k r _ go u u' result v (λ a rs. passed call_limit opened u u' p (go (shape_at u.world k) a) rs) p.stack (passed_beside call_limit opened u u' p) (passed_setting call_limit opened u u' p) (subst (λ w. room_of w ≤ room_of u.world) (sym p.made) (omega arith))

-- what has a body that is called has it as a part
pub callable_part : (f : NodeForm) → is_callable f ≡ true → 1 ≤ least_parts f
callable_part (form.Closure heads) e = omega arith
callable_part (form.Function name names) e = omega arith
callable_part f e = absurd (cc e)

pub body_called : (f : NodeForm) → is_callable f ≡ true → (a : Around) (k : ℕ) (sh : Shape) (env : Env) (args : List Value) (s : State) → body_of a k sh env args f s ≡ body a sh k env args s
body_called (form.Closure heads) e a k sh env args s = refl
body_called (form.Function name names) e a k sh env args s = refl
body_called f e a k sh env args s = absurd (cc e)

-- a closure has a body that is called
pub closure_callable : (f : NodeForm) → is_closure_form f ≡ true → is_callable f ≡ true
closure_callable (form.Closure heads) e = refl
closure_callable f e = absurd (cc e)
