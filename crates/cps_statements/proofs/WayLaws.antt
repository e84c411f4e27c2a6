-- Frames that go on behind a value, a statement, a turn or a test.
use Rattle.std.proofs.Common.{◌≡◌, ◌∙◌, ◌<◌, ◌-◌, ℕ, suc, true, false, [], refl, sym, ap, subst}
use Rattle.std.specs.Prelude.{Result as Outcome, Ok}
use Rattle.model_values.specs.Truth.{truth}
use Rattle.model_values.specs.declared.value.Value.{Value}
use Rattle.model_values.specs.declared.value.Value.TheVariants.{Null}
use Rattle.model_run.specs.Around.{Around, Shape, arity, cells, deciding, ended}
use Rattle.model_run.specs.Forms.{after, after_kind}
use Rattle.model_run.specs.Nesting.{shape_at}
use Rattle.model_run.specs.FrameTable.{Row, frame_row}
use Rattle.model_run.specs.State.{Env, State, Result, tick}
use Rattle.model_run.specs.Statements.{after_test, arms, on_statement, on_turn}
use Rattle.model_run.specs.declared.ending.Ending.{Ending}
use Rattle.model_run.specs.declared.ending.Entry.TheVariants.{Inside}
use Rattle.model_run.specs.declared.frame.Frame.{Frame}
use Rattle.model_run.specs.declared.frame.FrameKind.{FrameKind}
use Rattle.model_run.specs.declared.frame.FrameKind.TheVariants as kind
use Rattle.cps_frames.specs.Moves.{ComesTo}
use Rattle.cps_frames.specs.Places.{MayGoOn}
use Rattle.cps_frames.specs.Standing.{Standing, state}
use Rattle.cps_frames.specs.Ways.{statement_of, turn_of, value_of}
use Rattle.cps_frames.specs.declared.halt.Halt.{Halt}
use Rattle.cps_frames.specs.declared.thread.Move.{Move}
use Rattle.cps_frames.proofs.MoveLaws.{to_as, to_else, to_kind, to_then, to_value}
use Rattle.cps_frames.proofs.WayLaws.{statement_ok, turn_ok}
use Rattle.cps_variables.proofs.NodeLaws.{row_is}
use Rattle.cps_variables.proofs.NodeLaws.{value_frame}

-- what a frame says
abbrev pub Says : Type 0
Says = Shape → Around → State → Result

pub turn_frame : (r : ℕ) (f : Frame) (d : FrameKind) (go : Says) (e : Ending) (x : Unit {0}) (u : Standing) (result : Outcome Move Halt) (v : Standing) → f.kind ≡ d → ((sh : Shape) (a : Around) → after_kind a f.node sh f.left f.env f.values d e ≡ on_turn (go sh a) e) → turn_of e ≡ Ok x → ComesTo f.node r go u result v → ComesTo f.node r (λ sh a. after f sh a e) u result v
turn_frame r f d go e x u result v is says h c =
    to_kind r f d e u result v is
    (to_as f.node r (λ sh a. after_kind a f.node sh f.left f.env f.values d e) go u result v
    (λ a rs. ap (λ m. m (state u.world rs)) (says (shape_at u.world.setting.script f.node) a) ∙ turn_ok (go (shape_at u.world.setting.script f.node) a) e x (state u.world rs) h) c)

pub behind_statement : (k r : ℕ) (env : Env) (go : Value → Env → Says) (e : Ending) (x : Value) (env' : Env) (u : Standing) (result : Outcome Move Halt) (v : Standing) → statement_of env e ≡ Ok (x, env') → ComesTo k r (go x env') u result v → ComesTo k r (λ sh a. on_statement env (λ y n. go y n sh a) e) u result v
behind_statement k r env go e x env' u result v h =
    to_as k r (λ sh a. on_statement env (λ y n. go y n sh a) e) (go x env') u result v (λ a rs. statement_ok env (λ y n. go y n (shape_at u.world.setting.script k) a) e x env' (state u.world rs) h)

-- behind a test that is true, with nothing kept
pub test_holds : (k r : ℕ) (env : Env) (e : Ending) (x : Value) (u : Standing) (result : Outcome Move Halt) (v : Standing) → value_of e ≡ Ok x → truth u.world.shared.cells x ≡ true → ComesTo k r (λ sh a. tick (a.again 0 [] env)) u result v → ComesTo k r (λ sh a. after_test a env e) u result v
test_holds k r env e x u result v h holds c =
    to_value k r (λ y sh a. deciding y (tick (a.again 0 [] env)) (ended Null)) e x u result v h
    (to_then k r (λ w. truth (cells w) x) (λ sh a. tick (a.again 0 [] env)) (λ sh a. ended Null) u result v holds c)

-- an arm of which the test is true, and one of which it is not
pub arm_holds : (r : ℕ) (f : Frame) (e : Ending) (x : Value) (at : ℕ) (u : Standing) (result : Outcome Move Halt) (v : Standing) → f.kind ≡ kind.IfTest → value_of e ≡ Ok x → truth u.world.shared.cells x ≡ true → at ≡ arity (shape_at u.world.setting.script f.node) - suc f.left → ComesTo f.node r (λ sh a. a.part (Inside 1) at f.env) u result v → ComesTo f.node r (λ sh a. after f sh a e) u result v
arm_holds r f e x at u result v is h holds place c =
    value_frame r f kind.IfTest (λ y sh a. deciding y (a.part (Inside 1) (arity sh - suc f.left) f.env) (arms a f.node sh f.left f.env)) e x u result v is (λ sh a. refl) h
    (to_then f.node r (λ w. truth (cells w) x) (λ sh a. a.part (Inside 1) (arity sh - suc f.left) f.env) (λ sh a. arms a f.node sh f.left f.env) u result v holds
    (to_as f.node r (λ sh a. a.part (Inside 1) (arity sh - suc f.left) f.env) (λ sh a. a.part (Inside 1) at f.env) u result v (λ a rs. ap (λ i. a.part (Inside 1) i f.env (state u.world rs)) (sym place)) c))

pub arm_fails : (r : ℕ) (f : Frame) (e : Ending) (x : Value) (u : Standing) (result : Outcome Move Halt) (v : Standing) → f.kind ≡ kind.IfTest → value_of e ≡ Ok x → truth u.world.shared.cells x ≡ false → ComesTo f.node r (λ sh a. arms a f.node sh f.left f.env) u result v → ComesTo f.node r (λ sh a. after f sh a e) u result v
arm_fails r f e x u result v is h fails c =
    value_frame r f kind.IfTest (λ y sh a. deciding y (a.part (Inside 1) (arity sh - suc f.left) f.env) (arms a f.node sh f.left f.env)) e x u result v is (λ sh a. refl) h
    (to_else f.node r (λ w. truth (cells w) x) (λ sh a. a.part (Inside 1) (arity sh - suc f.left) f.env) (λ sh a. arms a f.node sh f.left f.env) u result v fails c)

-- what is left of the parts of a row or an `if` is less than all
pub left_below : (u : Standing) (f : Frame) (e : Ending) (d : FrameKind) → MayGoOn u f e → f.kind ≡ d → (frame_row d (shape_at u.world.setting.script f.node) f.left f.env).limit ≡ arity (shape_at u.world.setting.script f.node) → f.left < arity (shape_at u.world.setting.script f.node)
left_below u f e d may is limit = subst (λ n. f.left < n) (ap (λ (r : Row). r.limit) (row_is u f d is) ∙ limit) may.frame.fits.meets.left
