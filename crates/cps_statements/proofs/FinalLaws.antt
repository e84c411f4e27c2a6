-- `finally`: its frame by the ending before it, and the ending by its frame.
use Rattle.std.proofs.Common.{◌≡◌, ◌∙◌, ◌<◌, ◌-◌, arith, subst, ℕ, true, false, List, refl, sym, ap}
use Rattle.model_syntax.specs.declared.node.NodeForm.{NodeForm}
use Rattle.model_syntax.specs.declared.node.NodeForm.TheVariants as form
use Rattle.model_values.specs.declared.value.Value.{Value}
use Rattle.model_run.specs.Around.{Around, Shape, arity, form_at, frame, under, value_at}
use Rattle.model_run.specs.declared.ending.Entry.TheVariants.{Inside}
use Rattle.model_run.specs.Forms.{after, after_kind}
use Rattle.model_run.specs.State.{Env, State, Ended}
use Rattle.model_run.specs.Statements.{after_catch, after_finally, finally_behind, has_finally, is_finally}
use Rattle.model_run.specs.declared.ending.Ending.{Ending}
use Rattle.model_run.specs.declared.ending.Ending.TheVariants.{Normal, Thrown, Returned, Broke, Continued, Declared, Answered}
use Rattle.model_run.specs.declared.frame.FrameKind.{FrameKind}
use Rattle.model_run.specs.declared.frame.FrameKind.TheVariants as kind
use Rattle.std.specs.Prelude.{Result as Outcome}
use Rattle.model_run.specs.Nesting.{shape_at}
use Rattle.model_run.specs.declared.frame.Frame.{Frame}
use Rattle.cps_frames.specs.Moves.{Comes, ComesTo}
use Rattle.cps_frames.specs.Order.{rank}
use Rattle.cps_frames.specs.Standing.{Standing, state}
use Rattle.cps_frames.specs.declared.halt.Halt.{Halt}
use Rattle.cps_frames.specs.declared.thread.Move.{Move}
use Rattle.cps_frames.specs.declared.thread.Move.TheVariants.{Ends}
use Rattle.cps_frames.proofs.MoveLaws.{comes_ended, to_as}
use Rattle.cps_statements.specs.Finals.{final_before, final_kind, final_values, is_final, over_final}

-- behind any ending the frame is that of its kind
final_says : (a : Around) (k : ℕ) (sh : Shape) (env : Env) (e : Ending) (s : State) →
    finally_behind a k sh env true e s ≡ under a (frame (final_kind e) k 0 env (final_values e)) (after (frame (final_kind e) k 0 env (final_values e)) sh a) (Inside 0) (arity sh - 1) env s
final_says a k sh env (Normal v) s = refl
final_says a k sh env (Thrown c) s = refl
final_says a k sh env (Returned v) s = refl
final_says a k sh env Broke s = refl
final_says a k sh env Continued s = refl
final_says a k sh env (Declared b) s = refl
final_says a k sh env (Answered x) s = refl

-- a frame of `finally` goes on with the ending that it has kept
final_goes_on : (a : Around) (k : ℕ) (sh : Shape) (left : ℕ) (env : Env) (vs : List Value) (d : FrameKind) (e : Ending) → is_final d ≡ true → after_kind a k sh left env vs d e ≡ after_finally (final_before d (value_at 0 vs)) e
final_goes_on a k sh left env vs kind.FinallyAfterValue e is = refl
final_goes_on a k sh left env vs kind.FinallyAfterThrow e is = refl
final_goes_on a k sh left env vs kind.FinallyAfterReturn e is = refl
final_goes_on a k sh left env vs kind.FinallyAfterBreak e is = refl
final_goes_on a k sh left env vs kind.FinallyAfterContinue e is = refl
final_goes_on a k sh left env vs d e is = absurd (cc is)

-- `finally` is the last part
pub last_is_finally : (sh : Shape) (n : ℕ) → n ≡ arity sh → is_finally (form_at sh.parts (n - 1)) ≡ has_finally sh
last_is_finally sh n is = ap (λ m. is_finally (form_at sh.parts (m - 1))) is

pub is_other : (f : NodeForm) → (f ≡ form.Finally → ⊥) → is_finally f ≡ false
is_other form.Finally differs = absurd (differs refl)
is_other f differs = refl

-- the block of `finally` behind an ending
final_rank : (e : Ending) (k : ℕ) (env : Env) (vs : List Value) → rank (frame (final_kind e) k 0 env vs) ≡ 1
final_rank (Normal v) k env vs = refl
final_rank (Thrown c) k env vs = refl
final_rank (Returned v) k env vs = refl
final_rank Broke k env vs = refl
final_rank Continued k env vs = refl
final_rank (Declared b) k env vs = refl
final_rank (Answered x) k env vs = refl

pub to_final : (k : ℕ) (env copy : Env) (e : Ending) (d : FrameKind) (vs : List Value) (at : ℕ) (u : Standing) (result : Outcome Move Halt) (v : Standing) → has_finally (shape_at u.world.setting.script k) ≡ true → d ≡ final_kind e → vs ≡ final_values e → copy ≡ env → at ≡ arity (shape_at u.world.setting.script k) - 1
    → ((r : ℕ) → rank (frame d k 0 copy vs) < r → ComesTo k r (λ sh a. under a (frame d k 0 copy vs) (after (frame d k 0 copy vs) sh a) (Inside 0) at env) u result v)
    → (r : ℕ) → 1 < r → ComesTo k r (λ sh a. after_catch a k sh env e) u result v
to_final k env copy e d vs at u result v has kind_is values_are same place h r lt =
    let P : FrameKind → List Value → Env → Type 0 = λ x ws n. (r : ℕ) → rank (frame x k 0 n ws) < r → ComesTo k r (λ sh a. under a (frame x k 0 n ws) (after (frame x k 0 n ws) sh a) (Inside 0) at env) u result v in
    let h' : P (final_kind e) (final_values e) env = subst (P (final_kind e) (final_values e)) same (subst (λ ws. P (final_kind e) ws copy) values_are (subst (λ x. P x vs copy) kind_is h)) in
    to_as k r (λ sh a. after_catch a k sh env e) (λ sh a. under a (frame (final_kind e) k 0 env (final_values e)) (after (frame (final_kind e) k 0 env (final_values e)) sh a) (Inside 0) at env) u result v
    (λ a rs. let sh = shape_at u.world.setting.script k in
    ap (λ b. finally_behind a k sh env b e (state u.world rs)) has ∙ final_says a k sh env e (state u.world rs)
    ∙ ap (λ i. under a (frame (final_kind e) k 0 env (final_values e)) (after (frame (final_kind e) k 0 env (final_values e)) sh a) (Inside 0) i env (state u.world rs)) (sym place))
    (h' r (omega (arith, lt, final_rank e k env (final_values e))))

-- what a `finally` ends with
ends_over : (before e : Ending) (s : State) → after_finally before e s ≡ Ended (over_final before e) s
ends_over before (Normal v) s = refl
ends_over before (Thrown c) s = refl
ends_over before (Returned v) s = refl
ends_over before Broke s = refl
ends_over before Continued s = refl
ends_over before (Declared b) s = refl
ends_over before (Answered x) s = refl

pub to_over : (r : ℕ) (f : Frame) (e end : Ending) (u : Standing) → is_final f.kind ≡ true → end ≡ over_final (final_before f.kind (value_at 0 f.values)) e → 0 < r → Comes f.node r (λ sh a. after f sh a e) u (Ends end) u
to_over r f e end u final is lt =
    comes_ended f.node r (λ sh a. after f sh a e) u end lt
    (λ a rs. ap (λ m. m (state u.world rs)) (final_goes_on a f.node (shape_at u.world.setting.script f.node) f.left f.env f.values f.kind e final) ∙ ends_over (final_before f.kind (value_at 0 f.values)) e (state u.world rs) ∙ ap (λ x. Ended x (state u.world rs)) (sym is))
