-- How each frame of an expression goes on where there is no value, and where there is one.
use Rattle.std.proofs.Common.{◌≡◌, ◌<◌, ◌-◌, ℕ, suc, true, List, [], ◌∷◌, ◌++◌, ap, refl, sym, subst}
use Rattle.std.specs.Prelude.{reverse, Result as Outcome, Ok, Err}
use Rattle.model_syntax.specs.declared.node.NodeForm.{NodeForm}
use Rattle.model_syntax.specs.declared.node.NodeForm.TheVariants as form
use Rattle.model_values.specs.declared.value.Value.{Value}
use Rattle.model_run.specs.declared.ending.Ending.{Ending}
use Rattle.model_run.specs.declared.ending.Ending.TheVariants.{Normal, Thrown, Returned, Broke, Continued, Declared, Answered}
use Rattle.model_run.specs.declared.ending.Entry.TheVariants.{Inside}
use Rattle.model_run.specs.declared.frame.Frame.{Frame}
use Rattle.model_run.specs.declared.frame.FrameKind.{FrameKind}
use Rattle.model_run.specs.declared.frame.FrameKind.TheVariants as kind
use Rattle.model_run.specs.Around.{Around, Shape, arity, deciding, ended, form_at, value_at}
use Rattle.model_run.specs.Expressions.{after_choice, after_joined, after_operand, choices, index, joined, operands, prefixed_by, prefixes_of, suffixed}
use Rattle.model_run.specs.Forms.{after, after_kind, gather_all, value}
use Rattle.model_run.specs.Gathering.{gather_value, keep}
use Rattle.model_run.specs.State.{Env, Result, State, Ended, tick}
use Rattle.cps_frames.specs.Moves.{ComesTo}
use Rattle.cps_frames.specs.Standing.{Standing, state, shape_at}
use Rattle.cps_frames.specs.Ways.{value_of}
use Rattle.cps_frames.specs.declared.halt.Halt.{Halt}
use Rattle.cps_frames.specs.declared.halt.Halt.TheVariants.{Ends as HaltEnds}
use Rattle.cps_frames.specs.declared.thread.Move.{Move}
use Rattle.cps_frames.proofs.EndLaws.{is_quiet}
use Rattle.cps_frames.proofs.MoveLaws.{comes_ended}
use Rattle.cps_frames.proofs.WayLaws.{value_err}
use Rattle.cps_expressions.specs.Frames.{is_expression_frame}

choice_err : (a : Around) (sh : Shape) (m : ℕ) (env : Env) (others : State → Result) (f : NodeForm) (e x : Ending) (s : State) → value_of e ≡ Err x → after_choice a sh m env others f e s ≡ Ended x s
choice_err a sh m env others form.IfTrue e x s h = value_err (λ v. tick (deciding v (a.part (Inside 1) (arity sh - suc m) env) others)) e x s h
choice_err a sh m env others f e x s h = value_err (λ v. tick (deciding v (ended v) others)) e x s h

no_value_law : (a : Around) (k : ℕ) (sh : Shape) (left : ℕ) (env : Env) (vs : List Value) (d : FrameKind) (e x : Ending) (s : State) → is_expression_frame d ≡ true → value_of e ≡ Err x → after_kind a k sh left env vs d e s ≡ Ended x s
no_value_law a k sh left env vs kind.Gathered e x s is h = value_err (λ v. keep sh left vs v (gather_all a k sh env left)) e x s h
no_value_law a k sh left env vs kind.GatheredKey e x s is h = value_err (λ key. gather_value a k sh env left (vs ++ key ∷ []) (gather_all a k sh env left) (Inside 1)) e x s h
no_value_law a k sh left env vs kind.GroupValue e x s is h = value_err value e x s h
no_value_law a k sh left env vs kind.ChosenTest e x s is h = choice_err a sh left env (choices a k sh env left) (form_at sh.parts (arity sh - suc left)) e x s h
no_value_law a k sh left env vs kind.ChainOperand e x s is h = value_err (after_operand sh left (operands a k sh env left)) e x s h
no_value_law a k sh left env vs kind.JoinedFirst e x s is h = value_err (joined a k sh env (arity sh - 1)) e x s h
no_value_law a k sh left env vs kind.JoinedOperand e x s is h = value_err (after_joined sh left (value_at 0 vs) (joined a k sh env left)) e x s h
no_value_law a k sh left env vs kind.PrefixedOperand e x s is h = value_err (prefixed_by (reverse (prefixes_of sh.parts))) e x s h
no_value_law a k sh left env vs kind.SuffixedPart e x s is h = value_err (suffixed a k sh env left) e x s h
no_value_law a k sh left env vs kind.IndexValue e x s is h = value_err (index (value_at 0 vs)) e x s h
no_value_law a k sh left env vs d e x s is h = absurd (cc is)

-- inside each stands a part that is no declaration
pub expression_quiet : (d : FrameKind) → is_expression_frame d ≡ true → is_quiet d ≡ true
expression_quiet kind.Gathered is = refl
expression_quiet kind.GatheredKey is = refl
expression_quiet kind.GroupValue is = refl
expression_quiet kind.ChosenTest is = refl
expression_quiet kind.ChainOperand is = refl
expression_quiet kind.JoinedFirst is = refl
expression_quiet kind.JoinedOperand is = refl
expression_quiet kind.PrefixedOperand is = refl
expression_quiet kind.SuffixedPart is = refl
expression_quiet kind.IndexValue is = refl
expression_quiet d is = absurd (cc is)

-- what is no value ends the expression too
pub passes_on : (r : ℕ) (f : Frame) (e x : Ending) (u : Standing) → is_expression_frame f.kind ≡ true → value_of e ≡ Err x → 0 < r → ComesTo f.node r (λ sh a. after f sh a e) u (Err (HaltEnds x)) u
passes_on r f e x u is h pos = comes_ended f.node r (λ sh a. after f sh a e) u x pos (λ a rs. no_value_law a f.node (shape_at u.world f.node) f.left f.env f.values f.kind e x (state u.world rs) is h)

pub normal_is : (e : Ending) (v : Value) → value_of e ≡ Ok v → e ≡ Normal v
normal_is (Normal w) v h = let same : w ≡ v = cc h in ap Normal same
normal_is (Thrown c) v h = absurd (cc h)
normal_is (Returned w) v h = absurd (cc h)
normal_is Broke v h = absurd (cc h)
normal_is Continued v h = absurd (cc h)
normal_is (Declared b) v h = absurd (cc h)
normal_is (Answered x) v h = absurd (cc h)

pub as_normal : (r : ℕ) (f : Frame) (e : Ending) (v : Value) (u : Standing) (result : Outcome Move Halt) (w : Standing) → value_of e ≡ Ok v → ComesTo f.node r (λ sh a. after f sh a (Normal v)) u result w → ComesTo f.node r (λ sh a. after f sh a e) u result w
as_normal r f e v u result w h c = subst (λ x. ComesTo f.node r (λ sh a. after f sh a x) u result w) (sym (normal_is e v h)) c
