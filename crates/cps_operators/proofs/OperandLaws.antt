-- How each frame of operators and suffixes goes on with a value, by what is left behind it.
use Rattle.std.proofs.Common.{◌≡◌, ◌∙◌, ◌<◌, ◌+◌, ◌-◌, ◌^◌, ℕ, suc, Bool, true, false, List, inl, inr, refl, ap, sym, subst, arith}
use Rattle.std.specs.Prelude.{◌⊎◌, Result as Outcome, Ok}
use mathlib.Core.Bool.{beq}
use Rattle.model_syntax.specs.declared.node.NodeForm.{NodeForm}
use Rattle.model_syntax.specs.declared.node.NodeForm.TheVariants as form
use Rattle.model_syntax.specs.declared.tree.Operator.{Operator}
use Rattle.model_values.specs.Truth.{truth}
use Rattle.model_values.specs.declared.value.Value.{Value}
use Rattle.model_values.specs.declared.value.Value.TheVariants.{Bool as Truth}
use Rattle.model_run.specs.declared.ending.Ending.TheVariants.{Normal}
use Rattle.model_run.specs.declared.ending.Entry.TheVariants.{First, Inside}
use Rattle.model_run.specs.declared.frame.Frame.{Frame}
use Rattle.model_run.specs.declared.frame.FrameKind.{FrameKind}
use Rattle.model_run.specs.declared.frame.FrameKind.TheVariants as kind
use Rattle.model_run.specs.Around.{Around, Shape, arity, cells, deciding, ended, form_at, value_at}
use Rattle.model_run.specs.Expressions.{after_choice, after_joined, after_operand, applying, choice, choice_test, choices, index, is_and, joined, operands, operator_of, stops_or}
use Rattle.model_run.specs.Forms.{after, after_kind}
use Rattle.model_run.specs.FrameTable.{is_if_true}
use Rattle.model_run.specs.State.{State, Env, Result, may_count, counted, tick}
use Rattle.model_run.proofs.Room.{keeps_count}
use Rattle.cps_frames.specs.Changes.{Passed}
use Rattle.cps_frames.specs.Moves.{ComesTo}
use Rattle.cps_frames.specs.Order.{extra, rank, tier}
use Rattle.cps_frames.specs.Standing.{Standing, state, shape_at}
use Rattle.cps_frames.specs.declared.halt.Halt.{Halt}
use Rattle.cps_frames.specs.declared.thread.Move.{Move}
use Rattle.cps_frames.specs.declared.thread.Move.TheVariants.{Ends}
use Rattle.cps_frames.proofs.MoveLaws.{Saying, comes_ended, to_as, to_else, to_kind, to_passed, to_then}

extra_pos : (d : FrameKind) → 0 < extra d
extra_pos kind.GatheredKey = omega arith
extra_pos d = omega arith

-- a frame ranks above what is left behind it
pub rank_above : (f : Frame) → f.left + f.left < rank f
rank_above f = omega (arith, extra_pos f.kind)

pub rank_pos : (f : Frame) → 0 < rank f
rank_pos f = omega (arith, extra_pos f.kind)

-- behind the first operand any number may be left
pub first_above : (f : Frame) → f.kind ≡ kind.JoinedFirst → (n : ℕ) → n < 2 ^ 32 → n + n < rank f
first_above f is n lt = let t : tier f.kind ≡ 1 = ap tier is in omega (arith, t, lt, extra_pos f.kind)

-- what is left, one less and one more
pub one_less : (n : ℕ) → 0 < n → n ≡ suc (n - 1)
one_less n h = omega arith

-- what a test of two truth values says
pub same_truth : (a b : Bool) → beq a b ≡ true → a ≡ b
same_truth true true e = refl
same_truth false false e = refl
same_truth true false e = absurd (cc e)
same_truth false true e = absurd (cc e)

pub other_truth : (a b : Bool) → beq a b ≡ false → a ≡ b → ⊥
other_truth true true e same = absurd (cc e)
other_truth false false e same = absurd (cc e)
other_truth true false e same = absurd (cc same)
other_truth false true e same = absurd (cc same)

-- `&&` and `||`: an operand that does not decide, and one that does
pub chain_goes : (b holds : Bool) (k r : ℕ) (v : Value) (more : Saying) (u u' : Standing) (result : Outcome Move Halt) (w : Standing) → Passed may_count counted u u' → truth (cells u'.world) v ≡ holds → holds ≡ b → ComesTo k r more u' result w → ComesTo k r (λ sh a. stops_or b v (more sh a)) u result w
chain_goes true holds k r v more u u' result w p is same c =
    to_passed k r may_count counted keeps_count (λ sh a. deciding v (more sh a) (ended (Truth false))) u u' result w p (to_then k r (λ w. truth (cells w) v) more (λ sh a. ended (Truth false)) u' result w (is ∙ same) c)
chain_goes false holds k r v more u u' result w p is same c =
    to_passed k r may_count counted keeps_count (λ sh a. deciding v (ended (Truth true)) (more sh a)) u u' result w p (to_else k r (λ w. truth (cells w) v) (λ sh a. ended (Truth true)) more u' result w (is ∙ same) c)

pub chain_decides : (b holds : Bool) (k r : ℕ) (v : Value) (more : Saying) (u u' : Standing) → Passed may_count counted u u' → truth (cells u'.world) v ≡ holds → (holds ≡ b → ⊥) → 0 < r → ComesTo k r (λ sh a. stops_or b v (more sh a)) u (Ok (Ends (Normal (Truth holds)))) u'
chain_decides true true k r v more u u' p is other pos = absurd (other refl)
chain_decides false false k r v more u u' p is other pos = absurd (other refl)
chain_decides true false k r v more u u' p is other pos =
    to_passed k r may_count counted keeps_count (λ sh a. deciding v (more sh a) (ended (Truth false))) u u' (Ok (Ends (Normal (Truth false)))) u' p (to_else k r (λ w. truth (cells w) v) more (λ sh a. ended (Truth false)) u' (Ok (Ends (Normal (Truth false)))) u' is (comes_ended k r (λ sh a. ended (Truth false)) u' (Normal (Truth false)) pos (λ a rs. refl)))
chain_decides false true k r v more u u' p is other pos =
    to_passed k r may_count counted keeps_count (λ sh a. deciding v (ended (Truth true)) (more sh a)) u u' (Ok (Ends (Normal (Truth true)))) u' p (to_then k r (λ w. truth (cells w) v) (λ sh a. ended (Truth true)) more u' (Ok (Ends (Normal (Truth true)))) u' is (comes_ended k r (λ sh a. ended (Truth true)) u' (Normal (Truth true)) pos (λ a rs. refl)))

-- behind an operand that is not the last one
abbrev pub chain_more : Frame → Value → Shape → Around → State → Result
chain_more f v sh a = stops_or (is_and sh.form) v (operands a f.node sh f.env f.left)

pub to_chain : (f : Frame) (b : Bool) (v : Value) (u : Standing) (result : Outcome Move Halt) (w : Standing) → f.kind ≡ kind.ChainOperand → 0 < f.left → b ≡ is_and (shape_at u.world f.node).form → ComesTo f.node (rank f) (λ sh a. stops_or b v (operands a f.node sh f.env f.left)) u result w → ComesTo f.node (rank f) (λ sh a. after f sh a (Normal v)) u result w
to_chain f b v u result w is some and c =
    to_kind (rank f) f kind.ChainOperand (Normal v) u result w is
    (to_as f.node (rank f) (λ sh a. after_kind a f.node sh f.left f.env f.values kind.ChainOperand (Normal v)) (λ sh a. stops_or b v (operands a f.node sh f.env f.left)) u result w
    (λ a rs. ap (λ n. after_operand (shape_at u.world f.node) n (operands a f.node (shape_at u.world f.node) f.env f.left) v (state u.world rs)) (one_less f.left some)
    ∙ ap (λ x. stops_or x v (operands a f.node (shape_at u.world f.node) f.env f.left) (state u.world rs)) (sym and)) c)

-- a test before `?` and `?:`
abbrev pub chosen_value : Around → Shape → ℕ → Env → Value → Bool → State → Result
chosen_value a sh m env v true = a.part (Inside 1) (arity sh - suc m) env
chosen_value a sh m env v false = ended v

choice_way : (a : Around) (sh : Shape) (m : ℕ) (env : Env) (others : State → Result) (f : NodeForm) (v : Value) (s : State) → after_choice a sh m env others f (Normal v) s ≡ tick (deciding v (chosen_value a sh m env v (is_if_true f)) others) s
choice_way a sh m env others form.IfTrue v s = refl
choice_way a sh m env others f v s = refl

abbrev pub choice_more : Frame → Bool → Value → Shape → Around → State → Result
choice_more f b v sh a = tick (deciding v (chosen_value a sh f.left f.env v b) (choices a f.node sh f.env f.left))

pub to_choice : (f : Frame) (b : Bool) (v : Value) (u : Standing) (result : Outcome Move Halt) (w : Standing) → f.kind ≡ kind.ChosenTest → b ≡ is_if_true (form_at (shape_at u.world f.node).parts (arity (shape_at u.world f.node) - suc f.left)) → ComesTo f.node (rank f) (choice_more f b v) u result w → ComesTo f.node (rank f) (λ sh a. after f sh a (Normal v)) u result w
to_choice f b v u result w is has c =
    to_kind (rank f) f kind.ChosenTest (Normal v) u result w is
    (to_as f.node (rank f) (λ sh a. after_kind a f.node sh f.left f.env f.values kind.ChosenTest (Normal v)) (choice_more f b v) u result w
    (λ a rs. choice_way a (shape_at u.world f.node) f.left f.env (choices a f.node (shape_at u.world f.node) f.env f.left) (form_at (shape_at u.world f.node).parts (arity (shape_at u.world f.node) - suc f.left)) v (state u.world rs)
    ∙ ap (λ x. choice_more f x v (shape_at u.world f.node) a (state u.world rs)) (sym has)) c)

pub choice_holds : (f : Frame) (b : Bool) (v : Value) (r : ℕ) (u u' : Standing) (result : Outcome Move Halt) (w : Standing) → Passed may_count counted u u' → truth (cells u'.world) v ≡ true → ComesTo f.node r (λ sh a. chosen_value a sh f.left f.env v b) u' result w → ComesTo f.node r (choice_more f b v) u result w
choice_holds f b v r u u' result w p is c =
    to_passed f.node r may_count counted keeps_count (λ sh a. deciding v (chosen_value a sh f.left f.env v b) (choices a f.node sh f.env f.left)) u u' result w p
    (to_then f.node r (λ w. truth (cells w) v) (λ sh a. chosen_value a sh f.left f.env v b) (λ sh a. choices a f.node sh f.env f.left) u' result w is c)

pub choice_fails : (f : Frame) (b : Bool) (v : Value) (r : ℕ) (u u' : Standing) (result : Outcome Move Halt) (w : Standing) → Passed may_count counted u u' → truth (cells u'.world) v ≡ false → ComesTo f.node r (λ sh a. choices a f.node sh f.env f.left) u' result w → ComesTo f.node r (choice_more f b v) u result w
choice_fails f b v r u u' result w p is c =
    to_passed f.node r may_count counted keeps_count (λ sh a. deciding v (chosen_value a sh f.left f.env v b) (choices a f.node sh f.env f.left)) u u' result w p
    (to_else f.node r (λ w. truth (cells w) v) (λ sh a. chosen_value a sh f.left f.env v b) (λ sh a. choices a f.node sh f.env f.left) u' result w is c)

-- a part that is a test, and one that is not
pub choice_tests : (a : Around) (k : ℕ) (sh : Shape) (m : ℕ) (env : Env) (others : State → Result) (f : NodeForm) (s : State) → (f ≡ form.IfTrue) ⊎ (f ≡ form.IfSet) → choice a k sh m env others f s ≡ choice_test a k sh m env others s
choice_tests a k sh m env others f s h = elim h [ inl e ↦ ap (λ x. choice a k sh m env others x s) e | inr e ↦ ap (λ x. choice a k sh m env others x s) e ]

pub choice_else : (a : Around) (k : ℕ) (sh : Shape) (m : ℕ) (env : Env) (others : State → Result) (f : NodeForm) (s : State) → (f ≡ form.IfTrue → ⊥) → (f ≡ form.IfSet → ⊥) → choice a k sh m env others f s ≡ a.part First (arity sh - suc m) env s
choice_else a k sh m env others form.IfTrue s x y = absurd (x refl)
choice_else a k sh m env others form.IfSet s x y = absurd (y refl)
choice_else a k sh m env others f s x y = refl

-- an index, with the value that its frame keeps
pub to_index : (f : Frame) (v : Value) (xs : List Value) (u : Standing) (result : Outcome Move Halt) (w : Standing) → f.kind ≡ kind.IndexValue → xs ≡ f.values → ComesTo f.node (rank f) (λ sh a. index (value_at 0 xs) v) u result w → ComesTo f.node (rank f) (λ sh a. after f sh a (Normal v)) u result w
to_index f v xs u result w is same c =
    to_kind (rank f) f kind.IndexValue (Normal v) u result w is
    (to_as f.node (rank f) (λ sh a. after_kind a f.node sh f.left f.env f.values kind.IndexValue (Normal v)) (λ sh a. index (value_at 0 xs) v) u result w
    (λ a rs. ap (λ vs. index (value_at 0 vs) v (state u.world rs)) (sym same)) c)

-- a further operand, with the value of those before it
abbrev pub joins : Frame → Operator → List Value → Value → Shape → Around → State → Result
joins f o xs v sh a = tick (applying o (value_at 0 xs) v (joined a f.node sh f.env f.left))

pub to_joined : (f : Frame) (o : Operator) (v : Value) (xs : List Value) (u : Standing) (result : Outcome Move Halt) (w : Standing) → f.kind ≡ kind.JoinedOperand → xs ≡ f.values → o ≡ operator_of (form_at (shape_at u.world f.node).parts (arity (shape_at u.world f.node) - suc f.left)) → ComesTo f.node (rank f) (joins f o xs v) u result w → ComesTo f.node (rank f) (λ sh a. after f sh a (Normal v)) u result w
to_joined f o v xs u result w is same op c =
    to_kind (rank f) f kind.JoinedOperand (Normal v) u result w is
    (to_as f.node (rank f) (λ sh a. after_kind a f.node sh f.left f.env f.values kind.JoinedOperand (Normal v)) (joins f o xs v) u result w
    (λ a rs. ap (λ vs. after_joined (shape_at u.world f.node) f.left (value_at 0 vs) (joined a f.node (shape_at u.world f.node) f.env f.left) v (state u.world rs)) (sym same)
    ∙ ap (λ x. joins f x xs v (shape_at u.world f.node) a (state u.world rs)) (sym op)) c)

pub either : (f g : NodeForm) → f ≡ g → (f ≡ form.IfTrue) ⊎ (f ≡ form.IfSet) → (g ≡ form.IfTrue) ⊎ (g ≡ form.IfSet)
either f g e h = subst (λ x. (x ≡ form.IfTrue) ⊎ (x ≡ form.IfSet)) e h
