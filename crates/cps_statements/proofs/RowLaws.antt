-- Statements in a row, and the parts of an `if`: the last so many parts of a node.
use Rattle.std.proofs.Common.{◌≡◌, ◌∙◌, ◌<◌, ◌≤◌, ◌+◌, ◌-◌, ◌^◌, ℕ, zero, suc, Bool, true, false, List, [], ◌∷◌, ◌++◌, refl, sym, ap, ap₂, subst, arith, inl, inr}
use Rattle.std.proofs.Math.Bool.{Bool-set}
use Rattle.std.proofs.Math.Logic.{∥∥₁_elim}
use Rattle.std.specs.Prelude.{◌⊎◌, Result as Outcome}
use Rattle.model_syntax.specs.declared.node.NodeForm.{NodeForm}
use Rattle.model_syntax.specs.declared.node.NodeForm.TheVariants as form
use Rattle.model_values.specs.declared.value.Value.{Value}
use Rattle.model_values.specs.declared.value.Value.TheVariants.{Null}
use Rattle.model_run.specs.Around.{Around, Shape, arity, form_at, frame, under}
use Rattle.model_run.specs.declared.ending.Entry.TheVariants.{First, Inside, Turn}
use Rattle.model_run.specs.Forms.{after, enter, start, turn}
use Rattle.model_run.specs.Nesting.{shape_at}
use Rattle.model_run.specs.State.{Env, State, Result, Ended, counted, may_count, on_value, tick}
use Rattle.model_run.specs.Statements.{arm, arms, return_from, returns, statements, while_test}
use Rattle.model_run.specs.declared.frame.FrameKind.TheVariants as kind
use Rattle.cps_code.specs.Rows.{part_count}
use Rattle.cps_frames.specs.Moves.{Comes, ComesTo}
use Rattle.cps_frames.specs.Order.{rank}
use Rattle.cps_frames.specs.Standing.{Standing, state}
use Rattle.cps_frames.specs.declared.halt.Halt.{Halt}
use Rattle.cps_frames.specs.declared.thread.Move.{Move}
use Rattle.cps_frames.specs.declared.thread.Move.TheVariants.{Ends, Hits}
use Rattle.model_run.specs.declared.ending.Ending.TheVariants.{Broke, Continued, Returned}
use Rattle.model_values.specs.declared.limit.LimitKind.{LimitKind}
use Rattle.model_run.specs.FrameTable.{is_arm, is_block}
use Rattle.model_run.specs.Terms.{Term}
use Rattle.script_laws.specs.NodeParts.{AllOf, HasParts, Next, Stand, is_body, parts_asked}
use Rattle.script_laws.proofs.ScriptParts.{script_parts}
use Rattle.cps_statements.specs.Kinds.{begins_here, starts_here}
use Rattle.cps_frames.specs.Changes.{Met, Passed}
use Rattle.cps_frames.proofs.MoveLaws.{comes_as, comes_ended, comes_met, to_as}
use Rattle.cps_variables.specs.Nodes.{HasForm}
use Rattle.cps_variables.proofs.NodeLaws.{count_is, to_started}

-- the next statement of the last so many
pub to_statements : (k left at : ℕ) (value : Value) (env : Env) (u : Standing) (result : Outcome Move Halt) (v : Standing) → (left ≡ 0 → ⊥) → at ≡ arity (shape_at u.world.setting.script k) - left
    → ((r : ℕ) → rank (frame kind.Statement k (left - 1) env []) < r → ComesTo k r (λ sh a. under a (frame kind.Statement k (left - 1) env []) (after (frame kind.Statement k (left - 1) env []) sh a) First at env) u result v)
    → (r : ℕ) → left + left < r → ComesTo k r (λ sh a. statements a k (arity sh) left value env) u result v
to_statements k zero at value env u result v some is h r lt = absurd (some refl)
to_statements k (suc m) at value env u result v some is h r lt =
    let e : suc m - 1 ≡ m = omega arith in
    to_as k r (λ sh a. statements a k (arity sh) (suc m) value env) _ u result v
    (λ a rs. ap₂ (λ j i. under a (frame kind.Statement k j env []) (after (frame kind.Statement k j env []) (shape_at u.world.setting.script k) a) First i env (state u.world rs)) (sym e) (sym is))
    (h r (omega (arith, lt, e)))

-- the next arm of the last so many parts
pub to_arm : (k left at : ℕ) (env : Env) (u : Standing) (result : Outcome Move Halt) (v : Standing) → (left ≡ 0 → ⊥) → at ≡ arity (shape_at u.world.setting.script k) - left → form_at (shape_at u.world.setting.script k).parts at ≡ form.Arm
    → ((r : ℕ) → rank (frame kind.IfTest k (left - 1) env []) < r → ComesTo k r (λ sh a. under a (frame kind.IfTest k (left - 1) env []) (after (frame kind.IfTest k (left - 1) env []) sh a) (Inside 0) at env) u result v)
    → (r : ℕ) → left + left < r → ComesTo k r (λ sh a. arms a k sh left env) u result v
to_arm k zero at env u result v some is arm_there h r lt = absurd (some refl)
to_arm k (suc m) at env u result v some is arm_there h r lt =
    let e : suc m - 1 ≡ m = omega arith in
    to_as k r (λ sh a. arms a k sh (suc m) env) _ u result v
    (λ a rs. let sh = shape_at u.world.setting.script k in
    ap (λ f. arm a k sh m env (arms a k sh m env) f (state u.world rs)) (ap (form_at sh.parts) (sym is) ∙ arm_there)
    ∙ ap₂ (λ j i. under a (frame kind.IfTest k j env []) (after (frame kind.IfTest k j env []) sh a) (Inside 0) i env (state u.world rs)) (sym e) (sym is))
    (h r (omega (arith, lt, e)))

-- the block behind the arms
pub to_block : (k left at : ℕ) (env : Env) (u : Standing) (result : Outcome Move Halt) (v : Standing) → (left ≡ 0 → ⊥) → at ≡ arity (shape_at u.world.setting.script k) - left → form_at (shape_at u.world.setting.script k).parts at ≡ form.Block
    → ((r : ℕ) → 0 < r → ComesTo k r (λ sh a. a.part First at env) u result v)
    → (r : ℕ) → left + left < r → ComesTo k r (λ sh a. arms a k sh left env) u result v
to_block k zero at env u result v some is block_there h r lt = absurd (some refl)
to_block k (suc m) at env u result v some is block_there h r lt =
    to_as k r (λ sh a. arms a k sh (suc m) env) _ u result v
    (λ a rs. let sh = shape_at u.world.setting.script k in
    ap (λ f. arm a k sh m env (arms a k sh m env) f (state u.world rs)) (ap (form_at sh.parts) (sym is) ∙ block_there)
    ∙ ap (λ i. a.part First i env (state u.world rs)) (sym is))
    (h r (omega (arith, lt)))

-- An `if` has no other parts.
abbrev in_if : NodeForm → Bool
in_if form.Arm = true
in_if form.Block = true
in_if f = false

arm_in_if : (f : NodeForm) → is_arm f ≡ true → in_if f ≡ true
arm_in_if form.Arm is = refl
arm_in_if f is = absurd (cc is)

body_in_if : (f : NodeForm) → is_body f ≡ true → in_if f ≡ true
body_in_if form.Block is = refl
body_in_if f is = absurd (cc is)

last_part : (fs : List NodeForm) (i : ℕ) → (fs ≡ []) ⊎ Next is_body (Stand []) fs → in_if (form_at fs i) ≡ true
last_part [] i h = refl
last_part (f ∷ fs) zero h = elim h [ inl e ↦ absurd (cc e) | inr q ↦ body_in_if f q.0 ]
last_part (f ∷ fs) (suc i) h = elim h [ inl e ↦ absurd (cc e) | inr q ↦ ap (λ gs. in_if (form_at gs i)) q.1 ]

arm_or_last : (gs fs : List NodeForm) (i : ℕ) → AllOf is_arm gs → (fs ≡ []) ⊎ Next is_body (Stand []) fs → in_if (form_at (gs ++ fs) i) ≡ true
arm_or_last [] fs i all h = last_part fs i h
arm_or_last (g ∷ gs) fs zero all h = arm_in_if g all.0
arm_or_last (g ∷ gs) fs (suc i) all h = arm_or_last gs fs i all.1 h

if_part : (fs : List NodeForm) (i : ℕ) → Stand (parts_asked form.If) fs → in_if (form_at fs i) ≡ true
if_part fs i h = ap (λ gs. in_if (form_at gs i)) h.split ∙ arm_or_last h.these h.rest i h.kind h.behind

part_in_if : (root : Term) (k i : ℕ) → HasForm root k form.If → in_if (form_at (shape_at root k).parts i) ≡ true
part_in_if root k i h = ∥∥₁_elim h.script (hlevel (Bool-set)) (λ s. if_part (shape_at root k).parts i (subst (λ f. Stand (parts_asked f) (shape_at root k).parts) h.form (subst (λ t. HasParts (shape_at t k)) (sym s.1) (script_parts s.0 k))))

no_third : (f : NodeForm) → in_if f ≡ true → (f ≡ form.Arm → ⊥) → (f ≡ form.Block → ⊥) → ⊥
no_third form.Arm is a b = a refl
no_third form.Block is a b = b refl
no_third f is a b = cc is

pub no_other_part : (root : Term) (k i : ℕ) (f : NodeForm) → HasForm root k form.If → f ≡ form_at (shape_at root k).parts i → (f ≡ form.Arm → ⊥) → (f ≡ form.Block → ⊥) → ⊥
no_other_part root k i f h is = no_third f (ap in_if is ∙ part_in_if root k i h)

-- all parts of an `if`, and all statements of a row
pub all_arms : (k left : ℕ) (env : Env) (u : Standing) (result : Outcome Move Halt) (v : Standing) → left ≡ part_count u.world.setting.script k → left < 2 ^ 32 → ((r : ℕ) → left + left < r → ComesTo k r (λ sh a. arms a k sh left env) u result v) → ComesTo k (2 ^ 66) (λ sh a. arms a k sh (arity sh) env) u result v
all_arms k left env u result v is small h =
    to_as k (2 ^ 66) (λ sh a. arms a k sh (arity sh) env) (λ sh a. arms a k sh left env) u result v
    (λ a rs. ap (λ n. arms a k (shape_at u.world.setting.script k) n env (state u.world rs)) (sym (is ∙ count_is u.world.setting.script k))) (h (2 ^ 66) (omega (arith, small)))

pub all_statements : (k left : ℕ) (value : Value) (env : Env) (u : Standing) (result : Outcome Move Halt) (v : Standing) → left ≡ part_count u.world.setting.script k → left < 2 ^ 32 → ((r : ℕ) → left + left < r → ComesTo k r (λ sh a. statements a k (arity sh) left value env) u result v) → ComesTo k (2 ^ 66) (λ sh a. statements a k (arity sh) (arity sh) value env) u result v
all_statements k left value env u result v is small h =
    to_as k (2 ^ 66) (λ sh a. statements a k (arity sh) (arity sh) value env) (λ sh a. statements a k (arity sh) left value env) u result v
    (λ a rs. let sh = shape_at u.world.setting.script k in ap (λ n. statements a k (arity sh) n value env (state u.world rs)) (sym (is ∙ count_is u.world.setting.script k))) (h (2 ^ 66) (omega (arith, small)))

-- a row of statements from its beginning
row_says : (a : Around) (k : ℕ) (sh : Shape) (env : Env) (f : NodeForm) → is_block f ≡ true → start a k sh env f ≡ statements a k (arity sh) (arity sh) Null env
row_says a k sh env form.Script is = refl
row_says a k sh env form.Block is = refl
row_says a k sh env f is = absurd (cc is)

pub to_row : (k : ℕ) (env : Env) (u : Standing) (result : Outcome Move Halt) (v : Standing) → is_block (shape_at u.world.setting.script k).form ≡ true → ComesTo k (2 ^ 66) (λ sh a. statements a k (arity sh) (arity sh) Null env) u result v → ComesTo k (2 ^ 66) (λ sh a. enter First a k sh env) u result v
to_row k env u result v is h =
    to_as k (2 ^ 66) (λ sh a. enter First a k sh env) (λ sh a. statements a k (arity sh) (arity sh) Null env) u result v
    (λ a rs. let sh = shape_at u.world.setting.script k in ap (λ m. m (state u.world rs)) (row_says a k sh env sh.form is)) h

-- every other statement begins behind its count
pub not_row : (f : NodeForm) → starts_here f ≡ true → is_block f ≡ false → begins_here f ≡ true
not_row form.Script here differs = absurd (cc differs)
not_row form.Block here differs = absurd (cc differs)
not_row f here differs = here

count_says : (a : Around) (k : ℕ) (sh : Shape) (env : Env) (f : NodeForm) → begins_here f ≡ true → (go : State → Result) × (start a k sh env f ≡ tick go)
count_says a k sh env form.If here = (arms a k sh (arity sh) env, refl)
count_says a k sh env form.While here = (while_test a k env, refl)
count_says a k sh env (form.ForEach x) here = (under a (frame kind.EachOver k 0 env []) (after (frame kind.EachOver k 0 env []) sh a) First 0 env, refl)
count_says a k sh env form.ForSteps here = (under a (frame kind.StepsFirst k 0 env []) (after (frame kind.StepsFirst k 0 env []) sh a) First 0 env, refl)
count_says a k sh env form.Try here = (under a (frame kind.TryBlock k 0 env []) (after (frame kind.TryBlock k 0 env []) sh a) First 0 env, refl)
count_says a k sh env form.Evaluate here = (a.part First 0 env, refl)
count_says a k sh env form.Return here = (return_from a k (arity sh) env, refl)
count_says a k sh env form.Break here = (Ended Broke, refl)
count_says a k sh env form.Continue here = (Ended Continued, refl)
count_says a k sh env form.Throw here = (under a (frame kind.ThrowValue k 0 env []) (after (frame kind.ThrowValue k 0 env []) sh a) First 0 env, refl)
count_says a k sh env f here = absurd (cc here)

-- where no node more may be counted
pub to_uncounted : (k : ℕ) (env : Env) (l : LimitKind) (u v : Standing) → begins_here (shape_at u.world.setting.script k).form ≡ true → Met may_count l u v → Comes k (2 ^ 66) (λ sh a. enter First a k sh env) u (Hits l) v
to_uncounted k env l u v here m =
    comes_as k (2 ^ 66) (λ sh a. enter First a k sh env) (λ sh a. tick ((count_says a k (shape_at u.world.setting.script k) env (shape_at u.world.setting.script k).form here).0)) u (Hits l) v
    (λ a rs. ap (λ g. g (state u.world rs)) ((count_says a k (shape_at u.world.setting.script k) env (shape_at u.world.setting.script k).form here).1))
    (comes_met k (2 ^ 66) may_count counted (λ sh a. (count_says a k (shape_at u.world.setting.script k) env (shape_at u.world.setting.script k).form here).0) l u v m (omega arith))

-- a further turn of a node of a known form
pub to_again : (k i : ℕ) (kept : List Value) (env : Env) (f : NodeForm) (go : Shape → Around → State → Result) (u : Standing) (result : Outcome Move Halt) (v : Standing) → (shape_at u.world.setting.script k).form ≡ f → ((sh : Shape) (a : Around) → turn a k sh env i kept f ≡ go sh a) → ComesTo k (2 ^ 66) go u result v → ComesTo k (2 ^ 66) (λ sh a. enter (Turn i kept) a k sh env) u result v
to_again k i kept env f go u result v is says h =
    to_as k (2 ^ 66) (λ sh a. enter (Turn i kept) a k sh env) go u result v
    (λ a rs. let sh = shape_at u.world.setting.script k in ap (λ g. turn a k sh env i kept g (state u.world rs)) is ∙ ap (λ m. m (state u.world rs)) (says sh a)) h

-- what a statement of a known form does behind its count
pub to_begun : (k : ℕ) (env : Env) (f : NodeForm) (go : Shape → Around → State → Result) (r : ℕ) (u u' : Standing) (result : Outcome Move Halt) (v : Standing) → (shape_at u'.world.setting.script k).form ≡ f → ((sh : Shape) (a : Around) → start a k sh env f ≡ tick (go sh a)) → Passed may_count counted u u' → r ≤ 2 ^ 66 → ComesTo k r go u' result v → ComesTo k (2 ^ 66) (λ sh a. enter First a k sh env) u result v
to_begun k env f go r u u' result v is says passed small h =
    to_started k env f go r u u' result v (subst (λ root. (shape_at root k).form ≡ f) (ap (λ w. w.setting.script) passed.made) is) says passed small h

-- `return` without a value, and with one
pub no_value : (k r : ℕ) (env : Env) (u : Standing) → arity (shape_at u.world.setting.script k) ≡ 0 → 0 < r → Comes k r (λ sh a. return_from a k (arity sh) env) u (Ends (Returned Null)) u
no_value k r env u is pos = comes_ended k r (λ sh a. return_from a k (arity sh) env) u (Returned Null) pos (λ a rs. ap (λ n. return_from a k n env (state u.world rs)) is)

some_value : (a : Around) (k n : ℕ) (env : Env) → (n ≡ 0 → ⊥) → return_from a k n env ≡ under a (frame kind.ReturnValue k 0 env []) (on_value returns) First 0 env
some_value a k zero env some = absurd (some refl)
some_value a k (suc n) env some = refl

pub with_value : (k r : ℕ) (env : Env) (u : Standing) (result : Outcome Move Halt) (v : Standing) → (arity (shape_at u.world.setting.script k) ≡ 0 → ⊥) → ComesTo k r (λ sh a. under a (frame kind.ReturnValue k 0 env []) (after (frame kind.ReturnValue k 0 env []) sh a) First 0 env) u result v → ComesTo k r (λ sh a. return_from a k (arity sh) env) u result v
with_value k r env u result v some =
    to_as k r (λ sh a. return_from a k (arity sh) env) (λ sh a. under a (frame kind.ReturnValue k 0 env []) (after (frame kind.ReturnValue k 0 env []) sh a) First 0 env) u result v
    (λ a rs. ap (λ m. m (state u.world rs)) (some_value a k (arity (shape_at u.world.setting.script k)) env some))
