-- An expression by its form, and a suffix by its form.
use Rattle.std.proofs.Common.{◌≡◌, ◌∙◌, ◌<◌, ◌≤◌, ℕ, true, false, List, [], ◌∷◌, refl, ap, sym, subst}
use Rattle.std.specs.Prelude.{Result as Outcome, Ok, slice_get}
use Rattle.std.specs.List.{AllByRecursion as AllAre}
use Rattle.model_syntax.specs.declared.node.NodeForm.{NodeForm}
use Rattle.model_syntax.specs.declared.node.NodeForm.TheVariants as form
use Rattle.model_syntax.specs.declared.tree.Access.{Access}
use Rattle.model_values.specs.Fitting.{HasVariable}
use Rattle.model_values.specs.declared.value.Value.{Value}
use Rattle.model_values.specs.declared.value.Value.TheVariants.{Null}
use Rattle.model_run.specs.declared.ending.Ending.TheVariants.{Normal}
use Rattle.model_run.specs.declared.ending.Entry.TheVariants.{First}
use Rattle.model_run.specs.Around.{Around, Shape, arity, ended}
use Rattle.model_run.specs.Calls.{called_value}
use Rattle.model_run.specs.Forms.{gather_all, start, suffix_on}
use Rattle.model_run.specs.FrameTable.{is_method, is_name_call}
use Rattle.model_run.specs.Names.{look}
use Rattle.model_run.specs.State.{Env}
use Rattle.script_laws.specs.NodeParts.{is_function}
use Rattle.cps_code.specs.Script.{IsScript}
use Rattle.cps_frames.specs.Moves.{ComesTo}
use Rattle.cps_frames.specs.Parts.{least_parts}
use Rattle.cps_frames.specs.Places.{MayEnter}
use Rattle.cps_frames.specs.Standing.{Standing, state, shape_at}
use Rattle.cps_frames.specs.declared.halt.Halt.{Halt}
use Rattle.cps_frames.specs.declared.thread.Move.{Move}
use Rattle.cps_frames.specs.declared.thread.Move.TheVariants.{Ends}
use Rattle.cps_frames.proofs.MoveLaws.{comes_ended, to_as}
use Rattle.cps_frames.proofs.PartLaws.{parts_there}
use Rattle.cps_operators.proofs.FormLaws.{to_form}
use Rattle.cps_variables.specs.Sight.{Sees}
use Rattle.cps_variables.proofs.SightLaws.{sees}

pub call_of : (f : NodeForm) → is_name_call f ≡ true → (x : List ℕ) × (f ≡ form.Call x)
call_of (form.Call x) e = (x, refl)
call_of f e = absurd (cc e)

pub method_of : (f : NodeForm) → is_method f ≡ true → (access : Access) × (x : List ℕ) × (f ≡ form.Method access x)
method_of (form.Method access x) e = (access, x, refl)
method_of f e = absurd (cc e)

-- a node has the parts that its form asks for
pub parts_of : (u : Standing) (k : ℕ) (f : NodeForm) → IsScript u.world.setting.script → f ≡ (shape_at u.world k).form → least_parts f ≤ arity (shape_at u.world k)
parts_of u k f script is = subst (λ g. least_parts g ≤ arity (shape_at u.world k)) (sym is) (parts_there u.world.setting.script script k)

-- the variables that an expression sees have cells
pub declared : (u : Standing) (k : ℕ) (env : Env) (f : NodeForm) → MayEnter u First k env → f ≡ (shape_at u.world k).form → is_function f ≡ false → AllAre (λ b. HasVariable (slice_get u.world.shared.cells b.cell)) env
declared u k env f may is plain = (may.entry (ap is_function (sym is) ∙ plain)).variables

pub sees_at : (u : Standing) (k : ℕ) (env : Env) (f : NodeForm) → MayEnter u First k env → f ≡ (shape_at u.world k).form → is_function f ≡ false → Sees u.world.shared.cells u.world.shared.binding env
sees_at u k env f may is plain = sees u.world.setting u.world env may.sound (declared u k env f may is plain)

-- all parts of a node that keeps nothing before them
pub to_all : (k r left : ℕ) (env : Env) (ks : List Value) (u : Standing) (result : Outcome Move Halt) (v : Standing) → left ≡ arity (shape_at u.world k) → ks ≡ [] → ComesTo k r (λ sh a. gather_all a k sh env left ks) u result v → ComesTo k r (λ sh a. gather_all a k sh env (arity sh) []) u result v
to_all k r left env ks u result v size same = to_as k r (λ sh a. gather_all a k sh env (arity sh) []) (λ sh a. gather_all a k sh env left ks) u result v
    (λ a rs. ap (λ n. gather_all a k (shape_at u.world k) env n [] (state u.world rs)) (sym size) ∙ ap (λ xs. gather_all a k (shape_at u.world k) env left xs (state u.world rs)) (sym same))

-- a call of a name, behind the value of its variable
pub to_call : (k r left : ℕ) (x : List ℕ) (env : Env) (ks : List Value) (u : Standing) (result : Outcome Move Halt) (v : Standing) → (shape_at u.world k).form ≡ form.Call x → left ≡ arity (shape_at u.world k) → ks ≡ called_value u.world (look x env) → ComesTo k r (λ sh a. gather_all a k sh env left ks) u result v → ComesTo k r (λ sh a. start a k sh env sh.form) u result v
to_call k r left x env ks u result v is size same c =
    to_form k r (form.Call x) (λ f sh a. start a k sh env f) u result v is
    (to_as k r (λ sh a. start a k sh env (form.Call x)) (λ sh a. gather_all a k sh env left ks) u result v
    (λ a rs. ap (λ n. gather_all a k (shape_at u.world k) env n (called_value u.world (look x env)) (state u.world rs)) (sym size) ∙ ap (λ xs. gather_all a k (shape_at u.world k) env left xs (state u.world rs)) (sym same)) c)

-- a call of a method, behind its value
pub to_method : (k r left : ℕ) (x : Value) (env : Env) (ks : List Value) (u : Standing) (result : Outcome Move Halt) (v : Standing) → is_method (shape_at u.world k).form ≡ true → left ≡ arity (shape_at u.world k) → ks ≡ x ∷ [] → ComesTo k r (λ sh a. gather_all a k sh env left ks) u result v → ComesTo k r (λ sh a. suffix_on a k sh env x sh.form) u result v
to_method k r left x env ks u result v is size same c =
    let q = method_of (shape_at u.world k).form is in
    to_form k r (form.Method q.0 q.1) (λ f sh a. suffix_on a k sh env x f) u result v q.2
    (to_as k r (λ sh a. suffix_on a k sh env x (form.Method q.0 q.1)) (λ sh a. gather_all a k sh env left ks) u result v
    (λ a rs. ap (λ n. gather_all a k (shape_at u.world k) env n (x ∷ []) (state u.world rs)) (sym size) ∙ ap (λ xs. gather_all a k (shape_at u.world k) env left xs (state u.world rs)) (sym same)) c)

no_suffix : (a : Around) (k : ℕ) (sh : Shape) (env : Env) (v : Value) (f : NodeForm) → ((x : Access) (t : List ℕ) → f ≡ form.Property x t → ⊥) → ((x : Access) (t : List ℕ) → f ≡ form.Method x t → ⊥) → (f ≡ form.Index → ⊥) → suffix_on a k sh env v f ≡ ended Null
no_suffix a k sh env v (form.Property x t) p m i = absurd (p x t refl)
no_suffix a k sh env v (form.Method x t) p m i = absurd (m x t refl)
no_suffix a k sh env v form.Index p m i = absurd (i refl)
no_suffix a k sh env v f p m i = refl

-- what is no suffix does nothing
pub to_none : (k r : ℕ) (env : Env) (x : Value) (f : NodeForm) (u : Standing) → 0 < r → f ≡ (shape_at u.world k).form → ((x : Access) (t : List ℕ) → f ≡ form.Property x t → ⊥) → ((x : Access) (t : List ℕ) → f ≡ form.Method x t → ⊥) → (f ≡ form.Index → ⊥) → ComesTo k r (λ sh a. suffix_on a k sh env x sh.form) u (Ok (Ends (Normal Null))) u
to_none k r env x f u pos is p m i =
    to_form k r f (λ f sh a. suffix_on a k sh env x f) u (Ok (Ends (Normal Null))) u (sym is)
    (comes_ended k r (λ sh a. suffix_on a k sh env x f) u (Normal Null) pos (λ a rs. ap (λ g. g (state u.world rs)) (no_suffix a k (shape_at u.world k) env x f p m i)))
