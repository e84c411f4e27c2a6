-- Calls of names, and of methods by their access.
use Rattle.std.proofs.Common.{◌≡◌, ◌∙◌, ◌&&◌, ℕ, Bool, true, false, List, ◌∷◌, Option, Some, None, refl, sym, ap, subst}
use Rattle.std.specs.Prelude.{codes, is_some}
use Rattle.model_syntax.specs.declared.node.NodeForm.{NodeForm}
use Rattle.model_syntax.specs.declared.node.NodeForm.TheVariants as form
use Rattle.model_syntax.specs.declared.tree.Access.{Access}
use Rattle.model_syntax.specs.declared.tree.Access.TheVariants.{Direct, NullSafe}
use Rattle.model_values.specs.Kinds.{Kind, null, flag, number, text, items, pairs, closure, thrown, kind}
use Rattle.model_values.specs.Throws.{unknown_step}
use Rattle.model_values.specs.declared.limit.LimitKind.{LimitKind}
use Rattle.model_values.specs.declared.value.Value.{Value}
use Rattle.model_run.specs.Around.{Around, Shape, cells, ended, limits}
use Rattle.model_run.specs.Callables.{function_named}
use Rattle.model_run.specs.Calls.{Meant, Callee_of, Step_of, Nothing, call_by, call_meant, call_name, call_on, call_value, is_null, meant_function}
use Rattle.model_run.specs.FrameTable.{is_method, is_name_call}
use Rattle.model_run.specs.Forms.{gathered}
use Rattle.model_run.specs.Gathering.{is_call}
use Rattle.model_run.specs.Names.{look}
use Rattle.model_run.specs.State.{World, Reply, State, Env, Limited, counted, may_count, operating}
use Rattle.model_run.specs.Steps.{begin_step}
use Rattle.run_laws.specs.Soundness.{SoundWorld}
use Rattle.cps_frames.specs.Changes.{Met, Passed}
use Rattle.cps_frames.specs.Standing.{Standing, state}
use Rattle.cps_frames.proofs.MoveLaws.{met}
use Rattle.cps_calls.specs.Calls.{method_name}
use Rattle.cps_calls.specs.Kinds.{is_null_kind, is_null_safe}
use Rattle.cps_calls.specs.Meanings.{name_at}

-- `e?.f(..)` on null
null_safe : (access : Access) (x : List ℕ) (k : Kind) → is_null access k ≡ (is_null_safe (form.Method access x) && is_null_kind k)
null_safe NullSafe x null = refl
null_safe NullSafe x (flag b) = refl
null_safe NullSafe x (number z) = refl
null_safe NullSafe x (text s) = refl
null_safe NullSafe x (items c vs) = refl
null_safe NullSafe x (pairs c es) = refl
null_safe NullSafe x (closure c) = refl
null_safe NullSafe x (thrown c class m) = refl
null_safe Direct x k = refl

pub method_says : (f : NodeForm) → is_method f ≡ true → (a : Around) (k : ℕ) (env : Env) (sh : Shape) (on : Value) (args vs : List Value) (w : World) (rs : List Reply) (b : Bool) → vs ≡ on ∷ args → (is_null_safe f && is_null_kind (kind w.shared.cells on)) ≡ b → gathered a k env sh f vs (state w rs) ≡ call_on a k sh env (method_name f) on args w b (state w rs)
method_says (form.Method access x) e a k env sh on args vs w rs b is at =
    ap (λ ws. gathered a k env sh (form.Method access x) ws (state w rs)) is
    ∙ ap (λ c. call_on a k sh env x on args w c (state w rs)) (null_safe access x (kind w.shared.cells on) ∙ at)
method_says f e a k env sh on args vs w rs b is at = absurd (cc e)

pub not_both : (b c : Bool) → c ≡ false → (b && c) ≡ false
not_both true c e = e
not_both false c e = refl

pub not_first : (b c : Bool) → b ≡ false → (b && c) ≡ false
not_first true c e = absurd (cc e)
not_first false c e = refl

pub both : (b c : Bool) → b ≡ true → c ≡ true → (b && c) ≡ true
both true c e f = f
both false c e f = absurd (cc e)

-- both forms of a call name a method
pub method_called : (f : NodeForm) → is_method f ≡ true → is_call f ≡ true
method_called (form.Method access x) e = refl
method_called f e = absurd (cc e)

pub name_called : (f : NodeForm) → is_name_call f ≡ true → is_call f ≡ true
name_called (form.Call x) e = refl
name_called f e = absurd (cc e)

-- the value of a variable that is called has its method `call` called
pub name_calls : (f : NodeForm) → is_name_call f ≡ true → method_name f ≡ codes "call"
name_calls (form.Call x) e = refl
name_calls f e = absurd (cc e)

pub gathered_call : (f : NodeForm) → is_name_call f ≡ true → (a : Around) (k : ℕ) (env : Env) (sh : Shape) (vs : List Value) (s : State) → gathered a k env sh f vs s ≡ call_by (look (name_at f) env) a k sh env (name_at f) vs s
gathered_call (form.Call x) e a k env sh vs s = refl
gathered_call f e a k env sh vs s = absurd (cc e)

by_value : (o : Option ℕ) → is_some o ≡ true → (a : Around) (k : ℕ) (sh : Shape) (env : Env) (x : List ℕ) (vs : List Value) (s : State) → call_by o a k sh env x vs s ≡ call_value a k sh env vs s
by_value (Some c) e a k sh env x vs s = refl
by_value None e a k sh env x vs s = absurd (cc e)

by_name : (o : Option ℕ) → is_some o ≡ false → (a : Around) (k : ℕ) (sh : Shape) (env : Env) (x : List ℕ) (vs : List Value) (s : State) → call_by o a k sh env x vs s ≡ call_name a k sh env x vs s
by_name (Some c) e a k sh env x vs s = absurd (cc e)
by_name None e a k sh env x vs s = refl

pub value_says : (f : NodeForm) → is_name_call f ≡ true → (a : Around) (k : ℕ) (env : Env) (sh : Shape) (vs : List Value) (s : State) → is_some (look (name_at f) env) ≡ true → gathered a k env sh f vs s ≡ call_value a k sh env vs s
value_says f e a k env sh vs s is = gathered_call f e a k env sh vs s ∙ by_value (look (name_at f) env) is a k sh env (name_at f) vs s

pub name_says : (f : NodeForm) → is_name_call f ≡ true → (a : Around) (k : ℕ) (env : Env) (sh : Shape) (vs : List Value) (w : World) (rs : List Reply) (m : Meant) → is_some (look (name_at f) env) ≡ false → meant_function (name_at f) w (function_named (name_at f) w) ≡ m → gathered a k env sh f vs (state w rs) ≡ call_meant a k sh env (name_at f) vs w m (state w rs)
name_says f e a k env sh vs w rs m none is =
    gathered_call f e a k env sh vs (state w rs) ∙ by_name (look (name_at f) env) none a k sh env (name_at f) vs (state w rs)
    ∙ ap (λ x. call_meant a k sh env (name_at f) vs w x (state w rs)) is

-- where no more may be counted
pub meant_met : (a : Around) (k : ℕ) (sh : Shape) (env : Env) (x : List ℕ) (vs : List Value) (m : Meant) (l : LimitKind) (u v : Standing) → Met may_count l u v → (rs : List Reply) → call_meant a k sh env x vs u.world m (state u.world rs) ≡ Limited l (state v.world rs)
meant_met a k sh env x vs (Callee_of c) l u v p rs = met may_count counted l u v p (a.call c.node vs c.env) rs
meant_met a k sh env x vs (Step_of s) l u v p rs = met may_count counted l u v p (begin_step a k env s vs) rs
meant_met a k sh env x vs Nothing l u v p rs = met may_count counted l u v p (operating (λ w. unknown_step (limits w) (cells w) x) ended) rs

-- a sound world behind a count
pub sound_counted : (u v : Standing) → Passed may_count counted u v → SoundWorld u.world.setting u.world → SoundWorld v.world.setting v.world
sound_counted u v p s =
    subst (λ w. SoundWorld w.setting w) (sym p.made) (record {
      setting = s.setting;
      narrow = s.narrow;
      cells = s.cells;
      binding = s.binding;
      head = s.head;
      bounds = record {
        short = s.bounds.short;
        few_cells = s.bounds.few_cells;
        few_bytes = s.bounds.few_bytes;
        names = s.bounds.names;
        few_nodes = s.bounds.few_nodes;
        nodes = s.bounds.nodes;
        few_requests = s.bounds.few_requests;
        asks = s.bounds.asks;
      };
    })
