-- The signs before an operand, one by one from the nearest on.
use Rattle.std.proofs.Common.{◌≡◌, ◌∙◌, ◌<◌, ◌≤◌, ◌+◌, ◌-◌, ℕ, suc, List, [], ◌∷◌, ◌++◌, length, take, refl, ap, sym, subst, arith}
use Rattle.std.specs.Prelude.{reverse, Result as Outcome, Ok, Err}
use Rattle.std.proofs.lemmas.List.{reverse-append, take_all}
use Rattle.std.proofs.Math.Seq.{take-suc}
use Rattle.model_syntax.specs.declared.node.NodeForm.{NodeForm}
use Rattle.model_syntax.specs.declared.node.NodeForm.TheVariants as form
use Rattle.model_syntax.specs.declared.tree.Prefix.{Prefix}
use Rattle.model_values.specs.declared.limit.LimitKind.{LimitKind}
use Rattle.model_values.specs.declared.value.Value.{Value}
use Rattle.model_run.specs.declared.ending.Ending.TheVariants.{Normal}
use Rattle.model_run.specs.declared.frame.Frame.{Frame}
use Rattle.model_run.specs.declared.frame.FrameKind.TheVariants as kind
use Rattle.model_run.specs.Around.{form_at}
use Rattle.model_run.specs.Expressions.{prefixed_by, prefixes_of, prefixing}
use Rattle.model_run.specs.Forms.{after, after_kind}
use Rattle.model_run.specs.Nesting.{shape_at as shape_in}
use Rattle.model_run.specs.State.{Reply, counted, may_count}
use Rattle.model_run.proofs.Room.{keeps_count}
use Rattle.cps_frames.specs.Changes.{Met, Passed}
use Rattle.cps_frames.specs.Moves.{ComesTo}
use Rattle.cps_frames.specs.Order.{rank}
use Rattle.cps_frames.specs.Standing.{Beside, Standing, state, shape_at, room_of}
use Rattle.cps_frames.specs.declared.halt.Halt.{Halt}
use Rattle.cps_frames.specs.declared.halt.Halt.TheVariants.{Limit}
use Rattle.cps_frames.specs.declared.thread.Move.{Move}
use Rattle.cps_frames.specs.declared.thread.Move.TheVariants.{Ends}
use Rattle.cps_frames.proofs.MoveLaws.{beside_here, beside_on, comes_ended, comes_met, passed, passed_beside, passed_setting, to_after, to_kind}
use Rattle.cps_operators.specs.Yields.{Yields}
use Rattle.cps_operators.proofs.YieldLaws.{to_tick_stopped}

prefixes_append : (fs gs : List NodeForm) → prefixes_of (fs ++ gs) ≡ prefixes_of fs ++ prefixes_of gs
prefixes_append [] gs = refl
prefixes_append (form.Prefix p ∷ fs) gs = ap (λ ps. p ∷ ps) (prefixes_append fs gs)
prefixes_append (f ∷ fs) gs = prefixes_append fs gs

-- the signs among the first n parts, the nearest first
abbrev pub signs : List NodeForm → ℕ → List Prefix
signs fs n = reverse (prefixes_of (take n fs))

signs_by : (fs : List NodeForm) (n : ℕ) → n < length fs → signs fs (n + 1) ≡ reverse (prefixes_of (form_at fs n ∷ [])) ++ signs fs n
signs_by fs n lt =
    let on : n + 1 ≡ suc n = omega arith in
    ap (λ m. signs fs m) on ∙ ap (λ xs. reverse (prefixes_of xs)) (take-suc fs n form.Block lt) ∙ ap reverse (prefixes_append (take n fs) (form_at fs n ∷ [])) ∙ reverse-append (prefixes_of (take n fs)) (prefixes_of (form_at fs n ∷ []))

signs_more : (fs : List NodeForm) (n : ℕ) (p : Prefix) → n < length fs → form_at fs n ≡ form.Prefix p → signs fs (n + 1) ≡ p ∷ signs fs n
signs_more fs n p lt is = signs_by fs n lt ∙ ap (λ f. reverse (prefixes_of (f ∷ [])) ++ signs fs n) is

no_sign : (f : NodeForm) → ((p : Prefix) → f ≡ form.Prefix p → ⊥) → reverse (prefixes_of (f ∷ [])) ≡ []
no_sign (form.Prefix p) h = absurd (h p refl)
no_sign f h = refl

signs_same : (fs : List NodeForm) (n : ℕ) → n < length fs → ((p : Prefix) → form_at fs n ≡ form.Prefix p → ⊥) → signs fs (n + 1) ≡ signs fs n
signs_same fs n lt h = signs_by fs n lt ∙ ap (λ ps. ps ++ signs fs n) (no_sign (form_at fs n) h)

-- The signs behind the first n parts have been applied.
pub record Signed (fs : List NodeForm) (u : Standing) (v : Value) (n : ℕ) (u' : Standing) (v' : Value) : Type 0 where
  pub same : (rs : List Reply) → prefixed_by (reverse (prefixes_of fs)) v (state u.world rs) ≡ prefixed_by (signs fs n) v' (state u'.world rs)
  pub stack : u'.stack ≡ u.stack
  pub beside : Beside u u'
  pub setting : u'.world.setting ≡ u.world.setting
  pub less : room_of u'.world ≤ room_of u.world

pub signed_begins : (fs : List NodeForm) (u : Standing) (v : Value) (n : ℕ) → n ≡ length fs → Signed fs u v n u v
signed_begins fs u v n all = record {
  same = λ rs. ap (λ xs. prefixed_by (reverse (prefixes_of xs)) v (state u.world rs)) (sym (take_all n fs (omega (arith, all))));
  stack = refl;
  beside = beside_here u;
  setting = refl;
  less = omega arith;
}

pub signed_passes : (fs : List NodeForm) (u : Standing) (v : Value) (n : ℕ) (u' : Standing) (v' : Value) → n < length fs → ((p : Prefix) → form_at fs n ≡ form.Prefix p → ⊥) → Signed fs u v (n + 1) u' v' → Signed fs u v n u' v'
signed_passes fs u v n u' v' lt h s = record {
  same = λ rs. s.same rs ∙ ap (λ ps. prefixed_by ps v' (state u'.world rs)) (signs_same fs n lt h);
  stack = s.stack;
  beside = s.beside;
  setting = s.setting;
  less = s.less;
}

passed_room : (u v : Standing) → Passed may_count counted u v → room_of v.world ≤ room_of u.world
passed_room u v p = subst (λ w. room_of w ≤ room_of u.world) (sym p.made) (keeps_count u.world).room

pub signed_applies : (fs : List NodeForm) (u : Standing) (v : Value) (n : ℕ) (p : Prefix) (u1 : Standing) (v1 : Value) (u2 u3 : Standing) (x : Value) → n < length fs → form_at fs n ≡ form.Prefix p → Signed fs u v (n + 1) u1 v1 → Passed may_count counted u1 u2 → Yields (prefixing p v1) u2 (Ok x) u3 → Signed fs u v n u3 x
signed_applies fs u v n p u1 v1 u2 u3 x lt is s pass y = record {
  same = λ rs. s.same rs ∙ ap (λ ps. prefixed_by ps v1 (state u1.world rs)) (signs_more fs n p lt is) ∙ passed may_count counted u1 u2 pass (prefixing p v1 (prefixed_by (signs fs n))) rs ∙ y.same (prefixed_by (signs fs n)) rs;
  stack = y.stack ∙ pass.stack ∙ s.stack;
  beside = beside_on u u1 u3 s.beside (beside_on u1 u2 u3 (passed_beside may_count counted u1 u2 pass) y.beside);
  setting = y.setting ∙ passed_setting may_count counted u1 u2 pass ∙ s.setting;
  less = (let a : room_of u3.world ≤ room_of u2.world = y.less in let b : room_of u2.world ≤ room_of u1.world = passed_room u1 u2 pass in let c : room_of u1.world ≤ room_of u.world = s.less in omega (arith, a, b, c));
}

-- what comes behind the signs that are still to be applied
signed_to : (f : Frame) (u : Standing) (v : Value) (n : ℕ) (u1 : Standing) (v1 : Value) (result : Outcome Move Halt) (w : Standing) → f.kind ≡ kind.PrefixedOperand → Signed (shape_at u.world f.node).parts u v n u1 v1 → ComesTo f.node (rank f) (λ sh a. prefixed_by (signs (shape_at u.world f.node).parts n) v1) u1 result w → ComesTo f.node (rank f) (λ sh a. after f sh a (Normal v)) u result w
signed_to f u v n u1 v1 result w is s c =
    to_kind (rank f) f kind.PrefixedOperand (Normal v) u result w is
    (to_after f.node (rank f) (λ sh a. after_kind a f.node sh f.left f.env f.values kind.PrefixedOperand (Normal v)) (λ sh a. prefixed_by (signs (shape_at u.world f.node).parts n) v1) u u1 result w (λ a rs. s.same rs) s.stack s.beside s.setting s.less c)

pub signed_ends : (f : Frame) (u : Standing) (v : Value) (u1 : Standing) (v1 : Value) → f.kind ≡ kind.PrefixedOperand → 0 < rank f → Signed (shape_at u.world f.node).parts u v 0 u1 v1 → ComesTo f.node (rank f) (λ sh a. after f sh a (Normal v)) u (Ok (Ends (Normal v1))) u1
signed_ends f u v u1 v1 is pos s =
    signed_to f u v 0 u1 v1 (Ok (Ends (Normal v1))) u1 is s (comes_ended f.node (rank f) (λ sh a. prefixed_by (signs (shape_at u.world f.node).parts 0) v1) u1 (Normal v1) pos (λ a rs. refl))

pub signed_met : (f : Frame) (u : Standing) (v : Value) (n : ℕ) (p : Prefix) (u1 : Standing) (v1 : Value) (l : LimitKind) (w : Standing) → f.kind ≡ kind.PrefixedOperand → 0 < rank f → n < length (shape_at u.world f.node).parts → form_at (shape_at u.world f.node).parts n ≡ form.Prefix p → Signed (shape_at u.world f.node).parts u v (n + 1) u1 v1 → Met may_count l u1 w → ComesTo f.node (rank f) (λ sh a. after f sh a (Normal v)) u (Err (Limit l)) w
signed_met f u v n p u1 v1 l w is pos lt sign s m =
    signed_to f u v (n + 1) u1 v1 (Err (Limit l)) w is s
    (subst (λ ps. ComesTo f.node (rank f) (λ sh a. prefixed_by ps v1) u1 (Err (Limit l)) w) (sym (signs_more (shape_at u.world f.node).parts n p lt sign))
    (comes_met f.node (rank f) may_count counted (λ sh a. prefixing p v1 (prefixed_by (signs (shape_at u.world f.node).parts n))) l u1 w m pos))

pub signed_stops : (f : Frame) (u : Standing) (v : Value) (n : ℕ) (p : Prefix) (u1 : Standing) (v1 : Value) (u2 : Standing) (h : Halt) (w : Standing) → f.kind ≡ kind.PrefixedOperand → 0 < rank f → n < length (shape_at u.world f.node).parts → form_at (shape_at u.world f.node).parts n ≡ form.Prefix p → Signed (shape_at u.world f.node).parts u v (n + 1) u1 v1 → Passed may_count counted u1 u2 → Yields (prefixing p v1) u2 (Err h) w → ComesTo f.node (rank f) (λ sh a. after f sh a (Normal v)) u (Err h) w
signed_stops f u v n p u1 v1 u2 h w is pos lt sign s pass y =
    signed_to f u v (n + 1) u1 v1 (Err h) w is s
    (subst (λ ps. ComesTo f.node (rank f) (λ sh a. prefixed_by ps v1) u1 (Err h) w) (sym (signs_more (shape_at u.world f.node).parts n p lt sign))
    (to_tick_stopped f.node (rank f) (prefixing p v1) (λ z sh a. prefixed_by (signs (shape_at u.world f.node).parts n) z) h u1 u2 w pass y pos))

-- in a loop that goes down
pub signed_at : (fs : List NodeForm) (u : Standing) (v : Value) (at : ℕ) (u' : Standing) (v' : Value) → 0 < at → Signed fs u v at u' v' → Signed fs u v ((at - 1) + 1) u' v'
signed_at fs u v at u' v' some s = let e : at ≡ (at - 1) + 1 = omega arith in subst (λ n. Signed fs u v n u' v') e s

pub sign_here : (k : ℕ) (u v : Standing) (n : ℕ) (p : Prefix) → v.world.setting ≡ u.world.setting → form_at (shape_at v.world k).parts n ≡ form.Prefix p → form_at (shape_at u.world k).parts n ≡ form.Prefix p
sign_here k u v n p same is = subst (λ g. form_at (shape_in g.script k).parts n ≡ form.Prefix p) same is
