-- A node of a known form, with so many parts.
use Rattle.std.proofs.Common.{◌≡◌, ◌<◌, ◌-◌, ℕ, suc, List, ap, sym, subst, arith}
use Rattle.std.specs.Prelude.{Result as Outcome}
use Rattle.model_syntax.specs.declared.node.NodeForm.{NodeForm}
use Rattle.model_values.specs.declared.value.Value.{Value}
use Rattle.model_run.specs.declared.ending.Entry.{Entry}
use Rattle.model_run.specs.declared.frame.FrameKind.{FrameKind}
use Rattle.model_run.specs.Around.{Shape, frame, under}
use Rattle.model_run.specs.Forms.{after}
use Rattle.model_run.specs.State.{Env}
use Rattle.cps_frames.specs.Order.{rank}
use Rattle.cps_frames.specs.Moves.{ComesTo}
use Rattle.cps_frames.specs.Standing.{Standing, state, shape_at}
use Rattle.cps_frames.specs.declared.halt.Halt.{Halt}
use Rattle.cps_frames.specs.declared.thread.Move.{Move}
use Rattle.cps_frames.proofs.MoveLaws.{Saying, to_as}

pub to_form : (k r : ℕ) (d : NodeForm) (m : NodeForm → Saying) (u : Standing) (result : Outcome Move Halt) (v : Standing) → (shape_at u.world k).form ≡ d → ComesTo k r (m d) u result v → ComesTo k r (λ sh a. m sh.form sh a) u result v
to_form k r d m u result v is = to_as k r (λ sh a. m sh.form sh a) (m d) u result v (λ a rs. ap (λ f. m f (shape_at u.world k) a (state u.world rs)) is)

-- a number that the node's parts tell
pub to_size : (k r n : ℕ) (size : Shape → ℕ) (says : ℕ → Saying) (u : Standing) (result : Outcome Move Halt) (v : Standing) → n ≡ size (shape_at u.world k) → ComesTo k r (says n) u result v → ComesTo k r (λ sh a. says (size sh) sh a) u result v
to_size k r n size says u result v is = to_as k r (λ sh a. says (size sh) sh a) (says n) u result v (λ a rs. ap (λ m. says m (shape_at u.world k) a (state u.world rs)) (sym is))

-- a number above 0
pub to_more : (k r n : ℕ) (says : ℕ → Saying) (u : Standing) (result : Outcome Move Halt) (v : Standing) → 0 < n → ComesTo k r (says (suc (n - 1))) u result v → ComesTo k r (says n) u result v
to_more k r n says u result v some = to_as k r (says n) (says (suc (n - 1))) u result v (λ a rs. let e : n ≡ suc (n - 1) = omega arith in ap (λ m. says m (shape_at u.world k) a (state u.world rs)) e)

pub to_none : (k r n : ℕ) (says : ℕ → Saying) (u : Standing) (result : Outcome Move Halt) (v : Standing) → n ≡ 0 → ComesTo k r (says 0) u result v → ComesTo k r (says n) u result v
to_none k r n says u result v is = to_as k r (says n) (says 0) u result v (λ a rs. ap (λ m. says m (shape_at u.world k) a (state u.world rs)) is)

-- a frame that has a copy of the variables
pub with_copy : (kind : FrameKind) (node left i : ℕ) (env copy inner : Env) (vs : List Value) (e : Entry) (u : Standing) (result : Outcome Move Halt) (v : Standing) → copy ≡ env → ((r : ℕ) → rank (frame kind node left copy vs) < r → ComesTo node r (λ sh a. under a (frame kind node left copy vs) (after (frame kind node left copy vs) sh a) e i inner) u result v) → (r : ℕ) → rank (frame kind node left env vs) < r → ComesTo node r (λ sh a. under a (frame kind node left env vs) (after (frame kind node left env vs) sh a) e i inner) u result v
with_copy kind node left i env copy inner vs e u result v same h =
    subst (λ x. (r : ℕ) → rank (frame kind node left x vs) < r → ComesTo node r (λ sh a. under a (frame kind node left x vs) (after (frame kind node left x vs) sh a) e i inner) u result v) same h

-- a frame that keeps a copy of these values
pub with_values : (kind : FrameKind) (node left i : ℕ) (env inner : Env) (vs ws : List Value) (e : Entry) (u : Standing) (result : Outcome Move Halt) (v : Standing) → ws ≡ vs → ((r : ℕ) → rank (frame kind node left env ws) < r → ComesTo node r (λ sh a. under a (frame kind node left env ws) (after (frame kind node left env ws) sh a) e i inner) u result v) → (r : ℕ) → rank (frame kind node left env vs) < r → ComesTo node r (λ sh a. under a (frame kind node left env vs) (after (frame kind node left env vs) sh a) e i inner) u result v
with_values kind node left i env inner vs ws e u result v same h =
    subst (λ xs. (r : ℕ) → rank (frame kind node left env xs) < r → ComesTo node r (λ sh a. under a (frame kind node left env xs) (after (frame kind node left env xs) sh a) e i inner) u result v) same h
