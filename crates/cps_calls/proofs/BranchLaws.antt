-- Inside the frame of a branch.
use Rattle.std.proofs.Common.{◌≡◌, ◌∙◌, ◌<◌, ◌≤◌, ◌+◌, ◌++◌, ℕ, List, [], ◌∷◌, Option, Some, None, true, inr, refl, sym, ap, subst, arith}
use Rattle.std.specs.Prelude.{Result as Outcome, Ok, Err}
use Rattle.model_syntax.specs.declared.node.NodeForm.{NodeForm}
use Rattle.model_syntax.specs.declared.node.NodeForm.TheVariants as form
use Rattle.model_values.specs.Cells.{Answer, Gives, Throws, unless_limit}
use Rattle.model_values.specs.declared.cell.Cell.{Cell}
use Rattle.model_values.specs.declared.limit.LimitKind.{LimitKind}
use Rattle.model_values.specs.declared.value.Value.{Value}
use Rattle.model_run.specs.declared.ending.Ending.{Ending}
use Rattle.model_run.specs.declared.ending.Ending.TheVariants.{Thrown}
use Rattle.model_run.specs.declared.ending.Entry.TheVariants.{First}
use Rattle.model_run.specs.declared.frame.Frame.{Frame}
use Rattle.model_run.specs.declared.frame.FrameKind.TheVariants as kind
use Rattle.model_run.specs.Around.{Around, Shape, ended, frame, under, whole}
use Rattle.model_run.specs.Callables.{after_call, body, call_limit, opened}
use Rattle.model_run.specs.FrameTable.{is_closure_form}
use Rattle.model_run.specs.Forms.{branched}
use Rattle.model_run.specs.State.{Env, Limited, Result, State, World, answered, guarded, operating, through}
use Rattle.model_run.specs.Steps.{after_branch}
use Rattle.value_view.specs.declared.refusal.OpRefusal.{OpRefusal}
use Rattle.value_view.specs.declared.refusal.OpRefusal.TheVariants as op
use Rattle.cps_frames.specs.Changes.{Done, Met, Passed}
use Rattle.cps_frames.specs.Halts.{halt_of}
use Rattle.cps_frames.specs.Moves.{Comes, ComesTo, IsPart, Part}
use Rattle.cps_frames.specs.Parts.{least_parts}
use Rattle.cps_frames.specs.Standing.{Beside, Standing, room_of, shape_at, state}
use Rattle.cps_frames.specs.declared.halt.Halt.{Halt}
use Rattle.cps_frames.specs.declared.thread.Move.{Move}
use Rattle.cps_frames.specs.declared.thread.Move.TheVariants.{Enter, Hits}
use Rattle.cps_frames.proofs.MoveLaws.{Saying, comes_hits, met, met_beside, passed, passed_beside, passed_setting, to_after}

module _ (k r : ℕ) (f : Frame) (go : Ending → State → Result) where
  -- behind an operation that gives a value, and behind one that throws
  pub to_given_inside : (w : World → Answer) (more : Value → Saying) (x : Value) (u u' : Standing) (result : Outcome Move Halt) (v : Standing) → Done w u (Ok x) u' → ComesTo k r (λ sh a s. through f go (more x sh a s)) u' result v → ComesTo k r (λ sh a s. through f go (operating w (λ y. more y sh a) s)) u result v
  to_given_inside w more x u u' result v d =
      to_after k r _ (λ sh a s. through f go (more x sh a s)) u u' result v
      (λ a rs. ap (λ b. through f go (answered b (λ y. more y (shape_at u.world k) a) (state u.world rs))) d.answers ∙ ap (λ y. through f go (more x (shape_at u.world k) a (state y rs))) (sym d.world))
      d.stack d.beside (ap (λ y. y.setting) d.world) (subst (λ y. room_of y ≤ room_of u.world) (sym d.world) (omega arith))

  pub to_thrown_inside : (w : World → Answer) (c : ℕ) (u u' : Standing) (result : Outcome Move Halt) (v : Standing) → Done w u (Err (op.Thrown c)) u' → ComesTo k r (λ sh a. go (Thrown c)) u' result v → ComesTo k r (λ sh a s. through f go (operating w ended s)) u result v
  unfolding through
  to_thrown_inside w c u u' result v d =
      to_after k r _ (λ sh a. go (Thrown c)) u u' result v
      (λ a rs. ap (λ b. through f go (answered b ended (state u.world rs))) d.answers ∙ ap (λ y. go (Thrown c) (state y rs)) (sym d.world))
      d.stack d.beside (ap (λ y. y.setting) d.world) (subst (λ y. room_of y ≤ room_of u.world) (sym d.world) (omega arith))

  -- where an operation meets a limit
  pub met_inside : (w : World → Answer) (more : Value → Saying) (l : LimitKind) (u v : Standing) → Done w u (Err (op.Limit l)) v → 0 < r → Comes k r (λ sh a s. through f go (operating w (λ y. more y sh a) s)) u (Hits l) v
  unfolding through
  met_inside w more l u v d pos =
      comes_hits k r _ u v l d.stack d.beside (ap (λ y. y.setting) d.world) (subst (λ y. room_of y ≤ room_of u.world) (sym d.world) (omega arith)) pos
      (λ a rs. ap (λ b. through f go (answered b (λ y. more y (shape_at u.world k) a) (state u.world rs))) d.answers ∙ ap (λ y. Limited l (state y rs)) (sym d.world))

  -- where an operation that does not throw gives no value
  pub to_refused_inside : (w : World → Answer) (more : Value → Saying) (o : OpRefusal) (u v : Standing) → ((h : List Cell) (c : ℕ) → w u.world ≡ Throws h c → ⊥) → Done w u (Err o) v → 0 < r → ComesTo k r (λ sh a s. through f go (operating w (λ y. more y sh a) s)) u (Err (halt_of o)) v
  to_refused_inside w more op.Memory u v none d pos = tt
  to_refused_inside w more (op.Thrown c) u v none d pos = absurd (none _ _ d.answers)
  to_refused_inside w more (op.Limit l) u v none d pos = met_inside w more l u v d pos

  -- behind a call that was opened, and where the limit on calls was met
  pub to_opened_inside : (more : Saying) (u u' : Standing) (result : Outcome Move Halt) (v : Standing) → Passed call_limit opened u u' → ComesTo k r (λ sh a s. through f go (more sh a s)) u' result v → ComesTo k r (λ sh a s. through f go (guarded call_limit opened (more sh a) s)) u result v
  to_opened_inside more u u' result v p =
      to_after k r _ (λ sh a s. through f go (more sh a s)) u u' result v
      (λ a rs. ap (through f go) (passed call_limit opened u u' p (more (shape_at u.world k) a) rs)) p.stack (passed_beside call_limit opened u u' p) (passed_setting call_limit opened u u' p)
      (subst (λ y. room_of y ≤ room_of u.world) (sym p.made) (omega arith))

  pub full_inside : (more : Saying) (l : LimitKind) (u v : Standing) → Met call_limit l u v → 0 < r → Comes k r (λ sh a s. through f go (guarded call_limit opened (more sh a) s)) u (Hits l) v
  unfolding through
  full_inside more l u v p pos =
      comes_hits k r _ u v l p.stack (met_beside call_limit l u v p) (ap (λ y. y.setting) p.world) (subst (λ y. room_of y ≤ room_of u.world) (sym p.world) (omega arith)) pos
      (λ a rs. ap (through f go) (met call_limit opened l u v p (more (shape_at u.world k) a) rs))

-- what makes cells alone throws nothing
pub makes_only : (o : Option LimitKind) (g h : List Cell) (x : Value) (c : ℕ) → unless_limit o (Gives g x) ≡ Throws h c → ⊥
makes_only None g h x c e = absurd (cc e)
makes_only (Some l) g h x c e = absurd (cc e)

-- a closure has a body, and as the closure of a branch it runs without arguments
pub closure_part : (f : NodeForm) → is_closure_form f ≡ true → 1 ≤ least_parts f
closure_part (form.Closure heads) e = omega arith
closure_part f e = absurd (cc e)

pub branch_called : (f : NodeForm) → is_closure_form f ≡ true → (a : Around) (k : ℕ) (sh : Shape) (env : Env) (start : ℕ) (s : State) → branched a k sh env start f s ≡ through (frame kind.BranchBody k 0 env (whole start ∷ [])) (after_branch start) (body a sh k env [] s)
branch_called (form.Closure heads) e a k sh env start s = refl
branch_called f e a k sh env start s = absurd (cc e)

-- the body of the closure of a branch, under both frames
pub comes_inside_branch : (k r p start : ℕ) (env bound : Env) (u v : Standing) → v.world ≡ u.world → v.stack ≡ u.stack ++ frame kind.BranchBody k 0 env (whole start ∷ []) ∷ frame kind.CallBody k 0 env [] ∷ [] → Beside u v → IsPart u.world.setting.script k 0 p → 2 < r → Comes k r (λ sh a s. through (frame kind.BranchBody k 0 env (whole start ∷ [])) (after_branch start) (under a (frame kind.CallBody k 0 env []) after_call First 0 bound s)) u (Enter First p bound) v
comes_inside_branch k r p start env bound u v world stack beside part above = record {
  frames = frame kind.BranchBody k 0 env (whole start ∷ []) ∷ frame kind.CallBody k 0 env [] ∷ [];
  pushed = stack;
  new = (refl, (refl, tt));
  how = Part 0;
  placed = (part, tt);
  setting = ap (λ w. w.setting) world;
  beside = beside;
  same = λ a rs. ap (λ w. through (frame kind.BranchBody k 0 env (whole start ∷ [])) (after_branch start) (under a (frame kind.CallBody k 0 env []) after_call First 0 bound (state w rs))) (sym world);
  less = subst (λ w. room_of w + 0 ≤ room_of u.world) (sym world) (omega arith);
  falls = inr (tt, (let l : 2 < r = above in omega (arith, l)));
}
