-- What a row of the table of frames says of a node's form, and of the values that a frame keeps.
use Rattle.std.proofs.Common.{◌≡◌, refl, sym, ap, subst, ℕ, zero, suc, Bool, true, false, List, [], ◌∷◌, length}
use Rattle.std.specs.Prelude.{slice_get, drop, pos, not}
use Rattle.std.specs.List.{AllByRecursion as AllAre}
use Rattle.model_syntax.specs.declared.node.NodeForm.{NodeForm}
use Rattle.model_syntax.specs.declared.node.NodeForm.TheVariants as form
use Rattle.model_syntax.specs.declared.tree.Access.{Access}
use Rattle.model_values.specs.Fitting.{There, HasThrowable, HasClosure}
use Rattle.model_values.specs.MethodNames.{Method, Collect, Find, FindAll}
use Rattle.model_values.proofs.CellGrowth.{cell_there}
use Rattle.model_values.specs.declared.value.Value.{Value}
use Rattle.model_values.specs.declared.value.Value.TheVariants.{Null, Bool as Truth, Int as Whole, Cell as InCell}
use Rattle.model_run.specs.declared.frame.FrameKind.{FrameKind}
use Rattle.model_run.specs.declared.frame.FrameKind.TheVariants as kind
use Rattle.model_run.specs.State.{Common, Env}
use Rattle.model_run.specs.Around.{Shape, form_at, value_at, cell_number, position}
use Rattle.model_run.specs.FrameTable.{Executor_wait, frame_row, suffixed_within, gathered_within, current, is_closure_form, Sort, Any, Up_to, A_count, Flow_node, A_closure, A_throwable, Further, No_more, One_more, Any_more, same_form, is_each, is_arm, is_method, is_walk, is_computed, is_declaration, any_values, walk_values, walk_further}
use Rattle.model_run.specs.Nesting.{FurtherFit, ValuesFit}
use Rattle.model_run.specs.Fitting.{IsFlowNode}
use Rattle.model_run.proofs.Under.{first_of_both}
use Rattle.run_laws.specs.Soundness.{seen}

-- forms
pub if_is : (f : NodeForm) → same_form form.If f ≡ true → f ≡ form.If
if_is form.If e = refl
if_is f e = absurd (cc)

pub while_is : (f : NodeForm) → same_form form.While f ≡ true → f ≡ form.While
while_is form.While e = refl
while_is f e = absurd (cc)

pub steps_is : (f : NodeForm) → same_form form.ForSteps f ≡ true → f ≡ form.ForSteps
steps_is form.ForSteps e = refl
steps_is f e = absurd (cc)

pub try_is : (f : NodeForm) → same_form form.Try f ≡ true → f ≡ form.Try
try_is form.Try e = refl
try_is f e = absurd (cc)

pub group_is : (f : NodeForm) → same_form form.Group f ≡ true → f ≡ form.Group
group_is form.Group e = refl
group_is f e = absurd (cc)

pub chosen_is : (f : NodeForm) → same_form form.Chosen f ≡ true → f ≡ form.Chosen
chosen_is form.Chosen e = refl
chosen_is f e = absurd (cc)

pub joined_is : (f : NodeForm) → same_form form.Joined f ≡ true → f ≡ form.Joined
joined_is form.Joined e = refl
joined_is f e = absurd (cc)

pub prefixed_is : (f : NodeForm) → same_form form.Prefixed f ≡ true → f ≡ form.Prefixed
prefixed_is form.Prefixed e = refl
prefixed_is f e = absurd (cc)

pub suffixed_is : (f : NodeForm) → same_form form.Suffixed f ≡ true → f ≡ form.Suffixed
suffixed_is form.Suffixed e = refl
suffixed_is f e = absurd (cc)

pub index_is : (f : NodeForm) → same_form form.Index f ≡ true → f ≡ form.Index
index_is form.Index e = refl
index_is f e = absurd (cc)

pub return_is : (f : NodeForm) → same_form form.Return f ≡ true → f ≡ form.Return
return_is form.Return e = refl
return_is f e = absurd (cc)

pub throw_is : (f : NodeForm) → same_form form.Throw f ≡ true → f ≡ form.Throw
throw_is form.Throw e = refl
throw_is f e = absurd (cc)

pub arm_is : (f : NodeForm) → is_arm f ≡ true → f ≡ form.Arm
arm_is form.Arm e = refl
arm_is f e = absurd (cc)

pub computed_is : (f : NodeForm) → is_computed f ≡ true → f ≡ form.ComputedEntry
computed_is form.ComputedEntry e = refl
computed_is f e = absurd (cc)

-- forms with a name
pub record Named (make : List ℕ → NodeForm) (f : NodeForm) : Type 0 where
  pub name : List ℕ
  pub is : f ≡ make name

pub each_is : (f : NodeForm) → is_each f ≡ true → Named form.ForEach f
each_is (form.ForEach x) e = record { name = x; is = refl }
each_is f e = absurd (cc)

pub declare_is : (f : NodeForm) → is_declaration f ≡ true → Named form.Declare f
declare_is (form.Declare x) e = record { name = x; is = refl }
declare_is f e = absurd (cc)

pub record IsMethod (f : NodeForm) : Type 0 where
  pub access : Access
  pub name : List ℕ
  pub is : f ≡ form.Method access name

method_is : (f : NodeForm) → is_method f ≡ true → IsMethod f
method_is (form.Method access name) e = record { access = access; name = name; is = refl }
method_is f e = absurd (cc)

pub walk_is : (f : NodeForm) → is_walk f ≡ true → IsMethod f
walk_is f e = method_is f (first_of_both (is_method f) _ e)

pub closure_plain : (f : NodeForm) → is_closure_form f ≡ true → is_declaration f ≡ false
closure_plain (form.Closure heads) e = refl
closure_plain f e = absurd (cc)

pub not_so : (b : Bool) → not b ≡ true → b ≡ false
not_so false e = refl
not_so true e = absurd (cc)

-- kept values
module _ (u : Common) where
  pub first_there : (fu : Further) (ss : List Sort) (vs : List Value) → ValuesFit (seen u) fu (Any ∷ ss) vs → There u.cells (value_at 0 vs)
  first_there fu ss [] h = absurd h
  first_there fu ss (v ∷ vs) h = h.0

  pub thrown_there : (fu : Further) (ss : List Sort) (vs : List Value) → ValuesFit (seen u) fu (A_throwable ∷ ss) vs → HasThrowable (slice_get u.cells (cell_number (value_at 0 vs)))
  thrown_there fu ss [] h = absurd h
  thrown_there fu ss (InCell c ∷ vs) h = h.0
  thrown_there fu ss (Null ∷ vs) h = absurd h.0
  thrown_there fu ss (Truth b ∷ vs) h = absurd h.0
  thrown_there fu ss (Whole z ∷ vs) h = absurd h.0

  closure_there : (v : Value) → seen u A_closure v → There u.cells v
  closure_there (InCell c) h = cell_there HasClosure (λ h. h) u.cells c h
  closure_there Null h = tt
  closure_there (Truth b) h = tt
  closure_there (Whole z) h = tt

  flow_node : (v : Value) → seen u Flow_node v → IsFlowNode u.nodes (position v)
  flow_node (Whole (pos n)) h = h
  flow_node v h = absurd h

  -- so many values of any sort
  pub any_many : (n : ℕ) (vs : List Value) → ValuesFit (seen u) No_more (any_values n) vs → length vs ≡ n
  any_many zero [] h = refl
  any_many zero (v ∷ vs) h = absurd h
  any_many (suc n) [] h = absurd h
  any_many (suc n) (v ∷ vs) h = ap suc (any_many n vs h.1)

  further_there : (fu : Further) (vs : List Value) → FurtherFit (seen u) fu vs → AllAre (There u.cells) vs
  further_there fu [] h = tt
  further_there No_more (v ∷ vs) h = absurd h
  further_there One_more (v ∷ vs) h = (h.0, subst (AllAre (There u.cells)) (sym h.1) tt)
  further_there Any_more (v ∷ vs) h = (h.0, further_there Any_more vs h.1)

  any_there : (fu : Further) (vs : List Value) → ValuesFit (seen u) fu (Any ∷ []) vs → AllAre (There u.cells) vs
  any_there fu [] h = absurd h
  any_there fu (v ∷ vs) h = (h.0, further_there fu vs h.1)

  held_there : (m : Method) (vs : List Value) → ValuesFit (seen u) (walk_further m) (walk_values m) vs → AllAre (There u.cells) vs
  held_there Find vs h = any_there One_more vs h
  held_there FindAll vs h = any_there Any_more vs h
  held_there Collect vs h = further_there Any_more vs h
  held_there m vs h = further_there No_more vs h

  -- what the frame of a walk keeps
  pub record WalkKept (vs : List Value) : Type 0 where
    pub on : There u.cells (value_at 0 vs)
    pub closure : There u.cells (value_at 1 vs)
    pub held : AllAre (There u.cells) (drop 3 vs)

  pub walk_kept : (m : Method) (vs : List Value) → ValuesFit (seen u) (walk_further m) (Any ∷ A_closure ∷ A_count ∷ walk_values m) vs → WalkKept vs
  walk_kept m [] h = absurd h
  walk_kept m (v ∷ []) h = absurd h.1
  walk_kept m (v ∷ f ∷ []) h = absurd h.1.1
  walk_kept m (v ∷ f ∷ i ∷ vs) h = record { on = h.0; closure = closure_there f h.1.0; held = held_there m vs h.1.1.1 }

  -- a flow node that stands first
  pub first_kept : (fu : Further) (ss : List Sort) (vs : List Value) → ValuesFit (seen u) fu (Flow_node ∷ ss) vs → IsFlowNode u.nodes (position (value_at 0 vs))
  first_kept fu ss [] h = absurd h
  first_kept fu ss (v ∷ vs) h = flow_node v h.0

  -- the first flow nodes of a block and of its body
  pub record StartsKept (vs : List Value) : Type 0 where
    pub start : IsFlowNode u.nodes (position (value_at 0 vs))
    pub body : IsFlowNode u.nodes (position (value_at 1 vs))

  pub starts_kept : (fu : Further) (ss : List Sort) (vs : List Value) → ValuesFit (seen u) fu (Flow_node ∷ Flow_node ∷ ss) vs → StartsKept vs
  starts_kept fu ss [] h = absurd h
  starts_kept fu ss (a ∷ []) h = absurd h.1
  starts_kept fu ss (a ∷ b ∷ vs) h = record { start = flow_node a h.0; body = flow_node b h.1.0 }

  -- what the frame of `retry` keeps
  pub record RetryKept (vs : List Value) : Type 0 where
    pub start : IsFlowNode u.nodes (position (value_at 0 vs))
    pub body : IsFlowNode u.nodes (position (value_at 1 vs))
    pub closure : There u.cells (value_at 3 vs)

  pub retry_kept : (vs : List Value) → ValuesFit (seen u) No_more (Flow_node ∷ Flow_node ∷ A_count ∷ A_closure ∷ []) vs → RetryKept vs
  retry_kept [] h = absurd h
  retry_kept (a ∷ []) h = absurd h.1
  retry_kept (a ∷ b ∷ []) h = absurd h.1.1
  retry_kept (a ∷ b ∷ c ∷ []) h = absurd h.1.1.1
  retry_kept (a ∷ b ∷ c ∷ f ∷ vs) h = record { start = flow_node a h.0; body = flow_node b h.1.0; closure = closure_there f h.1.1.1.0 }

-- the frame that waits for an executor
suffix_waits : (n : ℕ) → suffixed_within n ≡ Executor_wait → ⊥
suffix_waits zero e = absurd (cc)
suffix_waits (suc n) e = absurd (cc)

gathered_waits : (i : ℕ) (f : NodeForm) → gathered_within i f ≡ Executor_wait → ⊥
gathered_waits i (form.NamedEntry t) e = absurd (cc)
gathered_waits i (form.NumberedEntry z) e = absurd (cc)
gathered_waits i form.ComputedEntry e = absurd (cc)
gathered_waits i f e = absurd (cc)

pub executor_waits : (d : FrameKind) (sh : Shape) (left : ℕ) (env : Env) → (frame_row d sh left env).inside ≡ Executor_wait → d ≡ kind.NodeWait
executor_waits kind.NodeWait sh left env e = refl
executor_waits kind.SuffixedPart sh left env e = absurd (suffix_waits (current sh left) e)
executor_waits kind.Gathered sh left env e = absurd (gathered_waits (current sh left) (form_at sh.parts (current sh left)) e)
executor_waits d sh left env e = absurd (cc)
