-- Each kind of frame goes on soundly, where what stood inside it has ended soundly.
use Rattle.std.proofs.Common.{arith, ◌≡◌, ◌≤◌, ◌-◌, refl, sym, ap, subst, ℕ, zero, suc, Bool, true, false, List, [], ◌∷◌}
use Rattle.std.specs.Prelude.{codes, drop, ◌&&◌}
use Rattle.std.proofs.lemmas.Bool.{eqb-true}
use Rattle.model_syntax.specs.declared.node.NodeForm.{NodeForm}
use Rattle.model_syntax.specs.declared.node.NodeForm.TheVariants as form
use Rattle.model_values.specs.declared.value.Value.{Value}
use Rattle.model_run.specs.declared.frame.FrameKind.{FrameKind}
use Rattle.model_run.specs.declared.frame.FrameKind.TheVariants as kind
use Rattle.model_run.specs.declared.step.Step.{Step}
use Rattle.model_run.specs.declared.step.Step.TheVariants as step
use Rattle.model_run.specs.declared.wait.Answer.{Answer as Reply_answer}
use Rattle.model_run.specs.declared.wait.Answer.TheVariants.{Begin, Granted as GrantedAnswer, Done, Decided as DecidedAnswer, Joined}
use Rattle.model_run.specs.declared.ending.Ending.{Ending}
use Rattle.model_run.specs.declared.ending.Ending.TheVariants.{Normal, Thrown, Returned, Broke, Continued, Answered}
use Rattle.model_run.specs.State.{Common, State, Env, Result, on_value, on_answer}
use Rattle.model_run.specs.Around.{Around, Shape, form_at, arity, frame, value_at, cell_number, position}
use Rattle.model_run.specs.Names.{declare}
use Rattle.model_run.specs.Statements.{arms, has_finally, after_finally}
use Rattle.model_run.specs.Expressions.{choices}
use Rattle.model_run.specs.Calls.{walk_method}
use Rattle.model_run.specs.Steps.{without_folder, without_overrides, sh_done, flag_at, input_decided, joined_branches}
use Rattle.model_run.specs.Forms.{name_of, after_kind}
use Rattle.model_run.specs.FrameTable.{Up_to, Text_or_null, Further, No_more, A_closure, frame_row, gathers, same_form, is_declaration, is_target_form, is_assignment, calls_step, gathered_within, suffixed_within, current}
use Rattle.model_run.specs.Nesting.{MeetsRow, ValuesFit}
use Rattle.model_values.specs.Fitting.{HasClosure, IsIn}
use Rattle.model_values.specs.declared.value.Value.TheVariants.{Cell as InCell}
use Rattle.model_run.specs.Scoping.{Names, frame_names}
use Rattle.model_run.specs.Fitting.{EnvFits, IsFlowNode, holds_executor}
use Rattle.model_run.proofs.LaterLaws.{env_later}
use Rattle.model_run.proofs.Under.{first_of_both, second_of_both}
use Rattle.run_laws.specs.Soundness.{Base, open_in, inside, Shaped, may_declare, seen, EndFits, At, Holds}
use Rattle.run_laws.specs.Evaluation.{AnswerThere, IsAnswer, InsideFits, Grants, AllOfSite, unopened}
use Rattle.run_laws.proofs.NodeLaws.{Real}
use Rattle.run_laws.proofs.Flow.{node_then, HasGone, end_as, from_here, null_goes}
use Rattle.run_laws.proofs.Sources.{Place, Sources, no_declaration}
use Rattle.run_laws.proofs.InsideForms.{target_there}
use Rattle.run_laws.proofs.FrameForms.{closure_plain, if_is, while_is, steps_is, try_is, group_is, chosen_is, joined_is, prefixed_is, suffixed_is, index_is, return_is, throw_is, arm_is, computed_is, Named, each_is, declare_is, IsMethod, walk_is, not_so, first_there, thrown_there, first_kept, StartsKept, starts_kept, any_many, WalkKept, walk_kept, RetryKept, retry_kept}
use Rattle.run_laws.proofs.SoundStatements.{statement_end_goes, if_test_goes, arms_goes, while_after_test, while_body_goes, steps_after_test, steps_first_goes, steps_again_goes, steps_body_goes, each_over_goes, each_body_end, finally_end_goes, catch_goes, try_goes, declare_end_goes, return_end_goes, throw_end_goes}
use Rattle.run_laws.proofs.SoundAssignments.{target_plain, target_quiet, any_there, assigned_goes, index_goes, after_receiver_goes}
use Rattle.run_laws.proofs.SoundExpressions.{chain_quiet, group_end_goes, choice_end_goes, choices_goes, operand_end_goes, joined_operand_end, joined_first_end, prefixed_end, suffixed_end, indexed_end}
use Rattle.run_laws.proofs.SoundGathering.{Next, gathers_plain, gathers_quiet, gathered_end, key_end, gather_goes}
use Rattle.run_laws.proofs.SoundCalls.{walk_end_goes}
use Rattle.run_laws.proofs.SoundForms.{gathered_goes}
use Rattle.run_laws.proofs.SoundSteps.{body_end_goes, body_end_changed, catch_error_end, after_retry_goes}
use Rattle.run_laws.proofs.SoundStepForms.{folder_left, node_granted_goes, node_end_goes, sh_done_goes, input_decided_goes}
use Rattle.run_laws.proofs.SoundBranches.{end_nodes, end_outcomes, joined_goes, branch_end_goes}
use Rattle.run_laws.proofs.SoundBodies.{called_plain, called_quiet, call_end_goes}
use Rattle.run_laws.proofs.Evaluates.{steps_some}

-- the frames of `node`
abbrev pub of_node : FrameKind → Bool
of_node kind.NodeWait = true
of_node kind.NodeBody = true
of_node d = false

-- the closure that a frame keeps
closure_first : (u : Common) (more : Further) (vs : List Value) → ValuesFit (seen u) more (A_closure ∷ []) vs → IsIn HasClosure u.cells (value_at 0 vs)
closure_first u more [] h = absurd h
closure_first u more (v ∷ vs) h = closure_is u v h.0
  where
    closure_is : (u : Common) (v : Value) → seen u A_closure v → IsIn HasClosure u.cells v
    closure_is u (InCell c) h = h
    closure_is u v h = absurd h

step_plain : (s : Step) (f : NodeForm) (env : Env) → calls_step s f env ≡ true → is_declaration f ≡ false
step_plain s (form.Call x) env e = refl
step_plain s f env e = absurd (cc)

walk_plain : (f : NodeForm) → IsMethod f → is_declaration f ≡ false
walk_plain f m = ap is_declaration m.is

module _ (g : Base) (real : Real g.script [] g.script) (shaped : Shaped g.script) (k : ℕ) (sh : Shape) (xs : Names) (place : Place g k sh xs) (a : Around) (src : Sources g shaped k sh xs place a) where
  -- a frame of this kind goes on
  abbrev pub GoesOn : FrameKind → Type 0
  GoesOn d = (left : ℕ) (env : Env) (vs : List Value) (u : Common) → MeetsRow (seen u) sh (frame d k left env vs) → EnvFits u.cells (frame_names d sh left xs) env
      → (e : Ending) (s : State) → At (inside d g) u s → InsideFits sh (frame_row d sh left env).inside s.world.shared e → Holds g sh.form u (after_kind a k sh left env vs d e s)

  -- a part that is no declaration ends as a block does
  part_end : (i : ℕ) → may_declare sh.form i ≡ false → (w : Common) (e : Ending) → EndFits (form_at sh.parts i) w e → EndFits form.Block w e
  part_end i quiet w e h = end_as g (form_at sh.parts i) form.Block w e (no_declaration g shaped k sh xs place i quiet) refl h

  -- behind a wait
  answered_goes : (u : Common) (go : Reply_answer → State → Result) → ((x : Reply_answer) (s : State) → At g u s → AnswerThere s.world.shared x → Holds g sh.form u (go x s)) → (e : Ending) (s : State) → At g u s → IsAnswer s.world.shared e → Holds g sh.form u (on_answer go e s)
  answered_goes u go h (Answered x) s at is = h x s at is
  answered_goes u go h e s at is = absurd is

  -- statements
  statement : GoesOn kind.Statement
  statement left env vs u m fit e s at h = statement_end_goes g shaped k sh xs place a src m.stands left (omega (arith, m.left)) u env fit e s at h

  if_test : GoesOn kind.IfTest
  if_test left env vs u m fit e s at h =
      let is : sh.form ≡ form.If = if_is sh.form (first_of_both _ _ m.stands) in
      if_test_goes g shaped k sh xs place a src is u left env fit (arm_is _ (second_of_both (same_form form.If sh.form) _ m.stands)) (arms a k sh left env)
      (arms_goes g shaped k sh xs place a src is left (omega (arith, m.left)) u env fit) e s at h

  while_test : GoesOn kind.WhileTest
  while_test left env vs u m fit e s at h =
      let is : sh.form ≡ form.While = while_is sh.form m.stands in
      while_after_test g shaped k sh xs place a src is u env fit e s at (part_end 0 (ap (λ f. may_declare f 0) is) s.world.shared e h)

  while_body : GoesOn kind.WhileBody
  while_body left env vs u m fit e s at h =
      let is : sh.form ≡ form.While = while_is sh.form m.stands in
      while_body_goes g shaped k sh xs place a src is u env fit e s at (part_end 1 (ap (λ f. may_declare f 1) is) s.world.shared e h)

  steps_first : GoesOn kind.StepsFirst
  steps_first left env vs u m fit e s at h = steps_first_goes g shaped k sh xs place a src (steps_is sh.form m.stands) u env fit e s at h (steps_some g real shaped k sh xs place a src sh.form refl m.stands)

  steps_test : GoesOn kind.StepsTest
  steps_test left env vs u m fit e s at h =
      let is : sh.form ≡ form.ForSteps = steps_is sh.form m.stands in
      steps_after_test g shaped k sh xs place a src is u env fit e s at (part_end 1 (ap (λ f. may_declare f 1) is) s.world.shared e h)

  steps_body : GoesOn kind.StepsBody
  steps_body left env vs u m fit e s at h =
      let is : sh.form ≡ form.ForSteps = steps_is sh.form m.stands in
      steps_body_goes g shaped k sh xs place a src is u env fit e s at (part_end 3 (ap (λ f. may_declare f 3) is) s.world.shared e h)

  steps_next : GoesOn kind.StepsNext
  steps_next left env vs u m fit e s at h =
      let is : sh.form ≡ form.ForSteps = steps_is sh.form m.stands in
      steps_again_goes g shaped k sh xs place a src is u env fit e s at (part_end 2 (ap (λ f. may_declare f 2) is) s.world.shared e h)

  each_over : GoesOn kind.EachOver
  each_over left env vs u m fit e s at h =
      let n : Named form.ForEach sh.form = each_is sh.form m.stands in
      each_over_goes g shaped k sh xs place a src n.name n.is u env fit e s at (part_end 0 (ap (λ f. may_declare f 0) n.is) s.world.shared e h)

  each_body : GoesOn kind.EachBody
  each_body left env vs u m fit e s at h =
      let n : Named form.ForEach sh.form = each_is sh.form m.stands in
      each_body_end g shaped k sh xs place a src n.name n.is u env (value_at 0 vs) (suc (position (value_at 1 vs))) fit (first_there u No_more (Up_to 2147483646 ∷ []) vs m.values) e s at (part_end 1 (ap (λ f. may_declare f 1) n.is) s.world.shared e h)

  try_block : GoesOn kind.TryBlock
  try_block left env vs u m fit e s at h =
      let is : sh.form ≡ form.Try = try_is sh.form m.stands in
      try_goes g shaped k sh xs place a src is u env fit e s at (part_end 0 (ap (λ f. may_declare f 0) is) s.world.shared e h)

  try_catch : GoesOn kind.TryCatch
  try_catch left env vs u m fit e s at h = catch_goes g shaped k sh xs place a src (try_is sh.form (first_of_both _ _ m.stands)) u env fit e s at h

  -- behind a `finally`, for what was before it
  finally_of : (same_form form.Try sh.form && has_finally sh) ≡ true → (u : Common) (before : Ending) → EndFits form.Block u before → (e : Ending) (s : State) → At g u s → EndFits form.Block s.world.shared e → Holds g sh.form u (after_finally before e s)
  finally_of stands u before b = finally_end_goes g sh.form (ap is_declaration (try_is sh.form (first_of_both _ _ stands))) u before b

  finally_value : GoesOn kind.FinallyAfterValue
  finally_value left env vs u m fit = finally_of m.stands u (Normal (value_at 0 vs)) (first_there u No_more [] vs m.values, refl)

  finally_throw : GoesOn kind.FinallyAfterThrow
  finally_throw left env vs u m fit = finally_of m.stands u (Thrown (cell_number (value_at 0 vs))) (thrown_there u No_more [] vs m.values)

  finally_return : GoesOn kind.FinallyAfterReturn
  finally_return left env vs u m fit = finally_of m.stands u (Returned (value_at 0 vs)) (first_there u No_more [] vs m.values)

  finally_break : GoesOn kind.FinallyAfterBreak
  finally_break left env vs u m fit = finally_of m.stands u Broke tt

  finally_continue : GoesOn kind.FinallyAfterContinue
  finally_continue left env vs u m fit = finally_of m.stands u Continued tt

  declare_value : GoesOn kind.DeclareValue
  declare_value left env vs u m fit e s at h =
      let n : Named form.Declare sh.form = declare_is sh.form (first_of_both _ _ m.stands) in
      subst (λ x. Holds g sh.form u (on_value (declare x) e s)) (sym (ap name_of n.is))
      (declare_end_goes g shaped k sh xs place a src n.name n.is u e s at (part_end 0 (ap (λ f. may_declare f 0) n.is) s.world.shared e h))

  return_value : GoesOn kind.ReturnValue
  return_value left env vs u m fit e s at h = return_end_goes g shaped k sh xs place a src u e s at (part_end 0 (ap (λ f. may_declare f 0) (return_is sh.form (first_of_both _ _ m.stands))) s.world.shared e h)

  throw_value : GoesOn kind.ThrowValue
  throw_value left env vs u m fit e s at h = throw_end_goes g shaped k sh xs place a src u e s at (part_end 0 (ap (λ f. may_declare f 0) (throw_is sh.form m.stands)) s.world.shared e h)

  -- assignments
  target_receiver : GoesOn kind.TargetReceiver
  target_receiver left env vs u m fit =
      let ta : is_target_form sh.form ≡ true = first_of_both _ _ m.stands in
      after_receiver_goes g shaped k sh xs place a src ta (form_at sh.parts 0) refl (target_there g shaped k sh xs place ta) (second_of_both (is_target_form sh.form) _ m.stands) u env fit

  target_index : GoesOn kind.TargetIndex
  target_index left env vs u m fit =
      index_goes g shaped k sh xs place a src (first_of_both _ _ m.stands) u env fit (value_at 0 vs) (first_there u No_more [] vs m.values) (eqb-true _ _ (second_of_both (is_target_form sh.form) _ m.stands))

  assignment_target : (f : NodeForm) → is_assignment f ≡ true → is_target_form f ≡ true
  assignment_target (form.Assign sign) e = refl
  assignment_target f e = absurd (cc)

  assign_value : GoesOn kind.AssignValue
  assign_value left env vs u m fit e s at h =
      let ta : is_target_form sh.form ≡ true = assignment_target sh.form m.stands in
      assigned_goes g sh.form (target_plain sh.form ta) sh u xs env fit vs (any_there u _ vs m.values) e s at (part_end 1 (target_quiet sh.form ta 1) s.world.shared e h)

  -- expressions
  gathered_block : gathers sh.form ≡ true → (i : ℕ) (p : NodeForm) → form_at sh.parts i ≡ p → (w : Common) (e : Ending) → InsideFits sh (gathered_within i p) w e → EndFits form.Block w e
  gathered_block ga i (form.NamedEntry t) is w e h = h
  gathered_block ga i (form.NumberedEntry z) is w e h = h
  gathered_block ga i form.ComputedEntry is w e h = h
  gathered_block ga i p is w e h = part_end i (gathers_quiet sh.form ga i) w e h

  module _ (ga : gathers sh.form ≡ true) (env : Env) where
    gather_plain : is_declaration sh.form ≡ false
    gather_plain = gathers_plain sh.form ga

    gather_done : (m : ℕ) → m ≤ arity sh → Next g shaped k sh xs place a src ga env m
    gather_done m le = gather_goes g shaped k sh xs place a src ga env (λ v fit ws n h. gathered_goes g real shaped k sh xs place a src gather_plain env sh.form refl v fit ws h) m le

  gathered : GoesOn kind.Gathered
  gathered left env vs u m fit e s at h =
      let ga : gathers sh.form ≡ true = first_of_both _ _ m.stands in
      gathered_end g shaped k sh xs place a src ga env left (omega (arith, m.left)) u fit vs (any_there u _ vs m.values) (not_so _ (second_of_both (gathers sh.form) _ m.stands)) (any_many u _ vs m.values)
      (gather_done ga env left (omega (arith, m.left))) e s at (gathered_block ga (current sh left) (form_at sh.parts (current sh left)) refl s.world.shared e h)

  gathered_key : GoesOn kind.GatheredKey
  gathered_key left env vs u m fit =
      let ga : gathers sh.form ≡ true = first_of_both _ _ m.stands in
      key_end g shaped k sh xs place a src ga env left (omega (arith, m.left)) u fit vs (any_there u _ vs m.values) (computed_is _ (second_of_both (gathers sh.form) _ m.stands)) (any_many u _ vs m.values) (gather_done ga env left (omega (arith, m.left)))

  group_value : GoesOn kind.GroupValue
  group_value left env vs u m fit e s at h =
      let is : sh.form ≡ form.Group = group_is sh.form m.stands in
      group_end_goes g shaped k sh xs place a src is u e s at (part_end 0 (ap (λ f. may_declare f 0) is) s.world.shared e h)

  chosen_test : GoesOn kind.ChosenTest
  chosen_test left env vs u m fit =
      let is : sh.form ≡ form.Chosen = chosen_is sh.form (first_of_both _ _ m.stands) in
      choice_end_goes g shaped k sh xs place a src is u left env fit (choices a k sh env left) (λ w l. choices_goes g shaped k sh xs place a src is left (omega (arith, m.left)) w env (env_later u w l xs env fit))
      (form_at sh.parts (arity sh - suc left)) refl (second_of_both (same_form form.Chosen sh.form) _ m.stands)

  chain_operand : GoesOn kind.ChainOperand
  chain_operand left env vs u m fit e s at h = operand_end_goes g shaped k sh xs place a src m.stands left (omega (arith, m.left)) u env fit e s at (part_end (current sh left) (chain_quiet sh.form m.stands (current sh left)) s.world.shared e h)

  joined_first : GoesOn kind.JoinedFirst
  joined_first left env vs u m fit e s at h =
      let is : sh.form ≡ form.Joined = joined_is sh.form m.stands in
      joined_first_end g shaped k sh xs place a src is u env fit e s at (part_end 0 (ap (λ f. may_declare f 0) is) s.world.shared e h)

  joined_operand : GoesOn kind.JoinedOperand
  joined_operand left env vs u m fit = joined_operand_end g shaped k sh xs place a src (joined_is sh.form m.stands) left (omega (arith, m.left)) u env fit (value_at 0 vs) (first_there u No_more [] vs m.values)

  prefixed_operand : GoesOn kind.PrefixedOperand
  prefixed_operand left env vs u m fit e s at h =
      let is : sh.form ≡ form.Prefixed = prefixed_is sh.form m.stands in
      prefixed_end g shaped k sh xs place a src is u e s at (part_end (arity sh - 1) (ap (λ f. may_declare f (arity sh - 1)) is) s.world.shared e h)

  suffixed_block : sh.form ≡ form.Suffixed → (i : ℕ) (w : Common) (e : Ending) → InsideFits sh (suffixed_within i) w e → EndFits form.Block w e
  suffixed_block is zero w e h = part_end 0 (ap (λ f. may_declare f 0) is) w e h
  suffixed_block is (suc i) w e h = h

  suffixed_part : GoesOn kind.SuffixedPart
  suffixed_part left env vs u m fit e s at h =
      let is : sh.form ≡ form.Suffixed = suffixed_is sh.form m.stands in
      suffixed_end g shaped k sh xs place a src is left (omega (arith, m.left)) u env fit e s at (suffixed_block is (current sh left) s.world.shared e h)

  index_value : GoesOn kind.IndexValue
  index_value left env vs u m fit e s at h =
      let is : sh.form ≡ form.Index = index_is sh.form m.stands in
      indexed_end g shaped k sh xs place a src is u (value_at 0 vs) (first_there u No_more [] vs m.values) e s at (part_end 0 (ap (λ f. may_declare f 0) is) s.world.shared e h)

  -- calls
  call_body : GoesOn kind.CallBody
  call_body left env vs u m fit e s at h = call_end_goes g sh.form (called_plain sh.form m.stands) u e s at (part_end 0 (called_quiet sh.form m.stands 0) s.world.shared e h)

  walk_turn : GoesOn kind.WalkTurn
  walk_turn left env vs u m fit =
      let w : IsMethod sh.form = walk_is sh.form m.stands in
      let kept : WalkKept u vs = walk_kept u (walk_method sh.form) vs m.values in
      walk_end_goes g shaped k sh xs place a src (walk_plain sh.form w) w.access w.name w.is u env fit (position (value_at 2 vs)) (value_at 0 vs) (value_at 1 vs) (drop 3 vs) kept.on kept.closure kept.held

  -- steps
  stage_body : GoesOn kind.StageBody
  stage_body left env vs u m fit =
      let old : StartsKept u vs = starts_kept u No_more [] vs m.values in
      body_end_goes g sh.form (step_plain step.Stage sh.form env m.stands) u (codes "stage") (position (value_at 0 vs)) (position (value_at 1 vs)) old.start old.body

  catch_error_body : GoesOn kind.CatchErrorBody
  catch_error_body left env vs u m fit e s at h =
      let old : StartsKept u vs = starts_kept u No_more (Up_to 4 ∷ Text_or_null ∷ []) vs m.values in
      catch_error_end g sh.form (step_plain step.CatchError sh.form env m.stands) u (position (value_at 0 vs)) (position (value_at 1 vs)) (position (value_at 2 vs)) old.start old.body (value_at 3 vs) e s at

  retry_body : GoesOn kind.RetryBody
  retry_body left env vs u m fit =
      let kept : RetryKept u vs = retry_kept u vs m.values in
      after_retry_goes g shaped k sh xs place a src (step_plain step.Retry sh.form env m.stands) env m.stands (position (value_at 2 vs)) (position (value_at 0 vs)) u fit kept.start (value_at 3 vs) kept.closure (position (value_at 1 vs)) kept.body

  -- behind the wait for an executor, which may open a body
  pub node_wait : (left : ℕ) (env : Env) (vs : List Value) (u : Common) → MeetsRow (seen u) sh (frame kind.NodeWait k left env vs) → EnvFits u.cells (frame_names kind.NodeWait sh left xs) env
      → (e : Ending) (s : State) → At (unopened g) u s → IsAnswer s.world.shared e → Grants s.world.shared.held g.around.gone e → AllOfSite g.site s.world.shared.held → Holds g sh.form u (after_kind a k sh left env vs kind.NodeWait e s)
  node_wait left env vs u m fit (Answered x) s at is grants all = node_granted_goes g shaped k sh xs place a src (step_plain step.Node sh.form env m.stands) env m.stands u fit (value_at 0 vs) (closure_first u No_more vs m.values) x s at all grants
  node_wait left env vs u m fit e s at is grants all = absurd is

  -- behind a `node` body
  node_body : HasGone true g.around.gone → GoesOn kind.NodeBody
  node_body some left env vs u m fit =
      let old : StartsKept u vs = starts_kept u No_more [] vs m.values in
      node_end_goes g shaped k sh xs place a src (step_plain step.Node sh.form env m.stands) env some u (position (value_at 0 vs)) (position (value_at 1 vs)) old.start old.body

  dir_body : GoesOn kind.DirBody
  dir_body left env vs u m fit =
      let old : StartsKept u vs = starts_kept u No_more [] vs m.values in
      body_end_changed g sh.form (step_plain step.Dir sh.form env m.stands) (open_in kind.DirBody g.around) u (codes "dir") (position (value_at 0 vs)) (position (value_at 1 vs)) old.start old.body without_folder (λ w. refl) (λ w. refl) (λ w. refl) (λ w. refl) (λ w. refl) (λ w. refl) (λ w. omega arith) (folder_left g.around)

  with_env_body : GoesOn kind.WithEnvBody
  with_env_body left env vs u m fit =
      let old : StartsKept u vs = starts_kept u No_more (Up_to 2147483647 ∷ []) vs m.values in
      body_end_changed g sh.form (step_plain step.WithEnv sh.form env m.stands) g.around u (codes "withEnv") (position (value_at 0 vs)) (position (value_at 1 vs)) old.start old.body (without_overrides (position (value_at 2 vs))) (λ w. refl) (λ w. refl) (λ w. refl) (λ w. refl) (λ w. refl) (λ w. refl) (λ w. omega arith) (λ w x. record { nodes = x.nodes; folders = x.folders; held = x.held })

  sh_wait : GoesOn kind.ShWait
  sh_wait left env vs u m fit = answered_goes u (sh_done (flag_at (value_at 0 vs)) (flag_at (value_at 1 vs))) (λ x s at there. sh_done_goes g shaped k sh xs place a src (step_plain step.Sh sh.form env m.stands) env u (flag_at (value_at 0 vs)) (flag_at (value_at 1 vs)) x s at)

  input_wait : GoesOn kind.InputWait
  input_wait left env vs u m fit = answered_goes u input_decided (λ x s at there. input_decided_goes g shaped k sh xs place a src (step_plain step.Input sh.form env m.stands) env u x s at)

  branches_end : is_declaration sh.form ≡ false → (u : Common) (start : ℕ) → IsFlowNode u.nodes start → (x : Reply_answer) (s : State) → At g u s → AnswerThere s.world.shared x → Holds g sh.form u (joined_branches start x s)
  branches_end plain u start flow (Joined ends) s at there = from_here g sh.form u (joined_branches start (Joined ends)) s at
      (joined_goes g sh.form plain s.world.shared start (node_then u s.world.shared at.later start flow) ends (end_nodes s.world.shared ends there) (end_outcomes s.world.shared ends there))
  branches_end plain u start flow Begin s at there = null_goes g sh.form u plain s at
  branches_end plain u start flow (GrantedAnswer x) s at there = null_goes g sh.form u plain s at
  branches_end plain u start flow (Done code out) s at there = null_goes g sh.form u plain s at
  branches_end plain u start flow (DecidedAnswer proceed name) s at there = null_goes g sh.form u plain s at

  parallel_wait : GoesOn kind.ParallelWait
  parallel_wait left env vs u m fit = answered_goes u (joined_branches (position (value_at 0 vs))) (branches_end (step_plain step.Parallel sh.form env m.stands) u (position (value_at 0 vs)) (first_kept u No_more [] vs m.values))

  branch_body : GoesOn kind.BranchBody
  branch_body left env vs u m fit = branch_end_goes g sh.form (closure_plain sh.form m.stands) u (position (value_at 0 vs)) (first_kept u No_more [] vs m.values)

  -- Every kind of frame but those two.
  kind_goes : (d : FrameKind) → of_node d ≡ false → GoesOn d
  kind_goes kind.Statement e = statement
  kind_goes kind.IfTest e = if_test
  kind_goes kind.WhileTest e = while_test
  kind_goes kind.WhileBody e = while_body
  kind_goes kind.StepsFirst e = steps_first
  kind_goes kind.StepsTest e = steps_test
  kind_goes kind.StepsBody e = steps_body
  kind_goes kind.StepsNext e = steps_next
  kind_goes kind.EachOver e = each_over
  kind_goes kind.EachBody e = each_body
  kind_goes kind.TryBlock e = try_block
  kind_goes kind.TryCatch e = try_catch
  kind_goes kind.FinallyAfterValue e = finally_value
  kind_goes kind.FinallyAfterThrow e = finally_throw
  kind_goes kind.FinallyAfterReturn e = finally_return
  kind_goes kind.FinallyAfterBreak e = finally_break
  kind_goes kind.FinallyAfterContinue e = finally_continue
  kind_goes kind.DeclareValue e = declare_value
  kind_goes kind.TargetReceiver e = target_receiver
  kind_goes kind.TargetIndex e = target_index
  kind_goes kind.AssignValue e = assign_value
  kind_goes kind.ReturnValue e = return_value
  kind_goes kind.ThrowValue e = throw_value
  kind_goes kind.Gathered e = gathered
  kind_goes kind.GatheredKey e = gathered_key
  kind_goes kind.GroupValue e = group_value
  kind_goes kind.ChosenTest e = chosen_test
  kind_goes kind.ChainOperand e = chain_operand
  kind_goes kind.JoinedFirst e = joined_first
  kind_goes kind.JoinedOperand e = joined_operand
  kind_goes kind.PrefixedOperand e = prefixed_operand
  kind_goes kind.SuffixedPart e = suffixed_part
  kind_goes kind.IndexValue e = index_value
  kind_goes kind.CallBody e = call_body
  kind_goes kind.WalkTurn e = walk_turn
  kind_goes kind.StageBody e = stage_body
  kind_goes kind.CatchErrorBody e = catch_error_body
  kind_goes kind.RetryBody e = retry_body
  kind_goes kind.NodeWait e = absurd (cc)
  kind_goes kind.NodeBody e = absurd (cc)
  kind_goes kind.DirBody e = dir_body
  kind_goes kind.WithEnvBody e = with_env_body
  kind_goes kind.ShWait e = sh_wait
  kind_goes kind.InputWait e = input_wait
  kind_goes kind.ParallelWait e = parallel_wait
  kind_goes kind.BranchBody e = branch_body

  -- Every kind of frame but that of the wait for an executor.
  pub frame_goes : (d : FrameKind) → HasGone (holds_executor d) g.around.gone → (d ≡ kind.NodeWait → ⊥) → GoesOn d
  frame_goes kind.NodeWait some never = absurd (never refl)
  frame_goes kind.NodeBody some never = node_body some
  frame_goes d some never = kind_goes d refl
