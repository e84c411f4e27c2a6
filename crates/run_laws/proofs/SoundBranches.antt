-- The step `parallel`, the ends of branches, and each step as it begins: sound from a sound state on.
use Rattle.std.proofs.Common.{arith, ◌≡◌, ◌≤◌, ◌+◌, refl, ℕ, suc, Bool, true, false, List, [], ◌∷◌, ◌++◌, length, length-append, Option, Some, None, ◌<◌}
use Rattle.std.specs.Prelude.{slice_get, codes, map, nat_lt, unwrap_or, if◌then◌else◌}
use Rattle.std.specs.List.{AllByRecursion as AllAre}
use Rattle.indexmap.specs.IndexMap.{insert_all}
use Rattle.model_syntax.specs.declared.node.NodeForm.{NodeForm}
use Rattle.model_syntax.specs.declared.node.NodeForm.TheVariants as form
use Rattle.model_values.specs.Cells.{new_map}
use Rattle.model_values.specs.Keys.{same_key}
use Rattle.model_values.specs.Kinds.{Kind, kind, pairs}
use Rattle.model_values.specs.TextOf.{key_text}
use Rattle.model_values.specs.Fitting.{There, HasVariable, HasMap, HasClosure, IsIn, CellFits, CellsFit}
use Rattle.model_values.proofs.CellGrowth.{Before, all_append, all_get, new_map_grows, map_is_there, map_there}
use Rattle.model_values.proofs.OperatorGrowth.{all_inserts}
use Rattle.model_values.proofs.LaterLaws.{throwable_later, variables_later, all_weaker}
use Rattle.model_values.specs.declared.value.Value.{Value}
use Rattle.model_values.specs.declared.value.Value.TheVariants.{Null, Bool as Truth, Int as Whole, Cell as InCell}
use Rattle.model_values.specs.declared.value.Outcome.{Outcome}
use Rattle.model_values.specs.declared.value.Outcome.TheVariants.{Value as ValueOutcome, Thrown as ThrownOutcome}
use Rattle.model_values.specs.declared.key.Key.{Key}
use Rattle.model_values.specs.declared.cell.Cell.{Cell}
use Rattle.model_values.specs.declared.cell.Cell.TheVariants.{Variable, Text as TextCell, List as ListCell, Map as MapCell, Closure as ClosureCell, Thrown as ThrownCell}
use Rattle.model_run.specs.declared.callee.Callee.{Callee}
use Rattle.model_run.specs.declared.step.Step.{Step}
use Rattle.model_run.specs.declared.step.Step.TheVariants as step
use Rattle.model_run.specs.declared.wait.BranchEnd.{BranchEnd}
use Rattle.model_run.specs.declared.wait.Answer.TheVariants.{Joined}
use Rattle.model_run.specs.declared.result.BuildResult.TheVariants.{Unstable}
use Rattle.model_values.specs.declared.throwable.Class.TheVariants.{Abort, IllegalArgument}
use Rattle.model_run.specs.declared.flow.NodeKind.TheVariants.{Block}
use Rattle.model_run.specs.declared.frame.FrameKind.TheVariants as kind
use Rattle.model_run.specs.declared.ending.Branch.{Branch}
use Rattle.model_run.specs.declared.ending.Asked.TheVariants.{ForBranches}
use Rattle.model_run.specs.declared.ending.Ending.{Ending}
use Rattle.model_run.specs.declared.ending.Ending.TheVariants.{Normal, Thrown, Returned, Broke, Continued, Declared, Answered}
use Rattle.model_run.specs.State.{Common, World, State, Env, Ended, with_world, changed, seeing}
use Rattle.model_run.specs.Around.{Around, Shape, frame, ended, cells, limits, whole}
use Rattle.model_run.specs.Callables.{closure_in, closure_of}
use Rattle.model_run.specs.FlowNodes.{next_node, noted, noted_branch, branch_label, body_line, branch_name, pipeline}
use Rattle.model_run.specs.StepTable.{Given, given, Bound, Binds, Refuses, Stops_at, bind_step, text_given, is_true}
use Rattle.model_run.specs.Steps.{text_or_empty, named_result, worsened, sh_in, place_of, with_callee, branches_of, branch_entries, branches_given, values_of, outcome_value, is_thrown, earlier, first_failure, thrown_by, joined_as, joined_branches, after_parallel, no_branches, fork_or_none, begin_branches, parallel, branch_failed, after_branch, atom_step, block_step, bound_step, begin_step, tries_given, overrides_of}
use Rattle.model_run.specs.Labels.{kept_label}
use Rattle.model_run.specs.FrameTable.{is_declaration, calls_step}
use Rattle.model_run.specs.Scoping.{Names}
use Rattle.model_run.specs.Fitting.{EnvFits, closure_rule, IsFlowNode, OutcomeFits, EndFits as JoinedEnd, Later}
use Rattle.model_run.proofs.LaterLaws.{env_later}
use Rattle.run_laws.specs.Soundness.{Base, Shaped, BranchFits, EndFits, Sound, left, At, Holds, Goes}
use Rattle.model_values.specs.Cells.{cell_size}
use Rattle.run_laws.proofs.Asked.{ArgsAsk, BoundAsks, bound_asks}
use Rattle.run_laws.proofs.Sizes.{rank_low, overrides_low}
use Rattle.run_laws.proofs.Binding.{GivenThere, BoundThere, given_there, bound_there}
use Rattle.run_laws.proofs.Flow.{answer_goes, all_there_then, there_then, later_then, node_then, at_self, at_then, left_later, from_here, end_goes, null_goes, Moves, at_moved, wait_goes, stopped_here}
use Rattle.run_laws.proofs.Sources.{Place, Sources, sits_here}
use Rattle.run_laws.proofs.SoundAssignments.{before_of, operate_goes}
use Rattle.run_laws.proofs.SoundSteps.{new_node, noted_moves, branch_moves, noted_spends, end_body_goes, end_block_goes, end_branches_goes, atom_goes, atom_asks, block_goes, logging_asks, logging_goes, aside_goes, throwing_goes, ending_goes}
use Rattle.run_laws.proofs.SoundStepForms.{place_fits, closure_there, stage_goes, catch_error_goes, retry_goes, with_env_goes, node_goes, dir_in_goes, sh_in_goes, input_asks_goes}

-- closures of the script
record IsClosure (g : Base) (u : Common) (c : Callee) : Type 0 where
  rule : closure_rule g.script c.node c.env
  variables : AllAre (λ x. HasVariable (slice_get u.cells x.cell)) c.env

abbrev ClosureIf : Base → Common → Option Callee → Type 0
ClosureIf g u None = Unit {0}
ClosureIf g u (Some c) = IsClosure g u c

closure_in_is : (g : Base) (u : Common) (o : Option Cell) (c : ℕ) → slice_get u.cells c ≡ o → CellsFit (closure_rule g.script) u.cells → ClosureIf g u (closure_in o)
closure_in_is g u (Some (ClosureCell k env)) c e fit = let h : CellFits (closure_rule g.script) u.cells (ClosureCell k env) = all_get (CellFits (closure_rule g.script) u.cells) u.cells c (ClosureCell k env) e fit in record { rule = h.0; variables = h.1 }
closure_in_is g u (Some (Variable v)) c e fit = tt
closure_in_is g u (Some (TextCell t)) c e fit = tt
closure_in_is g u (Some (ListCell vs)) c e fit = tt
closure_in_is g u (Some (MapCell es)) c e fit = tt
closure_in_is g u (Some (ThrownCell d m)) c e fit = tt
closure_in_is g u None c e fit = tt

closure_is : (g : Base) (w : World) (v : Value) → Sound g w → ClosureIf g w.shared (closure_of w v)
closure_is g w (InCell c) sound = closure_in_is g w.shared (slice_get (cells w) c) c refl sound.cells
closure_is g w Null sound = tt
closure_is g w (Truth b) sound = tt
closure_is g w (Whole z) sound = tt

abbrev Branches : Base → Common → List (List ℕ × Callee) → Type 0
Branches g u bs = AllAre (λ b. IsClosure g u b.1) bs

with_callee_is : (g : Base) (u : Common) (name : List ℕ) (o : Option Callee) (rest : List (List ℕ × Callee)) → ClosureIf g u o → Branches g u rest → Branches g u (with_callee name o rest)
with_callee_is g u name None rest h r = r
with_callee_is g u name (Some c) rest h r = (h, r)

branches_are : (g : Base) (w : World) → Sound g w → (es : List (Key × Value)) → Branches g w.shared (branches_of w es)
branches_are g w sound [] = tt
branches_are g w sound (e ∷ es) = with_callee_is g w.shared (key_text e.0) (closure_of w e.1) (branches_of w es) (closure_is g w e.1 sound) (branches_are g w sound es)

entries_are : (g : Base) (w : World) → Sound g w → (k : Kind) → Branches g w.shared (branch_entries w k)
entries_are g w sound (pairs c es) = branches_are g w sound es
entries_are g w sound k = tt

given_are : (g : Base) (w : World) → Sound g w → (o : Option Value) → Branches g w.shared (branches_given w o)
given_are g w sound None = tt
given_are g w sound (Some v) = entries_are g w sound (kind (cells w) v)

branches_then : (g : Base) (u v : Common) → Later u v → (bs : List (List ℕ × Callee)) → Branches g u bs → Branches g v bs
branches_then g u v l bs h = all_weaker _ _ (λ b c. record { rule = c.rule; variables = variables_later u.cells v.cells l.cells (b.1).env c.variables }) bs h

branch_then : (g : Base) (u v : Common) → Later u v → (bs : List Branch) → AllAre (BranchFits g.script u) bs → AllAre (BranchFits g.script v) bs
branch_then g u v l bs h = all_weaker _ _ (λ b c. record { closure = c.closure; variables = variables_later u.cells v.cells l.cells b.env c.variables; head = node_then u v l b.head c.head }) bs h

-- the last flow nodes of branches that have ended
pub end_nodes : (u : Common) (ends : List BranchEnd) → AllAre (λ b. JoinedEnd u b.end) ends → AllAre (IsFlowNode u.nodes) (map (λ b. b.end.node) ends)
end_nodes u [] h = tt
end_nodes u (b ∷ bs) h = ((h.0).0, end_nodes u bs h.1)

pub end_outcomes : (u : Common) (ends : List BranchEnd) → AllAre (λ b. JoinedEnd u b.end) ends → AllAre (λ b. OutcomeFits u b.end.outcome) ends
end_outcomes u [] h = tt
end_outcomes u (b ∷ bs) h = ((h.0).1, end_outcomes u bs h.1)

-- what branches ended with is there
abbrev pub OutcomesFit : Common → List BranchEnd → Type 0
OutcomesFit u ends = AllAre (λ b. OutcomeFits u b.end.outcome) ends

pub outcome_then : (u v : Common) → Later u v → (o : Outcome) → OutcomeFits u o → OutcomeFits v o
outcome_then u v l (ValueOutcome x) h = there_then u v l x h
outcome_then u v l (ThrownOutcome c) h = throwable_later u.cells v.cells l.cells c h

pub outcomes_then : (u v : Common) → Later u v → (ends : List BranchEnd) → OutcomesFit u ends → OutcomesFit v ends
outcomes_then u v l ends h = all_weaker _ _ (λ b. outcome_then u v l b.end.outcome) ends h

abbrev EndIf : Common → Option BranchEnd → Type 0
EndIf u None = Unit {0}
EndIf u (Some b) = OutcomeFits u b.end.outcome

earlier_one : (u : Common) (t : Bool) (b d : BranchEnd) → OutcomeFits u b.end.outcome → OutcomeFits u d.end.outcome → EndIf u (if t then Some b else Some d)
earlier_one u true b d x y = x
earlier_one u false b d x y = y

earlier_fits : (u : Common) (b : BranchEnd) (o : Option BranchEnd) → OutcomeFits u b.end.outcome → EndIf u o → EndIf u (earlier b o)
earlier_fits u b None x y = x
earlier_fits u b (Some d) x y = earlier_one u (nat_lt b.end.place d.end.place) b d x y

failure_if : (u : Common) (t : Bool) (b : BranchEnd) (rest : Option BranchEnd) → OutcomeFits u b.end.outcome → EndIf u rest → EndIf u (if t then earlier b rest else rest)
failure_if u true b rest x y = earlier_fits u b rest x y
failure_if u false b rest x y = y

failure_fits : (u : Common) (ends : List BranchEnd) → OutcomesFit u ends → EndIf u (first_failure ends)
failure_fits u [] h = tt
failure_fits u (b ∷ bs) h = failure_if u (is_thrown b.end.outcome) b (first_failure bs) h.0 (failure_fits u bs h.1)

value_there : (u : Common) (o : Outcome) → OutcomeFits u o → There u.cells (outcome_value o)
value_there u (ValueOutcome v) h = h
value_there u (ThrownOutcome c) h = tt

values_there : (u : Common) (ends : List BranchEnd) → OutcomesFit u ends → AllAre (λ e. There u.cells e.1) (values_of ends)
values_there u [] h = tt
values_there u (b ∷ bs) h = (value_there u b.end.outcome h.0, values_there u bs h.1)

thrown_fits : (u : Common) (o : Outcome) → OutcomeFits u o → EndFits form.Block u (thrown_by o)
thrown_fits u (ThrownOutcome c) h = h
thrown_fits u (ValueOutcome v) h = (h, refl)

module _ (g : Base) (f : NodeForm) (plain : is_declaration f ≡ false) where
  joined_as_goes : (u : Common) (ends : List BranchEnd) → OutcomesFit u ends → (o : Option BranchEnd) → EndIf u o → Goes g f u (joined_as ends o)
  joined_as_goes u ends h (Some b) one = ending_goes g f plain u (thrown_by b.end.outcome) (thrown_fits u b.end.outcome one)
  joined_as_goes u ends h None one = λ s at.
      let b : Before = record { l = limits s.world; rule = closure_rule g.script; h = cells s.world; given = CellsFit (closure_rule g.script) (cells s.world) × AllAre (λ e. There (cells s.world) e.1) (values_of ends); fit = λ x. x.0 } in
      answer_goes g f u There (new_map (limits s.world) (cells s.world) (insert_all same_key [] (values_of ends))) s at (CellsFit (closure_rule g.script) (cells s.world) × AllAre (λ e. There (cells s.world) e.1) (values_of ends))
      ((at.sound).cells, values_there s.world.shared ends (outcomes_then u s.world.shared at.later ends h))
      (map_is_there b (new_map (limits s.world) (cells s.world) (insert_all same_key [] (values_of ends))) (new_map_grows b (insert_all same_key [] (values_of ends)) (λ x. all_inserts (There (cells s.world)) [] (values_of ends) tt x.1))) ended (λ v t q l is. (q, (is, plain)))

  -- behind the wait for branches
  pub joined_goes : (u : Common) (start : ℕ) → IsFlowNode u.nodes start → (ends : List BranchEnd) → AllAre (IsFlowNode u.nodes) (map (λ b. b.end.node) ends) → OutcomesFit u ends → Goes g f u (joined_branches start (Joined ends))
  joined_goes u start flow ends old h = end_branches_goes g f u (codes "parallel") start flow (map (λ b. b.end.node) ends) old (joined_as ends (first_failure ends)) (joined_as_goes u ends h (first_failure ends) (failure_fits u ends h))

  -- the end of a branch
  failed_goes : (u : Common) (start : ℕ) (e : Ending) → EndFits form.Block u e → Goes g f u (branch_failed start e)
  failed_goes u start (Thrown c) h = λ s at. logging_goes g f u (codes "Failed in branch " ++ branch_name start s.world.shared.nodes) (Ended (Thrown c)) (ending_goes g f plain u (Thrown c) h) s at
  failed_goes u start (Normal v) h = ending_goes g f plain u (Normal v) h
  failed_goes u start (Returned v) h = ending_goes g f plain u (Returned v) h
  failed_goes u start Broke h = ending_goes g f plain u Broke h
  failed_goes u start Continued h = ending_goes g f plain u Continued h
  failed_goes u start (Declared b) h = ending_goes g f plain u (Declared b) h
  failed_goes u start (Answered x) h = ending_goes g f plain u (Answered x) h

  pub branch_end_goes : (u : Common) (start : ℕ) → IsFlowNode u.nodes start → (e : Ending) (s : State) → At g u s → EndFits form.Block s.world.shared e → Holds g f u (after_branch start e s)
  branch_end_goes u start flow e s at h = from_here g f u (after_branch start e) s at (end_body_goes g f s.world.shared start (node_then u s.world.shared at.later start flow) (branch_failed start e) (failed_goes s.world.shared start e h))

  no_branches_goes : (u : Common) (start : ℕ) → IsFlowNode u.nodes start → Goes g f u (no_branches start)
  no_branches_goes u start flow = logging_goes g f u (codes "No branches to run") _ (end_block_goes g f u (codes "parallel") start flow _
      (operate_goes g f u [] tt (IsIn HasMap) map_there (λ w. new_map (limits w) (cells w) []) (λ w. new_map_grows (before_of g w []) [] (λ x. tt)) ended (end_goes g f u plain)))

module _ (g : Base) (shaped : Shaped g.script) (k : ℕ) (sh : Shape) (xs : Names) (place : Place g k sh xs) (a : Around) (src : Sources g shaped k sh xs place a) (plain : is_declaration sh.form ≡ false) (env : Env) where
  -- From u to v one flow node was made for the block and one for each branch.
  fork_goes : calls_step step.Parallel sh.form env ≡ true → (u v : Common) → Later u v → EnvFits v.cells xs env → (start : ℕ) → IsFlowNode v.nodes start → (bs : List Branch) → AllAre (BranchFits g.script v) bs → left g v + suc (length bs) ≤ left g u → (s : State) → At g v s → Holds g sh.form u (fork_or_none k env start bs s)
  fork_goes cs u v later fit start flow [] h spent s at = from_here g sh.form u (no_branches start) s (at_then g u v later s at) (no_branches_goes g sh.form plain s.world.shared start (node_then v s.world.shared at.later start flow))
  fork_goes cs u v later fit start flow (b ∷ bs) h spent s at =
      wait_goes g sh.form u v later (frame kind.ParallelWait k 0 env (whole start ∷ [])) refl (sits_here g shaped k sh xs place v kind.ParallelWait 0 env (whole start ∷ []) cs (omega arith) (flow, tt) fit tt)
      (after_parallel start) (ForBranches (b ∷ bs)) s at (omega (arith, left_later g v s.world.shared at.later, spent)) (branch_then g v s.world.shared at.later (b ∷ bs) h)

  begin_goes : calls_step step.Parallel sh.form env ≡ true → (bs : List (List ℕ × Callee)) (u v : Common) → Later u v → EnvFits v.cells xs env → (start : ℕ) → IsFlowNode v.nodes start → (done : List Branch) → AllAre (BranchFits g.script v) done → Branches g v bs → left g v + suc (length done) ≤ left g u → (s : State) → At g v s → Holds g sh.form u (begin_branches k env start done bs s)
  begin_goes cs [] u v later fit start flow done h r spent s at = fork_goes cs u v later fit start flow done h spent s at
  begin_goes cs (b ∷ bs) u v later fit start flow done h r spent s at =
      noted_spends g sh.form u (body_line (branch_label b.0)) (noted_branch b.0) _ s (record { later = later_then u v s.world.shared later at.later; sound = at.sound }) refl (begin_branches k env start (done ++ (record { name = b.0; closure = (b.1).node; env = (b.1).env; head = next_node s.world }) ∷ []) bs) (λ none less. (
      let m : Moves g (noted_branch b.0) s.world = branch_moves g b.0 s.world at.sound none in
      let at1 : At g v (with_world (noted_branch b.0 s.world) s) = at_moved g v (noted_branch b.0) s at m in
      let c : IsClosure g (noted_branch b.0 s.world).shared b.1 = (branches_then g v (noted_branch b.0 s.world).shared at1.later (b ∷ bs) r).0 in
      begin_goes cs bs u (noted_branch b.0 s.world).shared (later_then u v (noted_branch b.0 s.world).shared later at1.later) (env_later v (noted_branch b.0 s.world).shared at1.later xs env fit) start (node_then v (noted_branch b.0 s.world).shared at1.later start flow)
      (done ++ (record { name = b.0; closure = (b.1).node; env = (b.1).env; head = next_node s.world }) ∷ [])
      (all_append (BranchFits g.script (noted_branch b.0 s.world).shared) done ((record { name = b.0; closure = (b.1).node; env = (b.1).env; head = next_node s.world }) ∷ []) (branch_then g v (noted_branch b.0 s.world).shared at1.later done h) (record { closure = c.rule; variables = c.variables; head = new_node s.world.shared.nodes _ }, tt))
      (branches_then g v (noted_branch b.0 s.world).shared at1.later (b ∷ bs) r).1
      (omega (arith, less, left_later g v s.world.shared at.later, spent, length-append done ((record { name = b.0; closure = (b.1).node; env = (b.1).env; head = next_node s.world }) ∷ [])))
      (with_world (noted_branch b.0 s.world) s) (at_self g v (with_world (noted_branch b.0 s.world) s) at1)))

  parallel_goes : calls_step step.Parallel sh.form env ≡ true → (u : Common) → EnvFits u.cells xs env → (args : Given) → Goes g sh.form u (parallel k env args)
  parallel_goes cs u fit args s at =
      noted_spends g sh.form u (pipeline (codes "parallel")) (λ w. noted Block (codes "parallel") 0 (w.own.head ∷ []) (pipeline (codes "parallel")) w) _ s (stopped_here g u s at) refl
      (seeing (λ w. begin_branches k env w.own.head [] (branches_given w (given (codes "branches") args)))) (λ none less. begun (noted Block (codes "parallel") 0 (s.world.own.head ∷ []) (pipeline (codes "parallel")) s.world)
      (at_moved g u (λ w. noted Block (codes "parallel") 0 (w.own.head ∷ []) (pipeline (codes "parallel")) w) s at (noted_moves g Block (codes "parallel") 0 (λ w. w.own.head ∷ []) (pipeline (codes "parallel")) s.world at.sound refl ((at.sound).head, tt) none)) (omega (arith, less, left_later g u s.world.shared at.later)))
    where
      begun : (w : World) → At g u (with_world w s) → left g w.shared + 1 ≤ left g u → Holds g sh.form u (begin_branches k env w.own.head [] (branches_given (with_world w s).world (given (codes "branches") args)) (with_world w s))
      begun w at1 less =
          begin_goes cs (branches_given (with_world w s).world (given (codes "branches") args)) u w.shared at1.later (env_later u w.shared at1.later xs env fit) w.own.head (at1.sound).head [] tt (given_are g (with_world w s).world at1.sound (given (codes "branches") args)) less (with_world w s) (at_self g u (with_world w s) at1)

  -- Which step the node calls.
  abbrev pub CallsIt : Step → Type 0
  CallsIt step.Println = Unit {0}
  CallsIt step.Echo = Unit {0}
  CallsIt step.Error = Unit {0}
  CallsIt step.MakeUnstable = Unit {0}
  CallsIt s = calls_step s sh.form env ≡ true

  -- a step without a body
  atom_step_goes : (s : Step) → CallsIt s → (u : Common) → EnvFits u.cells xs env → (w : World) (args : Given) → ArgsAsk w s args → Goes g sh.form u (atom_step k env w args s)
  atom_step_goes step.Println cs u fit w args asks = logging_goes g sh.form u (text_or_empty w (codes "value") args) (ended Null) (null_goes g sh.form u plain)
  atom_step_goes step.Echo cs u fit w args asks = atom_goes g sh.form u (codes "echo") _ (logging_goes g sh.form u (text_or_empty w (codes "message") args) (ended Null) (null_goes g sh.form u plain))
  atom_step_goes step.Error cs u fit w args asks = atom_goes g sh.form u (codes "error") _ (throwing_goes g sh.form u Abort (text_or_empty w (codes "message") args))
  atom_step_goes step.MakeUnstable cs u fit w args asks = atom_goes g sh.form u (codes "unstable") _ (logging_goes g sh.form u (codes "WARNING: " ++ text_or_empty w (codes "message") args) (changed (worsened Unstable) (ended Null)) (aside_goes g sh.form u (worsened Unstable) (λ w. refl) (λ w. refl) (λ w. refl) (λ w. refl) (λ w. refl) (λ w. refl) (λ w. refl) (λ w. refl) (λ w. omega arith) (ended Null) (null_goes g sh.form u plain)))
  atom_step_goes step.Sh cs u fit w args asks = atom_asks g sh.form u (codes "sh") (seeing (λ v. sh_in k env (text_or_empty w (codes "script") args) (is_true (cells w) (given (codes "returnStatus") args)) (is_true (cells w) (given (codes "returnStdout") args)) v (place_of v)))
      (λ s at room. sh_in_goes g shaped k sh xs place a src plain env cs u fit (text_or_empty w (codes "script") args) (is_true (cells w) (given (codes "returnStatus") args)) (is_true (cells w) (given (codes "returnStdout") args)) s at room (place_of s.world) (place_fits g s.world at.sound))
  atom_step_goes step.Input cs u fit w args asks = atom_asks g sh.form u (codes "input") _ (logging_asks g sh.form u (text_or_empty w (codes "message") args) _ (logging_asks g sh.form u (unwrap_or (text_given w (codes "ok") args) (codes "Proceed") ++ codes " or Abort") _
      (λ s at room. input_asks_goes g shaped k sh xs place a src plain env cs u fit (text_given w (codes "id") args) asks s at room)))
  atom_step_goes step.Parallel cs u fit w args asks = parallel_goes cs u fit args
  atom_step_goes s cs u fit w args asks = null_goes g sh.form u plain

  -- a step with a body
  block_step_goes : (s : Step) → CallsIt s → (u : Common) → EnvFits u.cells xs env → (w : World) (args : Given) (f : Value) → u ≡ w.shared → GivenThere u.cells args → IsIn HasClosure u.cells f → ArgsAsk w s args → AllAre (λ c. cell_size c < 2147483648) (cells w) → Goes g sh.form u (block_step a k env w args f s)
  block_step_goes step.Stage cs u fit w args f e there is asks short = stage_goes g shaped k sh xs place a src plain env cs u fit (text_or_empty w (codes "name") args) f
  block_step_goes step.CatchError cs u fit w args f e there is asks short = catch_error_goes g shaped k sh xs place a src plain env cs u fit (given (codes "message") args) (given_there u.cells (codes "message") args there) _ (rank_low (named_result (cells w) (given (codes "buildResult") args))) f
  block_step_goes step.Retry cs u fit w args f e there is asks short = retry_goes g shaped k sh xs place a src plain env cs u fit (tries_given (cells w) (given (codes "count") args)) f (closure_there u.cells f is)
  block_step_goes step.Node cs u fit w args f e there is asks short = node_goes g shaped k sh xs place a src plain env cs u fit (kept_label (text_given w (codes "label") args)) asks f is
  block_step_goes step.Dir cs u fit w args f e there is asks short = block_goes g sh.form u (codes "dir") _ (λ s at. dir_in_goes g shaped k sh xs place a src plain env cs u fit (text_or_empty w (codes "path") args) f is s at (place_of s.world))
  block_step_goes step.WithEnv cs u fit w args f e there is asks short = with_env_goes g shaped k sh xs place a src plain env cs u fit (overrides_of (cells w) (given (codes "overrides") args)) (overrides_low (cells w) short (given (codes "overrides") args)) f
  block_step_goes s cs u fit w args f e there is asks short = null_goes g sh.form u plain

  bound_goes : (s : Step) → CallsIt s → (w : World) → EnvFits w.shared.cells xs env → (b : Bound) → BoundThere w.shared.cells b → BoundAsks w s b → AllAre (λ c. cell_size c < 2147483648) (cells w) → Goes g sh.form w.shared (bound_step a k env s w b)
  bound_goes s cs w fit (Binds args None) there asks short = atom_step_goes s cs w.shared fit w args asks
  bound_goes s cs w fit (Binds args (Some f)) there asks short = block_step_goes s cs w.shared fit w args f refl there.0 there.1 asks short
  bound_goes s cs w fit (Refuses message) there asks short = throwing_goes g sh.form w.shared IllegalArgument message
  bound_goes s cs w fit (Stops_at limit) there asks short = λ t at. stopped_here g w.shared t at

  -- a step whose arguments have been evaluated
  pub begin_step_goes : (s : Step) → CallsIt s → (u : Common) → EnvFits u.cells xs env → (args : List Value) → AllAre (There u.cells) args → Goes g sh.form u (begin_step a k env s args)
  begin_step_goes s cs u fit args there t at = from_here g sh.form u (bound_step a k env s t.world (bind_step t.world s args)) t at
      (bound_goes s cs t.world (env_later u t.world.shared at.later xs env fit) (bind_step t.world s args) (bound_there (closure_rule g.script) t.world s (at.sound).cells args (all_there_then u t.world.shared at.later args there)) (bound_asks t.world s args) ((at.sound).bounds).short)
