-- Branches that begin, one behind the other.
use Rattle.std.proofs.Common.{◌≡◌, ◌∙◌, Bool, true, false, ℕ, ◌+◌, ◌≤◌, ◌<◌, ◌^◌, List, [], ◌∷◌, ◌++◌, length, Option, Some, None, refl, ap, sym, subst, arith}
use Rattle.std.specs.Prelude.{Result as Outcome, Err, codes, if◌then◌else◌, nat_lt}
use Rattle.std.proofs.lemmas.List.{length-append}
use Rattle.std.specs.List.{All, AllByRecursion as AllAre}
use Rattle.std.proofs.lemmas.List.Elements.{All-cons}
use Rattle.cell_heap.specs.Soundness.{ValueBelow}
use Rattle.model_values.specs.TextOf.{key_text}
use Rattle.model_values.specs.declared.key.Key.{Key}
use Rattle.model_values.specs.declared.value.Value.{Value}
use Rattle.model_values.specs.declared.value.Value.TheVariants.{Null, Bool as Truth, Int as Whole, Cell as InCell}
use Rattle.model_values.specs.declared.value.Outcome.{Outcome as Outcome_of}
use Rattle.model_values.specs.declared.value.Outcome.TheVariants.{Value as ValueOutcome, Thrown as ThrownOutcome}
use Rattle.model_run.specs.declared.wait.BranchEnd.{BranchEnd}
use Rattle.model_run.specs.declared.ending.Asked.TheVariants.{ForBranches}
use Rattle.model_run.specs.declared.flow.NodeKind.TheVariants.{EndBlock}
use Rattle.model_run.specs.declared.frame.FrameKind.TheVariants.{ParallelWait}
use Rattle.model_run.specs.Around.{frame, position, value_at, whole}
use Rattle.model_run.specs.Fitting.{EndFits, IsFlowNode, OutcomeFits}
use Rattle.model_run.proofs.Room.{keeps_node}
use Rattle.model_run.specs.Callables.{closure_of}
use Rattle.model_run.specs.declared.callee.Callee.{Callee}
use Rattle.model_run.specs.declared.ending.Branch.{Branch}
use Rattle.model_run.specs.declared.flow.FlowNode.{FlowNode}
use Rattle.model_run.specs.FlowNodes.{body_line, branch_label, end_branches, next_node, noted, noted_branch, noted_limit, pipeline}
use Rattle.model_run.specs.State.{Common, Reply, Env, World, awaiting, through}
use Rattle.model_run.specs.Steps.{after_parallel, begin_branches, earlier, first_failure, fork, fork_or_none, is_thrown, no_branches, outcome_value, with_callee}
use Rattle.run_laws.proofs.Bounds.{node_room}
use Rattle.cps_frames.specs.Standing.{Beside, Standing, room_of, state}
use Rattle.cps_frames.specs.Changes.{Passed, Passes}
use Rattle.cps_frames.specs.Moves.{Comes, ComesTo}
use Rattle.cps_frames.specs.declared.halt.Halt.{Halt}
use Rattle.cps_frames.specs.declared.thread.Move.{Move}
use Rattle.cps_frames.specs.declared.thread.Move.TheVariants.{Asks}
use Rattle.step_library.specs.Branches.{Begun, OutcomeBelow}
use Rattle.cps_frames.proofs.MoveLaws.{Saying, beside_on, comes_waits, passed, passed_beside, passed_setting, to_after, to_as, to_passed, to_refused}

-- a closure under its name
pub callee_in_front : (w : World) (e : Key × Value) (name : List ℕ) (c : Callee) (rest : List (List ℕ × Callee)) → name ≡ key_text e.0 → closure_of w e.1 ≡ Some c → (name, c) ∷ rest ≡ with_callee (key_text e.0) (closure_of w e.1) rest
callee_in_front w e name c rest named is = ap (λ n. (n, c) ∷ rest) named ∙ ap (λ o. with_callee (key_text e.0) o rest) (sym is)

abbrev pub the_branch : List ℕ → Callee → ℕ → Branch
the_branch name c head = record { name = name; closure = c.node; env = c.env; head = head }

-- The branches so far have their flow nodes, which are paid for.
pub record BegunSo (named rest : List (List ℕ × Callee)) (bs : List Branch) (u v : Standing) : Type 0 where
  pub is : (k : ℕ) (env : Env) (start : ℕ) (rs : List Reply) → begin_branches k env start [] named (state u.world rs) ≡ begin_branches k env start bs rest (state v.world rs)
  pub setting : v.world.setting ≡ u.world.setting
  pub own : v.world.own ≡ u.world.own
  pub stack : v.stack ≡ u.stack
  pub beside : Beside u v
  pub less : room_of v.world + length bs ≤ room_of u.world

branch_less : (name : List ℕ) (u v : Standing) → Passed (noted_limit (body_line (branch_label name))) (noted_branch name) u v → room_of v.world + 1 ≤ room_of u.world
branch_less name u v p =
    let room : length u.world.shared.nodes < u.world.setting.limits.flow_nodes = node_room (body_line (branch_label name)) u.world p.free in
    let nodes : length v.world.shared.nodes ≡ length u.world.shared.nodes + 1 = ap (λ (w : World). length w.shared.nodes) p.made ∙ length-append u.world.shared.nodes _ in
    let count : v.world.shared.count ≡ u.world.shared.count = ap (λ (w : World). w.shared.count) p.made in
    let flow : v.world.setting.limits.flow_nodes ≡ u.world.setting.limits.flow_nodes = ap (λ (w : World). w.setting.limits.flow_nodes) p.made in
    let most : v.world.setting.limits.values.nodes ≡ u.world.setting.limits.values.nodes = ap (λ (w : World). w.setting.limits.values.nodes) p.made in
    omega (arith, room, nodes, count, flow, most)

-- a flow node stays one behind others
pub still_flow_node : (n : ℕ) (xs ys : List FlowNode) → IsFlowNode xs n → IsFlowNode (xs ++ ys) n
still_flow_node n xs ys h = let more : length (xs ++ ys) ≡ length xs + length ys = length-append xs ys in (h.0, omega (arith, h.1, more))

-- one more
pub begun_more : (named rest : List (List ℕ × Callee)) (name : List ℕ) (c : Callee) (bs cs : List Branch) (b : Branch) (u v w : Standing) → BegunSo named ((name, c) ∷ rest) bs u v → Passed (noted_limit (body_line (branch_label name))) (noted_branch name) v w → b ≡ record { name = name; closure = c.node; env = c.env; head = next_node v.world } → cs ≡ bs ++ b ∷ [] → w.world.own ≡ v.world.own → BegunSo named rest cs u w
begun_more named rest name c bs cs b u v w so p is more own =
    let all = more ∙ ap (λ (x : Branch). bs ++ x ∷ []) is in
    let long : length cs ≡ length bs + 1 = ap length more ∙ length-append bs (b ∷ []) in
    let less : room_of w.world + 1 ≤ room_of v.world = branch_less name v w p in
    record {
      is = λ k env start rs.
          so.is k env start rs
          ∙ passed (noted_limit (body_line (branch_label name))) (noted_branch name) v w p (begin_branches k env start (bs ++ (record { name = name; closure = c.node; env = c.env; head = next_node v.world }) ∷ []) rest) rs
          ∙ ap (λ (ds : List Branch). begin_branches k env start ds rest (state w.world rs)) (sym all);
      setting = passed_setting _ _ v w p ∙ so.setting;
      own = own ∙ so.own;
      stack = p.stack ∙ so.stack;
      beside = beside_on u v w so.beside (passed_beside _ _ v w p);
      less = omega (arith, long, less, so.less);
    }

-- and where the next was refused
pub begun_stop : (k : ℕ) (env : Env) (start : ℕ) (named rest : List (List ℕ × Callee)) (name : List ℕ) (c : Callee) (bs : List Branch) (h : Halt) (u v w : Standing) → BegunSo named ((name, c) ∷ rest) bs u v → Passes (noted_limit (body_line (branch_label name))) (noted_branch name) v (Err h) w → ComesTo k (2 ^ 66) (λ sh a. begin_branches k env start [] named) u (Err h) w
begun_stop k env start named rest name c bs h u v w so p =
    to_after k (2 ^ 66) (λ sh a. begin_branches k env start [] named) (λ sh a. begin_branches k env start bs ((name, c) ∷ rest)) u v (Err h) w (λ a rs. so.is k env start rs) so.stack so.beside so.setting (omega (arith, so.less))
    (to_as k (2 ^ 66) (λ sh a. begin_branches k env start bs ((name, c) ∷ rest)) _ v (Err h) w (λ a rs. refl)
    (to_refused k (2 ^ 66) (noted_limit (body_line (branch_label name))) (noted_branch name) (λ sh a. begin_branches k env start (bs ++ (record { name = name; closure = c.node; env = c.env; head = next_node v.world }) ∷ []) rest) h v w p (omega arith)))

-- a test says that there are some
pub some_begun : (b : Bool) (bs : List Branch) → (bs ≡ [] → b ≡ true) → b ≡ false → bs ≡ [] → ⊥
some_begun b bs says is none = let e : true ≡ false = sym (says none) ∙ is in absurd (cc e)

-- all have begun, and their ends are waited for
pub forks : (k : ℕ) (env : Env) (start : ℕ) (values : List Value) (named : List (List ℕ × Callee)) (bs : List Branch) (u mid v : Standing) → Begun k env start named bs u mid → v.world ≡ mid.world → v.stack ≡ mid.stack ++ frame ParallelWait k 0 env values ∷ [] → Beside mid v → values ≡ whole start ∷ [] → (bs ≡ [] → ⊥) → Comes k (2 ^ 66) (λ sh a. begin_branches k env start [] named) u (Asks (ForBranches bs)) v
forks k env start values named [] u mid v b world stack beside kept some = absurd (some refl)
forks k env start values named (x ∷ bs) u mid v b world stack beside kept some =
    let room : room_of v.world ≤ room_of mid.world = subst (λ w. room_of w ≤ room_of mid.world) (sym world) (omega arith) in
    comes_waits k (2 ^ 66) (frame ParallelWait k 0 env values) (ForBranches (x ∷ bs)) (λ sh a. begin_branches k env start [] named) u v
    (stack ∙ ap (λ fs. fs ++ frame ParallelWait k 0 env values ∷ []) b.stack) (beside_on u mid v b.beside beside) (ap (λ (w : World). w.setting) world ∙ b.setting) (omega (arith, b.less, room)) refl (omega arith)
    (λ a rs. b.is rs ∙ ap (λ (w : World). fork k env start (x ∷ bs) (state w rs)) (sym world)
    ∙ ap (λ (vs : List Value). through (frame ParallelWait k 0 env vs) (after_parallel (position (value_at 0 vs))) (awaiting (ForBranches (x ∷ bs)) (state v.world rs))) (sym kept))

-- there are none
pub forks_none : (k : ℕ) (env : Env) (start : ℕ) (named : List (List ℕ × Callee)) (bs : List Branch) (u mid : Standing) (result : Outcome Move Halt) (v : Standing) → Begun k env start named bs u mid → bs ≡ [] → ComesTo k (2 ^ 66) (λ sh a. no_branches start) mid result v → ComesTo k (2 ^ 66) (λ sh a. begin_branches k env start [] named) u result v
forks_none k env start named bs u mid result v b none = to_after k (2 ^ 66) _ (λ sh a. no_branches start) u mid result v (λ a rs. b.is rs ∙ ap (λ (ds : List Branch). fork_or_none k env start ds (state mid.world rs)) none) b.stack b.beside b.setting (omega (arith, b.less))

-- behind the end node of a `parallel`
pub to_branches_end : (k r : ℕ) (name : List ℕ) (start : ℕ) (heads : List ℕ) (go : Saying) (u u' : Standing) (result : Outcome Move Halt) (v : Standing) → Passed (noted_limit (pipeline (codes "// " ++ name))) (noted EndBlock [] start heads (pipeline (codes "// " ++ name))) u u' → ComesTo k r go u' result v → ComesTo k r (λ sh a. end_branches name start heads (go sh a)) u result v
to_branches_end k r name start heads = to_passed k r (noted_limit (pipeline (codes "// " ++ name))) (noted EndBlock [] start heads (pipeline (codes "// " ++ name))) (keeps_node EndBlock [] start (λ w. heads) (pipeline (codes "// " ++ name)))

pub no_branches_end : (k r : ℕ) (name : List ℕ) (start : ℕ) (heads : List ℕ) (go : Saying) (h : Halt) (u v : Standing) → Passes (noted_limit (pipeline (codes "// " ++ name))) (noted EndBlock [] start heads (pipeline (codes "// " ++ name))) u (Err h) v → 0 < r → ComesTo k r (λ sh a. end_branches name start heads (go sh a)) u (Err h) v
no_branches_end k r name start heads = to_refused k r (noted_limit (pipeline (codes "// " ++ name))) (noted EndBlock [] start heads (pipeline (codes "// " ++ name)))

-- what branches ended with is there
outcome_below : (u : Common) (o : Outcome_of) → OutcomeFits u o → OutcomeBelow (length u.cells) o
outcome_below u (ThrownOutcome c) h = tt
outcome_below u (ValueOutcome (InCell c)) h = h
outcome_below u (ValueOutcome Null) h = tt
outcome_below u (ValueOutcome (Truth b)) h = tt
outcome_below u (ValueOutcome (Whole z)) h = tt

pub ends_below : (u : Common) (ends : List BranchEnd) → AllAre (λ b. EndFits u b.end) ends → All (λ b. OutcomeBelow (length u.cells) b.end.outcome) ends
ends_below u [] all = λ k d lt. absurd (omega arith)
ends_below u (b ∷ bs) all = All-cons (λ (x : BranchEnd). OutcomeBelow (length u.cells) x.end.outcome) b bs (outcome_below u b.end.outcome all.0.1) (ends_below u bs all.1)

pub value_below : (n : ℕ) (o : Outcome_of) → OutcomeBelow n o → ValueBelow n (outcome_value o)
value_below n (ValueOutcome v) h = h
value_below n (ThrownOutcome c) h = tt

-- the first failure is one
earlier_failed : (b d : BranchEnd) (o : Option BranchEnd) → is_thrown b.end.outcome ≡ true → ((x : BranchEnd) → o ≡ Some x → is_thrown x.end.outcome ≡ true) → earlier b o ≡ Some d → is_thrown d.end.outcome ≡ true
earlier_failed b d None fails others e = let same : b ≡ d = cc e in subst (λ (x : BranchEnd). is_thrown x.end.outcome ≡ true) same fails
earlier_failed b d (Some x) fails others e = go (nat_lt b.end.place x.end.place) e
  where
    go : (t : Bool) → (if t then Some b else Some x) ≡ Some d → is_thrown d.end.outcome ≡ true
    go true is = let same : b ≡ d = cc is in subst (λ (y : BranchEnd). is_thrown y.end.outcome ≡ true) same fails
    go false is = let same : x ≡ d = cc is in others d (ap Some same)

pub failed_first : (bs : List BranchEnd) (d : BranchEnd) → first_failure bs ≡ Some d → is_thrown d.end.outcome ≡ true
failed_first [] d e = absurd (cc e)
failed_first (b ∷ bs) d e = go (is_thrown b.end.outcome) refl e (failed_first bs)
  where
    go : (t : Bool) → is_thrown b.end.outcome ≡ t → (if t then earlier b (first_failure bs) else first_failure bs) ≡ Some d → ((x : BranchEnd) → first_failure bs ≡ Some x → is_thrown x.end.outcome ≡ true) → is_thrown d.end.outcome ≡ true
    go true fails is more = earlier_failed b d (first_failure bs) fails more is
    go false holds is more = more d is

-- where there is none, all have ended with a value
no_earlier : (b : BranchEnd) (o : Option BranchEnd) → earlier b o ≡ None → ⊥
no_earlier b None e = absurd (cc e)
no_earlier b (Some x) e = go (nat_lt b.end.place x.end.place) e
  where
    go : (t : Bool) → (if t then Some b else Some x) ≡ None → ⊥
    go true is = absurd (cc is)
    go false is = absurd (cc is)

pub none_failed : (bs : List BranchEnd) → first_failure bs ≡ None → All (λ b. is_thrown b.end.outcome ≡ false) bs
none_failed [] e = λ k d lt. absurd (omega arith)
none_failed (b ∷ bs) e = go (is_thrown b.end.outcome) refl e (none_failed bs)
  where
    go : (t : Bool) → is_thrown b.end.outcome ≡ t → (if t then earlier b (first_failure bs) else first_failure bs) ≡ None → (first_failure bs ≡ None → All (λ x. is_thrown x.end.outcome ≡ false) bs) → All (λ x. is_thrown x.end.outcome ≡ false) (b ∷ bs)
    go true fails is more = absurd (no_earlier b (first_failure bs) is)
    go false holds is more = All-cons (λ (x : BranchEnd). is_thrown x.end.outcome ≡ false) b bs holds (more is)
