-- Each step, and how it goes on: sound from a sound state on.
use Rattle.std.proofs.Common.{arith, ◌≡◌, ◌<◌, ◌≤◌, ◌+◌, ◌-◌, ◌∙◌, refl, sym, ap, subst, ℕ, zero, suc, Bool, true, false, List, [], ◌∷◌, ◌++◌, length, length-append, Option, Some, None}
use Rattle.std.specs.Prelude.{codes, ℤ, pos, nat_eq, take, slice_get, if◌then◌else◌, option_map, option_and_then}
use Rattle.std.specs.Ordering.{int_eq}
use Rattle.std.specs.Str.Lossy.{utf8_lossy}
use Rattle.model_syntax.specs.declared.node.NodeForm.TheVariants as form
use Rattle.model_values.specs.Cells.{new_text}
use Rattle.model_values.specs.Kinds.{kind}
use Rattle.model_values.specs.Methods.{text_value}
use Rattle.model_values.specs.Fitting.{There, HasText, HasClosure, IsIn, IsNullOrIn, CellsFit}
use Rattle.model_values.specs.Later.{AnswerGrows}
use Rattle.model_values.proofs.Growth.{new_texts}
use Rattle.model_values.proofs.CellGrowth.{Before, gives, wider, text_or_null, text_there, cell_there}
use Rattle.model_values.proofs.MethodGrowth.{text_value_is_text}
use Rattle.model_values.specs.declared.value.Value.{Value}
use Rattle.model_values.specs.declared.value.Value.TheVariants.{Null, Bool as Truth, Cell as InCell}
use Rattle.model_values.specs.declared.cell.Cell.{Cell}
use Rattle.model_values.specs.declared.cell.Cell.TheVariants.{Closure as ClosureCell}
use Rattle.model_values.proofs.LaterLaws.{closure_later, later_itself}
use Rattle.model_run.specs.declared.callee.Callee.{Callee}
use Rattle.model_text.specs.declared.pair.Pair.{Pair}
use Rattle.model_run.specs.declared.step.Step.TheVariants as step
use Rattle.model_run.specs.declared.frame.Frame.{Frame}
use Rattle.model_run.specs.declared.frame.FrameKind.{FrameKind}
use Rattle.model_run.specs.declared.frame.FrameKind.TheVariants as kind
use Rattle.model_run.specs.declared.ending.Ending.{Ending}
use Rattle.model_run.specs.declared.ending.Asked.TheVariants.{ForRequest}
use Rattle.model_run.specs.declared.request.Request.{Request}
use Rattle.model_run.specs.declared.request.Request.TheVariants.{Node as NodeRequest}
use Rattle.model_run.specs.Labels.{label_fault}
use Rattle.model_run.specs.declared.held.Held.{Held}
use Rattle.model_run.specs.declared.site.Executor.{Executor}
use Rattle.model_run.specs.declared.site.Site.{Site}
use Rattle.model_run.specs.State.{Setting, Own, Common, World, State, Env, Result, with_world, changed, seeing, operating}
use Rattle.model_run.specs.Around.{Around, Shape, frame, ended, cells, limits, whole}
use Rattle.model_run.specs.Callables.{closure_in, closure_of, calling}
use Rattle.model_run.specs.FlowNodes.{with_line, line_limit, next_node, block, noted_body, end_block}
use Rattle.model_run.specs.Grants.{executor_of, without_request}
use Rattle.model_run.specs.declared.wait.Answer.{Answer as Reply_answer}
use Rattle.model_run.specs.declared.wait.Answer.TheVariants.{Begin, Granted as GrantedAnswer, Done, Decided as DecidedAnswer, Joined}
use Rattle.model_values.specs.declared.throwable.Class.TheVariants.{Abort, FlowInterrupted, MissingContextVariable}
use Rattle.model_run.specs.Steps.{without_last, held_by, Place as StepPlace, dir_in, dir_body, after_dir_body, folder_of, with_folder, without_folder, no_node, task_of, sh_in, sh_output, sh_ended, sh_done, after_sh, exit_message, throwing, input_decided, input_asks, after_input, released, last_number, left_node, node_body, after_node_body, node_runs, node_held, node_granted, after_node_wait, running_line, workspace_of, entered_node, run_body, with_request, waiting_for, stage_body, after_body, catch_error_body, after_catch_error, kept_text, retry_body, after_retry, with_overrides, without_overrides, with_env_body, after_with_env, starts, held_for, last_text, place_held, place_of}
use Rattle.model_run.specs.FrameTable.{No_more, Flow_node, A_closure, Text_or_null, is_declaration, frame_row, calls_step}
use Rattle.model_run.specs.Nesting.{ValuesFit}
use Rattle.model_run.specs.Scoping.{Names, frame_names}
use Rattle.model_run.specs.Fitting.{EnvFits, closure_rule, Later, holds_executor, holds_folder, request_in, IsFlowNode, RequestFits}
use Rattle.model_run.proofs.LaterLaws.{env_later}
use Rattle.model_run.proofs.Front.{front_itself}
use Rattle.run_laws.specs.Soundness.{Base, Open, within, in_folder, next_node_in, open_in, inside, without_all, Shaped, seen, Sits, EndFits, Same, At, Holds, Goes, setting_of, NumbersFit, Sound}
use Rattle.run_laws.specs.Evaluation.{granted_of, AllOfSite, unopened}
use Rattle.run_laws.proofs.Binding.{ThereIf}
use Rattle.run_laws.specs.Bounds.{HasRoom}
use Rattle.run_laws.proofs.Asked.{IdFits, id_fits, number_low, found_number}
use Rattle.run_laws.proofs.Bounds.{bounds_asks}
use Rattle.run_laws.proofs.Flow.{same_on, HasGone, guard_here, later_self, end_goes, null_goes, later_then, there_then, node_then, seen_then, holds_then, from_here, Moves, moves_with, at_moved, at_over, answer_goes, wait_goes}
use Rattle.run_laws.proofs.Sources.{CalleeFits, Place, Sources, sits_here}
use Rattle.run_laws.proofs.SoundAssignments.{operate_goes}
use Rattle.run_laws.proofs.SoundCalls.{CalleeThere, closure_fits, calling_goes}
use Rattle.run_laws.proofs.SoundSteps.{throwing_goes, more_nodes, end_block_goes, block_goes, block_asks, line_moves, logging_goes, body_end_goes, body_end_changed, catch_error_end, retry_with, after_retry_goes, starts_seen, fit_noted, body_goes}

-- a closure's cell is there
pub closure_there : (h : List Cell) (v : Value) → IsIn HasClosure h v → There h v
closure_there h (InCell c) e = cell_there HasClosure (λ h. h) h c e
closure_there h v e = absurd e

closure_sort : (u : Common) (v : Value) → IsIn HasClosure u.cells v → seen u A_closure v
closure_sort u (InCell c) e = e
closure_sort u v e = absurd e

in_closure_then : (u v : Common) → Later u v → (x : Value) → IsIn HasClosure u.cells x → IsIn HasClosure v.cells x
in_closure_then u v l (InCell c) h = closure_later u.cells v.cells l.cells c h
in_closure_then u v l x h = absurd h

text_sort : (u : Common) (v : Value) → IsNullOrIn HasText u.cells v → seen u Text_or_null v
text_sort u Null e = tt
text_sort u (InCell c) e = e
text_sort u v e = absurd e

-- the callee of a closure
callee_there : (o : Option Cell) → HasClosure o → closure_in o ≡ None → ⊥
callee_there (Some (ClosureCell k env)) has e = absurd (cc)
callee_there o has e = absurd has

pub has_callee : (w : World) (v : Value) → IsIn HasClosure w.shared.cells v → closure_of w v ≡ None → ⊥
has_callee w (InCell c) has e = callee_there (slice_get (cells w) c) has e
has_callee w v has e = absurd has

-- the end of a list
last_of : (ns : List ℕ) (r : ℕ) → last_number (ns ++ r ∷ []) ≡ Some r
last_of [] r = refl
last_of (n ∷ []) r = refl
last_of (n ∷ m ∷ ns) r = last_of (m ∷ ns) r

take_front : {A : Type 0} (xs : List A) (y : A) (n : ℕ) → n ≡ length xs → take n (xs ++ y ∷ []) ≡ xs
take_front [] y n e = ap (λ m. take m (y ∷ [])) e
take_front (x ∷ xs) y zero e = absurd (cc)
take_front (x ∷ xs) y (suc n) e = ap (λ ys. x ∷ ys) (take_front xs y n (omega (arith, e)))

pub front_of : {A : Type 0} (xs : List A) (y : A) → without_last 1 (xs ++ y ∷ []) ≡ xs
front_of xs y = take_front xs y (length (xs ++ y ∷ []) - 1) (omega (arith, length-append xs (y ∷ [])))

take_length : {A : Type 0} (n : ℕ) (xs : List A) → n ≤ length xs → length (take n xs) ≡ n
take_length zero xs le = refl
take_length (suc n) [] le = absurd (omega (arith, le))
take_length (suc n) (x ∷ xs) le = ap suc (take_length n xs (omega (arith, le)))

one_less : {A : Type 0} (xs : List A) (n : ℕ) → length xs ≡ suc n → length (without_last 1 xs) ≡ n
one_less xs n e = take_length (length xs - 1) xs (omega (arith, e)) ∙ omega (arith, e)

-- an executor is given back
released_own : (o : Option ℕ) (w : World) → (released o w).own ≡ w.own
released_own None w = refl
released_own (Some r) w = refl

left_cells : (o : Option ℕ) (w : World) → (released o w).shared.cells ≡ w.shared.cells
left_cells None w = refl
left_cells (Some r) w = refl

left_binding : (o : Option ℕ) (w : World) → (released o w).shared.binding ≡ w.shared.binding
left_binding None w = refl
left_binding (Some r) w = refl

left_nodes : (o : Option ℕ) (w : World) → (released o w).shared.nodes ≡ w.shared.nodes
left_nodes None w = refl
left_nodes (Some r) w = refl

left_requests : (o : Option ℕ) (w : World) → (released o w).shared.requests ≡ w.shared.requests
left_requests None w = refl
left_requests (Some r) w = refl

left_next : (o : Option ℕ) (w : World) → (released o w).shared.next_request ≡ w.shared.next_request
left_next None w = refl
left_next (Some r) w = refl

left_log : (o : Option ℕ) (w : World) → length w.shared.log ≤ length (released o w).shared.log
left_log None w = omega arith
left_log (Some r) w = omega arith

left_head : (o : Option ℕ) (w : World) → (released o w).own.head ≡ w.own.head
left_head None w = refl
left_head (Some r) w = refl

held_without : (o : Option ℕ) (w : World) (r : ℕ) → o ≡ Some r → (released o w).shared.held ≡ without_request r w.shared.held
held_without None w r e = absurd (cc)
held_without (Some n) w r e = let is : n ≡ r = cc in ap (λ m. without_request m w.shared.held) is

-- behind the end of a `node` body its request is gone
left_same : (o : Open) (gone : List ℕ) → o.gone ≡ gone → HasGone true gone → (w : World) → Same (in_folder true (next_node_in gone o)) w → Same o (left_node w)
left_same o [] e some w q = absurd some
left_same o (r ∷ rs) e some w q =
    let last : last_number w.own.context.held ≡ Some r = ap last_number q.nodes ∙ last_of o.nodes r in
    let own : (released (last_number w.own.context.held) w).own ≡ w.own = released_own (last_number w.own.context.held) w in
    record {
      nodes = ap (λ (x : Own). without_last 1 x.context.held) own ∙ ap (without_last 1) q.nodes ∙ front_of o.nodes r;
      folders = ap (λ (x : Own). length (without_last 1 x.context.folders)) own ∙ one_less w.own.context.folders o.folders q.folders;
      held = held_without (last_number w.own.context.held) w r last ∙ ap (without_request r) q.held ∙ ap (λ ns. without_all ns o.was) (sym e);
    }

-- as it begins
entered_same : (o : Open) (r : ℕ) (workspace : List ℕ) → o.gone ≡ r ∷ [] → (w : World) → Same (record o { gone = [] }) w → Same (open_in kind.NodeBody o) (entered_node r workspace w)
entered_same o r workspace e w q = subst (λ gone. Same (in_folder true (next_node_in gone o)) (entered_node r workspace w)) (sym e) (record {
  nodes = ap (λ ns. ns ++ r ∷ []) q.nodes;
  folders = omega (arith, q.folders, length-append w.own.context.folders (workspace ∷ []));
  held = q.held;
})

-- a folder is opened and left
folder_same : (o : Open) (f : List ℕ) (w : World) → Same o w → Same (open_in kind.DirBody o) (with_folder f w)
folder_same o f w q = record { nodes = q.nodes; folders = omega (arith, q.folders, length-append w.own.context.folders (f ∷ [])); held = q.held }

pub folder_left : (o : Open) (w : World) → Same (open_in kind.DirBody o) w → Same o (without_folder w)
folder_left o w q = record { nodes = q.nodes; folders = one_less w.own.context.folders o.folders q.folders; held = q.held }

module _ (g : Base) where
  -- the place of an open `node` is one of the site's
  abbrev pub PlaceFits : Option StepPlace → Type 0
  PlaceFits None = Unit {0}
  PlaceFits (Some p) = executor_of g.site p.executor.number ≡ None → ⊥

  place_known : (w : World) → w.setting ≡ setting_of g → (h : Held) (o : Option Executor) → executor_of w.setting.site h.executor ≡ o → PlaceFits (option_map (λ x. record { executor = x; workspace = workspace_of w h x; folder = last_text w.own.context.folders }) o)
  place_known w is h None e = tt
  place_known w is h (Some x) e = λ none. (
      let here : executor_of g.site x.number ≡ Some x = subst (λ (t : Setting). executor_of t.site x.number ≡ Some x) is (ap (executor_of w.setting.site) (found_number h.executor w.setting.site.executors x e) ∙ e) in
      let no : None ≡ Some x = sym none ∙ here in
      absurd (cc))

  place_held_fits : (w : World) → w.setting ≡ setting_of g → (o : Option Held) → PlaceFits (place_held w o)
  place_held_fits w is None = tt
  place_held_fits w is (Some h) = place_known w is h (executor_of w.setting.site h.executor) refl

  pub place_fits : (w : World) → Sound g w → PlaceFits (place_of w)
  place_fits w sound = place_held_fits w sound.setting (option_and_then (λ r. held_for r w.shared.held) (last_number w.own.context.held))

  -- the message of `catchError`, kept as a text
  kept_grows : (w : World) (o : Option Value) → AnswerGrows (limits w) (closure_rule g.script) (cells w) (CellsFit (closure_rule g.script) (cells w) × ThereIf (cells w) o) (IsNullOrIn HasText) (kept_text w o)
  kept_grows w None = gives (record { l = limits w; rule = closure_rule g.script; h = cells w; given = CellsFit (closure_rule g.script) (cells w) × Unit {0}; fit = λ x. x.0 }) (IsNullOrIn HasText) Null (λ x. tt)
  kept_grows w (Some v) =
      let b : Before = record { l = limits w; rule = closure_rule g.script; h = cells w; given = CellsFit (closure_rule g.script) (cells w) × There (cells w) v; fit = λ x. x.0 } in
      wider b (IsIn HasText) (IsNullOrIn HasText) (text_value (limits w) (cells w) v (kind (cells w) v)) text_or_null (text_value_is_text b v)

module _ (g : Base) (shaped : Shaped g.script) (k : ℕ) (sh : Shape) (xs : Names) (place : Place g k sh xs) (a : Around) (src : Sources g shaped k sh xs place a) (plain : is_declaration sh.form ≡ false) (env : Env) where
  -- a request, and the wait for its answer
  waiting_goes : (u : Common) (r : Request) (x : Frame) → holds_folder x.kind ≡ false → (go : Ending → State → Result) (s : State) → At g u s → HasRoom s.world.shared → RequestFits g.site (length s.world.shared.log) r → Sits g.script s.world.shared x → Holds g sh.form u (waiting_for r x go s.world s)
  waiting_goes u r x none go s at room fits sits =
      let m : Moves g (with_request r) s.world = record { later = record { cells = later_itself s.world.shared.cells; nodes = front_itself s.world.shared.nodes }; cells = (at.sound).cells; binding = (at.sound).binding; head = (at.sound).head; same = same_on g.around s.world (with_request r s.world) refl refl; bounds = bounds_asks g.site r s.world (at.sound).bounds room fits } in
      let at1 : At g u (with_world (with_request r s.world) s) = at_moved g u (with_request r) s at m in
      holds_then g sh.form u s.world.shared at.later _ (wait_goes g sh.form s.world.shared s.world.shared (later_self s.world.shared) x none sits go (ForRequest s.world.shared.next_request) (with_world (with_request r s.world) s) (record { later = m.later; sound = at1.sound; alone = at1.alone; same = at1.same }) (omega arith) tt)

  -- a body of a step by its closure
  closure_body : (d : FrameKind) → (frame_row d sh 0 env).stands ≡ true → (u : Common) (f : Value) (s : State) → At g u s → (go : Callee → State → Result) → ((c : Callee) → CalleeFits g.script s.world.shared c.node c.env → Holds g sh.form u (go c s)) → Holds g sh.form u (calling (closure_of s.world f) (ended Null) go s)
  closure_body d stands u f s at go k' = calling_goes g sh.form plain u (closure_of s.world f) s at (closure_fits g s.world f at.sound) go (λ c e callee. k' c callee)

  pub stage_goes : calls_step step.Stage sh.form env ≡ true → (u : Common) → EnvFits u.cells xs env → (name : List ℕ) (f : Value) → Goes g sh.form u (block (codes "stage") (seeing (λ w. calling (closure_of w f) (ended Null) (stage_body a k env name w))))
  stage_goes cs u fit name f = block_goes g sh.form u (codes "stage") _ (λ s at. closure_body kind.StageBody cs u f s at (stage_body a k env name s.world) (λ c callee.
      body_goes g shaped k sh xs place a src plain env kind.StageBody tt cs (omega arith) [] name u fit (after_body (codes "stage") s.world.own.head (next_node s.world)) s.world c s at refl refl callee
      (let x = starts_seen g shaped k sh xs place a src plain env name s.world at.sound in (x.0, (x.1, tt))) (fit_noted g shaped k sh xs place a src plain env u fit name s at.later) tt
      (λ v l old new. body_end_goes g sh.form plain v (codes "stage") s.world.own.head (next_node s.world) old new)))

  if_then : (u v : Common) → Later u v → (o : Option Value) → ThereIf u.cells o → ThereIf v.cells o
  if_then u v l None h = tt
  if_then u v l (Some x) h = there_then u v l x h

  pub catch_error_goes : calls_step step.CatchError sh.form env ≡ true → (u : Common) → EnvFits u.cells xs env → (o : Option Value) → ThereIf u.cells o → (r : ℕ) → r ≤ 4 → (f : Value)
      → Goes g sh.form u (operating (λ w. kept_text w o) (λ message. block (codes "catchError") (seeing (λ w. calling (closure_of w f) (ended Null) (catch_error_body a k env r message w)))))
  catch_error_goes cs u fit o there r low f s at =
      answer_goes g sh.form u (IsNullOrIn HasText) (kept_text s.world o) s at (CellsFit (closure_rule g.script) (cells s.world) × ThereIf (cells s.world) o) ((at.sound).cells, if_then u s.world.shared at.later o there) (kept_grows g s.world o)
      (λ message. block (codes "catchError") (seeing (λ w. calling (closure_of w f) (ended Null) (catch_error_body a k env r message w))))
      (λ message t q l is. from_here g sh.form u (block (codes "catchError") (seeing (λ w. calling (closure_of w f) (ended Null) (catch_error_body a k env r message w)))) t q
      (block_goes g sh.form t.world.shared (codes "catchError") _ (λ s1 at1. closure_body kind.CatchErrorBody cs t.world.shared f s1 at1 (catch_error_body a k env r message s1.world) (λ c callee.
      body_goes g shaped k sh xs place a src plain env kind.CatchErrorBody tt cs (omega arith) (whole r ∷ message ∷ []) [] t.world.shared (env_later u t.world.shared q.later xs env fit) (after_catch_error s1.world.own.head (next_node s1.world) r message) s1.world c s1 at1 refl refl callee
      (let x = starts_seen g shaped k sh xs place a src plain env [] s1.world at1.sound in (x.0, (x.1, (tt, (seen_then t.world.shared (noted_body [] s1.world).shared (noted_later t.world.shared s1 at1) Text_or_null message (text_sort t.world.shared message is), tt)))))
      (fit_noted g shaped k sh xs place a src plain env t.world.shared (env_later u t.world.shared q.later xs env fit) [] s1 at1.later) low
      (λ v l1 old new e t1 q1 h. catch_error_end g sh.form plain v s1.world.own.head (next_node s1.world) r old new message e t1 q1)))))
    where
      noted_later : (u : Common) (s : State) → At g u s → Later u (noted_body [] s.world).shared
      noted_later u s at = later_then u s.world.shared (noted_body [] s.world).shared at.later (more_nodes s.world.shared (noted_body [] s.world).shared _ refl refl)

  pub retry_goes : calls_step step.Retry sh.form env ≡ true → (u : Common) → EnvFits u.cells xs env → (m : ℕ) (f : Value) → There u.cells f → Goes g sh.form u (block (codes "retry") (seeing (λ w. retry_body (after_retry a k env w.own.head f m) a k env w.own.head m f)))
  retry_goes cs u fit m f tf = block_goes g sh.form u (codes "retry") _ (λ s at. from_here g sh.form u (retry_body (after_retry a k env s.world.own.head f m) a k env s.world.own.head m f) s at
      (retry_with g shaped k sh xs place a src plain env cs m (after_retry a k env s.world.own.head f m) s.world.own.head s.world.shared (env_later u s.world.shared at.later xs env fit) (at.sound).head f (there_then u s.world.shared at.later f tf)
      (λ v l b new e t q h. after_retry_goes g shaped k sh xs place a src plain env cs m s.world.own.head v (env_later s.world.shared v l xs env (env_later u s.world.shared at.later xs env fit)) (node_then s.world.shared v l s.world.own.head (at.sound).head) f (there_then s.world.shared v l f (there_then u s.world.shared at.later f tf)) b new e t q h)))

  pub with_env_goes : calls_step step.WithEnv sh.form env ≡ true → (u : Common) → EnvFits u.cells xs env → (ps : List Pair) → length ps ≤ 2147483647 → (f : Value) → Goes g sh.form u (block (codes "withEnv") (seeing (λ w. changed (with_overrides ps) (calling (closure_of w f) (ended Null) (with_env_body a k env (length ps) w)))))
  with_env_goes cs u fit ps low f = block_goes g sh.form u (codes "withEnv") _ (λ s at.
      let at1 : At g u (with_world (with_overrides ps s.world) s) = at_moved g u (with_overrides ps) s at (moves_with g (with_overrides ps) s.world at.sound refl refl refl refl (λ q. record { nodes = q.nodes; folders = q.folders; held = q.held }) refl refl (omega arith)) in
      let s1 : State = with_world (with_overrides ps s.world) s in
      calling_goes g sh.form plain u (closure_of s.world f) (with_world (with_overrides ps s.world) s) at1 (closure_fits g s.world f at.sound) (with_env_body a k env (length ps) s.world) (λ c e callee.
      body_goes g shaped k sh xs place a src plain env kind.WithEnvBody tt cs (omega arith) (whole (length ps) ∷ []) [] u fit (after_with_env s.world.own.head (next_node s.world) (length ps)) s.world c (with_world (with_overrides ps s.world) s) at1 refl refl callee
      (let x = starts_seen g shaped k sh xs place a src plain env [] (with_world (with_overrides ps s.world) s).world at1.sound in (x.0, (x.1, (tt, tt)))) (fit_noted g shaped k sh xs place a src plain env u fit [] (with_world (with_overrides ps s.world) s) at1.later) low
      (λ v l old new e1 t q h. body_end_changed g sh.form plain g.around v (codes "withEnv") s.world.own.head (next_node s.world) old new (without_overrides (length ps)) (λ w. refl) (λ w. refl) (λ w. refl) (λ w. refl) (λ w. refl) (λ w. refl) (λ w. omega arith) (λ w x. record { nodes = x.nodes; folders = x.folders; held = x.held }) e1 t q h)))

  -- `node`
  pub node_goes : calls_step step.Node sh.form env ≡ true → (u : Common) → EnvFits u.cells xs env → (label : Option (List ℕ)) → label_fault label ≡ None → (f : Value) → IsIn HasClosure u.cells f → Goes g sh.form u (block (codes "node") (seeing (λ w. waiting_for (NodeRequest label) (frame kind.NodeWait k 0 env (f ∷ [])) (after_node_wait a k env f) w)))
  node_goes cs u fit label good f is = block_asks g sh.form u (codes "node") _ (λ s at room. waiting_goes u (NodeRequest label) (frame kind.NodeWait k 0 env (f ∷ [])) refl (after_node_wait a k env f) s at room good
      (sits_here g shaped k sh xs place s.world.shared kind.NodeWait 0 env (f ∷ []) cs (omega arith) (seen_then u s.world.shared at.later A_closure f (closure_sort u f is), tt) (env_later u s.world.shared at.later xs env fit) tt))

  -- A change of the log and of the thread's own, which leaves cells, flow nodes and the last of them as they are.
  record Beside (w v : World) : Type 0 where
    cells : v.shared.cells ≡ w.shared.cells
    nodes : v.shared.nodes ≡ w.shared.nodes
    head : v.own.head ≡ w.own.head

  -- a body behind such changes, by the closure that was found before them
  beside_body : (d : FrameKind) → HasGone (holds_executor d) g.around.gone → (frame_row d sh 0 env).stands ≡ true → 0 < (frame_row d sh 0 env).limit → (frame_row d sh 0 env).values ≡ Flow_node ∷ Flow_node ∷ [] → (frame_row d sh 0 env).further ≡ No_more → frame_names d sh 0 xs ≡ xs → ((vs : List Value) → NumbersFit d vs)
      → (w : World) (u : Common) → EnvFits u.cells xs env → (go : Ending → State → Result) (c : Callee) (s : State) → At (inside d g) u s → Beside w s.world → CalleeFits g.script s.world.shared c.node c.env
      → ((v : Common) → Later u v → IsFlowNode v.nodes w.own.head → IsFlowNode v.nodes (next_node w) → (e : Ending) (t : State) → At (inside d g) v t → EndFits form.Block t.world.shared e → Holds g sh.form v (go e t)) → Holds g sh.form u (run_body a (frame d k 0 env (starts w)) go [] c s)
  beside_body d some stands low values further names numbers w u fit go c s at beside callee ok =
      body_goes g shaped k sh xs place a src plain env d some stands low [] [] u fit go w c s at (sym beside.head) (ap (λ ns. length ns + 2) (sym beside.nodes)) callee
      (subst (λ fu. ValuesFit (seen (noted_body [] s.world).shared) fu (frame_row d sh 0 env).values (starts s.world ++ [])) (sym further)
      (subst (λ vs. ValuesFit (seen (noted_body [] s.world).shared) No_more vs (starts s.world ++ [])) (sym values) (let x = starts_seen g shaped k sh xs place a src plain env [] s.world at.sound in (x.0, (x.1, tt)))))
      (subst (λ ys. EnvFits (noted_body [] s.world).shared.cells ys env) (sym names) (fit_noted g shaped k sh xs place a src plain env u fit [] s at.later)) (numbers (starts s.world ++ [])) ok

  -- a closure that is there is called
  called_goes : (u : Common) (o : Option Callee) (s : State) → CalleeThere g.script s.world.shared o → (o ≡ None → ⊥) → (go : Callee → State → Result) → ((c : Callee) → CalleeFits g.script s.world.shared c.node c.env → Holds g sh.form u (go c s)) → Holds g sh.form u (calling o (ended Null) go s)
  called_goes u None s there some go k' = absurd (some refl)
  called_goes u (Some c) s there some go k' = k' c there

  -- behind the body of `node`
  pub node_end_goes : HasGone true g.around.gone → (v : Common) (start body : ℕ) → IsFlowNode v.nodes start → IsFlowNode v.nodes body → (e : Ending) (t : State) → At (inside kind.NodeBody g) v t → EndFits form.Block t.world.shared e → Holds g sh.form v (after_node_body start body e t)
  node_end_goes some v start body old new e t q h = body_end_changed g sh.form plain (open_in kind.NodeBody g.around) v (codes "node") start body old new left_node
      (λ w. left_cells (last_number w.own.context.held) w) (λ w. left_binding (last_number w.own.context.held) w) (λ w. left_nodes (last_number w.own.context.held) w) (λ w. left_head (last_number w.own.context.held) w)
      (λ w. left_requests (last_number w.own.context.held) w) (λ w. left_next (last_number w.own.context.held) w) (λ w. left_log (last_number w.own.context.held) w)
      (λ w x. left_same g.around g.around.gone refl some w x) e t q h

  node_body_at : calls_step step.Node sh.form env ≡ true → HasGone true g.around.gone → (w : World) (u : Common) → EnvFits u.cells xs env → (o : Option Callee) (s : State) → At (inside kind.NodeBody g) u s → Beside w s.world → CalleeThere g.script s.world.shared o → (o ≡ None → ⊥) → Holds g sh.form u (calling o (ended Null) (node_body a k env w) s)
  node_body_at cs some w u fit o s at beside there is = called_goes u o s there is (node_body a k env w) (λ c callee.
      beside_body kind.NodeBody some cs (omega arith) refl refl refl (λ vs. tt) w u fit (after_node_body w.own.head (next_node w)) c s at beside callee
      (λ v l old new e1 t q h. node_end_goes some v w.own.head (next_node w) old new e1 t q h))

  node_runs_goes : calls_step step.Node sh.form env ≡ true → (u : Common) → EnvFits u.cells xs env → (f : Value) → IsIn HasClosure u.cells f → (h : Held) → g.around.gone ≡ h.request ∷ [] → (s : State) → At (unopened g) u s → (o : Option Executor) → (o ≡ None → ⊥) → Holds g sh.form u (node_runs a k env f s.world h o s)
  node_runs_goes cs u fit f is h gone s at None some = absurd (some refl)
  node_runs_goes cs u fit f is h gone s at (Some x) some =
      let at1 : At (unopened g) u (with_world (with_line (running_line x (workspace_of s.world h x)) s.world) s) = at_moved (unopened g) u (with_line (running_line x (workspace_of s.world h x))) s at (line_moves (unopened g) (running_line x (workspace_of s.world h x)) s.world at.sound) in
      let at2 : At (inside kind.NodeBody g) u (with_world (entered_node h.request (workspace_of s.world h x) (with_line (running_line x (workspace_of s.world h x)) s.world)) s) =
      at_over (inside kind.NodeBody g) (record g.around { gone = [] }) u (entered_node h.request (workspace_of s.world h x)) (with_world (with_line (running_line x (workspace_of s.world h x)) s.world) s) at1 refl refl refl refl refl refl (omega arith)
      (entered_same g.around h.request (workspace_of s.world h x) gone (with_line (running_line x (workspace_of s.world h x)) s.world)) in
      guard_here g sh.form u (line_limit (running_line x (workspace_of s.world h x)) s.world) (with_line (running_line x (workspace_of s.world h x))) (changed (entered_node h.request (workspace_of s.world h x)) (calling (closure_of s.world f) (ended Null) (node_body a k env s.world))) s (record { later = at.later; sound = at.sound })
      (λ none. node_body_at cs (subst (HasGone true) (sym gone) tt) s.world u fit (closure_of s.world f) (with_world (entered_node h.request (workspace_of s.world h x) (with_line (running_line x (workspace_of s.world h x)) s.world)) s) at2 (record { cells = refl; nodes = refl; head = refl }) (callee_same (closure_of s.world f) (closure_fits g s.world f at.sound))
      (has_callee s.world f (in_closure_then u s.world.shared at.later f is)))
    where
      callee_same : (o : Option Callee) → CalleeThere g.script s.world.shared o → CalleeThere g.script (with_line (running_line x (workspace_of s.world h x)) s.world).shared o
      callee_same None t = tt
      callee_same (Some c) t = record { below = t.below; callable = t.callable; variables = t.variables }

  -- each held executor that is found is one of the site's
  found_there : (site : Site) (x : ℕ) (held : List Held) → AllOfSite site held → (h : Held) → held_by x held ≡ Some h → executor_of site h.executor ≡ None → ⊥
  found_there site x [] all h e = absurd (cc)
  found_there site x (y ∷ held) all h e = one (nat_eq y.executor x) e (found_there site x held all.1 h)
    where
      one : (b : Bool) → (if b then Some y else held_by x held) ≡ Some h → (held_by x held ≡ Some h → executor_of site h.executor ≡ None → ⊥) → executor_of site h.executor ≡ None → ⊥
      one true same more = let it : y ≡ h = cc in subst (λ (z : Held). executor_of site z.executor ≡ None → ⊥) it all.0
      one false same more = more same

  -- where nothing is given back by the end, nothing was opened
  nothing_gone : (gs : List ℕ) → g.around.gone ≡ gs → gs ≡ [] → (u : Common) (s : State) → At (unopened g) u s → At g u s
  nothing_gone gs e none u s at = subst (λ ns. At (within (record g.around { gone = ns }) g) u s) (sym (e ∙ none)) at

  node_held_goes : calls_step step.Node sh.form env ≡ true → (u : Common) → EnvFits u.cells xs env → (f : Value) → IsIn HasClosure u.cells f → (x : ℕ) (s : State) → At (unopened g) u s → AllOfSite g.site s.world.shared.held → (o : Option Held) → held_by x s.world.shared.held ≡ o → request_in o ≡ g.around.gone → Holds g sh.form u (node_held a k env f s.world o s)
  node_held_goes cs u fit f is x s at all None e gone = null_goes g sh.form u plain s (nothing_gone g.around.gone refl (sym gone) u s at)
  node_held_goes cs u fit f is x s at all (Some h) e gone = node_runs_goes cs u fit f is h (sym gone) s at (executor_of s.world.setting.site h.executor)
      (λ none. found_there g.site x s.world.shared.held all h e (ap (λ (z : Setting). executor_of z.site h.executor) (sym (at.sound).setting) ∙ none))

  -- behind the wait for an executor
  pub node_granted_goes : calls_step step.Node sh.form env ≡ true → (u : Common) → EnvFits u.cells xs env → (f : Value) → IsIn HasClosure u.cells f → (x : Reply_answer) (s : State) → At (unopened g) u s → AllOfSite g.site s.world.shared.held → granted_of s.world.shared.held x ≡ g.around.gone → Holds g sh.form u (node_granted a k env f x s)
  node_granted_goes cs u fit f is (GrantedAnswer x) s at all gone = node_held_goes cs u fit f is x s at all (held_by x s.world.shared.held) refl gone
  node_granted_goes cs u fit f is Begin s at all gone = null_goes g sh.form u plain s (nothing_gone g.around.gone refl (sym gone) u s at)
  node_granted_goes cs u fit f is (Done code out) s at all gone = null_goes g sh.form u plain s (nothing_gone g.around.gone refl (sym gone) u s at)
  node_granted_goes cs u fit f is (DecidedAnswer proceed name) s at all gone = null_goes g sh.form u plain s (nothing_gone g.around.gone refl (sym gone) u s at)
  node_granted_goes cs u fit f is (Joined ends) s at all gone = null_goes g sh.form u plain s (nothing_gone g.around.gone refl (sym gone) u s at)

  -- `dir`
  no_node_goes : (u : Common) → Goes g sh.form u no_node
  no_node_goes u = throwing_goes g sh.form u MissingContextVariable (codes "Required context class hudson.FilePath is missing")

  pub dir_in_goes : calls_step step.Dir sh.form env ≡ true → (u : Common) → EnvFits u.cells xs env → (path : List ℕ) (f : Value) → IsIn HasClosure u.cells f → (s : State) → At g u s → (o : Option StepPlace) → Holds g sh.form u (dir_in a k env path f s.world o s)
  dir_in_goes cs u fit path f is s at None = from_here g sh.form u (end_block (codes "dir") s.world.own.head no_node) s at (end_block_goes g sh.form s.world.shared (codes "dir") s.world.own.head (at.sound).head no_node (no_node_goes s.world.shared))
  dir_in_goes cs u fit path f is s at (Some p) =
      let at1 : At g u (with_world (with_line (codes "Running in " ++ folder_of p.folder path) s.world) s) = at_moved g u (with_line (codes "Running in " ++ folder_of p.folder path)) s at
      (line_moves g (codes "Running in " ++ folder_of p.folder path) s.world at.sound) in
      let at2 : At (inside kind.DirBody g) u (with_world (with_folder (folder_of p.folder path) (with_line (codes "Running in " ++ folder_of p.folder path) s.world)) s) =
      at_over (inside kind.DirBody g) g.around u (with_folder (folder_of p.folder path)) (with_world (with_line (codes "Running in " ++ folder_of p.folder path) s.world) s) at1 refl refl refl refl refl refl (omega arith) (folder_same g.around (folder_of p.folder path) (with_line (codes "Running in " ++ folder_of p.folder path) s.world)) in
      guard_here g sh.form u (line_limit (codes "Running in " ++ folder_of p.folder path) s.world) (with_line (codes "Running in " ++ folder_of p.folder path)) (changed (with_folder (folder_of p.folder path)) (calling (closure_of s.world f) (ended Null) (dir_body a k env s.world))) s (record { later = at.later; sound = at.sound })
      (λ none. called_goes u (closure_of s.world f) (with_world (with_folder (folder_of p.folder path) (with_line (codes "Running in " ++ folder_of p.folder path) s.world)) s) (callee_same (closure_of s.world f) (closure_fits g s.world f at.sound)) (has_callee s.world f (in_closure_then u s.world.shared at.later f is)) (dir_body a k env s.world) (λ c callee.
      beside_body kind.DirBody tt cs (omega arith) refl refl refl (λ vs. tt) s.world u fit (after_dir_body s.world.own.head (next_node s.world)) c (with_world (with_folder (folder_of p.folder path) (with_line (codes "Running in " ++ folder_of p.folder path) s.world)) s) at2 (record { cells = refl; nodes = refl; head = refl }) callee
      (λ v l old new e1 t q h. body_end_changed g sh.form plain (open_in kind.DirBody g.around) v (codes "dir") s.world.own.head (next_node s.world) old new without_folder (λ w. refl) (λ w. refl) (λ w. refl) (λ w. refl) (λ w. refl) (λ w. refl) (λ w. omega arith) (folder_left g.around) e1 t q h)))
    where
      callee_same : (o : Option Callee) → CalleeThere g.script s.world.shared o → CalleeThere g.script (with_line (codes "Running in " ++ folder_of p.folder path) s.world).shared o
      callee_same None t = tt
      callee_same (Some c) t = record { below = t.below; callable = t.callable; variables = t.variables }

  -- `sh`
  pub sh_in_goes : calls_step step.Sh sh.form env ≡ true → (u : Common) → EnvFits u.cells xs env → (script : List ℕ) (status keep : Bool) (s : State) → At g u s → HasRoom s.world.shared → (o : Option StepPlace) → PlaceFits g o → Holds g sh.form u (sh_in k env script status keep s.world o s)
  sh_in_goes cs u fit script status keep s at room None there = no_node_goes u s at
  sh_in_goes cs u fit script status keep s at room (Some p) there = waiting_goes u (task_of s.world p script status keep) (frame kind.ShWait k 0 env (Truth status ∷ Truth keep ∷ [])) refl (after_sh (Truth status) (Truth keep)) s at room (there, omega arith)
      (sits_here g shaped k sh xs place s.world.shared kind.ShWait 0 env (Truth status ∷ Truth keep ∷ []) cs (omega arith) (tt, (tt, tt)) (env_later u s.world.shared at.later xs env fit) tt)

  -- behind the wait for a task
  sh_output_goes : (u : Common) (keep : Bool) (out : List ℕ) → Goes g sh.form u (sh_output keep out)
  sh_output_goes u true out = operate_goes g sh.form u [] tt (IsIn HasText) text_there (λ w. new_text (limits w) (cells w) (utf8_lossy out)) (λ w. new_texts (limits w) (closure_rule g.script) (cells w) (utf8_lossy out)) ended (end_goes g sh.form u plain)
  sh_output_goes u false out = null_goes g sh.form u plain

  code_goes : (u : Common) (b keep : Bool) (code : ℤ) (out : List ℕ) → Goes g sh.form u (if b then sh_output keep out else throwing Abort (exit_message code))
  code_goes u true keep code out = sh_output_goes u keep out
  code_goes u false keep code out = throwing_goes g sh.form u Abort (exit_message code)

  sh_ended_goes : (u : Common) (status keep : Bool) (code : ℤ) (out : List ℕ) → Goes g sh.form u (sh_ended status keep code out)
  sh_ended_goes u true keep code out = λ s at. (at, (tt, plain))
  sh_ended_goes u false keep code out = code_goes u (int_eq code (pos 0)) keep code out

  pub sh_done_goes : (u : Common) (status keep : Bool) (x : Reply_answer) → Goes g sh.form u (sh_done status keep x)
  sh_done_goes u status keep (Done code out) = sh_ended_goes u status keep code out
  sh_done_goes u status keep (GrantedAnswer x) = null_goes g sh.form u plain
  sh_done_goes u status keep Begin = null_goes g sh.form u plain
  sh_done_goes u status keep (DecidedAnswer proceed name) = null_goes g sh.form u plain
  sh_done_goes u status keep (Joined ends) = null_goes g sh.form u plain

  -- `input`
  pub input_decided_goes : (u : Common) (x : Reply_answer) → Goes g sh.form u (input_decided x)
  input_decided_goes u (DecidedAnswer true name) = logging_goes g sh.form u (codes "Approved by " ++ name) (ended Null) (null_goes g sh.form u plain)
  input_decided_goes u (DecidedAnswer false name) = throwing_goes g sh.form u FlowInterrupted (codes "Rejected by " ++ name)
  input_decided_goes u (GrantedAnswer x) = null_goes g sh.form u plain
  input_decided_goes u Begin = null_goes g sh.form u plain
  input_decided_goes u (Done code out) = null_goes g sh.form u plain
  input_decided_goes u (Joined ends) = null_goes g sh.form u plain

  pub input_asks_goes : calls_step step.Input sh.form env ≡ true → (u : Common) → EnvFits u.cells xs env → (id : Option (List ℕ)) → IdFits id → (s : State) → At g u s → HasRoom s.world.shared → Holds g sh.form u (input_asks k env id s.world s)
  input_asks_goes cs u fit id good s at room = waiting_goes u _ (frame kind.InputWait k 0 env []) refl after_input s at room (id_fits id s.world.shared.next_request (number_low g.site s.world.shared (at.sound).bounds) good)
      (sits_here g shaped k sh xs place s.world.shared kind.InputWait 0 env [] cs (omega arith) tt (env_later u s.world.shared at.later xs env fit) tt)
