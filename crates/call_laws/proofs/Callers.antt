-- The nodes that call: what a step, a walk and the method `call` enter is a closure that is among the cells.
use Rattle.std.proofs.Common.{◌≡◌, ◌∙◌, ◌-◌, ap, sym, subst, refl, inl, inr, ℕ, zero, suc, Bool, true, false, List, [], ◌∷◌, ◌++◌, length, Option, Some, None}
use Rattle.std.specs.Prelude.{◌⊎◌, codes, slice_get, drop, zip, take}
use Rattle.indexmap.specs.IndexMap.{insert_all}
use Rattle.model_syntax.specs.declared.node.NodeForm.{NodeForm}
use Rattle.model_syntax.specs.declared.node.NodeForm.TheVariants as form
use Rattle.model_syntax.specs.declared.tree.Access.{Access}
use Rattle.model_values.specs.Cells.{new_map}
use Rattle.model_values.specs.Fitting.{There}
use Rattle.model_values.specs.Keys.{same_key}
use Rattle.model_values.specs.Kinds.{kind as kind_of}
use Rattle.model_values.specs.Later.{CellsLater, AnswerLater, CalledGrows, TurnGrows, AfterGrows}
use Rattle.model_values.specs.MethodNames.{Method, method_named}
use Rattle.model_values.specs.Methods.{Called, Done, Walks, CallsClosure, method_call}
use Rattle.model_values.specs.Throws.{unknown_step}
use Rattle.model_values.specs.Walks.{Turn as Element, Turns, Past, Stops, turn as element_of, After, Keeps as Kept, Ends, at_end}
use Rattle.model_values.specs.declared.value.Value.{Value}
use Rattle.model_values.specs.declared.value.Value.TheVariants.{Null, Bool as Truth, Int as Whole, Cell as InCell}
use Rattle.model_values.specs.declared.throwable.Class.TheVariants.{IllegalArgument, MissingContextVariable}
use Rattle.model_values.specs.declared.cell.Cell.{Cell}
use Rattle.model_values.specs.declared.cell.Cell.TheVariants.{Variable, Text as TextCell, List as ListCell, Map as MapCell, Closure as ClosureCell, Thrown as ThrownCell}
use Rattle.model_values.proofs.CellGrowth.{answer_later}
use Rattle.model_values.proofs.LaterLaws.{later_itself}
use Rattle.model_run.specs.declared.flow.NodeKind.{NodeKind}
use Rattle.model_run.specs.declared.flow.NodeKind.TheVariants.{Block as BlockNode, EndBody as EndBodyNode, EndBlock as EndBlockNode}
use Rattle.model_run.specs.declared.request.Request.TheVariants.{Node as NodeRequest}
use Rattle.model_run.specs.declared.wait.Answer.{Answer}
use Rattle.model_run.specs.declared.wait.Answer.TheVariants.{Begin, Granted, Done as Ran, Decided, Joined}
use Rattle.model_run.specs.declared.held.Held.{Held}
use Rattle.model_run.specs.declared.site.Executor.{Executor}
use Rattle.model_run.specs.declared.request.Request.{Request}
use Rattle.model_run.specs.declared.step.Step.{Step}
use Rattle.model_run.specs.declared.step.Step.TheVariants as step
use Rattle.model_run.specs.declared.frame.Frame.{Frame}
use Rattle.model_run.specs.declared.frame.FrameKind.{FrameKind}
use Rattle.model_run.specs.declared.frame.FrameKind.TheVariants as kind
use Rattle.model_run.specs.declared.ending.Ending.{Ending}
use Rattle.model_run.specs.declared.ending.Ending.TheVariants.{Thrown}
use Rattle.model_run.specs.declared.ending.Entry.{Entry}
use Rattle.model_run.specs.declared.ending.Entry.TheVariants.{First, Inside}
use Rattle.model_run.specs.declared.ending.Asked.TheVariants.{ForRequest}
use Rattle.model_run.specs.Terms.{Term}
use Rattle.model_run.specs.State.{World, State, Env, Result, Ended, Limited, Unfinished, with_world, changed, seeing, guarded, on_throw, answered, operating, awaiting, may_count, raised}
use Rattle.model_run.specs.Around.{Around, Shape, form_at, arity, frame, ended, limits, cells, whole, value_at, position}
use Rattle.model_run.specs.declared.callee.Callee.{Callee}
use Rattle.model_run.specs.Forms.{gather_all, start, suffix_on, turn, after_kind}
use Rattle.model_run.specs.Callables.{closure_in, closure_of, calling, function_named}
use Rattle.model_run.specs.Calls.{enter, walks, called_value, held_in_turn, walked, walk_after, after_walk_turn, begun_turn, walk_turn, takes_two, walk, walk_method, called, is_null, call_on, call_method, method_step, Meant, Callee_of, Step_of, Nothing, meant_step, meant_binding, binding_closure, meant_function, call_meant, call_value, call_by, call_named}
use Rattle.model_run.specs.FlowNodes.{next_node, noting, noted, noted_limit, pipeline, block, body_limit, noted_body, end_body, end_block}
use Rattle.model_run.specs.FrameTable.{enters_body, Within, Part, Inner, frame_row, is_name_call, passes, passes_part, passes_inner, within, current, gathered_within}
use Rattle.model_run.specs.Gathering.{named_keys, keep_by, keep, after_gathered, gather_value, after_key, gather_part, gather, closes_named}
use Rattle.model_run.specs.Grants.{executor_of}
use Rattle.model_run.specs.Labels.{kept_label}
use Rattle.model_run.specs.Names.{look}
use Rattle.model_run.specs.Nesting.{Begun, Any_body, Body_of, For_executor, CallsByName, itself, shape_at, spot, spot_in, Enters, own_frame, entered, any_body, body_of}
use Rattle.model_run.specs.Results.{rank}
use Rattle.model_run.specs.StepTable.{Given, given, text_given, Bound, Binds, Refuses, Stops_at, bind_step, step_named}
use Rattle.model_run.specs.Steps.{with_request, waiting_for, text_or_empty, run_body, starts, after_body, kept_text, named_result, after_catch_error, catch_error_body, retry_end, retry_next, retry_body, after_retry, tries_given, caught_lines, is_interruption, logging_all, running_line, workspace_of, entered_node, after_node_body, node_body, node_runs, node_held, node_granted, after_node_wait, held_by, Place, place_of, folder_of, with_folder, after_dir_body, dir_body, dir_in, overrides_of, with_overrides, after_with_env, with_env_body, block_step, bound_step, begin_step}
use Rattle.model_run.proofs.CallLaws.{method_calls}
use Rattle.model_run.proofs.ExpressionLaws.{keeps_raised}
use Rattle.model_run.proofs.OperationLaws.{table, new_map_later, unknown_step_later, kept_text_later, called_grows, turn_later, after_later, at_end_later}
use Rattle.model_run.proofs.Relation.{Relation, OfPart, Agree, Goes, GoesOn, kept, change_law, guard_law, choose_law, value_law, throw_law, answer_law, answered_law, operate_law}
use Rattle.model_run.proofs.Room.{keeps_node, spends_body, spends_turn}
use Rattle.model_run.proofs.StepLaws.{form_step, step_unless, throwing_law, logging_law, body_end_law, catch_error_end_law, node_end_law, dir_end_law, with_env_end_law, sh_law, input_law, parallel_end_law, step_law}
use Rattle.model_run.proofs.Under.{end_law, tick_law, tick_at}
use Rattle.run_laws.proofs.FrameForms.{computed_is}
use Rattle.call_laws.specs.Entering.{HasClosureAt, IsCallee, EnteredAt, Behind, ComesTo}
use Rattle.call_laws.proofs.Entries.{closure_stays, callee_begins, name_begins, own_begins, own_stands, inside_is, comes_before, comes_as, comes_through, comes_unless, comes_reply, behind_change, entering}

-- the closure that a value is, is among the cells
closure_in_at : (h : List Cell) (m : ℕ) (o : Option Cell) → slice_get h m ≡ o → (c : Callee) → closure_in o ≡ Some c → HasClosureAt h c.node
closure_in_at h m (Some (ClosureCell n env)) e c is =
    let same : (record { node = n; env = env }) ≡ c = cc in
    (m, c.env, e ∙ ap (λ (x : Callee). Some (ClosureCell x.node x.env)) same)
closure_in_at h m (Some (Variable v)) e c is = absurd (cc)
closure_in_at h m (Some (TextCell t)) e c is = absurd (cc)
closure_in_at h m (Some (ListCell vs)) e c is = absurd (cc)
closure_in_at h m (Some (MapCell es)) e c is = absurd (cc)
closure_in_at h m (Some (ThrownCell d t)) e c is = absurd (cc)
closure_in_at h m None e c is = absurd (cc)

closure_at : (w : World) (v : Value) (c : Callee) → closure_of w v ≡ Some c → HasClosureAt (cells w) c.node
closure_at w (InCell m) c is = closure_in_at (cells w) m (slice_get (cells w) m) refl c is
closure_at w Null c is = absurd (cc)
closure_at w (Truth b) c is = absurd (cc)
closure_at w (Whole z) c is = absurd (cc)

-- the forms of nodes that call
abbrev pub is_caller : NodeForm → Bool
is_caller (form.Call f) = true
is_caller (form.Method access f) = true
is_caller f = false

-- none of them is passed through
caller_part : (f p : NodeForm) → is_caller f ≡ true → passes_part f p ≡ true → ⊥
caller_part (form.Call f) p e pass = absurd (cc)
caller_part (form.Method access f) p e pass = absurd (cc)
caller_part f p e pass = absurd (cc)

caller_inner : (f p : NodeForm) → is_caller f ≡ true → passes_inner f p ≡ true → ⊥
caller_inner (form.Call f) p e pass = absurd (cc)
caller_inner (form.Method access f) p e pass = absurd (cc)
caller_inner f p e pass = absurd (cc)

caller_passes : (sh : Shape) → is_caller sh.form ≡ true → (w : Within) → passes sh w ≡ true → ⊥
caller_passes sh e (Part i) pass = caller_part sh.form _ e pass
caller_passes sh e (Inner i (suc zero)) pass = caller_inner sh.form _ e pass
caller_passes sh e w pass = absurd (cc)

-- a name that means a step is that step's
abbrev step_in : Meant → Option Step
step_in (Step_of s) = Some s
step_in m = None

step_meant : (o : Option Step) (s : Step) → meant_step o ≡ Step_of s → o ≡ Some s
step_meant (Some t) s e = ap step_in e
step_meant None s e = absurd (cc)

binding_meant : (f : List ℕ) (o : Option Callee) (s : Step) → meant_binding f o ≡ Step_of s → step_named f ≡ Some s
binding_meant f (Some c) s e = absurd (cc)
binding_meant f None s e = step_meant (step_named f) s e

function_meant : (f : List ℕ) (w : World) (o : Option Callee) (s : Step) → meant_function f w o ≡ Step_of s → step_named f ≡ Some s
function_meant f w (Some c) s e = absurd (cc)
function_meant f w None s e = binding_meant f (binding_closure f w) s e

-- What node k is evaluated from: its parts, its further turns and what it calls come to what stands there.
pub record Supplies (root : Term) (k : ℕ) (a : Around) : Type 0 where
  pub part : (h : List Cell) (e : Entry) → OfPart e → (i : ℕ) (env : Env) (s : State) → Behind h s → ComesTo root h (spot root k (within e i)) (a.part e i env s)
  pub again : (h : List Cell) (i : ℕ) (kept : List Value) (env : Env) (s : State) → Behind h s → ComesTo root h (Begun k) (a.again i kept env s)
  pub call : (h : List Cell) (n : ℕ) (args : List Value) (env : Env) (s : State) → Behind h s → ComesTo root h (Body_of n) (a.call n args env s)

-- the same, where nothing is called: for all that a step does besides
abbrev without_calls : Around → Around
without_calls a = record { part = a.part; again = a.again; call = λ n args env s. Unfinished }

module _ (root : Term) (k : ℕ) (sh : Shape) (there : shape_at root k ≡ sh) (a : Around) (src : Supplies root k a) where
  -- one evaluation of this node, behind such cells
  abbrev pub here : List Cell → Relation
  here h = entering root h k (Begun k) (ComesTo root h Any_body)

  -- what goes on from states behind such cells comes to what stands in the place of this node
  abbrev pub So : List Cell → (State → Result) → Type 0
  So h go = Goes (here h) go go

  abbrev pub SoOn : List Cell → (Ending → State → Result) → Type 0
  SoOn h go = GoesOn (here h) go go

  -- the body of what is called, in the place of this node
  body_stands : (x : Frame) → enters_body (shape_at root k).form ≡ true → Enters root x Any_body → Enters root x (Begun k)
  body_stands x call (any_body is) = entered k is itself call

  called_stands : (n : ℕ) (x : Frame) → Enters root x (Body_of n) → Enters root x Any_body
  called_stands n x (body_of is at) = any_body is

  -- what it is evaluated from keeps this
  agree : is_caller sh.form ≡ true → (h : List Cell) → Agree (here h) sh k (without_calls a) (without_calls a)
  agree caller h = record {
    parts = λ e part i env s s' q. src.part h e part i env s q;
    agains = λ i kept env s s' q. src.again h i kept env s q;
    calls = λ n args env s s' q. tt;
    fits = λ f at m. tt;
    stands = λ f at own m. record { stands = own_stands root k f at own; enters = λ g. own_begins root g k f.node f.kind own; inside = inside_is root k sh there f at; bodies = λ is r c. c };
    passed = λ w pass r r' q. absurd (caller_passes sh caller w pass);
    called = λ enters r r' q. comes_as root h Any_body (Begun k) (λ asked w. w) (λ f e. body_stands f (subst (λ z. enters_body z.form ≡ true) (sym there) enters) e) (λ g later f at. callee_begins root g k f.node at f.kind) r q;
  }

  -- the body of a closure that is there, inside a frame
  closure_body : (h : List Cell) (n : ℕ) (args : List Value) (env : Env) (s : State) → HasClosureAt h n → Behind h s → ComesTo root h Any_body (a.call n args env s)
  closure_body h n args env s has q = comes_as root h (Body_of n) Any_body (λ asked w. w) (called_stands n) (λ g later f at. subst (IsCallee root g) (sym at) (inr (closure_stays h g later n has))) (a.call n args env s) (src.call h n args env s q)

  -- a body in the place of this node: that of such a closure, or any where a name is called
  abbrev MayEnter : List Cell → ℕ → Type 0
  MayEnter h n = HasClosureAt h n ⊎ CallsByName root k

  body_begins : (h g : List Cell) → CellsLater h g → (n : ℕ) → MayEnter h n → (f : Frame) → f.node ≡ n → EnteredAt root g (Begun k) f
  body_begins h g later n (inl has) f at = callee_begins root g k f.node (subst (IsCallee root g) (sym at) (inr (closure_stays h g later n has))) f.kind
  body_begins h g later n (inr named) f at = name_begins root g k f.node named f.kind

  enter_goes : enters_body sh.form ≡ true → (h : List Cell) (args : List Value) (c : Callee) → MayEnter h c.node → So h (enter a args c)
  enter_goes call h args c may = tick_law (here h) (a.call c.node args c.env) (a.call c.node args c.env) (λ s s' q.
      comes_as root h (Body_of c.node) (Begun k) (λ asked w. w) (λ f e. body_stands f (ap (λ (z : Shape). enters_body z.form) there ∙ call) (called_stands c.node f e)) (λ g later f at. body_begins h g later c.node may f at) (a.call c.node args c.env s) (src.call h c.node args c.env s q))

  -- what reads the world goes on behind the cells that it sees
  seeing_goes : (h : List Cell) (go : World → State → Result) → ((w : World) → So (cells w) (go w)) → So h (seeing go)
  seeing_goes h go law s s' q = comes_before root h (cells s.world) q.1 (Begun k) (go s.world s) (law s.world s s (q.0, later_itself (cells s.world)))

  -- a value that is a closure is called
  calling_goes : (w : World) (v : Value) (go : Callee → State → Result) → ((c : Callee) → HasClosureAt (cells w) c.node → So (cells w) (go c)) → So (cells w) (calling (closure_of w v) (ended Null) go)
  calling_goes w v go law = one (closure_of w v) refl
    where
      one : (o : Option Callee) → closure_of w v ≡ o → So (cells w) (calling o (ended Null) go)
      one None e = end_law (here (cells w)) Null
      one (Some c) e = law c (closure_at w v c e)

  -- the body of a step, under its frame
  run_body_goes : (h : List Cell) (x : Frame) → Enters root x (Begun k) → ((g : List Cell) → EnteredAt root g (Begun k) x) → spot_in root x ≡ Any_body → (go : Ending → State → Result) → SoOn h go → (label : List ℕ) (c : Callee) → HasClosureAt h c.node → So h (run_body a x go label c)
  run_body_goes h x stands enters is go law label c has s s' q =
      comes_through root h (Begun k) Any_body x stands enters is go (λ e t b. law e t t b) (guarded (body_limit label) (noted_body label) (a.call c.node [] c.env) s)
      (comes_unless root h Any_body (body_limit label s.world) (changed (noted_body label) (a.call c.node [] c.env)) s
      (closure_body h c.node [] c.env (with_world (noted_body label s.world) s) has (behind_change root h (noted_body label) s ((spends_body label s.world).keeps).cells q)))

  -- flow nodes and lines
  noting_goes : (h : List Cell) (d : NodeKind) (name : List ℕ) (start : ℕ) (text : List ℕ) (go : State → Result) → So h go → So h (noting d name start text go)
  noting_goes h d name start text go law = guard_law (here h) (noted_limit text) (λ w. noted d name start (w.own.head ∷ []) text w) (keeps_node d name start (λ w. w.own.head ∷ []) text) go go law

  block_goes : (h : List Cell) (name : List ℕ) (go : State → Result) → So h go → So h (block name go)
  block_goes h name go law = noting_goes h BlockNode name 0 (pipeline name) go law

  end_body_goes : (h : List Cell) (start : ℕ) (go : State → Result) → So h go → So h (end_body start go)
  end_body_goes h start go law = noting_goes h EndBodyNode [] start (pipeline (codes "}")) go law

  end_block_goes : (h : List Cell) (name : List ℕ) (start : ℕ) (go : State → Result) → So h go → So h (end_block name start go)
  end_block_goes h name start go law = noting_goes h EndBlockNode [] start (pipeline (codes "// " ++ name)) go law

  logging_all_goes : (h : List Cell) (texts : List (List ℕ)) (go : State → Result) → So h go → So h (logging_all texts go)
  logging_all_goes h [] go law = law
  logging_all_goes h (t ∷ ts) go law = logging_law (here h) t (logging_all ts go) (logging_all ts go) (logging_all_goes h ts go law)

  module _ (env : Env) where
    -- `retry`
    retry_end_goes : (h : List Cell) (start : ℕ) → SoOn h (retry_end start)
    retry_end_goes h start e = end_block_goes h (codes "retry") start (Ended e) ((here h).ends e)

    retry_next_goes : (h : List Cell) (again : State → Result) → So h again → (start c : ℕ) (b : Bool) (o : Option Cell) → So h (retry_next again start c b o)
    retry_next_goes h again law start c true o = retry_end_goes h start (Thrown c)
    retry_next_goes h again law start c false o = logging_all_goes h (caught_lines o ++ codes "Retrying" ∷ []) again law

    retry_body_goes : (h : List Cell) (after : ℕ → Ending → State → Result) → ((g : List Cell) (body : ℕ) → SoOn g (after body)) → (start m : ℕ) (f : Value) → So h (retry_body after a k env start m f)
    retry_body_goes h after law start m f = seeing_goes h _ (λ w. calling_goes w f _ (λ c has.
        run_body_goes (cells w) (frame kind.RetryBody k 0 env (whole start ∷ whole (next_node w) ∷ whole m ∷ f ∷ [])) (own_frame refl itself) (λ g. tt) refl (after (next_node w)) (law (cells w) (next_node w)) [] c has))

    pub after_retry_goes : (start : ℕ) (f : Value) (m : ℕ) (h : List Cell) (body : ℕ) → SoOn h (after_retry a k env start f m body)
    after_retry_goes start f zero h body e = end_body_goes h body (retry_end start e) (retry_end_goes h start e)
    after_retry_goes start f (suc m) h body e =
        let go : ℕ → State → Result = λ c. seeing (λ w. retry_next (retry_body (after_retry a k env start f m) a k env start m f) start c (is_interruption (slice_get (cells w) c)) (slice_get (cells w) c)) in
        end_body_goes h body (on_throw go (retry_end start) e) (throw_law (here h) go go (retry_end start) (retry_end start)
        (λ c s s' q. retry_next_goes h (retry_body (after_retry a k env start f m) a k env start m f) (retry_body_goes h (after_retry a k env start f m) (λ g b. after_retry_goes start f m g b) start m f) start c (is_interruption (slice_get (cells s.world) c)) (slice_get (cells s.world) c) s s' q)
        (retry_end_goes h start) e)

    -- `node`
    node_runs_goes : (f : Value) (w : World) (x : Held) (o : Option Executor) → So (cells w) (node_runs a k env f w x o)
    node_runs_goes f w x None = end_law (here (cells w)) Null
    node_runs_goes f w x (Some y) =
        logging_law (here (cells w)) (running_line y (workspace_of w x y)) (changed (entered_node x.request (workspace_of w x y)) (calling (closure_of w f) (ended Null) (node_body a k env w))) (changed (entered_node x.request (workspace_of w x y)) (calling (closure_of w f) (ended Null) (node_body a k env w)))
        (change_law (here (cells w)) (entered_node x.request (workspace_of w x y)) (λ w. kept refl refl refl refl refl refl refl refl refl refl refl) (calling (closure_of w f) (ended Null) (node_body a k env w)) (calling (closure_of w f) (ended Null) (node_body a k env w))
        (calling_goes w f _ (λ c has. run_body_goes (cells w) (frame kind.NodeBody k 0 env (starts w)) (own_frame refl itself) (λ g. tt) refl (after_node_body w.own.head (next_node w)) (node_end_law (here (cells w)) w.own.head (next_node w)) [] c has)))

    node_held_goes : (f : Value) (w : World) (o : Option Held) → So (cells w) (node_held a k env f w o)
    node_held_goes f w None = end_law (here (cells w)) Null
    node_held_goes f w (Some x) = node_runs_goes f w x (executor_of w.setting.site x.executor)

    node_granted_goes : (h : List Cell) (f : Value) (x : Answer) → So h (node_granted a k env f x)
    node_granted_goes h f (Granted x) = seeing_goes h _ (λ w. node_held_goes f w (held_by x w.shared.held))
    node_granted_goes h f Begin = end_law (here h) Null
    node_granted_goes h f (Ran code out) = end_law (here h) Null
    node_granted_goes h f (Decided proceed name) = end_law (here h) Null
    node_granted_goes h f (Joined ends) = end_law (here h) Null

    pub node_wait_goes : (h : List Cell) (f : Value) → SoOn h (after_node_wait a k env f)
    node_wait_goes h f = answer_law (here h) (node_granted a k env f) (node_granted a k env f) (node_granted_goes h f)

    node_asks_goes : (h : List Cell) (r : Request) (f : Value) (s : State) → Behind h s → ComesTo root h (Begun k) (waiting_for r (frame kind.NodeWait k 0 env (f ∷ [])) (after_node_wait a k env f) s.world s)
    node_asks_goes h r f s q =
        comes_through root h (Begun k) For_executor (frame kind.NodeWait k 0 env (f ∷ [])) (own_frame refl itself) (λ g. tt) refl (after_node_wait a k env f) (λ e t b. node_wait_goes h f e t t b)
        (awaiting (ForRequest s.world.shared.next_request) (with_world (with_request r s.world) s)) (comes_reply root h For_executor (ForRequest s.world.shared.next_request) (with_world (with_request r s.world) s) s.replies q.0 q.1 tt)

    -- `dir`
    dir_in_goes : (path : List ℕ) (f : Value) (w : World) (p : Option Place) → So (cells w) (dir_in a k env path f w p)
    dir_in_goes path f w None = end_block_goes (cells w) (codes "dir") w.own.head _ (throwing_law (here (cells w)) MissingContextVariable (codes "Required context class hudson.FilePath is missing"))
    dir_in_goes path f w (Some p) =
        logging_law (here (cells w)) (codes "Running in " ++ folder_of p.folder path) (changed (with_folder (folder_of p.folder path)) (calling (closure_of w f) (ended Null) (dir_body a k env w))) (changed (with_folder (folder_of p.folder path)) (calling (closure_of w f) (ended Null) (dir_body a k env w)))
        (change_law (here (cells w)) (with_folder (folder_of p.folder path)) (λ w. kept refl refl refl refl refl refl refl refl refl refl refl) (calling (closure_of w f) (ended Null) (dir_body a k env w)) (calling (closure_of w f) (ended Null) (dir_body a k env w))
        (calling_goes w f _ (λ c has. run_body_goes (cells w) (frame kind.DirBody k 0 env (starts w)) (own_frame refl itself) (λ g. tt) refl (after_dir_body w.own.head (next_node w)) (dir_end_law (here (cells w)) w.own.head (next_node w)) [] c has)))

    -- the steps with a body
    block_step_goes : (h : List Cell) (w : World) (args : Given) (f : Value) (t : Step) → So h (block_step a k env w args f t)
    block_step_goes h w args f step.Stage = block_goes h (codes "stage") _ (seeing_goes h _ (λ u. calling_goes u f _ (λ c has.
        run_body_goes (cells u) (frame kind.StageBody k 0 env (starts u)) (own_frame refl itself) (λ g. tt) refl (after_body (codes "stage") u.own.head (next_node u)) (body_end_law (here (cells u)) (codes "stage") u.own.head (next_node u)) (text_or_empty w (codes "name") args) c has)))
    block_step_goes h w args f step.CatchError =
        let go : Value → State → Result = λ message. block (codes "catchError") (seeing (λ u. calling (closure_of u f) (ended Null) (catch_error_body a k env (rank (named_result (cells w) (given (codes "buildResult") args))) message u))) in
        operate_law (here h) (λ u. kept_text u (given (codes "message") args)) (λ u. kept_text_later u (given (codes "message") args)) go go (λ message.
        block_goes h (codes "catchError") _ (seeing_goes h _ (λ u. calling_goes u f _ (λ c has.
        run_body_goes (cells u) (frame kind.CatchErrorBody k 0 env (starts u ++ whole (rank (named_result (cells w) (given (codes "buildResult") args))) ∷ message ∷ [])) (own_frame refl itself) (λ g. tt) refl (after_catch_error u.own.head (next_node u) (rank (named_result (cells w) (given (codes "buildResult") args))) message)
        (catch_error_end_law (here (cells u)) u.own.head (next_node u) (rank (named_result (cells w) (given (codes "buildResult") args))) message) [] c has))))
    block_step_goes h w args f step.Retry = block_goes h (codes "retry") _ (seeing_goes h _ (λ u.
        retry_body_goes (cells u) (after_retry a k env u.own.head f (tries_given (cells w) (given (codes "count") args))) (λ g b. after_retry_goes u.own.head f (tries_given (cells w) (given (codes "count") args)) g b) u.own.head (tries_given (cells w) (given (codes "count") args)) f))
    block_step_goes h w args f step.Node = block_goes h (codes "node") _ (λ s s' q. node_asks_goes h (NodeRequest (kept_label (text_given w (codes "label") args))) f s q)
    block_step_goes h w args f step.Dir = block_goes h (codes "dir") _ (seeing_goes h _ (λ u. dir_in_goes (text_or_empty w (codes "path") args) f u (place_of u)))
    block_step_goes h w args f step.WithEnv = block_goes h (codes "withEnv") _ (seeing_goes h _ (λ u.
        let go : State → Result = calling (closure_of u f) (ended Null) (with_env_body a k env (length (overrides_of (cells w) (given (codes "overrides") args))) u) in
        change_law (here (cells u)) (with_overrides (overrides_of (cells w) (given (codes "overrides") args))) (λ w. kept refl refl refl refl refl refl refl refl refl refl refl) go go
        (calling_goes u f _ (λ c has. run_body_goes (cells u) (frame kind.WithEnvBody k 0 env (starts u ++ whole (length (overrides_of (cells w) (given (codes "overrides") args))) ∷ [])) (own_frame refl itself) (λ g. tt) refl (after_with_env u.own.head (next_node u) (length (overrides_of (cells w) (given (codes "overrides") args))))
        (with_env_end_law (here (cells u)) u.own.head (next_node u) (length (overrides_of (cells w) (given (codes "overrides") args)))) [] c has))))
    block_step_goes h w args f t = end_law (here h) Null

    -- a step whose arguments have been evaluated
    begin_goes : is_caller sh.form ≡ true → (h : List Cell) (t : Step) → form_step sh.form env ≡ Some t → (args : List Value) → So h (begin_step a k env t args)
    begin_goes caller h t named args s s' q = one (bind_step s.world t args) refl
      where
        one : (b : Bound) → bind_step s.world t args ≡ b → ComesTo root h (Begun k) (bound_step a k env t s.world b s)
        one (Binds args' None) e = subst (λ b. ComesTo root h (Begun k) (bound_step (without_calls a) k env t s.world b s)) e (step_law (here h) sh k (without_calls a) (without_calls a) (agree caller h) env t named args s s' q)
        one (Binds args' (Some f)) e = block_step_goes h s.world args' f t s s' q
        one (Refuses message) e = throwing_law (here h) IllegalArgument message s s' q
        one (Stops_at limit) e = tt

    -- walks
    walked_goes : (h : List Cell) (i : ℕ) (on f : Value) (x : After) (s : State) → AfterGrows (limits s.world) (table s.world).rule (cells s.world) ⊥ x → Behind h s → ComesTo root h (Begun k) (walked a env i on f x s)
    walked_goes h i on f (Kept held) s grows q = src.again h (suc i) (on ∷ f ∷ held) env s q
    walked_goes h i on f (Ends answer) s grows q = answered_law (here h) answer ended ended (end_law (here h)) s s (answer_later (table s.world) There answer grows) q

    pub turn_end_goes : (h : List Cell) (m : Method) (i : ℕ) (on f : Value) (held : List Value) → SoOn h (after_walk_turn a env m i on f held)
    turn_end_goes h m i on f held = value_law (here h) (λ v. seeing (λ w. walked a env i on f (walk_after w m on held v))) (λ v. seeing (λ w. walked a env i on f (walk_after w m on held v))) (λ v s s' q. walked_goes h i on f (walk_after s.world m on held v) s (after_later s.world m _ _ v _) q)

    walk_turn_goes : (h : List Cell) (m : Method) (i : ℕ) (on f : Value) (held : List Value) (c : Callee) → HasClosureAt h c.node → (t : Element) (s : State) → TurnGrows (limits s.world) (table s.world).rule (cells s.world) ⊥ t → Behind h s → ComesTo root h (Begun k) (walk_turn a k env m i on f held c t s)
    walk_turn_goes h m i on f held c has Past s grows q = operate_law (here h) (λ w. at_end (limits w) (cells w) m on held) (λ w. at_end_later w m on held) ended ended (end_law (here h)) s s q
    walk_turn_goes h m i on f held c has (Stops limit) s grows q = tick_law (here h) (Limited limit) (Limited limit) ((here h).limits limit) s s q
    walk_turn_goes h m i on f held c has (Turns g args element) s grows q =
        comes_through root h (Begun k) Any_body (frame kind.WalkTurn k 0 env (on ∷ f ∷ whole i ∷ held_in_turn m args element held)) (own_frame refl itself) (λ g. tt) refl
        (after_walk_turn a env m i on f (held_in_turn m args element held)) (λ e t b. turn_end_goes h m i on f (held_in_turn m args element held) e t t b)
        (guarded may_count (begun_turn g) (a.call c.node args c.env) s)
        (comes_unless root h Any_body (may_count s.world) (changed (begun_turn g) (a.call c.node args c.env)) s
        (closure_body h c.node args c.env (with_world (begun_turn g s.world) s) has (behind_change root h (begun_turn g) s ((spends_turn g s.world grows.later).keeps).cells q)))

    pub walk_goes : (h : List Cell) (m : Method) (i : ℕ) (on f : Value) (held : List Value) → So h (walk a k env m i on f held)
    walk_goes h m i on f held s s' q = comes_before root h (cells s.world) q.1 (Begun k) (walk a k env m i on f held s) (one (closure_of s.world f) refl)
      where
        one : (o : Option Callee) → closure_of s.world f ≡ o → ComesTo root (cells s.world) (Begun k) (calling o (ended Null) (λ c. walk_turn a k env m i on f held c (element_of (limits s.world) (cells s.world) on (takes_two s.world c) i)) s)
        one None e = (q.0, later_itself (cells s.world))
        one (Some c) e = walk_turn_goes (cells s.world) m i on f held c (closure_at s.world f c e) (element_of (limits s.world) (cells s.world) on (takes_two s.world c) i) s (turn_later s.world on (takes_two s.world c) i) (q.0, later_itself (cells s.world))

    -- what a method call comes to, where the method that calls a closure is one that does
    abbrev EntersSo : Called → Type 0
    EntersSo x = (c : ℕ) → x ≡ CallsClosure c → enters_body sh.form ≡ true

    called_goes : (h : List Cell) (on : Value) (args : List Value) (x : Called) → EntersSo x → (s : State) → CalledGrows (limits s.world) (table s.world).rule (cells s.world) ⊥ x → Behind h s → ComesTo root h (Begun k) (called a k sh env s.world on args x s)
    called_goes h on args (Done answer n) so s grows q = tick_at (here h) (changed (raised n) (answered answer ended)) (changed (raised n) (answered answer ended)) s s q (λ t t' u same.
        answered_law (here h) answer ended ended (end_law (here h)) (with_world (raised n t.world) t) (with_world (raised n t'.world) t') (subst (λ (g : List Cell). AnswerLater g answer) (sym same) (answer_later (table s.world) There answer grows)) ((here h).changes (raised n) t t' (keeps_raised n t.world) u))
    called_goes h on args (Walks m c) so s grows q = tick_law (here h) (walk a k env (walk_method sh.form) 0 on (InCell c) []) (walk a k env (walk_method sh.form) 0 on (InCell c) []) (walk_goes h (walk_method sh.form) 0 on (InCell c) []) s s q
    called_goes h on args (CallsClosure c) so s grows q = comes_before root h (cells s.world) q.1 (Begun k) (calling (closure_of s.world (InCell c)) (ended Null) (enter a args) s)
        (calling_goes s.world (InCell c) (enter a args) (λ d has. enter_goes (so c refl) (cells s.world) args d (inl has)) s s (q.0, later_itself (cells s.world)))

    call_method_goes : (h : List Cell) (f : List ℕ) (on : Value) (args : List Value) (s : State) → EntersSo (method_call (limits s.world) (cells s.world) on f args (suc s.world.shared.count)) → Behind h s → ComesTo root h (Begun k) (call_method a k sh env f on args s.world s)
    call_method_goes h f on args s so q = called_goes h on args (method_call (limits s.world) (cells s.world) on f args (suc s.world.shared.count)) so s (called_grows s.world on f args (suc s.world.shared.count)) q

    module _ (access : Access) (f : List ℕ) (is : sh.form ≡ form.Method access f) (h : List Cell) where
      call_on_goes : (on : Value) (args : List Value) (b : Bool) (s : State) → Behind h s → ComesTo root h (Begun k) (call_on a k sh env f on args s.world b s)
      call_on_goes on args true s q = tick_law (here h) (ended Null) (ended Null) (end_law (here h) Null) s s q
      call_on_goes on args false s q = call_method_goes h f on args s (λ c e. ap enters_body is ∙ method_calls (limits s.world) (cells s.world) on f (method_named f) args (suc s.world.shared.count) c e) q

      pub method_goes : (vs : List Value) → So h (method_step a k sh env access f vs)
      method_goes [] = end_law (here h) Null
      method_goes (on ∷ args) = λ s s' q. call_on_goes on args (is_null access (kind_of (cells s.world) on)) s q

    -- what a name that is called means
    module _ (caller : is_caller sh.form ≡ true) (call : enters_body sh.form ≡ true) (named : CallsByName root k) where
      call_value_goes : (h : List Cell) (vs : List Value) → So h (call_value a k sh env vs)
      call_value_goes h [] = end_law (here h) Null
      call_value_goes h (v ∷ args) = λ s s' q. call_method_goes h (codes "call") v args s (λ c e. call) q

      call_meant_goes : (h : List Cell) (f : List ℕ) (args : List Value) (w : World) (x : Meant) → ((t : Step) → x ≡ Step_of t → form_step sh.form env ≡ Some t) → So h (call_meant a k sh env f args w x)
      call_meant_goes h f args w (Callee_of c) so = enter_goes call h args c (inr named)
      call_meant_goes h f args w (Step_of t) so = tick_law (here h) (begin_step a k env t args) (begin_step a k env t args) (begin_goes caller h t (so t refl) args)
      call_meant_goes h f args w Nothing so = tick_law (here h) (operating (λ u. unknown_step (limits u) (cells u) f) ended) (operating (λ u. unknown_step (limits u) (cells u) f) ended) (operate_law (here h) (λ u. unknown_step (limits u) (cells u) f) (λ u. unknown_step_later u f) ended ended (end_law (here h)))

      call_by_goes : (h : List Cell) (f : List ℕ) → sh.form ≡ form.Call f → (vs : List Value) (o : Option ℕ) → look f env ≡ o → So h (call_by o a k sh env f vs)
      call_by_goes h f is vs None seen = λ s s' q. call_meant_goes h f vs s.world (meant_function f s.world (function_named f s.world))
          (λ t e. ap (λ p. form_step p env) is ∙ ap (λ o. step_unless o (step_named f)) seen ∙ function_meant f s.world (function_named f s.world) t e) s s' q
      call_by_goes h f is vs (Some c) seen = call_value_goes h vs

      pub call_goes : (h : List Cell) (f : List ℕ) → sh.form ≡ form.Call f → (vs : List Value) → So h (call_named a k sh env f vs)
      call_goes h f is vs = call_by_goes h f is vs (look f env) refl

    -- the values that a node gathers, and then what it does with them
    module _ (go : List Value → State → Result) where
      keep_goes : (h : List Cell) → ((vs : List Value) → So h (go vs)) → (b : Bool) (held : List Value) → So h (keep_by b sh held go)
      keep_goes h done true held = operate_law (here h) (λ w. new_map (limits w) (cells w) (insert_all same_key [] (zip (named_keys sh.parts) (drop (length held - length (named_keys sh.parts)) held)))) (λ w. new_map_later w (insert_all same_key [] (zip (named_keys sh.parts) (drop (length held - length (named_keys sh.parts)) held))))
          (λ map. go (take (length held - length (named_keys sh.parts)) held ++ map ∷ [])) (λ map. go (take (length held - length (named_keys sh.parts)) held ++ map ∷ [])) (λ map. done (take (length held - length (named_keys sh.parts)) held ++ map ∷ []))
      keep_goes h done false held = done held

      pub after_gathered_goes : (h : List Cell) → ((vs : List Value) → So h (go vs)) → (m : ℕ) (held : List Value) → SoOn h (after_gathered sh m held go)
      after_gathered_goes h done m held = value_law (here h) (λ v. keep sh m held v go) (λ v. keep sh m held v go) (λ v. keep_goes h done (closes_named sh m) (held ++ v ∷ []))

      value_goes : (h : List Cell) → ((vs : List Value) → So h (go vs)) → (m : ℕ) (held : List Value) (e : Entry) → OfPart e → (p : NodeForm) → form_at sh.parts (arity sh - suc m) ≡ p → gathered_within (arity sh - suc m) p ≡ within e (arity sh - suc m) → So h (gather_value a k sh env m held go e)
      value_goes h done m held e part p is inside s s' q =
          comes_through root h (Begun k) (spot root k (within e (arity sh - suc m))) (frame kind.Gathered k m env held) (own_frame refl itself) (λ g. tt)
          (ap (λ z. spot root k (gathered_within (current z m) (form_at z.parts (current z m)))) there ∙ ap (λ p. spot root k (gathered_within (arity sh - suc m) p)) is ∙ ap (spot root k) inside)
          (after_gathered sh m held go) (λ e t b. after_gathered_goes h done m held e t t b) (a.part e (arity sh - suc m) env s) (src.part h e part (arity sh - suc m) env s q)

      pub after_key_goes : (h : List Cell) → ((vs : List Value) → So h (go vs)) → (m : ℕ) (held : List Value) → form_at sh.parts (arity sh - suc m) ≡ form.ComputedEntry → SoOn h (after_key a k sh env m held go)
      after_key_goes h done m held is = value_law (here h) (λ key. gather_value a k sh env m (held ++ key ∷ []) go (Inside 1)) (λ key. gather_value a k sh env m (held ++ key ∷ []) go (Inside 1)) (λ key. value_goes h done m (held ++ key ∷ []) (Inside 1) tt form.ComputedEntry is refl)

      part_goes : (h : List Cell) → ((vs : List Value) → So h (go vs)) → (m : ℕ) (held : List Value) (p : NodeForm) → form_at sh.parts (arity sh - suc m) ≡ p → So h (gather_part a k sh env m held go p)
      part_goes h done m held (form.PlainPart t) is = done held
      part_goes h done m held (form.NamedEntry t) is = value_goes h done m held (Inside 0) tt _ is refl
      part_goes h done m held (form.NumberedEntry z) is = value_goes h done m held (Inside 0) tt _ is refl
      part_goes h done m held form.ComputedEntry is = λ s s' q.
          comes_through root h (Begun k) (spot root k (Inner (arity sh - suc m) 0)) (frame kind.GatheredKey k m env held) (own_frame refl itself) (λ g. tt) (ap (λ z. spot root k (Inner (current z m) 0)) there)
          (after_key a k sh env m held go) (λ e t b. after_key_goes h done m held is e t t b) (a.part (Inside 0) (arity sh - suc m) env s) (src.part h (Inside 0) tt (arity sh - suc m) env s q)
      part_goes h done m held p is = value_goes h done m held First tt p is refl

    pub gather_goes : (h : List Cell) (finish : List Value → State → Result) → ((vs : List Value) → So h (finish vs)) → (m : ℕ) (held : List Value) → So h (gather a k sh env finish m held)
    gather_goes h finish done zero held = done held
    gather_goes h finish done (suc m) held = part_goes (gather a k sh env finish m) h (gather_goes h finish done m) m held (form_at sh.parts (arity sh - suc m)) refl

-- A node that calls a name: from its beginning, and behind each of its frames.
module _ (root : Term) (k : ℕ) (name : List ℕ) (ps : List NodeForm) (a : Around) (src : Supplies root k a) where
  abbrev call_shape : Shape
  call_shape = record { form = form.Call name; parts = ps }

  module _ (there : shape_at root k ≡ call_shape) (env : Env) (h : List Cell) where
    call_done : (vs : List Value) → So root k call_shape there a src h (call_named a k call_shape env name vs)
    call_done = call_goes root k call_shape there a src env refl refl (k, itself, ap (λ (z : Shape). is_name_call z.form) there) h name refl

    call_gathers : (m : ℕ) (held : List Value) → So root k call_shape there a src h (gather_all a k call_shape env m held)
    call_gathers m held = gather_goes root k call_shape there a src env h (call_named a k call_shape env name) call_done m held

    pub call_starts : So root k call_shape there a src h (start a k call_shape env (form.Call name))
    call_starts s s' q = call_gathers (arity call_shape) (called_value s.world (look name env)) s s' q

    pub call_continues : (d : FrameKind) (left : ℕ) (vs : List Value) → (frame_row d call_shape left env).stands ≡ true → SoOn root k call_shape there a src h (after_kind a k call_shape left env vs d)
    call_continues kind.Gathered left vs m = after_gathered_goes root k call_shape there a src env (gather_all a k call_shape env left) h (call_gathers left) left vs
    call_continues kind.GatheredKey left vs m = after_key_goes root k call_shape there a src env (gather_all a k call_shape env left) h (call_gathers left) left vs (computed_is (form_at ps (current call_shape left)) m)
    call_continues kind.StageBody left vs m = body_end_law (here root k call_shape there a src h) (codes "stage") (position (value_at 0 vs)) (position (value_at 1 vs))
    call_continues kind.CatchErrorBody left vs m = catch_error_end_law (here root k call_shape there a src h) (position (value_at 0 vs)) (position (value_at 1 vs)) (position (value_at 2 vs)) (value_at 3 vs)
    call_continues kind.RetryBody left vs m = after_retry_goes root k call_shape there a src env (position (value_at 0 vs)) (value_at 3 vs) (position (value_at 2 vs)) h (position (value_at 1 vs))
    call_continues kind.NodeWait left vs m = node_wait_goes root k call_shape there a src env h (value_at 0 vs)
    call_continues kind.NodeBody left vs m = node_end_law (here root k call_shape there a src h) (position (value_at 0 vs)) (position (value_at 1 vs))
    call_continues kind.DirBody left vs m = dir_end_law (here root k call_shape there a src h) (position (value_at 0 vs)) (position (value_at 1 vs))
    call_continues kind.WithEnvBody left vs m = with_env_end_law (here root k call_shape there a src h) (position (value_at 0 vs)) (position (value_at 1 vs)) (position (value_at 2 vs))
    call_continues kind.ShWait left vs m = sh_law (here root k call_shape there a src h) (value_at 0 vs) (value_at 1 vs)
    call_continues kind.InputWait left vs m = input_law (here root k call_shape there a src h)
    call_continues kind.ParallelWait left vs m = parallel_end_law (here root k call_shape there a src h) (position (value_at 0 vs))
    call_continues d left vs m = absurd (cc)

-- A node that calls a method: as a suffix on a value, in a further turn of its walk, and behind each of its frames.
module _ (root : Term) (k : ℕ) (access : Access) (name : List ℕ) (ps : List NodeForm) (a : Around) (src : Supplies root k a) where
  abbrev method_shape : Shape
  method_shape = record { form = form.Method access name; parts = ps }

  module _ (there : shape_at root k ≡ method_shape) (env : Env) (h : List Cell) where
    method_gathers : (m : ℕ) (held : List Value) → So root k method_shape there a src h (gather_all a k method_shape env m held)
    method_gathers m held = gather_goes root k method_shape there a src env h (method_step a k method_shape env access name) (method_goes root k method_shape there a src env access name refl h) m held

    pub method_suffixes : (v : Value) → So root k method_shape there a src h (suffix_on a k method_shape env v (form.Method access name))
    method_suffixes v = method_gathers (arity method_shape) (v ∷ [])

    pub method_turns : (i : ℕ) (held : List Value) → So root k method_shape there a src h (turn a k method_shape env i held (form.Method access name))
    method_turns i held = choose_law (here root k method_shape there a src h) (walks (walk_method (form.Method access name))) (walk a k env (walk_method (form.Method access name)) i (value_at 0 held) (value_at 1 held) (drop 2 held)) (walk a k env (walk_method (form.Method access name)) i (value_at 0 held) (value_at 1 held) (drop 2 held)) (ended Null) (ended Null)
        (walk_goes root k method_shape there a src env h (walk_method (form.Method access name)) i (value_at 0 held) (value_at 1 held) (drop 2 held)) (end_law (here root k method_shape there a src h) Null)

    pub method_continues : (d : FrameKind) (left : ℕ) (vs : List Value) → (frame_row d method_shape left env).stands ≡ true → SoOn root k method_shape there a src h (after_kind a k method_shape left env vs d)
    method_continues kind.Gathered left vs m = after_gathered_goes root k method_shape there a src env (gather_all a k method_shape env left) h (method_gathers left) left vs
    method_continues kind.GatheredKey left vs m = after_key_goes root k method_shape there a src env (gather_all a k method_shape env left) h (method_gathers left) left vs (computed_is (form_at ps (current method_shape left)) m)
    method_continues kind.WalkTurn left vs m = turn_end_goes root k method_shape there a src env h (walk_method (form.Method access name)) (position (value_at 2 vs)) (value_at 0 vs) (value_at 1 vs) (drop 3 vs)
    method_continues d left vs m = absurd (cc)
