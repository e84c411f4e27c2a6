-- In every world the shared state is sound by itself, also behind the end of a build.
use Rattle.std.proofs.Common.{arith, ◌≡◌, ◌≤◌, ◌+◌, sym, subst, refl, ℕ, zero, suc, Bool, true, false, List, [], ◌∷◌, map, length, Option, Some, None, ◌∙◌}
use Rattle.std.specs.Prelude.{nat_lt, if◌then◌else◌, fold, slice_get}
use Rattle.std.specs.List.{AllByRecursion as AllAre}
use Rattle.model_syntax.specs.declared.tree.Tree.{Tree}
use Rattle.model_syntax.specs.TreeNodes.{tree_node}
use Rattle.model_values.specs.Fitting.{HasVariable, CellsFit}
use Rattle.model_values.specs.Limits.{limit_line}
use Rattle.model_values.specs.declared.limit.LimitKind.{LimitKind}
use Rattle.model_values.specs.declared.limit.LimitKind.TheVariants.{GreenThreads, LogSize, TextLength}
use Rattle.model_run.specs.LogText.{raw}
use Rattle.model_run.specs.Results.{worse}
use Rattle.model_run.specs.Taking.{request_of}
use Rattle.model_run.specs.declared.result.BuildResult.{BuildResult}
use Rattle.model_run.specs.declared.result.BuildResult.TheVariants.{Failure}
use Rattle.model_run.specs.declared.wait.Answer.{Answer}
use Rattle.model_run.specs.declared.event.Event.{Event}
use Rattle.model_run.specs.declared.event.Event.TheVariants.{Start as StartEvent, Granted as GrantedEvent, Output as OutputEvent, Exited as ExitedEvent, Lost as LostEvent, Decided as DecidedEvent}
use Rattle.model_run.specs.declared.event.Stream.{Stream}
use Rattle.model_run.specs.declared.event.Stream.TheVariants.{Log as LogStream, Out as OutStream}
use Rattle.model_run.specs.declared.taken.Taken.{Taken}
use Rattle.model_run.specs.declared.taken.Taken.TheVariants.{Accepted, NotOpen, WrongPlace, Finished}
use Rattle.model_run.specs.declared.site.Executor.{Executor}
use Rattle.model_run.specs.Terms.{term}
use Rattle.model_run.specs.declared.ending.Ending.{Ending}
use Rattle.model_run.specs.declared.ending.Ending.TheVariants.{Normal, Thrown, Returned, Broke, Continued, Declared, Answered}
use Rattle.model_run.specs.declared.ending.Branch.{Branch}
use Rattle.model_run.specs.declared.ending.Asked.{Asked}
use Rattle.model_run.specs.declared.ending.Asked.TheVariants.{ForRequest as For_request, ForBranches as For_branches}
use Rattle.model_run.specs.State.{RunLimits, Setting, Common, State, Result, Ended, Waits, Limited, Unfinished, World}
use Rattle.model_run.specs.Below.{Small}
use Rattle.model_run.specs.Grants.{executor_of, workspace_number}
use Rattle.model_run.specs.Threads.{Thread, stands}
use Rattle.model_run.specs.Opened.{Owns}
use Rattle.model_run.specs.Waiting.{Stood}
use Rattle.model_run.specs.World.{Build, unbegun, end_node, finished, uncaught, uncaught_result, script_ended, limit_met, forked, forks, thread_ended, with_thread, with_head, stopped_at, asked_by, stopped, given_answer, resumed, Turn, first_ready, take_turn, settle, turn_bound, uncounted, changed_by, held_as, without_request, kept_output, with_taken, with_kept, change_request, output, after_event, after_one, answer_to, world_in}
use Rattle.model_run.specs.Fitting.{closure_rule, IsFlowNode, Later}
use Rattle.model_run.proofs.PathLaws.{outer_spot}
use Rattle.model_run.proofs.WaitingLaws.{given_stood, changed_stood, event_stood}
use Rattle.run_laws.specs.Bounds.{Narrow, InBounds}
use Rattle.run_laws.specs.Soundness.{Base, SoundWorld, Stopped, Paused, At}
use Rattle.run_laws.specs.Evaluation.{AnswerThere, HoldsAt, AllOfSite, based}
use Rattle.run_laws.specs.Worlds.{SharedSound, SoundThread, begun_open}
use Rattle.run_laws.proofs.Bounds.{bounds_node}
use Rattle.run_laws.proofs.EventBounds.{bounds_uncounted, bounds_closed, bounds_taken, bounds_kept, begun_shared}
use Rattle.run_laws.proofs.Flow.{node_then}
use Rattle.run_laws.proofs.SoundThreads.{waits_block}
use Rattle.run_laws.proofs.SoundWorlds.{Mid, mid_begins, mid_ends, AllSound, AllStand, TurnSound, Given, given_of, ended_at, limited_at, headed, resumed_sound, first_sound, changed_sound, event_sound, aside, shared_paused, shared_ended, turn_requests, site_with, some_site}

-- what is asked of the shared state but of held executors
record Bare (g : Setting) (u : Common) : Type 0 where
  narrow : Narrow g.limits
  cells : CellsFit (closure_rule g.script) u.cells
  binding : AllAre (λ b. HasVariable (slice_get u.cells b.cell)) u.binding
  bounds : InBounds false g.site u

bare_world : (g : Setting) (w : World) → SoundWorld g w → Bare g w.shared
bare_world g w h = record { narrow = h.narrow; cells = h.cells; binding = h.binding; bounds = h.bounds }

bare_shared : (g : Setting) (u : Common) → SharedSound g false u → Bare g u
bare_shared g u h = record { narrow = h.narrow; cells = h.cells; binding = h.binding; bounds = h.bounds }

-- a running build's shared state fits an ended one too
pub shared_any : (g : Setting) (ended : Bool) (u : Common) → SharedSound g false u → SharedSound g ended u
shared_any g false u h = h
shared_any g true u h = record {
  narrow = h.narrow;
  cells = h.cells;
  binding = h.binding;
  held = h.held;
  bounds = record { short = (h.bounds).short; few_cells = (h.bounds).few_cells; few_bytes = (h.bounds).few_bytes; names = (h.bounds).names; few_nodes = omega (arith, (h.bounds).few_nodes); nodes = (h.bounds).nodes; few_requests = (h.bounds).few_requests; asks = (h.bounds).asks };
}

heads_of : (u : Common) (ts : List Thread) → AllAre (λ t. IsFlowNode u.nodes t.head) ts → AllAre (IsFlowNode u.nodes) (map (λ t. t.head) ts)
heads_of u [] h = tt
heads_of u (t ∷ ts) h = (h.0, heads_of u ts h.1)

-- the end of a build
finished_shared : (g : Setting) (heads : List ℕ) (causes : List (List ℕ)) (result : BuildResult) (u : Common) → Bare g u → AllAre (IsFlowNode u.nodes) heads → SharedSound g true (finished heads causes result u)
finished_shared g heads causes result u h old =
    let few : length u.nodes ≤ 100000000 = (h.bounds).few_nodes in
    record { narrow = h.narrow; cells = h.cells; binding = h.binding; held = tt; bounds = bounds_node true g.site u (finished heads causes result u) (end_node u heads) h.bounds (omega (arith, few)) refl refl old refl refl refl refl tt }

limit_shared : (g : Setting) (k : LimitKind) (u : Common) (b : Build) → Bare g u → AllAre (λ t. IsFlowNode u.nodes t.head) b.threads → SharedSound g true (limit_met k u b).shared
limit_shared g k u b h heads = finished_shared g (map (λ t. t.head) b.threads) (limit_line k ∷ []) (worse u.result Failure) u h (heads_of u b.threads heads)

abbrev pub AllShared : Setting → Build → Type 0
AllShared g b = SharedSound g b.ended b.shared

script_shared : (g : Setting) (e : Ending) (head : ℕ) (u : Common) (b : Build) → Bare g u → IsFlowNode u.nodes head → AllShared g (script_ended e head u b)
script_shared g (Normal v) head u b h flow = finished_shared g (head ∷ []) [] u.result u h (flow, tt)
script_shared g (Thrown c) head u b h flow = finished_shared g (head ∷ []) (uncaught (slice_get u.cells c)) (worse u.result (uncaught_result (slice_get u.cells c))) u h (flow, tt)
script_shared g (Returned v) head u b h flow = finished_shared g (head ∷ []) [] u.result u h (flow, tt)
script_shared g Broke head u b h flow = finished_shared g (head ∷ []) [] u.result u h (flow, tt)
script_shared g Continued head u b h flow = finished_shared g (head ∷ []) [] u.result u h (flow, tt)
script_shared g (Declared x) head u b h flow = finished_shared g (head ∷ []) [] u.result u h (flow, tt)
script_shared g (Answered x) head u b h flow = finished_shared g (head ∷ []) [] u.result u h (flow, tt)

-- what is accepted comes before the end
not_ended : (ended : Bool) (x : Taken) → (if ended then Finished else x) ≡ Accepted → ended ≡ false
not_ended false x e = refl
not_ended true x e = absurd (cc)

lasts : (g : Setting) (u : Common) (ts : List Thread) → AllAre (SoundThread g u) ts → AllAre (λ t. IsFlowNode u.nodes t.head) ts
lasts g u [] h = tt
lasts g u (t ∷ ts) h = ((h.0).last, lasts g u ts h.1)

module _ (g : Setting) (tree : Tree) (is : g.script ≡ term 0 (tree_node tree)) (small : Small g) (narrow : Narrow g.limits) where
  abbrev Sound : Build → Type 0
  Sound b = AllSound g tree is small narrow b

  module _ (u : Common) (t : Thread) (gone : List ℕ) (given : Given g tree is small narrow u t gone) where
    abbrev Turned : Base
    Turned = based g (begun_open t.own u.held gone)

    -- the last flow nodes of all threads, where this one has stopped
    stopped_heads : (s : State) → Later u s.world.shared → SoundWorld g s.world → s.world.own.number ≡ t.own.number → (b : Build) → AllAre (Mid (SoundThread g u) t.own.number t) b.threads → AllAre (λ x. IsFlowNode s.world.shared.nodes x.head) (stopped_at s.world b).threads
    stopped_heads s later sound number b m = mid_ends (SoundThread g u) (λ x. IsFlowNode s.world.shared.nodes x.head) (λ x h. node_then u s.world.shared later x.head h.last) t.own.number (with_head s.world.own.head t) sound.head (stopped_at s.world b).threads
        (headed g tree is small narrow u t gone given s number b m)

    ended_shared : (parent : Option ℕ) (e : Ending) (s : State) → At Turned u s → (b : Build) → AllShared g (thread_ended parent t.own.number e s.world.own.head s.world.shared (stopped_at s.world b))
    ended_shared None e s at b = script_shared g e s.world.own.head s.world.shared (stopped_at s.world b) (bare_world g s.world at.sound) (at.sound).head
    ended_shared (Some p) e s at b = shared_any g b.ended s.world.shared (shared_ended g tree is small narrow u t.own gone s given.held at)

    forks_shared : (limits : RunLimits) (bs : List Branch) (s : State) → SharedSound g false s.world.shared → (b : Build) → AllAre (λ x. IsFlowNode s.world.shared.nodes x.head) (stopped_at s.world b).threads → AllShared g (forks limits s.world.own.number s.world.own bs (stopped_at s.world b))
    forks_shared limits bs s at b heads = one (nat_lt limits.threads (length (stopped_at s.world b).threads + length bs))
      where
        one : (past : Bool) → AllShared g (if past then limit_met GreenThreads s.world.shared (stopped_at s.world b) else forked s.world.own.number s.world.own bs (stopped_at s.world b))
        one true = limit_shared g GreenThreads s.world.shared (stopped_at s.world b) (bare_shared g s.world.shared at) heads
        one false = shared_any g b.ended s.world.shared at

    asked_shared : (limits : RunLimits) (asked : Asked) (s : State) → SharedSound g false s.world.shared → (b : Build) → AllAre (λ x. IsFlowNode s.world.shared.nodes x.head) (stopped_at s.world b).threads → AllShared g (asked_by limits s.world asked (stopped_at s.world b))
    asked_shared limits (For_request r) s at b heads = shared_any g b.ended s.world.shared at
    asked_shared limits (For_branches bs) s at b heads = forks_shared limits bs s at b heads

    stopped_shared : (r : Result) → HoldsAt Turned (outer_spot t.runs) u r → Owns g t.own.number t.own.calls r → (b : Build) → AllShared g b → AllAre (Mid (SoundThread g u) t.own.number t) b.threads → AllShared g (stopped g.limits t.parent t.own.number r b)
    stopped_shared (Ended e s) holds owns b all m = ended_shared t.parent e s (ended_at g tree is small narrow Turned t.runs u e s holds).0 b
    stopped_shared (Waits asked path s) holds owns b all m =
        let at : Paused (based g (begun_open t.own u.held gone)) u asked path s = (waits_block (based g (begun_open t.own u.held gone)) t.runs u asked path s holds).0 in
        asked_shared g.limits asked s (shared_paused g tree is small narrow u t.own gone asked path s given.held at) b (stopped_heads s at.later at.sound owns.number b m)
    stopped_shared (Limited k s) holds owns b all m =
        let at : Stopped (based g (begun_open t.own u.held gone)) u s = limited_at g tree is small narrow (based g (begun_open t.own u.held gone)) t.runs u k s holds in
        limit_shared g k s.world.shared (stopped_at s.world b) (bare_world g s.world at.sound) (stopped_heads s at.later at.sound owns.1 b m)
    stopped_shared Unfinished holds owns b all m = all

  resumed_shared : (b : Build) (x : Answer) (t : Thread) → AnswerThere b.shared x → SoundThread g b.shared t → Stood g t → Sound b → AllShared g b → AllShared g (resumed g (given_answer b.shared x t) b)
  resumed_shared b x t there h st sound all =
      let given : Given g tree is small narrow b.shared (given_answer b.shared x t) (turn_requests g tree is small narrow b.shared x t) = given_of g tree is small narrow b.shared x t there h st in
      stopped_shared b.shared (given_answer b.shared x t) (turn_requests g tree is small narrow b.shared x t) given (stands g (given_answer b.shared x t)) given.stops given.number
      (record b { threads = with_thread (λ old. given_answer b.shared x t) t.own.number b.threads }) all (mid_begins (SoundThread g b.shared) (given_answer b.shared x t) b.threads sound)

  taken_shared : (n : ℕ) → ((b : Build) → AllStand g tree is small narrow b → Sound b → AllShared g b → AllShared g (settle n g b)) → (b : Build) → AllStand g tree is small narrow b → Sound b → AllShared g b → (o : Option Turn) → TurnSound g tree is small narrow b.shared o → AllShared g (take_turn (settle n g) g b o)
  taken_shared n more b st sound all None h = all
  taken_shared n more b st sound all (Some turn) h =
      more (resumed g (given_answer b.shared turn.answer turn.thread) b) (given_stood g b.shared turn.answer turn.thread turn.thread.history refl (h.2).calls b st)
      (resumed_sound g tree is small narrow b turn.answer turn.thread h.0 h.1 h.2 sound) (resumed_shared b turn.answer turn.thread h.0 h.1 h.2 sound all)

  settle_shared : (n : ℕ) (b : Build) → AllStand g tree is small narrow b → Sound b → AllShared g b → AllShared g (settle n g b)
  unfolding settle
  settle_shared zero b st sound all = all
  settle_shared (suc n) b st sound all = taken_shared n (settle_shared n) b st sound all (first_ready b.threads) (first_sound g tree is small narrow b.shared b.threads sound st)

  -- a change of the shared state beside cells, variables and flow nodes
  shared_beside : (ended : Bool) (u v : Common) → v.cells ≡ u.cells → v.binding ≡ u.binding → (AllOfSite g.site u.held → AllOfSite g.site v.held) → InBounds ended g.site v → SharedSound g ended u → SharedSound g ended v
  shared_beside ended u v c d site bounds h = record {
    held = site h.held;
    narrow = h.narrow;
    cells = subst (CellsFit (closure_rule g.script)) (sym c) h.cells;
    binding = subst (λ cs. AllAre (λ b. HasVariable (slice_get cs b.cell)) v.binding) (sym c) (subst (λ bs. AllAre (λ b. HasVariable (slice_get u.cells b.cell)) bs) (sym d) h.binding);
    bounds = bounds;
  }

  running : (b : Build) → b.ended ≡ false → AllShared g b → SharedSound g false b.shared
  running b e all = subst (λ x. SharedSound g x b.shared) e all

  output_shared : (task : ℕ) (stream : Stream) (bytes : List ℕ) (b : Build) → b.ended ≡ false → Sound b → AllShared g b → AllShared g (output g.limits task stream bytes b)
  output_shared task LogStream bytes b going sound all = one (nat_lt g.limits.log (length b.shared.log + length bytes))
    where
      one : (x : Bool) → AllShared g (if x then limit_met LogSize b.shared b else record b { shared = change_request (with_taken (length bytes)) task (record b.shared { log = raw bytes b.shared.log }) })
      one true = limit_shared g LogSize b.shared b (bare_shared g b.shared (running b going all)) (lasts g b.shared b.threads sound)
      one false = shared_beside b.ended b.shared (change_request (with_taken (length bytes)) task (record b.shared { log = raw bytes b.shared.log })) refl refl (λ h. h) (bounds_taken b.ended g.site task bytes b.shared all.bounds) all
  output_shared task OutStream bytes b going sound all = one (nat_lt g.limits.values.text (length (kept_output (request_of b.shared.requests task)) + length bytes))
    where
      one : (x : Bool) → AllShared g (if x then limit_met TextLength b.shared b else record b { shared = change_request (with_kept bytes) task b.shared })
      one true = limit_shared g TextLength b.shared b (bare_shared g b.shared (running b going all)) (lasts g b.shared b.threads sound)
      one false = shared_beside b.ended b.shared (change_request (with_kept bytes) task b.shared) refl refl (λ h. h) (bounds_kept b.ended g.site task bytes b.shared all.bounds) all

  closed_shared : (n : ℕ) (b : Build) → AllShared g b → SharedSound g b.ended (without_request n b.shared)
  closed_shared n b all = shared_beside b.ended b.shared (without_request n b.shared) refl refl (λ h. h) (bounds_closed b.ended g.site n b.shared b.shared.held all.bounds) all

  granted_shared : (request executor : ℕ) (o : Option Executor) → executor_of g.site executor ≡ o → (b : Build) → AllShared g b → SharedSound g b.ended (without_request request (held_as g.site request executor o b.shared))
  granted_shared request executor None e b all = closed_shared request b all
  granted_shared request executor (Some x) e b all = shared_beside b.ended b.shared (without_request request (held_as g.site request executor (Some x) b.shared)) refl refl
      (λ h. site_with g.site (record { executor = executor; request = request; workspace = workspace_number g.site b.shared.held x }) b.shared.held (λ none. some_site x (sym e ∙ none)) h) (bounds_closed b.ended g.site request b.shared (held_as g.site request executor (Some x) b.shared).held all.bounds) all

  changed_shared : (e : Event) (b : Build) → b.ended ≡ false → Sound b → AllShared g b → AllShared g (changed_by g e b)
  changed_shared (StartEvent script agents) b going sound all = begun_shared narrow
  changed_shared (GrantedEvent request executor) b going sound all = granted_shared request executor (executor_of g.site executor) refl b all
  changed_shared (OutputEvent task stream from bytes) b going sound all = output_shared task stream bytes b going sound all
  changed_shared (ExitedEvent task code) b going sound all = closed_shared task b all
  changed_shared (LostEvent task why) b going sound all = closed_shared task b all
  changed_shared (DecidedEvent request proceed name) b going sound all = closed_shared request b all

  event_shared : (b : Build) (e : Event) (x : Taken) → (x ≡ Accepted → b.ended ≡ false) → AllStand g tree is small narrow b → Sound b → AllShared g b → AllShared g (after_event g b e x)
  event_shared b e Accepted going st sound all =
      let now : Sound (uncounted b) = aside g tree is small narrow b.shared (uncounted b).shared refl refl refl (λ h. h) (bounds_uncounted false g.site b.shared) b.threads sound in
      settle_shared (turn_bound g.limits) (changed_by g e (uncounted b)) (changed_stood g e (uncounted b) st) (changed_sound g tree is small narrow e (uncounted b) now)
      (changed_shared e (uncounted b) (going refl) now (shared_beside b.ended b.shared (uncounted b).shared refl refl (λ h. h) (bounds_uncounted b.ended g.site b.shared all.bounds) all))
  event_shared b e NotOpen going st sound all = all
  event_shared b e (WrongPlace kept) going st sound all = all
  event_shared b e Finished going st sound all = all

  fold_shared : (b : Build) (es : List Event) → AllStand g tree is small narrow b → Sound b → AllShared g b → AllShared g (fold (after_one g) b es)
  fold_shared b [] st sound all = all
  fold_shared b (e ∷ es) st sound all =
      fold_shared (after_one g b e) es (event_stood g b e (answer_to g b e) st) (event_sound g tree is small narrow b e (answer_to g b e) st sound) (event_shared b e (answer_to g b e) (not_ended b.ended _) st sound all)

  begins_shared : AllShared g unbegun
  begins_shared = record { narrow = narrow; cells = tt; binding = tt; held = tt; bounds = record { short = tt; few_cells = omega arith; few_bytes = omega arith; names = tt; few_nodes = omega arith; nodes = tt; few_requests = omega arith; asks = tt } }

  -- The shared state of every world, after every list of events.
  pub shared_sound : (events : List Event) → SharedSound g (world_in g events).ended (world_in g events).shared
  shared_sound events = fold_shared unbegun events tt tt begins_shared
