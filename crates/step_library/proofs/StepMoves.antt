-- What the words of steps come to: lines, flow nodes, changes of the context, closures that are called.
use Rattle.std.proofs.Common.{◌≡◌, ◌∙◌, ℕ, ◌≤◌, ◌<◌, List, [], ◌∷◌, length, Some, ap, sym, subst, arith}
use Rattle.std.specs.Prelude.{Result as Outcome, Err, codes}
use Rattle.model_values.specs.declared.value.Value.{Value}
use Rattle.model_values.specs.declared.value.Value.TheVariants.{Null}
use Rattle.run_laws.specs.Evaluation.{AllOfSite}
use Rattle.cps_frames.specs.Places.{HasFolders, HoldsExecutors}
use Rattle.run_laws.specs.Soundness.{SoundWorld}
use Rattle.model_run.specs.declared.callee.Callee.{Callee}
use Rattle.model_run.specs.declared.ending.Ending.{Ending}
use Rattle.model_run.specs.declared.flow.NodeKind.{NodeKind}
use Rattle.model_run.specs.declared.flow.NodeKind.TheVariants.{EndBody as EndBodyNode}
use Rattle.model_values.specs.Cells.{new_text}
use Rattle.model_values.specs.Fitting.{HasClosure, IsIn}
use Rattle.model_values.specs.declared.cell.Cell.{Cell}
use Rattle.model_run.specs.declared.frame.Frame.{Frame}
use Rattle.model_run.specs.declared.frame.FrameKind.{FrameKind}
use Rattle.model_run.specs.Around.{cells, ended, frame, limits}
use Rattle.model_run.specs.Callables.{calling, closure_of}
use Rattle.model_run.specs.FlowNodes.{line_limit, with_line, logging, noted, noted_limit, noting, end_block, end_body, pipeline}
use Rattle.model_run.specs.Forms.{after}
use Rattle.model_run.specs.State.{Setting, World, Reply, State, Env, Result, Ended, changed, operating, seeing}
use Rattle.model_run.specs.Steps.{run_body}
use Rattle.model_run.proofs.Relation.{KeepsAll}
use Rattle.model_run.proofs.Room.{keeps_line, keeps_node}
use Rattle.cps_frames.specs.Standing.{Standing, state, shape_at, room_of}
use Rattle.cps_frames.specs.Changes.{Passed, Passes, changed_by}
use Rattle.cps_frames.specs.Moves.{ComesTo}
use Rattle.cps_frames.specs.Order.{extra, rank}
use Rattle.cps_frames.specs.declared.halt.Halt.{Halt}
use Rattle.cps_frames.specs.declared.halt.Halt.TheVariants.{Memory, Ends as HaltEnds, Limit as HaltLimit}
use Rattle.cps_frames.specs.declared.thread.Move.{Move}
use Rattle.cps_frames.proofs.MoveLaws.{Saying, beside_same, comes_hits, met, to_after, to_as, to_changed, to_passed, to_refused}
use Rattle.step_library.specs.Changing.{Changes}
use Rattle.step_library.specs.Numbers.{Countable}
use Rattle.step_library.specs.Saying.{Logged, Logs, LogsOnly, with_log}

-- behind a line, and where it was refused
pub to_line : (k r : ℕ) (text : List ℕ) (go : Saying) (u u' : Standing) (result : Outcome Move Halt) (v : Standing) → Passed (line_limit text) (with_line text) u u' → ComesTo k r go u' result v → ComesTo k r (λ sh a. logging text (go sh a)) u result v
to_line k r text = to_passed k r (line_limit text) (with_line text) (keeps_line text)

pub no_line : (k r : ℕ) (text : List ℕ) (go : Saying) (h : Halt) (u v : Standing) → Passes (line_limit text) (with_line text) u (Err h) v → 0 < r → ComesTo k r (λ sh a. logging text (go sh a)) u (Err h) v
no_line k r text = to_refused k r (line_limit text) (with_line text)

-- behind a flow node with its line, and where it was refused
abbrev pub noted_so : NodeKind → List ℕ → ℕ → List ℕ → World → World
noted_so kind name start text w = noted kind name start (w.own.head ∷ []) text w

pub to_note : (k r : ℕ) (kind : NodeKind) (name : List ℕ) (start : ℕ) (text : List ℕ) (go : Saying) (u u' : Standing) (result : Outcome Move Halt) (v : Standing) → Passed (noted_limit text) (noted_so kind name start text) u u' → ComesTo k r go u' result v → ComesTo k r (λ sh a. noting kind name start text (go sh a)) u result v
to_note k r kind name start text = to_passed k r (noted_limit text) (noted_so kind name start text) (keeps_node kind name start (λ w. w.own.head ∷ []) text)

pub no_note : (k r : ℕ) (kind : NodeKind) (name : List ℕ) (start : ℕ) (text : List ℕ) (go : Saying) (h : Halt) (u v : Standing) → Passes (noted_limit text) (noted_so kind name start text) u (Err h) v → 0 < r → ComesTo k r (λ sh a. noting kind name start text (go sh a)) u (Err h) v
no_note k r kind name start text = to_refused k r (noted_limit text) (noted_so kind name start text)

-- behind a change that meets no limit
pub to_change : (k r : ℕ) (g : World → World) → KeepsAll g → (go : Saying) (u u' : Standing) (result : Outcome Move Halt) (v : Standing) → Changes g u u' → ComesTo k r go u' result v → ComesTo k r (λ sh a. changed g (go sh a)) u result v
to_change k r g keeps go u u' result v c = to_changed k r g keeps go u u' result v c.made c.stack (beside_same u u' c.parent c.heap)

-- a closure that is there is called
pub to_calling : (k r : ℕ) (f : Value) (c : Callee) (go : World → Callee → Saying) (u : Standing) (result : Outcome Move Halt) (v : Standing) → closure_of u.world f ≡ Some c → ComesTo k r (go u.world c) u result v → ComesTo k r (λ sh a. seeing (λ w. calling (closure_of w f) (ended Null) (λ x. go w x sh a))) u result v
to_calling k r f c go u result v is = to_as k r _ (go u.world c) u result v (λ a rs. ap (λ o. calling o (ended Null) (λ x. go u.world x (shape_at u.world k) a) (state u.world rs)) is)

-- a body inside a frame whose values are told
pub to_kept : (k r : ℕ) (d : FrameKind) (env : Env) (vs ws : List Value) (label : List ℕ) (c : Callee) (u : Standing) (result : Outcome Move Halt) (v : Standing) → vs ≡ ws → ComesTo k r (λ sh a. run_body a (frame d k 0 env vs) (after (frame d k 0 env vs) sh a) label c) u result v → ComesTo k r (λ sh a. run_body a (frame d k 0 env ws) (after (frame d k 0 env ws) sh a) label c) u result v
to_kept k r d env vs ws label c u result v is h = subst (λ x. ComesTo k r (λ sh a. run_body a (frame d k 0 env x) (after (frame d k 0 env x) sh a) label c) u result v) is h

-- Numbers of flow nodes stay small: behind a flow node, in a sound world, and where neither the nodes nor the thread's last one change.
pub countable_sound : (g : Setting) (u : Standing) → SoundWorld g u.world → Countable u
countable_sound g u sound =
    let few : length u.world.shared.nodes ≤ 100000000 = (sound.bounds).few_nodes in
    record { head = omega (arith, (sound.head).1, few); next = omega (arith, few) }

pub countable_same : (u v : Standing) → v.world.own.head ≡ u.world.own.head → v.world.shared.nodes ≡ u.world.shared.nodes → Countable u → Countable v
countable_same u v head nodes c =
    let more : length v.world.shared.nodes ≡ length u.world.shared.nodes = ap length nodes in
    record { head = omega (arith, c.head, head); next = omega (arith, c.next, more) }

-- behind the end node of a body, whose number was read from a frame
pub to_body_end : (k r body n : ℕ) (go : Saying) (u u' : Standing) (result : Outcome Move Halt) (v : Standing) → n ≡ body → Passed (noted_limit (pipeline (codes "}"))) (noted_so EndBodyNode [] n (pipeline (codes "}"))) u u' → ComesTo k r go u' result v → ComesTo k r (λ sh a. end_body body (go sh a)) u result v
to_body_end k r body n go u u' result v is p h = subst (λ m. ComesTo k r (λ sh a. end_body m (go sh a)) u result v) is (to_note k r EndBodyNode [] n (pipeline (codes "}")) go u u' result v p h)

pub no_body_end : (k r body n : ℕ) (go : Saying) (h : Halt) (u v : Standing) → n ≡ body → Passes (noted_limit (pipeline (codes "}"))) (noted_so EndBodyNode [] n (pipeline (codes "}"))) u (Err h) v → 0 < r → ComesTo k r (λ sh a. end_body body (go sh a)) u (Err h) v
no_body_end k r body n go h u v is p pos = subst (λ m. ComesTo k r (λ sh a. end_body m (go sh a)) u (Err h) v) is (no_note k r EndBodyNode [] n (pipeline (codes "}")) go h u v p pos)

-- a frame of a step ranks above nothing
pub low_rank : (f : Frame) (d : FrameKind) → f.kind ≡ d → extra d ≡ 1 → 0 < rank f
low_rank f d is one = let e : extra f.kind ≡ 1 = ap extra is ∙ one in omega (arith, e)

-- Lines, one behind the other.
pub logs_more : (text : List ℕ) (u v w : Standing) → LogsOnly u v → Passed (line_limit text) (with_line text) v w → LogsOnly u w
logs_more text u v w o p =
    let e = p.made ∙ ap (changed_by (with_line text)) o.made in
    record { made = e ∙ ap (λ (x : World). changed_by (with_log x.shared.log) u.world) (sym e); stack = p.stack ∙ o.stack; parent = p.parent ∙ o.parent; heap = p.heap ∙ o.heap }

logs_same : (u v w : Standing) → LogsOnly u v → w.world ≡ v.world → w.stack ≡ v.stack → w.parent ≡ v.parent → w.heap ≡ v.heap → LogsOnly u w
logs_same u v w o world stack parent heap =
    let e = world ∙ o.made in
    record { made = e ∙ ap (λ (x : World). changed_by (with_log x.shared.log) u.world) (sym world); stack = stack ∙ o.stack; parent = parent ∙ o.parent; heap = heap ∙ o.heap }

pub logs_stop : (m rest : (State → Result) → State → Result) (text : List ℕ) (u v : Standing) (h : Halt) (w : Standing) → LogsOnly u v → ((go : State → Result) (rs : List Reply) → m go (state u.world rs) ≡ logging text (rest go) (state v.world rs)) → Passes (line_limit text) (with_line text) v (Err h) w → Logs m u (Err h) w
logs_stop m rest text u v Memory w o is p = tt
logs_stop m rest text u v (HaltEnds e) w o is p = absurd p
logs_stop m rest text u v (HaltLimit k) w o is p = record { is = λ go rs. is go rs ∙ met (line_limit text) (with_line text) k v w p (rest go) rs; only = logs_same u v w o p.world p.stack p.parent p.heap }

only_setting : (u v : Standing) → LogsOnly u v → v.world.setting ≡ u.world.setting
only_setting u v o = ap (λ (w : World). w.setting) o.made

only_room : (u v : Standing) → LogsOnly u v → room_of v.world ≤ room_of u.world
only_room u v o = subst (λ w. room_of w ≤ room_of u.world) (sym o.made) (omega arith)

pub to_logged : (k r : ℕ) (m : (State → Result) → State → Result) (go : Saying) (u u' : Standing) (result : Outcome Move Halt) (v : Standing) → Logged m u u' → ComesTo k r go u' result v → ComesTo k r (λ sh a. m (go sh a)) u result v
to_logged k r m go u u' result v l = to_after k r _ go u u' result v (λ a rs. l.is (go (shape_at u.world k) a) rs) (l.only).stack (beside_same u u' (l.only).parent (l.only).heap) (only_setting u u' l.only) (only_room u u' l.only)

pub no_logged : (k r : ℕ) (m : (State → Result) → State → Result) (go : Saying) (h : Halt) (u v : Standing) → Logs m u (Err h) v → 0 < r → ComesTo k r (λ sh a. m (go sh a)) u (Err h) v
no_logged k r m go Memory u v l pos = tt
no_logged k r m go (HaltEnds e) u v l pos = absurd l
no_logged k r m go (HaltLimit x) u v l pos = comes_hits k r _ u v x (l.only).stack (beside_same u v (l.only).parent (l.only).heap) (only_setting u v l.only) (only_room u v l.only) pos (λ a rs. l.is (go (shape_at u.world k) a) rs)

pub countable_logged : (u v : Standing) → LogsOnly u v → Countable u → Countable v
countable_logged u v o = countable_same u v (ap (λ (w : World). w.own.head) o.made) (ap (λ (w : World). w.shared.nodes) o.made)

pub cells_logged : (u v : Standing) → LogsOnly u v → v.world.shared.cells ≡ u.world.shared.cells
cells_logged u v o = ap (λ (w : World). w.shared.cells) o.made

pub cells_noted : (kind : NodeKind) (name : List ℕ) (start : ℕ) (text : List ℕ) (u v : Standing) → Passed (noted_limit text) (noted_so kind name start text) u v → v.world.shared.cells ≡ u.world.shared.cells
cells_noted kind name start text u v p = ap (λ (w : World). w.shared.cells) p.made

-- the executors that are held stay the site's
pub site_noted : (kind : NodeKind) (name : List ℕ) (start : ℕ) (text : List ℕ) (u v : Standing) → Passed (noted_limit text) (noted_so kind name start text) u v → AllOfSite u.world.setting.site u.world.shared.held → AllOfSite v.world.setting.site v.world.shared.held
site_noted kind name start text u v p = subst (λ (w : World). AllOfSite w.setting.site w.shared.held) (sym p.made)

-- and those of the thread's requests stay held
pub holds_noted : (kind : NodeKind) (name : List ℕ) (start : ℕ) (text : List ℕ) (u v : Standing) → Passed (noted_limit text) (noted_so kind name start text) u v → HoldsExecutors u.world → HoldsExecutors v.world
holds_noted kind name start text u v p = subst HoldsExecutors (sym p.made)

-- with the folders of the thread
pub enough_noted : (kind : NodeKind) (name : List ℕ) (start : ℕ) (text : List ℕ) (u v : Standing) → Passed (noted_limit text) (noted_so kind name start text) u v → HasFolders u.world.own.context → HasFolders v.world.own.context
enough_noted kind name start text u v p = subst (λ (w : World). HasFolders w.own.context) (sym p.made)

-- a closure stays one where the cells stay
pub closure_kept : (f : Value) (g h : List Cell) → h ≡ g → IsIn HasClosure g f → IsIn HasClosure h f
closure_kept f g h is = subst (λ x. IsIn HasClosure x f) (sym is)

-- a closure of an earlier world, which was there, is called
pub to_called : (k r : ℕ) (w : World) (f : Value) (c : Callee) (go : Callee → Saying) (u : Standing) (result : Outcome Move Halt) (v : Standing) → closure_of w f ≡ Some c → ComesTo k r (go c) u result v → ComesTo k r (λ sh a. calling (closure_of w f) (ended Null) (λ x. go x sh a)) u result v
to_called k r w f c go u result v is = to_as k r _ (go c) u result v (λ a rs. ap (λ o. calling o (ended Null) (λ x. go x (shape_at u.world k) a) (state u.world rs)) is)

-- behind a change that leaves what may be counted
pub to_left : (k r : ℕ) (g : World → World) → ((w : World) → room_of (changed_by g w) ≤ room_of w) → (go : Saying) (u u' : Standing) (result : Outcome Move Halt) (v : Standing) → Changes g u u' → ComesTo k r go u' result v → ComesTo k r (λ sh a. changed g (go sh a)) u result v
to_left k r g room go u u' result v c = to_after k r _ go u u' result v (λ a rs. ap (λ w. go (shape_at u.world k) a (state w rs)) (sym c.made)) c.stack (beside_same u u' c.parent c.heap) (ap (λ (w : World). w.setting) c.made) (subst (λ w. room_of w ≤ room_of u.world) (sym c.made) (room u.world))

-- the end of a block whose number was read from a frame
pub to_start : (k r : ℕ) (name : List ℕ) (start n : ℕ) (e : Ending) (u : Standing) (result : Outcome Move Halt) (v : Standing) → n ≡ start → ComesTo k r (λ sh a. end_block name n (Ended e)) u result v → ComesTo k r (λ sh a. end_block name start (Ended e)) u result v
to_start k r name start n e u result v is = subst (λ m. ComesTo k r (λ sh a. end_block name m (Ended e)) u result v) is

-- a new text, whose bytes are told otherwise
pub to_text : (k r : ℕ) (text told : List ℕ) (u : Standing) (result : Outcome Move Halt) (v : Standing) → text ≡ told → ComesTo k r (λ sh a. operating (λ w. new_text (limits w) (cells w) text) ended) u result v → ComesTo k r (λ sh a. operating (λ w. new_text (limits w) (cells w) told) ended) u result v
to_text k r text told u result v is = subst (λ x. ComesTo k r (λ sh a. operating (λ w. new_text (limits w) (cells w) x) ended) u result v) is
