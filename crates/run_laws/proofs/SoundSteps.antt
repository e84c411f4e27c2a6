-- Steps: sound from a sound state on.
use Rattle.std.proofs.Common.{arith, ◌≡◌, ◌<◌, ◌≤◌, ◌+◌, refl, sym, ap, subst, ◌∙◌, ℕ, zero, suc, Bool, true, false, List, [], ◌∷◌, ◌++◌, length, length-append, Option, Some, None}
use Rattle.model_values.specs.declared.limit.LimitKind.{LimitKind}
use Rattle.std.specs.Prelude.{slice_get, codes}
use Rattle.std.specs.List.{AllByRecursion as AllAre}
use Rattle.model_syntax.specs.declared.node.NodeForm.{NodeForm}
use Rattle.model_syntax.specs.declared.node.NodeForm.TheVariants as form
use Rattle.model_values.specs.Cells.{throw}
use Rattle.model_values.specs.Kinds.{kind}
use Rattle.model_values.specs.Fitting.{There, HasThrowable}
use Rattle.model_values.specs.Later.{AnswerGrows, Given as GivenValues}
use Rattle.model_values.proofs.Growth.{throws}
use Rattle.model_values.proofs.LaterLaws.{later_itself, all_weaker}
use Rattle.model_values.specs.declared.value.Value.{Value}
use Rattle.model_values.specs.declared.value.Value.TheVariants.{Null}
use Rattle.model_values.specs.declared.cell.Cell.{Cell}
use Rattle.model_values.specs.declared.throwable.Class.{Class}
use Rattle.model_run.specs.declared.callee.Callee.{Callee}
use Rattle.model_run.specs.declared.flow.NodeKind.{NodeKind}
use Rattle.model_run.specs.declared.flow.NodeKind.TheVariants.{Atom, Block, Body, EndBody, EndBlock}
use Rattle.model_run.specs.declared.flow.FlowNode.{FlowNode}
use Rattle.model_run.specs.declared.frame.Frame.{Frame}
use Rattle.model_run.specs.declared.frame.FrameKind.{FrameKind}
use Rattle.model_run.specs.declared.frame.FrameKind.TheVariants as kind
use Rattle.model_run.specs.declared.ending.Ending.{Ending}
use Rattle.model_run.specs.declared.ending.Ending.TheVariants.{Normal, Thrown, Returned, Broke, Continued, Declared, Answered}
use Rattle.model_run.specs.State.{Setting, Common, World, State, Env, Result, Ended, with_world, changed, unless_limit, guarded, seeing, on_throw}
use Rattle.model_run.specs.Around.{Around, Shape, frame, ended, cells, limits, whole}
use Rattle.model_run.specs.Callables.{closure_of}
use Rattle.model_run.specs.FlowNodes.{next_node, with_line, line_limit, logging, noted, noted_limit, noting, atom, block, noted_body, body_limit, end_body, end_block, end_branches, noted_branch, branch_label, body_line, pipeline}
use Rattle.model_run.specs.LogText.{line}
use Rattle.model_run.specs.Steps.{throwing, worsened, logging_all, run_body, starts, after_body, caught, after_catch_error, catch_end, message_lines, caught_lines, result_at, retry_end, retry_next, retry_body, after_retry, is_interruption}
use Rattle.model_run.specs.FrameTable.{Flow_node, is_declaration, frame_row}
use Rattle.model_run.specs.Nesting.{ValuesFit}
use Rattle.model_run.specs.Scoping.{Names, frame_names}
use Rattle.model_run.specs.Fitting.{EnvFits, closure_rule, IsFlowNode, StartsAt, Later, holds_executor}
use Rattle.model_run.proofs.LaterLaws.{env_later}
use Rattle.run_laws.specs.Soundness.{Base, Open, within, open_in, inside, Stopped, Shaped, seen, NumbersFit, Sits, EndFits, Same, Sound, left, At, Holds, Goes}
use Rattle.run_laws.specs.Bounds.{HasRoom}
use Rattle.run_laws.proofs.Bounds.{all_longer, line_longer, bounds_node, node_room, room_behind}
use Rattle.run_laws.proofs.Flow.{same_on, HasGone, at_over, guard_here, through_inside, later_then, there_then, node_then, end_then, end_as, at_self, holds_then, from_here, Moves, moves_aside, at_moved, change_goes, guard_with, guard_goes, null_goes, answer_goes}
use Rattle.run_laws.proofs.Sources.{CalleeFits, Place, Sources, sits_here}
use Rattle.run_laws.proofs.SoundCalls.{callee_then, closure_fits, closure_seen, through_guard_goes, calling_goes}

-- a number of a flow node more
pub new_node : (nodes : List FlowNode) (n : FlowNode) → IsFlowNode (nodes ++ n ∷ []) (length nodes + 2)
new_node nodes n = (omega arith, omega (arith, length-append nodes (n ∷ [])))

old_node : (nodes : List FlowNode) (n : FlowNode) (m : ℕ) → IsFlowNode nodes m → IsFlowNode (nodes ++ n ∷ []) m
old_node nodes n m h = (h.0, let lt : m < length nodes + 2 = h.1 in omega (arith, length-append nodes (n ∷ [])))

pub more_nodes : (u v : Common) (n : FlowNode) → v.cells ≡ u.cells → v.nodes ≡ u.nodes ++ n ∷ [] → Later u v
more_nodes u v n c e = record { cells = subst (Rattle.model_values.specs.Later.CellsLater u.cells) (sym c) (later_itself u.cells); nodes = (n ∷ [], e) }

module _ (g : Base) where
  -- where a flow node meets no limit there was room for it
  room_there : (text : List ℕ) (w : World) → Sound g w → noted_limit text w ≡ None → length w.shared.nodes < g.limits.flow_nodes
  room_there text w sound none = subst (λ (x : Setting). length w.shared.nodes < x.limits.flow_nodes) sound.setting (node_room text w none)

  few_here : (text : List ℕ) (w : World) → Sound g w → noted_limit text w ≡ None → length w.shared.nodes < 100000000
  few_here text w sound none = omega (arith, room_there text w sound none, (sound.narrow).nodes)

  pub noted_moves : (d : NodeKind) (name : List ℕ) (start : ℕ) (parents : World → List ℕ) (text : List ℕ) (w : World) → Sound g w → StartsAt d (next_node w) start → AllAre (IsFlowNode w.shared.nodes) (parents w) → noted_limit text w ≡ None → Moves g (λ w. noted d name start (parents w) text w) w
  noted_moves d name start parents text w sound begins old none = record {
    later = more_nodes w.shared (noted d name start (parents w) text w).shared _ refl refl;
    cells = sound.cells;
    binding = sound.binding;
    head = new_node w.shared.nodes _;
    same = same_on g.around w (noted d name start (parents w) text w) refl refl;
    bounds = bounds_node false g.site w.shared (noted d name start (parents w) text w).shared (record { id = next_node w; kind = d; name = name; start = start; parents = parents w }) sound.bounds (few_here text w sound none) refl begins old refl refl refl refl
        (all_longer g.site (length w.shared.log) (length (line text w.shared.log)) (line_longer text w.shared.log) w.shared.requests (sound.bounds).asks);
  }

  -- a line
  pub line_moves : (text : List ℕ) (w : World) → Sound g w → Moves g (with_line text) w
  line_moves text w sound = moves_aside g (with_line text) w sound refl refl refl refl refl refl refl refl (line_longer text w.shared.log)

  pub branch_moves : (name : List ℕ) (w : World) → Sound g w → noted_limit (body_line (branch_label name)) w ≡ None → Moves g (noted_branch name) w
  branch_moves name w sound none = record {
    later = more_nodes w.shared (noted_branch name w).shared _ refl refl;
    cells = sound.cells;
    binding = sound.binding;
    head = old_node w.shared.nodes _ w.own.head sound.head;
    same = same_on g.around w (noted_branch name w) refl refl;
    bounds = bounds_node false g.site w.shared (noted_branch name w).shared (record { id = next_node w; kind = Body; name = branch_label name; start = 0; parents = w.own.head ∷ [] }) sound.bounds (few_here (body_line (branch_label name)) w sound none) refl refl (sound.head, tt) refl refl refl refl
        (all_longer g.site (length w.shared.log) (length (line (body_line (branch_label name)) w.shared.log)) (line_longer (body_line (branch_label name)) w.shared.log) w.shared.requests (sound.bounds).asks);
  }

  -- behind a change that makes a flow node one less is left
  pub noted_spends : (f : NodeForm) (u : Common) (text : List ℕ) (h : World → World) (n : FlowNode) (s : State) → Stopped g u s → (h s.world).shared.nodes ≡ s.world.shared.nodes ++ n ∷ [] → (go : State → Result)
      → (noted_limit text s.world ≡ None → left g (h s.world).shared + 1 ≤ left g s.world.shared → Holds g f u (go (with_world (h s.world) s))) → Holds g f u (guarded (noted_limit text) h go s)
  noted_spends f u text h n s at new go k' = one (noted_limit text s.world) refl
    where
      one : (o : Option LimitKind) → noted_limit text s.world ≡ o → Holds g f u (unless_limit o (changed h go) s)
      one (Some k) e = at
      one None e = k' e (omega (arith, room_there text s.world at.sound e, ap length new, length-append s.world.shared.nodes (n ∷ [])))

module _ (g : Base) where
  module _ (f : NodeForm) (u : Common) where
    -- behind a new flow node there is room for a request
    abbrev pub GoesAsking : (State → Result) → Type 0
    GoesAsking go = (s : State) → At g u s → HasRoom s.world.shared → Holds g f u (go s)

    noting_asks : (d : NodeKind) (name : List ℕ) (start : ℕ) (text : List ℕ) (go : State → Result) → ((v : Common) → Later u v → StartsAt d (length v.nodes + 2) start) → GoesAsking go → Goes g f u (noting d name start text go)
    noting_asks d name start text go begins k' s at =
        guard_with g f u (noted_limit text) (λ w. noted d name start (w.own.head ∷ []) text w) (λ w l sound none. noted_moves g d name start (λ w. w.own.head ∷ []) text w sound (begins w.shared l) (sound.head, tt) none) go s at
        (λ at1. k' (with_world (noted d name start (s.world.own.head ∷ []) text s.world) s) at1 (room_behind s.world.shared (noted d name start (s.world.own.head ∷ []) text s.world).shared _ ((at.sound).bounds).few_requests refl refl))

    pub noting_goes : (d : NodeKind) (name : List ℕ) (start : ℕ) (text : List ℕ) (go : State → Result) → ((v : Common) → Later u v → StartsAt d (length v.nodes + 2) start) → Goes g f u go → Goes g f u (noting d name start text go)
    noting_goes d name start text go begins k' = noting_asks d name start text go begins (λ s at room. k' s at)

    pub end_body_goes : (start : ℕ) → IsFlowNode u.nodes start → (go : State → Result) → Goes g f u go → Goes g f u (end_body start go)
    end_body_goes start flow go k' = noting_goes EndBody [] start (pipeline (codes "}")) go (λ v l. node_then u v l start flow) k'

    -- behind the end of a body, in which o is open, a change that closes it
    pub end_body_over : (o : Open) (start : ℕ) → IsFlowNode u.nodes start → (h : World → World) → ((w : World) → (h w).shared.cells ≡ w.shared.cells) → ((w : World) → (h w).shared.binding ≡ w.shared.binding) → ((w : World) → (h w).shared.nodes ≡ w.shared.nodes) → ((w : World) → (h w).own.head ≡ w.own.head)
        → ((w : World) → (h w).shared.requests ≡ w.shared.requests) → ((w : World) → (h w).shared.next_request ≡ w.shared.next_request) → ((w : World) → length w.shared.log ≤ length (h w).shared.log) → ((w : World) → Same o w → Same g.around (h w)) → (go : State → Result) → Goes g f u go → (s : State) → At (within o g) u s → Holds g f u (end_body start (changed h go) s)
    end_body_over o start flow h c b n hd r q longer over go k' s at =
        guard_here g f u (noted_limit (pipeline (codes "}")) s.world) (λ w. noted EndBody [] start (w.own.head ∷ []) (pipeline (codes "}")) w) (changed h go) s (record { later = at.later; sound = at.sound }) (λ none. (
        let at1 : At (within o g) u (with_world (noted EndBody [] start (s.world.own.head ∷ []) (pipeline (codes "}")) s.world) s) =
        at_moved (within o g) u (λ w. noted EndBody [] start (w.own.head ∷ []) (pipeline (codes "}")) w) s at (noted_moves (within o g) EndBody [] start (λ w. w.own.head ∷ []) (pipeline (codes "}")) s.world at.sound (node_then u s.world.shared at.later start flow) ((at.sound).head, tt) none) in
        k' _ (at_over g o u h (with_world (noted EndBody [] start (s.world.own.head ∷ []) (pipeline (codes "}")) s.world) s) at1 (c _) (b _) (n _) (hd _) (r _) (q _) (longer _) (over _))))

    pub end_block_goes : (name : List ℕ) (start : ℕ) → IsFlowNode u.nodes start → (go : State → Result) → Goes g f u go → Goes g f u (end_block name start go)
    end_block_goes name start flow go k' = noting_goes EndBlock [] start (pipeline (codes "// " ++ name)) go (λ v l. node_then u v l start flow) k'

    pub atom_goes : (name : List ℕ) (go : State → Result) → Goes g f u go → Goes g f u (atom name go)
    atom_goes name go k' = noting_goes Atom name 0 (pipeline name) go (λ v l. refl) k'

    pub atom_asks : (name : List ℕ) (go : State → Result) → GoesAsking go → Goes g f u (atom name go)
    atom_asks name go k' = noting_asks Atom name 0 (pipeline name) go (λ v l. refl) k'

    pub block_goes : (name : List ℕ) (go : State → Result) → Goes g f u go → Goes g f u (block name go)
    block_goes name go k' = noting_goes Block name 0 (pipeline name) go (λ v l. refl) k'

    pub block_asks : (name : List ℕ) (go : State → Result) → GoesAsking go → Goes g f u (block name go)
    block_asks name go k' = noting_asks Block name 0 (pipeline name) go (λ v l. refl) k'

    -- a line leaves this room
    pub logging_asks : (text : List ℕ) (go : State → Result) → GoesAsking go → GoesAsking (logging text go)
    logging_asks text go k' s at room =
        guard_with g f u (line_limit text) (with_line text) (λ w l sound none. line_moves g text w sound) go s at (λ at1. k' (with_world (with_line text s.world) s) at1 room)

    pub logging_goes : (text : List ℕ) (go : State → Result) → Goes g f u go → Goes g f u (logging text go)
    logging_goes text go k' = guard_goes g f u (line_limit text) (with_line text) (λ w l sound none. line_moves g text w sound) go k'

    logging_all_goes : (ts : List (List ℕ)) (go : State → Result) → Goes g f u go → Goes g f u (logging_all ts go)
    logging_all_goes [] go k' = k'
    logging_all_goes (t ∷ ts) go k' = logging_goes t _ (logging_all_goes ts go k')

    pub end_branches_goes : (name : List ℕ) (start : ℕ) → IsFlowNode u.nodes start → (heads : List ℕ) → AllAre (IsFlowNode u.nodes) heads → (go : State → Result) → Goes g f u go → Goes g f u (end_branches name start heads go)
    end_branches_goes name start flow heads old go k' = guard_goes g f u (noted_limit (pipeline (codes "// " ++ name))) (noted EndBlock [] start heads (pipeline (codes "// " ++ name)))
        (λ w l sound none. noted_moves g EndBlock [] start (λ w. heads) (pipeline (codes "// " ++ name)) w sound (node_then u w.shared l start flow) (all_weaker _ _ (node_then u w.shared l) heads old) none) go k'

    -- a change that touches nothing of this
    pub aside_goes : (h : World → World) → ((w : World) → (h w).shared.cells ≡ w.shared.cells) → ((w : World) → (h w).shared.binding ≡ w.shared.binding) → ((w : World) → (h w).shared.nodes ≡ w.shared.nodes) → ((w : World) → (h w).own.head ≡ w.own.head) → ((w : World) → (h w).own.context ≡ w.own.context) → ((w : World) → (h w).shared.held ≡ w.shared.held)
        → ((w : World) → (h w).shared.requests ≡ w.shared.requests) → ((w : World) → (h w).shared.next_request ≡ w.shared.next_request) → ((w : World) → length w.shared.log ≤ length (h w).shared.log) → (go : State → Result) → Goes g f u go → Goes g f u (changed h go)
    aside_goes h c b n o x y r q l go k' = change_goes g f u h (λ w sound. moves_aside g h w sound (c w) (b w) (n w) (o w) (x w) (y w) (r w) (q w) (l w)) go k'

    pub throwing_goes : (class : Class) (message : List ℕ) → Goes g f u (throwing class message)
    throwing_goes class message s at = answer_goes g f u (λ h v. ⊥) (throw (limits s.world) (cells s.world) class message) s at (GivenValues (closure_rule g.script) (cells s.world) []) ((at.sound).cells, tt) (throws (limits s.world) (closure_rule g.script) (cells s.world) class message) ended (λ v t q l is. absurd is)

  module _ (f : NodeForm) (plain : is_declaration f ≡ false) where
    -- an ending, later on
    pub ending_goes : (u : Common) (e : Ending) → EndFits form.Block u e → Goes g f u (Ended e)
    ending_goes u e h s at = (at, end_as g form.Block f s.world.shared e refl plain (end_then u s.world.shared at.later form.Block e h))

    pub body_end_goes : (u : Common) (name : List ℕ) (start body : ℕ) → IsFlowNode u.nodes start → IsFlowNode u.nodes body → (e : Ending) (s : State) → At g u s → EndFits form.Block s.world.shared e → Holds g f u (after_body name start body e s)
    body_end_goes u name start body a b e s at h = from_here g f u (after_body name start body e) s at
        (end_body_goes f s.world.shared body (node_then u s.world.shared at.later body b) (end_block name start (Ended e))
        (end_block_goes f s.world.shared name start (node_then u s.world.shared at.later start a) (Ended e) (ending_goes s.world.shared e h)))

    -- behind the end of a body, in which o is open, a change that closes it, and then the block's end
    pub body_end_changed : (o : Open) (u : Common) (name : List ℕ) (start body : ℕ) → IsFlowNode u.nodes start → IsFlowNode u.nodes body → (h : World → World) → ((w : World) → (h w).shared.cells ≡ w.shared.cells) → ((w : World) → (h w).shared.binding ≡ w.shared.binding) → ((w : World) → (h w).shared.nodes ≡ w.shared.nodes) → ((w : World) → (h w).own.head ≡ w.own.head)
        → ((w : World) → (h w).shared.requests ≡ w.shared.requests) → ((w : World) → (h w).shared.next_request ≡ w.shared.next_request) → ((w : World) → length w.shared.log ≤ length (h w).shared.log) → ((w : World) → Same o w → Same g.around (h w)) → (e : Ending) (s : State) → At (within o g) u s → EndFits form.Block s.world.shared e → Holds g f u (end_body body (changed h (end_block name start (Ended e))) s)
    body_end_changed o u name start body old new h c b n hd r q l over e s at fits =
        holds_then g f u s.world.shared at.later _
        (end_body_over f s.world.shared o body (node_then u s.world.shared at.later body new) h c b n hd r q l over (end_block name start (Ended e)) (end_block_goes f s.world.shared name start (node_then u s.world.shared at.later start old) (Ended e) (ending_goes s.world.shared e fits)) s (at_self (within o g) u s at))

    catch_end_goes : (u : Common) (start : ℕ) → IsFlowNode u.nodes start → Goes g f u (catch_end start)
    catch_end_goes u start flow = end_block_goes f u (codes "catchError") start flow (ended Null) (null_goes g f u plain)

    caught_goes : (u : Common) (start r : ℕ) → IsFlowNode u.nodes start → (message : Value) (e : Ending) → Goes g f u (caught start r message e)
    caught_goes u start r flow message (Thrown c) s at = logging_all_goes f u (message_lines (kind (cells s.world) message) ++ caught_lines (slice_get (cells s.world) c)) (changed (worsened (result_at r)) (catch_end start)) (aside_goes f u (worsened (result_at r)) (λ w. refl) (λ w. refl) (λ w. refl) (λ w. refl) (λ w. refl) (λ w. refl) (λ w. refl) (λ w. refl) (λ w. omega arith) (catch_end start) (catch_end_goes u start flow)) s at
    caught_goes u start r flow message (Normal v) s at = catch_end_goes u start flow s at
    caught_goes u start r flow message (Returned v) s at = catch_end_goes u start flow s at
    caught_goes u start r flow message Broke s at = catch_end_goes u start flow s at
    caught_goes u start r flow message Continued s at = catch_end_goes u start flow s at
    caught_goes u start r flow message (Declared b) s at = catch_end_goes u start flow s at
    caught_goes u start r flow message (Answered x) s at = catch_end_goes u start flow s at

    pub catch_error_end : (u : Common) (start body r : ℕ) → IsFlowNode u.nodes start → IsFlowNode u.nodes body → (message : Value) (e : Ending) → Goes g f u (after_catch_error start body r message e)
    catch_error_end u start body r a b message e = end_body_goes f u body b (caught start r message e) (caught_goes u start r a message e)

module _ (g : Base) (shaped : Shaped g.script) (k : ℕ) (sh : Shape) (xs : Names) (place : Place g k sh xs) (a : Around) (src : Sources g shaped k sh xs place a) (plain : is_declaration sh.form ≡ false) where
  -- A body behind its flow node, under a frame that sits there.
  pub run_body_goes : (u : Common) (x : Frame) → HasGone (holds_executor x.kind) g.around.gone → (go : Ending → State → Result) (label : List ℕ) (c : Callee) (s : State) → At (inside x.kind g) u s → CalleeFits g.script s.world.shared c.node c.env → Sits g.script (noted_body label s.world).shared x
      → ((e : Ending) (t : State) → At (inside x.kind g) (noted_body label s.world).shared t → EndFits form.Block t.world.shared e → Holds g sh.form (noted_body label s.world).shared (go e t)) → Holds g sh.form u (run_body a x go label c s)
  run_body_goes u x some go label c s at callee sits k' =
      through_guard_goes g sh.form u x go (body_limit label s.world) (noted_body label) (a.call c.node [] c.env) s (record { later = at.later; sound = at.sound }) (λ none. (
      let m : Moves (inside x.kind g) (noted_body label) s.world = noted_moves (inside x.kind g) Body label 0 (λ w. w.own.head ∷ []) (body_line label) s.world at.sound refl ((at.sound).head, tt) none in
      let at1 : At (inside x.kind g) u (with_world (noted_body label s.world) s) = at_moved (inside x.kind g) u (noted_body label) s at m in
      holds_then g sh.form u (noted_body label s.world).shared at1.later _ (through_inside g sh.form form.Block (noted_body label s.world).shared x some sits go k' (a.call c.node [] c.env (with_world (noted_body label s.world) s))
      (src.call (open_in x.kind g.around) (noted_body label s.world).shared c.node [] c.env (callee_then g.script s.world.shared (noted_body label s.world).shared m.later c.node c.env callee) tt (with_world (noted_body label s.world) s) (at_self (inside x.kind g) u (with_world (noted_body label s.world) s) at1)))))

  module _ (env : Env) where
    -- the frame of a body: the first flow nodes of its block and of the body, and further values
    pub starts_seen : (label : List ℕ) (w : World) → Sound g w → (seen (noted_body label w).shared Flow_node (whole w.own.head)) × seen (noted_body label w).shared Flow_node (whole (next_node w))
    starts_seen label w sound = (old_node w.shared.nodes _ w.own.head sound.head, new_node w.shared.nodes _)

    pub fit_noted : (u : Common) → EnvFits u.cells xs env → (label : List ℕ) (s : State) → Later u s.world.shared → EnvFits (noted_body label s.world).shared.cells xs env
    fit_noted u fit label s later = env_later u s.world.shared later xs env fit

    pub retry_with : (rs : (frame_row kind.RetryBody sh 0 env).stands ≡ true) → (m : ℕ) (after : ℕ → Ending → State → Result) → (start : ℕ) (u : Common) → EnvFits u.cells xs env → IsFlowNode u.nodes start → (f : Value) → There u.cells f
        → ((v : Common) → Later u v → (body : ℕ) → IsFlowNode v.nodes body → (e : Ending) (t : State) → At g v t → EndFits form.Block t.world.shared e → Holds g sh.form v (after body e t)) → Goes g sh.form u (retry_body after a k env start m f)
    retry_with rs m after start u fit flow f tf ok s at =
        calling_goes g sh.form plain u (closure_of s.world f) s at (closure_fits g s.world f at.sound) (run_body a (frame kind.RetryBody k 0 env (whole start ∷ whole (next_node s.world) ∷ whole m ∷ f ∷ [])) (after (next_node s.world)) [])
        (λ c e callee. run_body_goes u (frame kind.RetryBody k 0 env (whole start ∷ whole (next_node s.world) ∷ whole m ∷ f ∷ [])) tt (after (next_node s.world)) [] c s at callee
        (sits_here g shaped k sh xs place (noted_body [] s.world).shared kind.RetryBody 0 env (whole start ∷ whole (next_node s.world) ∷ whole m ∷ f ∷ []) rs (omega arith)
        (old_node s.world.shared.nodes _ start (node_then u s.world.shared at.later start flow), ((starts_seen [] s.world at.sound).1, (tt, (closure_seen s.world f c e, tt)))) (fit_noted u fit [] s at.later) tt)
        (λ e1 t q h. ok (noted_body [] s.world).shared (later_then u s.world.shared (noted_body [] s.world).shared at.later (more_nodes s.world.shared (noted_body [] s.world).shared _ refl refl)) (next_node s.world) (starts_seen [] s.world at.sound).1 e1 t q h))

    retry_end_goes : (u : Common) (start : ℕ) → IsFlowNode u.nodes start → (e : Ending) → EndFits form.Block u e → Goes g sh.form u (retry_end start e)
    retry_end_goes u start flow e h = end_block_goes g sh.form u (codes "retry") start flow (Ended e) (ending_goes g sh.form plain u e h)

    retry_next_goes : (m start : ℕ) (f : Value) (u : Common) → IsFlowNode u.nodes start → Goes g sh.form u (retry_body (after_retry a k env start f m) a k env start m f) → (c : ℕ) → HasThrowable (slice_get u.cells c) → (b : Bool) (o : Option Cell) → Goes g sh.form u (retry_next (retry_body (after_retry a k env start f m) a k env start m f) start c b o)
    retry_next_goes m start f u flow further c has true o = retry_end_goes u start flow (Thrown c) has
    retry_next_goes m start f u flow further c has false o = logging_all_goes g sh.form u (caught_lines o ++ codes "Retrying" ∷ []) (retry_body (after_retry a k env start f m) a k env start m f) further

    retry_ended : (m start : ℕ) (f : Value) (u : Common) → IsFlowNode u.nodes start → Goes g sh.form u (retry_body (after_retry a k env start f m) a k env start m f) → (e : Ending) → EndFits form.Block u e → Goes g sh.form u (on_throw (λ c. seeing (λ w. retry_next (retry_body (after_retry a k env start f m) a k env start m f) start c (is_interruption (slice_get (cells w) c)) (slice_get (cells w) c))) (retry_end start) e)
    retry_ended m start f u flow further (Thrown c) h t q = retry_next_goes m start f u flow further c h (is_interruption (slice_get (cells t.world) c)) (slice_get (cells t.world) c) t q
    retry_ended m start f u flow further (Normal v) h t q = retry_end_goes u start flow (Normal v) h t q
    retry_ended m start f u flow further (Returned v) h t q = retry_end_goes u start flow (Returned v) h t q
    retry_ended m start f u flow further Broke h t q = retry_end_goes u start flow Broke h t q
    retry_ended m start f u flow further Continued h t q = retry_end_goes u start flow Continued h t q
    retry_ended m start f u flow further (Declared b) h t q = retry_end_goes u start flow (Declared b) h t q
    retry_ended m start f u flow further (Answered x) h t q = retry_end_goes u start flow (Answered x) h t q

    pub after_retry_goes : (rs : (frame_row kind.RetryBody sh 0 env).stands ≡ true) → (m : ℕ) (start : ℕ) (u : Common) → EnvFits u.cells xs env → IsFlowNode u.nodes start → (f : Value) → There u.cells f → (body : ℕ) → IsFlowNode u.nodes body → (e : Ending) (s : State) → At g u s → EndFits form.Block s.world.shared e → Holds g sh.form u (after_retry a k env start f m body e s)
    after_retry_goes rs zero start u fit flow f tf body new e s at h = from_here g sh.form u (after_retry a k env start f zero body e) s at
        (end_body_goes g sh.form s.world.shared body (node_then u s.world.shared at.later body new) (retry_end start e) (retry_end_goes s.world.shared start (node_then u s.world.shared at.later start flow) e h))
    after_retry_goes rs (suc m) start u fit flow f tf body new e s at h =
        let fit1 : EnvFits s.world.shared.cells xs env = env_later u s.world.shared at.later xs env fit in
        let flow1 : IsFlowNode s.world.shared.nodes start = node_then u s.world.shared at.later start flow in
        let tf1 : There s.world.shared.cells f = there_then u s.world.shared at.later f tf in
        from_here g sh.form u (after_retry a k env start f (suc m) body e) s at (end_body_goes g sh.form s.world.shared body (node_then u s.world.shared at.later body new) (on_throw (λ c. seeing (λ w. retry_next (retry_body (after_retry a k env start f m) a k env start m f) start c (is_interruption (slice_get (cells w) c)) (slice_get (cells w) c))) (retry_end start) e)
        (retry_ended m start f s.world.shared flow1 (retry_with rs m (after_retry a k env start f m) start s.world.shared fit1 flow1 f tf1
        (λ v l b new1 e1 t q h1. after_retry_goes rs m start v (env_later s.world.shared v l xs env fit1) (node_then s.world.shared v l start flow1) f (there_then s.world.shared v l f tf1) b new1 e1 t q h1)) e h))

    -- the body of a step whose frame keeps its first flow nodes and these further values
    pub body_goes : (d : FrameKind) → HasGone (holds_executor d) g.around.gone → (frame_row d sh 0 env).stands ≡ true → 0 < (frame_row d sh 0 env).limit → (more : List Value) → (label : List ℕ) (u : Common) → EnvFits u.cells xs env → (go : Ending → State → Result) (w : World) (c : Callee) (s : State) → At (inside d g) u s → w.own.head ≡ s.world.own.head → next_node w ≡ next_node s.world → CalleeFits g.script s.world.shared c.node c.env
        → ValuesFit (seen (noted_body label s.world).shared) (frame_row d sh 0 env).further (frame_row d sh 0 env).values (starts s.world ++ more) → EnvFits (noted_body label s.world).shared.cells (frame_names d sh 0 xs) env → NumbersFit d (starts s.world ++ more)
        → ((v : Common) → Later u v → IsFlowNode v.nodes w.own.head → IsFlowNode v.nodes (next_node w) → (e : Ending) (t : State) → At (inside d g) v t → EndFits form.Block t.world.shared e → Holds g sh.form v (go e t)) → Holds g sh.form u (run_body a (frame d k 0 env (starts w ++ more)) go label c s)
    body_goes d some stands low more label u fit go w c s at head next callee values names numbers ok =
        let e : starts s.world ++ more ≡ starts w ++ more = ap (λ vs. vs ++ more) (ap (λ n. whole n ∷ whole (next_node s.world) ∷ []) (sym head) ∙ ap (λ n. whole w.own.head ∷ whole n ∷ []) (sym next)) in
        subst (λ vs. Holds g sh.form u (run_body a (frame d k 0 env vs) go label c s)) e
        (run_body_goes u (frame d k 0 env (starts s.world ++ more)) some go label c s at callee
        (sits_here g shaped k sh xs place (noted_body label s.world).shared d 0 env (starts s.world ++ more) stands low values names numbers)
        (λ e1 t q h. ok (noted_body label s.world).shared (later_then u s.world.shared (noted_body label s.world).shared at.later (more_nodes s.world.shared (noted_body label s.world).shared _ refl refl))
        (subst (IsFlowNode (noted_body label s.world).shared.nodes) (sym head) (starts_seen label s.world at.sound).0) (subst (IsFlowNode (noted_body label s.world).shared.nodes) (sym next) (starts_seen label s.world at.sound).1) e1 t q h))
