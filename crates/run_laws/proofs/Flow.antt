-- What the combinators of evaluation keep: sound states, later and later, and frames that fit.
use Rattle.std.proofs.Common.{arith, ◌≡◌, ◌<◌, ◌≤◌, ◌+◌, ◌∙◌, ap, refl, sym, subst, ℕ, Bool, true, false, List, [], ◌∷◌, length, filter, append_assoc, Option, Some, None}
use Rattle.std.proofs.lemmas.List.{append-nil}
use Rattle.std.specs.Prelude.{pos, slice_get, if◌then◌else◌}
use Rattle.std.specs.List.{AllByRecursion as AllAre}
use Rattle.model_syntax.specs.declared.node.NodeForm.{NodeForm}
use Rattle.model_syntax.specs.declared.node.NodeForm.TheVariants as form
use Rattle.model_values.specs.Cells.{Answer, Gives, Throws, Meets}
use Rattle.model_values.specs.Fitting.{There, HasVariable, HasThrowable, CellsFit}
use Rattle.model_values.specs.Later.{CellsLater, Grows, AnswerGrows}
use Rattle.model_values.specs.Truth.{truth}
use Rattle.model_values.proofs.LaterLaws.{later_itself, later_on, there_later, text_later, closure_later, throwable_later, variable_later, variables_later, all_weaker}
use Rattle.model_values.specs.declared.value.Value.{Value}
use Rattle.model_values.specs.declared.value.Value.TheVariants.{Null, Bool as Truth, Int as Whole, Cell as InCell}
use Rattle.model_values.specs.declared.limit.LimitKind.{LimitKind}
use Rattle.model_values.specs.declared.cell.Cell.{Cell}
use Rattle.model_run.specs.declared.ending.Ending.{Ending}
use Rattle.model_run.specs.declared.ending.Ending.TheVariants.{Normal, Thrown, Returned, Broke, Continued, Declared, Answered}
use Rattle.model_run.specs.declared.ending.Asked.{Asked}
use Rattle.model_run.specs.declared.context.Context.{Context}
use Rattle.model_run.specs.declared.frame.Frame.{Frame}
use Rattle.model_run.specs.declared.frame.FrameKind.{FrameKind}
use Rattle.model_run.specs.declared.frame.FrameKind.TheVariants as kind
use Rattle.model_run.specs.State.{Setting, Common, World, State, Result, Ended, Waits, Limited, Unfinished, with_world, through, changed, choose, unless_limit, guarded, on_value, put_cells, answered, may_count, counted, tick, reply_to, awaiting}
use Rattle.model_run.specs.Around.{ended, cells, limits, deciding}
use Rattle.model_run.specs.FrameTable.{Sort, Any, Up_to, A_count, Flag, Flow_node, A_closure, A_throwable, Text_or_null, is_declaration}
use Rattle.model_run.specs.Fitting.{closure_rule, IsFlowNode, Later, holds_executor, holds_folder}
use Rattle.model_run.proofs.Front.{front_itself, front_same, front_on, front_length}
use Rattle.model_run.proofs.LaterLaws.{frame_wider, env_later}
use Rattle.run_laws.specs.Bounds.{Narrow, InBounds}
use Rattle.run_laws.proofs.Bounds.{bounds_aside, bounds_cells}
use Rattle.run_laws.specs.Soundness.{Stopped, Base, Open, within, in_folder, in_node, open_in, inside, open_nodes, open_folders, branching, seen, Sits, AskedFits, declares_as, EndFits, Same, Pausing, Sound, left, At, Paused, Holds, Goes}

pub later_self : (u : Common) → Later u u
later_self u = record { cells = later_itself u.cells; nodes = front_itself u.nodes }

pub later_then : (u v w : Common) → Later u v → Later v w → Later u w
later_then u v w a b = record { cells = later_on u.cells v.cells w.cells a.cells b.cells; nodes = front_on u.nodes v.nodes w.nodes a.nodes b.nodes }

module _ (u v : Common) (later : Later u v) where
  pub there_then : (x : Value) → There u.cells x → There v.cells x
  there_then = there_later u.cells v.cells later.cells

  pub all_there_then : (xs : List Value) → AllAre (There u.cells) xs → AllAre (There v.cells) xs
  all_there_then xs h = all_weaker _ _ there_then xs h

  pub node_then : (n : ℕ) → IsFlowNode u.nodes n → IsFlowNode v.nodes n
  node_then n h = (h.0, let lt : n < length u.nodes + 2 = h.1 in omega (arith, front_length u.nodes v.nodes later.nodes))

  pub seen_then : (s : Sort) (x : Value) → seen u s x → seen v s x
  seen_then Any x h = there_then x h
  seen_then (Up_to n) (Whole (pos m)) h = tt
  seen_then A_count (Whole (pos m)) h = tt
  seen_then Flag (Truth b) h = tt
  seen_then Flow_node (Whole (pos n)) h = node_then n h
  seen_then A_closure (InCell c) h = closure_later u.cells v.cells later.cells c h
  seen_then A_throwable (InCell c) h = throwable_later u.cells v.cells later.cells c h
  seen_then Text_or_null Null h = tt
  seen_then Text_or_null (InCell c) h = text_later u.cells v.cells later.cells c h
  seen_then s x h = absurd h

  pub sits_then : (root : _) (f : Frame) → Sits root u f → Sits root v f
  sits_then root f h = record { fits = frame_wider (seen u) (seen v) seen_then root f h.fits; names = env_later u v later _ f.env h.names; numbers = h.numbers }

pub end_then : (u v : Common) → Later u v → (f : NodeForm) (e : Ending) → EndFits f u e → EndFits f v e
end_then u v l f (Normal x) h = (there_then u v l x h.0, h.1)
end_then u v l f (Thrown c) h = throwable_later u.cells v.cells l.cells c h
end_then u v l f (Returned x) h = there_then u v l x h
end_then u v l f Broke h = tt
end_then u v l f Continued h = tt
end_then u v l f (Declared b) h = (h.0, variable_later u.cells v.cells l.cells b.cell h.1)
end_then u v l f (Answered x) h = h

pub same_on : (o : Open) (w v : World) → v.own.context ≡ w.own.context → v.shared.held ≡ w.shared.held → Same o w → Same o v
same_on o w v e h q = record { nodes = ap (λ (c : Context). c.held) e ∙ q.nodes; folders = ap (λ (c : Context). length c.folders) e ∙ q.folders; held = h ∙ q.held }

-- a body that holds an executor has one to give back
abbrev pub HasGone : Bool → List ℕ → Type 0
HasGone true [] = ⊥
HasGone true (r ∷ rs) = Unit {0}
HasGone false rs = Unit {0}

-- a body that holds an executor has a folder
no_executor : (k : FrameKind) → holds_folder k ≡ false → holds_executor k ≡ false
no_executor kind.NodeBody e = absurd (cc)
no_executor k e = refl

pub opens_nothing : (k : FrameKind) (o : Open) → holds_executor k ≡ false → holds_folder k ≡ false → open_in k o ≡ o
opens_nothing k o bare none = ap (λ b. in_folder b (in_node (holds_executor k) o)) none ∙ ap (λ b. in_node b o) bare

-- the frame of a body is one more of these
pub one_more : (keep : Frame → Bool) (x : Frame) (path : List Frame) (b : Bool) → keep x ≡ b → length (filter keep (x ∷ path)) ≡ (if b then 1 else 0) + length (filter keep path)
one_more keep x path b e = ap (λ c. length (if c then x ∷ filter keep path else filter keep path)) e ∙ by b
  where
    by : (c : Bool) → length (if c then x ∷ filter keep path else filter keep path) ≡ (if c then 1 else 0) + length (filter keep path)
    by true = omega arith
    by false = omega arith

-- nothing is open at a wait without a path
pub pausing_here : (o : Open) (w : World) → Same o w → Pausing o [] w
pausing_here o w q = record { own = []; rest = o.gone; gone = refl; nodes = q.nodes ∙ sym (append-nil o.nodes); many = refl; folders = omega (arith, q.folders); held = q.held }

-- at a wait inside a frame one body more is open where the frame is that of one
pub pausing_more : (o : Open) (x : Frame) (path : List Frame) (w : World) → HasGone (holds_executor x.kind) o.gone → Pausing (open_in x.kind o) path w → Pausing o (x ∷ path) w
pausing_more o x path w some p = one (holds_executor x.kind) (holds_folder x.kind) o.gone refl refl refl some p
  where
    folders_more : (b : Bool) → holds_folder x.kind ≡ b → open_folders (x ∷ path) ≡ (if b then 1 else 0) + open_folders path
    folders_more = one_more (λ f. holds_folder f.kind) x path

    nodes_more : (a : Bool) → holds_executor x.kind ≡ a → open_nodes (x ∷ path) ≡ (if a then 1 else 0) + open_nodes path
    nodes_more = one_more (λ f. holds_executor f.kind) x path

    one : (a b : Bool) (gone : List ℕ) → holds_executor x.kind ≡ a → holds_folder x.kind ≡ b → o.gone ≡ gone → HasGone a gone → Pausing (in_folder b (in_node a (record o { gone = gone }))) path w → Pausing o (x ∷ path) w
    one true b [] ea eb eg some q = absurd some
    one true true (r ∷ rs) ea eb eg some q = record { own = r ∷ q.own; rest = q.rest; gone = eg ∙ ap (λ ns. r ∷ ns) q.gone; nodes = q.nodes ∙ append_assoc o.nodes (r ∷ []) q.own; many = omega (arith, q.many, nodes_more true ea); folders = omega (arith, q.folders, folders_more true eb); held = q.held }
    one true false (r ∷ rs) ea eb eg some q = record { own = r ∷ q.own; rest = q.rest; gone = eg ∙ ap (λ ns. r ∷ ns) q.gone; nodes = q.nodes ∙ append_assoc o.nodes (r ∷ []) q.own; many = omega (arith, q.many, nodes_more true ea); folders = omega (arith, q.folders, folders_more false eb); held = q.held }
    one false true gone ea eb eg some q = record { own = q.own; rest = q.rest; gone = eg ∙ q.gone; nodes = q.nodes; many = omega (arith, q.many, nodes_more false ea); folders = omega (arith, q.folders, folders_more true eb); held = q.held }
    one false false gone ea eb eg some q = record { own = q.own; rest = q.rest; gone = eg ∙ q.gone; nodes = q.nodes; many = omega (arith, q.many, nodes_more false ea); folders = omega (arith, q.folders, folders_more false eb); held = q.held }

module _ (g : Base) where
  pub at_self : (u : Common) (s : State) → At g u s → At g s.world.shared s
  at_self u s at = record { later = later_self s.world.shared; sound = at.sound; alone = at.alone; same = at.same }

  pub at_then : (u v : Common) → Later u v → (s : State) → At g v s → At g u s
  at_then u v l s at = record { later = later_then u v s.world.shared l at.later; sound = at.sound; alone = at.alone; same = at.same }

  -- the longer the fewer flow nodes are left
  pub left_later : (u v : Common) → Later u v → left g v ≤ left g u
  left_later u v l = omega (arith, front_length u.nodes v.nodes l.nodes)

  pub paused_then : (u v : Common) → Later u v → (asked : Asked) (path : List Frame) (s : State) → Paused g v asked path s → Paused g u asked path s
  paused_then u v l asked path s p = record { later = later_then u v s.world.shared l p.later; sound = p.sound; alone = p.alone; pausing = p.pausing; spent = omega (arith, left_later u v l, p.spent) }

  pub stopped_here : (u : Common) (s : State) → At g u s → Stopped g u s
  stopped_here u s at = record { later = at.later; sound = at.sound }

  -- what begins behind a later state begins behind an earlier one
  pub holds_then : (f : NodeForm) (u v : Common) → Later u v → (r : Result) → Holds g f v r → Holds g f u r
  holds_then f u v l (Ended e s) h = (at_then u v l s h.0, h.1)
  holds_then f u v l (Waits asked path s) h = (paused_then u v l asked path s h.0, h.1, h.2)
  holds_then f u v l (Limited k s) h = record { later = later_then u v s.world.shared l h.later; sound = h.sound }
  holds_then f u v l Unfinished h = tt

  -- go on from a state as from the beginning
  pub from_here : (f : NodeForm) (u : Common) (go : State → Result) (s : State) → At g u s → Goes g f s.world.shared go → Holds g f u (go s)
  from_here f u go s at h = holds_then f u s.world.shared at.later (go s) (h s (at_self u s at))

  -- nodes that are no declarations end alike
  pub end_as : (f f' : NodeForm) (u : Common) (e : Ending) → is_declaration f ≡ false → is_declaration f' ≡ false → EndFits f u e → EndFits f' u e
  end_as f f' u (Normal v) plain plain' h = (h.0, plain')
  end_as f f' u (Thrown c) plain plain' h = h
  end_as f f' u (Returned v) plain plain' h = h
  end_as f f' u Broke plain plain' h = tt
  end_as f f' u Continued plain plain' h = tt
  end_as f f' u (Declared b) plain plain' h = absurd (never f plain b.name h.0)
    where
      never : (f : NodeForm) → is_declaration f ≡ false → (y : List ℕ) → declares_as f y → ⊥
      never (form.Declare x) plain y d = absurd (cc)
      never f plain y d = d
  end_as f f' u (Answered x) plain plain' h = h

  pub holds_as : (f f' : NodeForm) (u : Common) (r : Result) → is_declaration f ≡ false → is_declaration f' ≡ false → Holds g f u r → Holds g f' u r
  holds_as f f' u (Ended e s) plain plain' h = (h.0, end_as f f' s.world.shared e plain plain' h.1)
  holds_as f f' u (Waits asked path s) plain plain' h = h
  holds_as f f' u (Limited k s) plain plain' h = h
  holds_as f f' u Unfinished plain plain' h = tt

  -- A change that leaves a sound world sound, and later.
  pub record Leaves (h : World → World) (w : World) : Type 0 where
    pub later : Later w.shared (h w).shared
    pub cells : CellsFit (closure_rule g.script) (h w).shared.cells
    pub binding : AllAre (λ b. HasVariable (slice_get (h w).shared.cells b.cell)) (h w).shared.binding
    pub head : IsFlowNode (h w).shared.nodes (h w).own.head
    pub bounds : InBounds false g.site (h w).shared

  -- with nothing else open than before
  pub record Moves (h : World → World) (w : World) : Type 0 where
    pub later : Later w.shared (h w).shared
    pub cells : CellsFit (closure_rule g.script) (h w).shared.cells
    pub binding : AllAre (λ b. HasVariable (slice_get (h w).shared.cells b.cell)) (h w).shared.binding
    pub head : IsFlowNode (h w).shared.nodes (h w).own.head
    pub same : Same g.around w → Same g.around (h w)
    pub bounds : InBounds false g.site (h w).shared

  pub at_moved : (u : Common) (h : World → World) (s : State) → At g u s → Moves h s.world → At g u (with_world (h s.world) s)
  at_moved u h s at m = record {
    later = later_then u s.world.shared (h s.world).shared at.later m.later;
    sound = record { setting = (at.sound).setting; narrow = (at.sound).narrow; cells = m.cells; binding = m.binding; head = m.head; bounds = m.bounds };
    alone = at.alone;
    same = same_on g.around (h s.world) (with_world (h s.world) s).world refl refl (m.same at.same);
  }

  -- a change of nothing that soundness speaks of
  leaves_aside : (h : World → World) (w : World) → Sound g w → (h w).shared.cells ≡ w.shared.cells → (h w).shared.binding ≡ w.shared.binding → (h w).shared.nodes ≡ w.shared.nodes → (h w).own.head ≡ w.own.head → (h w).shared.requests ≡ w.shared.requests → (h w).shared.next_request ≡ w.shared.next_request → length w.shared.log ≤ length (h w).shared.log → Leaves h w
  leaves_aside h w sound c b n o r q l = record {
    bounds = bounds_aside false g.site w.shared (h w).shared sound.bounds c b n r q l;
    later = record { cells = subst (CellsLater w.shared.cells) (sym c) (later_itself w.shared.cells); nodes = front_same w.shared.nodes (h w).shared.nodes n };
    cells = subst (CellsFit (closure_rule g.script)) (sym c) sound.cells;
    binding = subst (λ cs. AllAre (λ x. HasVariable (slice_get cs x.cell)) (h w).shared.binding) (sym c) (subst (λ bs. AllAre (λ x. HasVariable (slice_get w.shared.cells x.cell)) bs) (sym b) sound.binding);
    head = subst (λ ns. IsFlowNode ns (h w).own.head) (sym n) (subst (IsFlowNode w.shared.nodes) (sym o) sound.head);
  }

  pub moves_with : (h : World → World) (w : World) → Sound g w → (h w).shared.cells ≡ w.shared.cells → (h w).shared.binding ≡ w.shared.binding → (h w).shared.nodes ≡ w.shared.nodes → (h w).own.head ≡ w.own.head → (Same g.around w → Same g.around (h w)) → (h w).shared.requests ≡ w.shared.requests → (h w).shared.next_request ≡ w.shared.next_request → length w.shared.log ≤ length (h w).shared.log → Moves h w
  moves_with h w sound c b n o same r q longer =
      let l : Leaves h w = leaves_aside h w sound c b n o r q longer in
      record { later = l.later; cells = l.cells; binding = l.binding; head = l.head; same = same; bounds = l.bounds }

  pub moves_aside : (h : World → World) (w : World) → Sound g w → (h w).shared.cells ≡ w.shared.cells → (h w).shared.binding ≡ w.shared.binding → (h w).shared.nodes ≡ w.shared.nodes → (h w).own.head ≡ w.own.head → (h w).own.context ≡ w.own.context → (h w).shared.held ≡ w.shared.held
      → (h w).shared.requests ≡ w.shared.requests → (h w).shared.next_request ≡ w.shared.next_request → length w.shared.log ≤ length (h w).shared.log → Moves h w
  moves_aside h w sound c b n o x y r q l = moves_with h w sound c b n o (same_on g.around w (h w) x y) r q l

  -- the limits of a sound world
  pub narrow_here : (w : World) → Sound g w → Narrow w.setting.limits
  narrow_here w sound = subst (λ (t : Setting). Narrow t.limits) (sym sound.setting) sound.narrow

  -- cells that an operation on values makes
  pub moves_cells : (w : World) → Sound g w → (given result : Type 0) (h : List Cell) → Grows (limits w) (closure_rule g.script) (cells w) given h result → CellsFit (closure_rule g.script) h → Moves (put_cells h) w
  moves_cells w sound given result h grown fits = record {
    later = record { cells = grown.later; nodes = front_itself w.shared.nodes };
    cells = fits;
    binding = variables_later (cells w) h grown.later w.shared.binding sound.binding;
    head = sound.head;
    same = same_on g.around w (put_cells h w) refl refl;
    bounds = bounds_cells g.site w.shared (limits w) (closure_rule g.script) given result h (narrow_here w sound).cells (narrow_here w sound).bytes grown sound.bounds;
  }

  -- such a change that opens or closes a body
  pub at_over : (o : Open) (u : Common) (h : World → World) (s : State) → At (within o g) u s → (h s.world).shared.cells ≡ s.world.shared.cells → (h s.world).shared.binding ≡ s.world.shared.binding → (h s.world).shared.nodes ≡ s.world.shared.nodes → (h s.world).own.head ≡ s.world.own.head
      → (h s.world).shared.requests ≡ s.world.shared.requests → (h s.world).shared.next_request ≡ s.world.shared.next_request → length s.world.shared.log ≤ length (h s.world).shared.log → (Same o s.world → Same g.around (h s.world)) → At g u (with_world (h s.world) s)
  at_over o u h s at c b n hd r q longer over =
      let l : Leaves h s.world = leaves_aside h s.world at.sound c b n hd r q longer in
      record {
        later = later_then u s.world.shared (h s.world).shared at.later l.later;
        sound = record { setting = (at.sound).setting; narrow = (at.sound).narrow; cells = l.cells; binding = l.binding; head = l.head; bounds = l.bounds };
        alone = at.alone;
        same = same_on g.around (h s.world) (with_world (h s.world) s).world refl refl (over at.same);
      }

  module _ (f : NodeForm) (u : Common) where
    pub change_goes : (h : World → World) → ((w : World) → Sound g w → Moves h w) → (go : State → Result) → Goes g f u go → Goes g f u (changed h go)
    change_goes h moves go k s at = k _ (at_moved u h s at (moves s.world at.sound))

    pub unless_goes : (o : Option LimitKind) (go : State → Result) → Goes g f u go → Goes g f u (unless_limit o go)
    unless_goes (Some k) go h s at = stopped_here u s at
    unless_goes None go h s at = h s at

    -- a change that is made where it meets no limit, from here
    pub guard_with : (limit : World → Option LimitKind) (h : World → World) → ((w : World) → Later u w.shared → Sound g w → limit w ≡ None → Moves h w) → (go : State → Result) (s : State) → At g u s → (At g u (with_world (h s.world) s) → Holds g f u (go (with_world (h s.world) s))) → Holds g f u (guarded limit h go s)
    guard_with limit h moves go s at k = one (limit s.world) refl
      where
        one : (o : Option LimitKind) → limit s.world ≡ o → Holds g f u (unless_limit o (changed h go) s)
        one (Some x) e = stopped_here u s at
        one None e = k (at_moved u h s at (moves s.world at.later at.sound e))

    pub guard_goes : (limit : World → Option LimitKind) (h : World → World) → ((w : World) → Later u w.shared → Sound g w → limit w ≡ None → Moves h w) → (go : State → Result) → Goes g f u go → Goes g f u (guarded limit h go)
    guard_goes limit h moves go k s at = guard_with limit h moves go s at (λ at1. k (with_world (h s.world) s) at1)

    -- a change that may meet a limit, from here
    pub guard_here : (o : Option LimitKind) (h : World → World) (go : State → Result) (s : State) → Stopped g u s → (o ≡ None → Holds g f u (go (with_world (h s.world) s))) → Holds g f u (unless_limit o (changed h go) s)
    guard_here (Some k) h go s at held = at
    guard_here None h go s at held = held refl

    pub tick_goes : (go : State → Result) → Goes g f u go → Goes g f u (tick go)
    tick_goes go k = guard_goes may_count counted (λ w l sound none. moves_aside counted w sound refl refl refl refl refl refl refl refl (omega arith)) go k

    pub choose_goes : (b : Bool) (x y : State → Result) → Goes g f u x → Goes g f u y → Goes g f u (choose b x y)
    choose_goes true x y h k s at = h s at
    choose_goes false x y h k s at = k s at

    pub decide_goes : (v : Value) (x y : State → Result) → Goes g f u x → Goes g f u y → Goes g f u (deciding v x y)
    decide_goes v x y h k s at = choose_goes (truth (cells s.world) v) x y h k s at

    -- a value, by what comes next
    abbrev pub GoesWith : (Value → State → Result) → Type 0
    GoesWith go = (v : Value) (s : State) → At g u s → There s.world.shared.cells v → Holds g f u (go v s)

    pub end_goes : is_declaration f ≡ false → GoesWith ended
    end_goes plain v s at there = (at, (there, plain))

    pub null_goes : is_declaration f ≡ false → Goes g f u (ended Null)
    null_goes plain s at = (at, (tt, plain))

    pub value_goes : (go : Value → State → Result) → GoesWith go → (e : Ending) (s : State) → At g u s → EndFits form.Block s.world.shared e → Holds g f u (on_value go e s)
    value_goes go k (Normal v) s at h = k v s at h.0
    value_goes go k (Thrown c) s at h = (at, h)
    value_goes go k (Returned v) s at h = (at, h)
    value_goes go k Broke s at h = (at, tt)
    value_goes go k Continued s at h = (at, tt)
    value_goes go k (Declared b) s at h = absurd h.0
    value_goes go k (Answered x) s at h = absurd h

    -- an operation on values, whose answer is of a sort; it leaves binding variables
    pub answer_with : (sort : List Cell → Value → Type 0) (x : Answer) (s : State) → At g u s → (given : Type 0) → given → AnswerGrows (limits s.world) (closure_rule g.script) (cells s.world) given sort x → (go : Value → State → Result)
        → ((v : Value) (t : State) → At g u t → Later s.world.shared t.world.shared → t.world.shared.binding ≡ s.world.shared.binding → sort t.world.shared.cells v → Holds g f u (go v t)) → Holds g f u (answered x go s)
    answer_with sort (Gives h v) s at given is grown go k =
        let fit : CellsFit (closure_rule g.script) h × sort h v = grown.fits is in
        let m : Moves (put_cells h) s.world = moves_cells s.world at.sound given (sort h v) h grown fit.0 in
        k v (with_world (put_cells h s.world) s) (at_moved u (put_cells h) s at m) m.later refl fit.1
    answer_with sort (Throws h c) s at given is grown go k =
        let fit : CellsFit (closure_rule g.script) h × HasThrowable (slice_get h c) = grown.fits is in
        (at_moved u (put_cells h) s at (moves_cells s.world at.sound given (HasThrowable (slice_get h c)) h grown fit.0), fit.1)
    answer_with sort (Meets m) s at given is grown go k = stopped_here u s at

    pub answer_goes : (sort : List Cell → Value → Type 0) (x : Answer) (s : State) → At g u s → (given : Type 0) → given → AnswerGrows (limits s.world) (closure_rule g.script) (cells s.world) given sort x → (go : Value → State → Result)
        → ((v : Value) (t : State) → At g u t → Later s.world.shared t.world.shared → sort t.world.shared.cells v → Holds g f u (go v t)) → Holds g f u (answered x go s)
    answer_goes sort x s at given is grown go k = answer_with sort x s at given is grown go (λ v t at1 later same there. k v t at1 later there)

  -- a part under a frame
  pub through_inside : (f f' : NodeForm) (u : Common) (x : Frame) → HasGone (holds_executor x.kind) g.around.gone → Sits g.script u x → (go : Ending → State → Result) → ((e : Ending) (s : State) → At (inside x.kind g) u s → EndFits f' s.world.shared e → Holds g f u (go e s)) → (r : Result) → Holds (inside x.kind g) f' u r → Holds g f u (through x go r)
  unfolding through
  through_inside f f' u x some sits go k (Ended e s) h = k e s h.0 h.1
  through_inside f f' u x some sits go k (Waits asked path s) h = (record { later = (h.0).later; sound = (h.0).sound; alone = (h.0).alone; pausing = pausing_more g.around x path s.world some (h.0).pausing; spent = (h.0).spent }, h.1, (sits_then u s.world.shared (h.0).later g.script x sits, h.2))
  through_inside f f' u x some sits go k (Limited l s) h = record { later = h.later; sound = h.sound }
  through_inside f f' u x some sits go k Unfinished h = tt

  -- under a frame that is that of no body which opens something
  pub through_goes : (f f' : NodeForm) (u : Common) (x : Frame) → holds_folder x.kind ≡ false → Sits g.script u x → (go : Ending → State → Result) → ((e : Ending) (s : State) → At g u s → EndFits f' s.world.shared e → Holds g f u (go e s)) → (r : Result) → Holds g f' u r → Holds g f u (through x go r)
  through_goes f f' u x none sits go k r h =
      let bare : holds_executor x.kind ≡ false = no_executor x.kind none in
      let same : open_in x.kind g.around ≡ g.around = opens_nothing x.kind g.around bare none in
      through_inside f f' u x (subst (λ b. HasGone b g.around.gone) (sym bare) tt) sits go (λ e s at. k e s (subst (λ o. At (within o g) u s) same at)) r (subst (λ o. Holds (within o g) f' u r) (sym same) h)

  -- a wait under a frame, where so many flow nodes have been made since u
  pub wait_goes : (f : NodeForm) (u v : Common) → Later u v → (x : Frame) → holds_folder x.kind ≡ false → Sits g.script v x → (go : Ending → State → Result) (asked : Asked) (s : State) → At g v s → left g s.world.shared + branching asked ≤ left g u → AskedFits g.script s.world.shared asked → Holds g f u (through x go (awaiting asked s))
  unfolding through
  wait_goes f u v later x none sits go asked s at spent fits =
      let bare : holds_executor x.kind ≡ false = no_executor x.kind none in
      subst (λ rs. Holds g f u (through x go (reply_to asked s rs))) (sym at.alone) (
        record {
          later = later_then u v s.world.shared later at.later;
          sound = at.sound;
          alone = at.alone;
          pausing = pausing_more g.around x [] s.world (subst (λ b. HasGone b g.around.gone) (sym bare) tt) (subst (λ o. Pausing o [] s.world) (sym (opens_nothing x.kind g.around bare none)) (pausing_here g.around s.world at.same));
          spent = spent;
        },
        fits,
        (sits_then v s.world.shared at.later g.script x sits, tt),
      )
