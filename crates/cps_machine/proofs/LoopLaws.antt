-- The moves of the loop, one behind the other, and how it stops.
use Rattle.std.proofs.Common.{◌≡◌, ◌∙◌, ℕ, suc, ◌+◌, ◌-◌, ◌≤◌, ◌<◌, ◌^◌, length, arith, true, List, [], ◌∷◌, ◌++◌, Option, Some, refl, ap, subst, sym, inl, inr}
use Rattle.std.specs.Prelude.{IfSome}
use Rattle.model_values.specs.declared.limit.LimitKind.{LimitKind}
use Rattle.model_run.specs.declared.context.Context.{Context}
use Rattle.model_run.specs.declared.ending.Asked.{Asked}
use Rattle.model_run.specs.declared.ending.Ending.{Ending}
use Rattle.model_run.specs.declared.ending.Ending.TheVariants.{Answered}
use Rattle.model_run.specs.declared.ending.Entry.{Entry}
use Rattle.model_run.specs.declared.ending.Entry.TheVariants.{Body, Branched, First, Inside, On, Turn}
use Rattle.model_run.specs.declared.frame.FrameKind.TheVariants as kind
use Rattle.model_run.specs.declared.frame.Frame.{Frame}
use Rattle.model_run.specs.Forms.{after, enter}
use Rattle.model_run.specs.Fitting.{known}
use Rattle.model_run.specs.FrameTable.{is_closure_form}
use Rattle.model_run.specs.Nesting.{Any_branch, Enters, MeetsRow, Spot, any_branch, anything, innermost, shape_at, spot_in}
use Rattle.model_run.specs.Since.{Follows}
use Rattle.model_run.specs.State.{Common, Env, Setting, World}
use Rattle.model_run.specs.Terms.{Term, nodes_of}
use Rattle.model_run.proofs.Front.{front_length}
use Rattle.model_run.proofs.LaterLaws.{frame_wider}
use Rattle.model_run.proofs.SinceLaws.{follows_itself, follows_on}
use Rattle.cps_code.specs.Script.{IsScript}
use Rattle.cps_frames.specs.Measure.{weight}
use Rattle.cps_frames.specs.Order.{rank}
use Rattle.cps_frames.specs.Standing.{Standing}
use Rattle.cps_frames.specs.Moves.{Comes}
use Rattle.cps_frames.specs.Places.{EndsAt, EntersBy, EntersWith, FrameStands, Holding, MayEnter, MayGoOn, Poised}
use Rattle.cps_frames.specs.Runs.{Onward}
use Rattle.cps_frames.specs.declared.thread.Move.{Move}
use Rattle.cps_frames.specs.declared.thread.Move.TheVariants.{Ends, Hits, Enter, Asks}
use Rattle.cps_frames.proofs.Kept.{GoesOn, branched}
use Rattle.cps_frames.proofs.Poise.{Taken, ends_hold, ends_keep, ends_spend, enters_hold, enters_keep, enters_spend, may_enter, may_go_on, taken_off}
use Rattle.cps_frames.proofs.MoveLaws.{beside_same}
use Rattle.cps_frames.proofs.Runs.{onward_ends, onward_enters, onward_here, onward_on}
use Rattle.cps_frames.proofs.Weights.{ends_lower, enters_lower}
use Rattle.cps_calls.specs.Turns.{GoesOn as GoesOnBy, TurnsOn}
use Rattle.run_laws.specs.Soundness.{SoundWorld}
use Rattle.run_laws.proofs.Evaluation.{ScriptFacts}
use Rattle.script_thread.specs.Marks.{StaysBelow}
use Rattle.script_thread.proofs.Stays.{stays_front, stays_further, stays_pushed}
use Rattle.cps_machine.specs.Stops.{Begins, IsEnd, Leaves, MayRun, Stops, made_for, nodes_left}
use Rattle.cps_machine.specs.Turns.{HasPart, WaitsSo}
use Rattle.cps_machine.specs.declared.machine.Stopped.TheVariants as stopped
use Rattle.thread_fits.proofs.Facts.{facts_of}
use Rattle.cps_machine.proofs.LimitLaws.{ends_limited, enters_limited}
use Rattle.cps_machine.proofs.TurnLaws.{Left, entry_ends, entry_leaves, frame_ends, frame_leaves}

-- a thread that was poised is poised again, where the build goes on
abbrev pub Keeps : Standing → Move → Standing → Move → Type 0
Keeps u first v m = (above : Context) (at : Spot) → Poised u.world.setting above at u first → GoesOn m → Poised u.world.setting above at v m

-- the same thread with other frames
abbrev pub with_stack : List Frame → Standing → Standing
with_stack fs u = record { world = u.world; stack = fs; parent = u.parent; heap = u.heap }

-- before the first move nothing is left behind
waits_here : (u : Standing) (m : Move) → Begins m → (at : Spot) → WaitsSo at u.world.shared.requests u m
waits_here u (Ends e) b at = refl
waits_here u (Hits k) b at = absurd b
waits_here u (Enter e p env) b at = refl
waits_here u (Asks asked) b at = absurd b

nothing_made : (m : Move) → Begins m → made_for m ≡ 0
nothing_made (Ends e) b = refl
nothing_made (Hits k) b = absurd b
nothing_made (Enter e p env) b = refl
nothing_made (Asks asked) b = absurd b

part_here : (root : Term) (m : Move) → Begins m → HasPart root m
part_here root (Ends e) b = tt
part_here root (Hits k) b = absurd b
part_here root (Enter (Inside j) p env) b = absurd b
part_here root (Enter First p env) b = tt
part_here root (Enter (On v) p env) b = tt
part_here root (Enter (Turn i kept) p env) b = tt
part_here root (Enter (Body args) p env) b = tt
part_here root (Enter (Branched start) p env) b = tt
part_here root (Asks asked) b = absurd b

leaves_here : (u : Standing) (first : Move) → Begins first → Leaves u u first
leaves_here u first b = record {
  follows = follows_itself u.world.shared;
  number = refl;
  waits = λ at. waits_here u first b (innermost u.world.setting.script at u.stack);
  spent = omega (arith, nothing_made first b);
  inside = part_here u.world.setting.script first b;
}

innermost_append : (root : Term) (at : Spot) (fs gs : List Frame) → innermost root at (fs ++ gs) ≡ innermost root (innermost root at fs) gs
innermost_append root at [] gs = refl
innermost_append root at (f ∷ fs) gs = innermost_append root (spot_in root f) fs gs

-- and one move behind the others
leaves_on : (u v : Standing) (m : Move) (fs : List Frame) (w : Standing) (m' : Move) → Leaves u v m → v.world.setting ≡ u.world.setting → (gs : List Frame) → w.stack ≡ fs ++ gs → (script : IsScript v.world.setting.script) → Left v.world.setting.script script v.world.setting v.world.shared v.world.own.number gs m' w → nodes_left w.world + made_for m' ≤ nodes_left v.world → v.world.shared.requests ≡ u.world.shared.requests → Leaves u w m'
leaves_on u v m fs w m' l is gs pushed script left made same = record {
  inside = subst (λ (s : Setting). HasPart s.script m') is left.inside;
  follows = follows_on u.world.shared v.world.shared w.world.shared l.follows left.follows;
  number = left.number ∙ l.number;
  spent = (let before : nodes_left v.world + made_for m ≤ nodes_left u.world = l.spent in omega (arith, before, made));
  waits = λ at.
      let here : WaitsSo (innermost v.world.setting.script (innermost v.world.setting.script at fs) gs) v.world.shared.requests w m' = left.asked (innermost v.world.setting.script at fs) in
      subst (λ rs. WaitsSo (innermost u.world.setting.script at w.stack) rs w m') same
      (subst (λ s. WaitsSo (innermost s.script at w.stack) v.world.shared.requests w m') is
      (subst (λ x. WaitsSo x v.world.shared.requests w m') (sym (ap (innermost v.world.setting.script at) pushed ∙ innermost_append v.world.setting.script at fs gs)) here));
}

left_is : (g : Setting) (w : World) → w.setting ≡ g → nodes_left w ≡ g.limits.flow_nodes - length w.shared.nodes
left_is g w is = ap (λ (s : Setting). s.limits.flow_nodes - length w.shared.nodes) is

left_later : (w w' : World) → w'.setting ≡ w.setting → Follows w.shared w'.shared → nodes_left w' ≤ nodes_left w
left_later w w' is h = let more : length w.shared.nodes ≤ length w'.shared.nodes = front_length w.shared.nodes w'.shared.nodes (h.later).nodes in omega (arith, left_is w.setting w' is, more)

-- what a move has made, by what the laws of evaluation say of it where the build goes on
made_by : (m : Move) (a b : ℕ) → a ≤ b → (GoesOn m → a + branched m ≤ b) → a + made_for m ≤ b
made_by (Ends e) a b l h = h tt
made_by (Hits k) a b l h = omega (arith, l)
made_by (Enter e p env) a b l h = h tt
made_by (Asks asked) a b l h = h tt

-- no frames are left
none_left : (xs fs gs : List Frame) → xs ≡ fs ++ gs → xs ≡ [] → (fs ≡ []) × (gs ≡ [])
none_left xs [] gs e none = (refl, sym e ∙ none)
none_left xs (f ∷ fs) gs e none = let x : f ∷ (fs ++ gs) ≡ [] = sym e ∙ none in absurd (cc x)

branch_kind : (root : Term) (f : Frame) → Enters root f Any_branch → f.kind ≡ kind.BranchBody
branch_kind root f (any_branch is) = is

meets_anything : (root : Term) (u : Common) (f : Frame) → FrameStands root u f → MeetsRow anything (shape_at root f.node) f
meets_anything root u f h = (frame_wider (known u) anything (λ s v k. tt) root f h.fits).meets

-- a limit was met
abbrev pub IsHit : Move → Type 0
IsHit (Hits k) = Unit {0}
IsHit m = ⊥

-- From where it began, the loop has come to this thread and this next move.
pub record Reached (u : Standing) (first : Move) (v : Standing) (m : Move) : Type 0 where
  pub on : Onward u.world.setting.script u first v m
  pub keeps : Keeps u first v m
  pub holds : GoesOn m → Holding v.world m
  pub halts : (above : Context) (at : Spot) → Poised u.world.setting above at u first → IsHit m → SoundWorld u.world.setting v.world
  pub leaves : Leaves u v m
  pub ends : (above : Context) → Poised u.world.setting above Any_branch u first → IsEnd v m → suc (nodes_left v.world) ≤ nodes_left u.world

no_end_here : (g : Setting) (above : Context) (u : Standing) (m : Move) → Begins m → Poised g above Any_branch u m → IsEnd u m → ⊥
no_end_here g above u (Ends (Answered x)) b poised none = subst (λ fs. EndsAt g.script u.world.shared (innermost g.script Any_branch fs) (Answered x)) none poised.move
no_end_here g above u (Ends e) b poised none = absurd b
no_end_here g above u (Hits k) b poised none = none
no_end_here g above u (Enter e p env) b poised none = none
no_end_here g above u (Asks asked) b poised none = none

no_hit_here : (m : Move) → Begins m → IsHit m → ⊥
no_hit_here (Ends e) b hit = hit
no_hit_here (Hits k) b hit = b
no_hit_here (Enter e p env) b hit = hit
no_hit_here (Asks asked) b hit = hit

pub reached_here : (u : Standing) (first : Move) → MayRun u first → Reached u first u first
reached_here u first may = record { on = onward_here u.world.setting.script u first; keeps = λ above at poised on. poised; holds = λ on. may.holds; halts = λ above at poised hit. absurd (no_hit_here first may.begins hit); leaves = leaves_here u first may.begins; ends = λ above poised none. absurd (no_end_here u.world.setting above u first may.begins poised none) }

-- how the loop stops
pub stops_ended : (u : Standing) (first : Move) (v : Standing) (fs : List Frame) (e : Ending) → Reached u first v (Ends e) → v.stack ≡ [] → fs ≡ [] → Stops u first (stopped.Ended e) (with_stack fs v)
stops_ended u first v fs e h none none' =
    let same : v.stack ≡ fs = none ∙ sym none' in
    record {
      onward = subst (λ s. Onward u.world.setting.script u first (with_stack s v) (Ends e)) same h.on;
      over = none';
      leaves = record { follows = (h.leaves).follows; number = (h.leaves).number; waits = λ at. (h.leaves).waits at; spent = (h.leaves).spent; inside = tt };
      branch_ends = λ above poised end. h.ends above poised none;
      stands = λ above at poised.
          subst (λ s. Poised v.world.setting above at (with_stack s v) (Ends e)) same
          (subst (λ s. Poised s above at v (Ends e)) (sym (h.on).setting) (h.keeps above at poised tt));
    }

pub stops_limit : (u : Standing) (first : Move) (v : Standing) (k : LimitKind) → Reached u first v (Hits k) → Stops u first (stopped.Limit k) v
stops_limit u first v k h = record { onward = h.on; over = tt; leaves = h.leaves; branch_ends = λ above poised end. absurd end; stands = λ above at poised. subst (λ s. SoundWorld s v.world) (sym (h.on).setting) (h.halts above at poised tt) }

pub stops_waits : (u : Standing) (first : Move) (v : Standing) (asked : Asked) → Reached u first v (Asks asked) → Stops u first (stopped.Waits asked) v
stops_waits u first v asked h = record { onward = h.on; over = tt; leaves = h.leaves; branch_ends = λ above poised end. absurd end; stands = λ above at poised. subst (λ s. Poised s above at v (Asks asked)) (sym (h.on).setting) (h.keeps above at poised tt) }

module _ (u : Standing) (first : Move) (script : IsScript u.world.setting.script) (may : MayRun u first) where
  abbrev facts : ScriptFacts u.world.setting.script
  facts = facts_of u.world.setting.script script

  pub script_stays : (v : Standing) (m : Move) → Reached u first v m → IsScript v.world.setting.script
  script_stays v m h = subst (λ s. IsScript s.script) (sym (h.on).setting) script

  -- the innermost frame is taken off, and goes on
  module _ (v : Standing) (fs : List Frame) (f : Frame) (e : Ending) (h : Reached u first v (Ends e)) (at_top : v.stack ≡ fs ++ f ∷ []) where
    taken_in : (above : Context) (at : Spot) → Poised u.world.setting above at u first → Taken u.world.setting facts above at (with_stack fs v) f e
    taken_in above at poised = taken_off u.world.setting facts above at v (with_stack fs v) f e (h.keeps above at poised tt) refl at_top

    pub frame_may : MayGoOn (with_stack fs v) f e
    frame_may = may_go_on u.world.setting facts may.above may.at (with_stack fs v) f e (script_stays v (Ends e) h) (h.on).setting (taken_in may.above may.at may.poised) (h.holds tt) may.enough

    frame_over : (m : Move) (w : Standing) → Comes f.node (rank f) (λ sh a. after f sh a e) (with_stack fs v) m w → (above : Context) → Poised u.world.setting above Any_branch u first → IsEnd w m → suc (nodes_left w.world) ≤ nodes_left v.world
    frame_over (Ends e') w c above poised none =
        let empty = none_left w.stack fs c.frames c.pushed none in
        let enters : Enters u.world.setting.script f Any_branch = subst (λ xs. Enters u.world.setting.script f (innermost u.world.setting.script Any_branch xs)) empty.0 (taken_in above Any_branch poised).enters in
        frame_ends (rank f) (with_stack fs v) (script_stays v (Ends e) h) f e e' w (branch_kind u.world.setting.script f enters) c
    frame_over (Hits k) w c above poised none = absurd none
    frame_over (Enter x p env) w c above poised none = absurd none
    frame_over (Asks asked) w c above poised none = absurd none

    frame_hit : {above : Context} {at : Spot} (m : Move) (w : Standing) → Comes f.node (rank f) (λ sh a. after f sh a e) (with_stack fs v) m w → Taken u.world.setting facts above at (with_stack fs v) f e → IsHit m → SoundWorld u.world.setting w.world
    frame_hit {above} {at} (Hits k) w c taken hit = ends_limited u.world.setting facts above at (rank f) (with_stack fs v) f e k w taken c
    frame_hit (Ends e') w c taken hit = absurd hit
    frame_hit (Enter x p env) w c taken hit = absurd hit
    frame_hit (Asks asked) w c taken hit = absurd hit

    pub frame_reached : (m : Move) (w : Standing) → Comes f.node (rank f) (λ sh a. after f sh a e) (with_stack fs v) m w → Reached u first w m
    frame_reached m w c =
        let meets : MeetsRow anything (shape_at v.world.setting.script f.node) f =
        subst (λ s. MeetsRow anything (shape_at s.script f.node) f) (sym (h.on).setting) (meets_anything u.world.setting.script v.world.shared f (taken_in may.above may.at may.poised).frame) in
        let left : Left v.world.setting.script (script_stays v (Ends e) h) v.world.setting v.world.shared v.world.own.number c.frames m w = frame_leaves (rank f) (with_stack fs v) (script_stays v (Ends e) h) f e m w meets c in
        let made : nodes_left w.world + made_for m ≤ nodes_left v.world =
        made_by m (nodes_left w.world) (nodes_left v.world) (left_later v.world w.world c.setting left.follows)
        (λ on.
        let spend : (u.world.setting.limits.flow_nodes - length w.world.shared.nodes) + branched m ≤ u.world.setting.limits.flow_nodes - length v.world.shared.nodes =
        ends_spend u.world.setting facts may.above may.at (rank f) (with_stack fs v) f e m w (taken_in may.above may.at may.poised) on c in
        omega (arith, spend, left_is u.world.setting w.world (c.setting ∙ (h.on).setting), left_is u.world.setting v.world (h.on).setting)) in
        record {
          on = onward_on u.world.setting.script u first v (Ends e) w m h.on (onward_ends u.world.setting.script (rank f) v (with_stack fs v) f e m w (sym (ap (λ s. s.script) (h.on).setting)) refl at_top (beside_same v (with_stack fs v) refl refl) c);
          keeps = λ above at poised goes. ends_keep u.world.setting facts above at (rank f) (with_stack fs v) f e m w (taken_in above at poised) goes c;
          holds = λ goes. ends_hold u.world.setting facts may.above may.at (rank f) (with_stack fs v) f e m w (taken_in may.above may.at may.poised) (h.holds tt) goes c;
          halts = λ above at poised hit. frame_hit m w c (taken_in above at poised) hit;
          leaves = leaves_on u v (Ends e) fs w m h.leaves (h.on).setting c.frames c.pushed (script_stays v (Ends e) h) left made ((h.leaves).waits Any_branch);
          ends = λ above poised none.
              let now : suc (nodes_left w.world) ≤ nodes_left v.world = frame_over m w c above poised none in
              let before : nodes_left v.world + 0 ≤ nodes_left u.world = (h.leaves).spent in
              omega (arith, now, before);
        }

    pub frame_lower : (m : Move) (w : Standing) → Comes f.node (rank f) (λ sh a. after f sh a e) (with_stack fs v) m w → weight u.world.setting.script w m < weight u.world.setting.script v (Ends e)
    frame_lower m w c = ends_lower u.world.setting.script (λ sh a. after f sh a e) v (with_stack fs v) f e m w (sym (ap (λ s. s.script) (h.on).setting)) refl at_top c

  -- a node is entered
  module _ (v : Standing) (e : Entry) (k : ℕ) (env : Env) (h : Reached u first v (Enter e k env)) where
    node_there : k < length (nodes_of u.world.setting.script)
    node_there = ((h.keeps may.above may.at may.poised tt).move).1

    pub entry_may : MayEnter v e k env
    entry_may = may_enter u.world.setting facts may.above may.at v e k env (script_stays v (Enter e k env) h) (h.on).setting (h.keeps may.above may.at may.poised tt) (h.holds tt) may.enough

    pub entry_inside : HasPart v.world.setting.script (Enter e k env)
    entry_inside = subst (λ (s : Setting). HasPart s.script (Enter e k env)) (sym (h.on).setting) (h.leaves).inside

    entry_made : (m : Move) (w : Standing) → Comes k (2 ^ 66) (λ sh a. enter e a k sh env) v m w → nodes_left w.world + made_for m ≤ nodes_left v.world
    entry_made m w c =
        made_by m (nodes_left w.world) (nodes_left v.world) (left_later v.world w.world c.setting (entry_leaves (2 ^ 66) v (script_stays v (Enter e k env) h) e k env m w c).follows)
        (λ on.
        let spend : (u.world.setting.limits.flow_nodes - length w.world.shared.nodes) + branched m ≤ u.world.setting.limits.flow_nodes - length v.world.shared.nodes =
        enters_spend u.world.setting facts may.above may.at (2 ^ 66) v e k env m w (h.keeps may.above may.at may.poised tt) on c in
        omega (arith, spend, left_is u.world.setting w.world (c.setting ∙ (h.on).setting), left_is u.world.setting v.world (h.on).setting))

    entry_over : (m : Move) (w : Standing) → Comes k (2 ^ 66) (λ sh a. enter e a k sh env) v m w → (above : Context) → Poised u.world.setting above Any_branch u first → IsEnd w m → suc (nodes_left w.world) ≤ nodes_left v.world
    entry_over (Ends e') w c above poised none =
        let empty = none_left w.stack v.stack c.frames c.pushed none in
        let here : Poised u.world.setting above Any_branch v (Enter e k env) = h.keeps above Any_branch poised tt in
        let by : EntersBy u.world.setting.script Any_branch e k = subst (λ xs. EntersBy u.world.setting.script (innermost u.world.setting.script Any_branch xs) e k) empty.0 (here.move).0 in
        begun_over e e' w by (here.move).2 c
      where
        begun_over : (e : Entry) (e' : Ending) (w : Standing) → EntersBy u.world.setting.script Any_branch e k → EntersWith u.world.setting.script v.world.shared e k env → Comes k (2 ^ 66) (λ sh a. enter e a k sh env) v (Ends e') w → suc (nodes_left w.world) ≤ nodes_left v.world
        begun_over (Branched start) e' w by fit c = entry_ends (2 ^ 66) v (script_stays v _ h) start k env e' w (subst (λ s. is_closure_form (shape_at s.script k).form ≡ true) (sym (h.on).setting) fit.0) c
        begun_over First e' w by fit c = absurd by
        begun_over (Inside j) e' w by fit c = absurd by
        begun_over (On x) e' w by fit c = absurd by
        begun_over (Turn i kept) e' w by fit c = absurd by
        begun_over (Body args) e' w by fit c = absurd by
    entry_over (Hits l) w c above poised none = absurd none
    entry_over (Enter x p env') w c above poised none = absurd none
    entry_over (Asks asked) w c above poised none = absurd none

    entry_hit : {above : Context} {at : Spot} (m : Move) (w : Standing) → Comes k (2 ^ 66) (λ sh a. enter e a k sh env) v m w → Poised u.world.setting above at v (Enter e k env) → IsHit m → SoundWorld u.world.setting w.world
    entry_hit {above} {at} (Hits l) w c poised hit = enters_limited u.world.setting facts above at (2 ^ 66) v e k env l w poised c
    entry_hit (Ends e') w c poised hit = absurd hit
    entry_hit (Enter x p env') w c poised hit = absurd hit
    entry_hit (Asks asked) w c poised hit = absurd hit

    pub entry_reached : (m : Move) (w : Standing) → Comes k (2 ^ 66) (λ sh a. enter e a k sh env) v m w → Reached u first w m
    entry_reached m w c = record {
      on = onward_on u.world.setting.script u first v (Enter e k env) w m h.on (onward_enters u.world.setting.script (2 ^ 66) v e k env m w (sym (ap (λ s. s.script) (h.on).setting)) (facts.numbers k node_there) c);
      keeps = λ above at poised goes. enters_keep u.world.setting facts above at (2 ^ 66) v e k env m w (h.keeps above at poised tt) goes c;
      holds = λ goes. enters_hold u.world.setting facts may.above may.at (2 ^ 66) v e k env m w (h.keeps may.above may.at may.poised tt) (h.holds tt) goes c;
      halts = λ above at poised hit. entry_hit m w c (h.keeps above at poised tt) hit;
      leaves = leaves_on u v (Enter e k env) v.stack w m h.leaves (h.on).setting c.frames c.pushed (script_stays v (Enter e k env) h) (entry_leaves (2 ^ 66) v (script_stays v (Enter e k env) h) e k env m w c) (entry_made m w c) ((h.leaves).waits Any_branch);
      ends = λ above poised none.
          let now : suc (nodes_left w.world) ≤ nodes_left v.world = entry_over m w c above poised none in
          let before : nodes_left v.world + 0 ≤ nodes_left u.world = (h.leaves).spent in
          omega (arith, now, before);
    }

    pub entry_lower : (m : Move) (w : Standing) → Comes k (2 ^ 66) (λ sh a. enter e a k sh env) v m w → weight u.world.setting.script w m < weight u.world.setting.script v (Enter e k env)
    entry_lower m w c = enters_lower u.world.setting.script k (λ sh a. enter e a k sh env) v e env m w (sym (ap (λ s. s.script) (h.on).setting)) node_there c

  -- a frame goes on by one move, or by two
  module _ (v : Standing) (fs : List Frame) (f : Frame) (e : Ending) (h : Reached u first v (Ends e)) (at_top : v.stack ≡ fs ++ f ∷ []) where
    at_again : (m : Move) (w : Standing) (t : TurnsOn f e (with_stack fs v) m w) → Reached u first (with_stack fs v) (Enter (Turn t.at t.kept) f.node f.env)
    at_again m w t = frame_reached v fs f e h at_top (Enter (Turn t.at t.kept) f.node f.env) (with_stack fs v) t.again

    pub gone_reached : (m : Move) (w : Standing) → GoesOnBy f e (with_stack fs v) m w → Reached u first w m
    gone_reached m w (inl c) = frame_reached v fs f e h at_top m w c
    gone_reached m w (inr t) = entry_reached (with_stack fs v) (Turn t.at t.kept) f.node f.env (at_again m w t) m w t.turn

    pub gone_lower : (m : Move) (w : Standing) → GoesOnBy f e (with_stack fs v) m w → weight u.world.setting.script w m < weight u.world.setting.script v (Ends e)
    gone_lower m w (inl c) = frame_lower v fs f e h at_top m w c
    gone_lower m w (inr t) =
        let one = frame_lower v fs f e h at_top (Enter (Turn t.at t.kept) f.node f.env) (with_stack fs v) t.again in
        let two = entry_lower (with_stack fs v) (Turn t.at t.kept) f.node f.env (at_again m w t) m w t.turn in
        omega (arith, one, two)

-- The frames of what goes on stand on those that were left, and so do those of what is entered.
pub gone_onto : (f : Frame) (e : Ending) (u : Standing) (m : Move) (w : Standing) → GoesOnBy f e u m w → (gs : List Frame) × (w.stack ≡ u.stack ++ gs)
gone_onto f e u m w (inl c) = (c.frames, c.pushed)
gone_onto f e u m w (inr t) = ((t.turn).frames, (t.turn).pushed)

-- The frames that count as untouched: where the innermost one was taken off, no more than are left.
pub stays_gone : (n : ℕ) (xs : List Frame) (l m : ℕ) (stack fs : List Frame) (f : Frame) (new : List Frame) → StaysBelow n xs l stack → stack ≡ fs ++ f ∷ [] → m ≤ l → m ≤ length fs → (gs : List Frame) × (new ≡ fs ++ gs) → StaysBelow n xs m new
stays_gone n xs l m stack fs f new h top fewer within onto =
    stays_further n xs m fs m new (stays_further n xs l stack m fs h (stays_front l m fs (f ∷ []) stack top fewer within)) (stays_pushed m fs onto.0 new onto.1 within)

-- the move that a result is
pub the_move : (P : Move → Type 0) (o : Option Move) (m : Move) → o ≡ Some m → IfSome o P → P m
the_move P o m is h = subst (λ x. IfSome x P) is h
