-- `for (x in value)`: its turns.
use Rattle.std.proofs.Common.{◌≡◌, ◌∙◌, ◌<◌, ◌≤◌, ◌^◌, ℕ, suc, true, false, List, [], ◌∷◌, ℤ, pos, negsuc, Some, length, nat_abs, of_z, to_z, w32, refl, sym, ap, subst, arith}
use Rattle.std.specs.Prelude.{Result as Outcome, Ok, Err, slice_get}
use Rattle.std.proofs.lemmas.Int.{to_z_pos}
use Rattle.std.proofs.lemmas.Option.{get_or_from_slice_get}
use Rattle.model_values.specs.Cells.{new_cell}
use Rattle.model_values.specs.Fitting.{There}
use Rattle.model_values.specs.Walks.{Turn as Element, Turns, Past, Stops, loop_turn}
use Rattle.model_values.specs.declared.cell.Cell.{Cell}
use Rattle.model_values.specs.declared.cell.Cell.TheVariants.{Variable}
use Rattle.model_values.specs.declared.value.Value.{Value}
use Rattle.model_values.specs.declared.value.Value.TheVariants.{Null, Bool as Truth, Int as Whole, Cell as InCell}
use Rattle.model_run.specs.Around.{Around, Shape, cells, frame, limits, position, under, value_at, whole}
use Rattle.model_run.specs.Fitting.{known}
use Rattle.model_run.specs.Forms.{after}
use Rattle.model_run.specs.FrameTable.{Any, Up_to, No_more, Row}
use Rattle.model_run.specs.Names.{bind}
use Rattle.model_run.specs.Nesting.{ValuesFit}
use Rattle.model_run.specs.State.{Common, Ended, Env, State, Result, put_cells, tick}
use Rattle.model_run.specs.Statements.{each_body, each_element, each_from, each_next, each_turn, on_turn}
use Rattle.model_run.specs.declared.ending.Entry.TheVariants.{First}
use Rattle.model_run.specs.declared.frame.FrameKind.TheVariants as kind
use Rattle.run_laws.proofs.Sizes.{TurnLow}
use Rattle.cps_statements.specs.Turns.{IsPosition}
use Rattle.value_view.specs.declared.refusal.OpRefusal.{OpRefusal}
use Rattle.value_walks.specs.Turns.{has_turn}
use Rattle.cps_frames.specs.Changes.{Done}
use Rattle.cps_frames.specs.Halts.{halt_of}
use Rattle.cps_frames.specs.Moves.{ComesTo}
use Rattle.cps_frames.specs.Order.{rank}
use Rattle.cps_frames.specs.Places.{MayGoOn}
use Rattle.model_run.specs.declared.ending.Ending.{Ending}
use Rattle.model_run.specs.declared.frame.Frame.{Frame}
use Rattle.cps_variables.proofs.NodeLaws.{row_is}
use Rattle.cps_frames.specs.Standing.{Beside, Standing, room_of, state}
use Rattle.cps_frames.specs.declared.halt.Halt.{Halt}
use Rattle.cps_frames.specs.declared.thread.Move.{Move}
use Rattle.cps_frames.specs.declared.thread.Move.TheVariants.{Ends}
use Rattle.cps_frames.proofs.MoveLaws.{comes_ends, to_after, to_as}
use Rattle.cell_heap.proofs.FollowsLemmas.{Follows-refl}
use Rattle.model_run.specs.declared.ending.Ending.TheVariants.{Normal}
use Rattle.cps_variables.proofs.VariableLaws.{to_new, to_not_new}

-- there is a turn, or none
next_turns : (a : Around) (env : Env) (on : Value) (i : ℕ) (t : Element) (s : State) → has_turn t ≡ true → each_next a env on i t s ≡ tick (a.again i (on ∷ []) env) s
next_turns a env on i Past s h = absurd (cc h)
next_turns a env on i (Turns cs args element) s h = refl
next_turns a env on i (Stops k) s h = refl

pub to_turn : (k r i : ℕ) (on : Value) (env : Env) (kept : List Value) (u : Standing) (result : Outcome Move Halt) (v : Standing) → has_turn (loop_turn (limits u.world) (cells u.world) on i) ≡ true → kept ≡ on ∷ [] → ComesTo k r (λ sh a. tick (a.again i kept env)) u result v → ComesTo k r (λ sh a. each_from a env on i) u result v
to_turn k r i on env kept u result v h is =
    to_as k r (λ sh a. each_from a env on i) (λ sh a. tick (a.again i kept env)) u result v
    (λ a rs. next_turns a env on i (loop_turn (limits u.world) (cells u.world) on i) (state u.world rs) h ∙ ap (λ vs. tick (a.again i vs env) (state u.world rs)) (sym is))

no_turn_next : (a : Around) (env : Env) (on : Value) (i : ℕ) (t : Element) (s : State) → has_turn t ≡ false → each_next a env on i t s ≡ Ended (Normal Null) s
no_turn_next a env on i Past s h = refl
no_turn_next a env on i (Turns cs args element) s h = absurd (cc h)
no_turn_next a env on i (Stops k) s h = absurd (cc h)

pub to_no_turn : (k r i : ℕ) (on : Value) (env : Env) (u : Standing) → has_turn (loop_turn (limits u.world) (cells u.world) on i) ≡ false → 0 < r → ComesTo k r (λ sh a. each_from a env on i) u (Ok (Ends (Normal Null))) u
to_no_turn k r i on env u h lt =
    comes_ends k r (λ sh a. each_from a env on i) u u (Normal Null) refl (record { parent = refl; heap = Follows-refl u.heap }) refl (omega arith) lt
    (λ a rs. no_turn_next a env on i (loop_turn (limits u.world) (cells u.world) on i) (state u.world rs) h)

-- its block, with a new variable
abbrev block : ℕ → List ℕ → Env → Value → ℕ → ℕ → Shape → Around → State → Result
block k x env on i c sh a = under a (frame kind.EachBody k 0 env (on ∷ whole i ∷ [])) (on_turn (each_from a env on (suc i))) First 1 (bind x c env)

pub to_body : (k : ℕ) (x : List ℕ) (env inner : Env) (on : Value) (i : ℕ) (element : Value) (c : ℕ) (vs : List Value) (u u' : Standing) (result : Outcome Move Halt) (v : Standing) → Done (λ w. new_cell (limits w) (cells w) (Variable element)) u (Ok (InCell c)) u' → inner ≡ bind x c env → vs ≡ on ∷ whole i ∷ []
    → ((r : ℕ) → rank (frame kind.EachBody k 0 env vs) < r → ComesTo k r (λ sh a. under a (frame kind.EachBody k 0 env vs) (after (frame kind.EachBody k 0 env vs) sh a) First 1 inner) u' result v)
    → (r : ℕ) → 1 < r → ComesTo k r (λ sh a. each_body a k x env on i element) u result v
to_body k x env inner on i element c vs u u' result v made inner_is vs_is h r lt =
    let P : List Value → Env → Type 0 = λ ws n. ComesTo k r (λ sh a. under a (frame kind.EachBody k 0 env ws) (after (frame kind.EachBody k 0 env ws) sh a) First 1 n) u' result v in
    to_new k r element (block k x env on i) c u u' result v made (subst (P (on ∷ whole i ∷ [])) inner_is (subst (λ ws. P ws inner) vs_is (h r lt)))

pub to_no_body : (k r : ℕ) (x : List ℕ) (env : Env) (on : Value) (i : ℕ) (element : Value) (o : OpRefusal) (u v : Standing) → Done (λ w. new_cell (limits w) (cells w) (Variable element)) u (Err o) v → 0 < r → ComesTo k r (λ sh a. each_body a k x env on i element) u (Err (halt_of o)) v
to_no_body k r x env on i element o u v made lt = to_not_new k r element (block k x env on i) o u v made lt

-- the element of a turn, which has made the cells that it needs
pub to_element : (k r i : ℕ) (x : List ℕ) (env : Env) (kept : List Value) (on element : Value) (cs : List Cell) (args those : List Value) (u u' : Standing) (result : Outcome Move Halt) (v : Standing) → on ≡ value_at 0 kept → loop_turn (limits u.world) (cells u.world) on i ≡ Turns cs args those → slice_get args 0 ≡ Some element → u'.world ≡ put_cells cs u.world → u'.stack ≡ u.stack → Beside u u'
    → ComesTo k r (λ sh a. each_body a k x env on i element) u' result v → ComesTo k r (λ sh a. each_turn a k x env i kept) u result v
to_element k r i x env kept on element cs args those u u' result v on_is turns first made stack beside c =
    to_after k r (λ sh a. each_turn a k x env i kept) (λ sh a. each_body a k x env on i element) u u' result v
    (λ a rs.
    ap (λ y. each_element a k x env y i (loop_turn (limits u.world) (cells u.world) y i) (state u.world rs)) (sym on_is)
    ∙ ap (λ t. each_element a k x env on i t (state u.world rs)) turns
    ∙ ap (λ y. each_body a k x env on i y (state (put_cells cs u.world) rs)) (get_or_from_slice_get args 0 element Null first)
    ∙ ap (λ w. each_body a k x env on i element (state w rs)) (sym made))
    stack beside (ap (λ w. w.setting) made) (subst (λ w. room_of w ≤ room_of u.world) (sym made) (omega arith)) c

-- a turn has a small position
pub low : (i : ℕ) (t : Element) (cs : List Cell) (args those : List Value) → TurnLow i t → t ≡ Turns cs args those → i ≤ 2147483646
low i t cs args those h is = subst (TurnLow i) is h

-- what the frame of a turn keeps: what the loop goes over, and a position
pub kept_on : (u : Common) (vs : List Value) → ValuesFit (known u) No_more (Any ∷ Up_to 2147483646 ∷ []) vs → There u.cells (value_at 0 vs)
kept_on u [] fits = absurd fits
kept_on u (on ∷ []) fits = absurd fits.1
kept_on u (on ∷ at ∷ vs) fits = fits.0

position_of : (u : Common) (v : Value) → known u (Up_to 2147483646) v → IsPosition v
position_of u (Whole (pos m)) low = low
position_of u (Whole (negsuc m)) low = absurd low
position_of u Null low = absurd low
position_of u (Truth b) low = absurd low
position_of u (InCell c) low = absurd low

pub kept_position : (u : Common) (vs : List Value) → ValuesFit (known u) No_more (Any ∷ Up_to 2147483646 ∷ []) vs → IsPosition (value_at 1 vs)
kept_position u [] fits = absurd fits
kept_position u (on ∷ []) fits = absurd fits.1
kept_position u (on ∷ at ∷ vs) fits = position_of u at fits.1.0

pub kept_two : (u : Common) (vs : List Value) → ValuesFit (known u) No_more (Any ∷ Up_to 2147483646 ∷ []) vs → 1 < length vs
kept_two u [] fits = absurd fits
kept_two u (on ∷ []) fits = absurd fits.1
kept_two u (on ∷ at ∷ vs) fits = omega arith

pub not_position : (v : Value) → IsPosition v → ((z : ℤ) → v ≡ Whole z → ⊥) → ⊥
not_position (Whole (pos m)) is differs = differs (pos m) refl
not_position v is differs = absurd is

-- as a number of the program
pub cast_position : (v : Value) (z : ℤ) → IsPosition v → v ≡ Whole z → (nat_abs (to_z w32 (of_z w32 z)) ≡ position v) × (nat_abs (to_z w32 (of_z w32 z)) ≤ 2147483646)
cast_position (Whole (pos m)) z is e =
    let same : z ≡ pos m = cc e in
    let small : m < 2 ^ 31 = omega (arith, is) in
    let back : nat_abs (to_z w32 (of_z w32 z)) ≡ m = ap (λ y. nat_abs (to_z w32 (of_z w32 y))) same ∙ ap nat_abs (to_z_pos w32 m small) in
    (back, omega (arith, is, back))
cast_position v z is e = absurd is

-- the row of the frame of a turn
pub each_values : (u : Standing) (f : Frame) (e : Ending) → MayGoOn u f e → f.kind ≡ kind.EachBody → ValuesFit (known u.world.shared) No_more (Any ∷ Up_to 2147483646 ∷ []) f.values
each_values u f e may is = subst (λ (r : Row). ValuesFit (known u.world.shared) r.further r.values f.values) (row_is u f kind.EachBody is) may.frame.fits.meets.values
