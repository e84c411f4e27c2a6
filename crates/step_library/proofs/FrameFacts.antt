-- What the frames of steps keep, by their rows.
use Rattle.std.proofs.Common.{◌≡◌, ℕ, ◌<◌, ◌≤◌, List, [], ◌∷◌, length, refl, subst, arith}
use Rattle.std.specs.Prelude.{pos}
use Rattle.std.specs.Prelude.{Option, Some, None, slice_get}
use Rattle.std.proofs.lemmas.Option.{slice_get_within}
use Rattle.cell_heap.specs.Soundness.{ValueBelow}
use Rattle.model_values.specs.Fitting.{HasClosure, HasText, IsIn}
use Rattle.model_values.specs.Kinds.{cell_kind, kind as kind_in}
use Rattle.model_values.specs.declared.cell.Cell.{Cell}
use Rattle.model_values.specs.declared.cell.Cell.TheVariants as cell
use Rattle.model_values.specs.declared.value.Value.{Value}
use Rattle.model_values.specs.declared.value.Value.TheVariants.{Null, Bool as Truth, Int as Whole, Cell as InCell}
use Rattle.model_run.specs.declared.frame.Frame.{Frame}
use Rattle.model_run.specs.declared.frame.FrameKind.{FrameKind}
use Rattle.model_run.specs.declared.frame.FrameKind.TheVariants as kind
use Rattle.model_run.specs.declared.ending.Ending.{Ending}
use Rattle.model_run.specs.declared.ending.Ending.TheVariants.{Normal, Thrown, Returned, Broke, Continued, Declared, Answered}
use Rattle.model_run.specs.declared.wait.Answer.TheVariants.{Begin, Granted, Done, Decided, Joined}
use Rattle.model_run.specs.Around.{Shape, position, value_at}
use Rattle.model_run.specs.FrameTable.{Sort, Further, Flag, Flow_node, A_closure, Text_or_null, Up_to, frame_row}
use Rattle.model_run.specs.Fitting.{IsFlowNode, known}
use Rattle.model_run.specs.Nesting.{Any_body, For_branches, For_executor, For_person, For_task, FrameFits, ValuesFit, shape_at, spot}
use Rattle.model_run.specs.State.{Common, Env}
use Rattle.model_run.specs.Terms.{Term}
use Rattle.model_syntax.specs.declared.node.NodeForm.TheVariants as form
use Rattle.run_laws.specs.Soundness.{EndFits}
use Rattle.step_library.specs.Kept.{IsMessage}
use Rattle.step_library.specs.Retries.{Throws}
use Rattle.cps_frames.specs.Places.{AnswersAt, EndsAt, MayGoOn}
use Rattle.cps_frames.specs.Standing.{Standing}
use Rattle.step_library.specs.Numbers.{IsNatural, IsTruth}
use Rattle.step_library.specs.Waits.{IsDecided, IsDone, IsGranted, IsJoined}

pub values_fit : (u : Common) (root : Term) (f : Frame) (d : FrameKind) → f.kind ≡ d → FrameFits (known u) root f → ValuesFit (known u) (frame_row d (shape_at root f.node) f.left f.env).further (frame_row d (shape_at root f.node) f.left f.env).values f.values
values_fit u root f d is fits = subst (λ k. ValuesFit (known u) (frame_row k (shape_at root f.node) f.left f.env).further (frame_row k (shape_at root f.node) f.left f.env).values f.values) is (fits.meets).values

node_natural : (u : Common) (v : Value) → known u Flow_node v → IsNatural v
node_natural u (Whole (pos n)) h = tt
node_natural u (Whole z) h = absurd h
node_natural u Null h = absurd h
node_natural u (Truth b) h = absurd h
node_natural u (InCell c) h = absurd h

bounded_natural : (u : Common) (n : ℕ) (v : Value) → known u (Up_to n) v → IsNatural v
bounded_natural u n (Whole (pos m)) h = tt
bounded_natural u n (Whole z) h = absurd h
bounded_natural u n Null h = absurd h
bounded_natural u n (Truth b) h = absurd h
bounded_natural u n (InCell c) h = absurd h

pub closure_there : (u : Common) (v : Value) → known u A_closure v → IsIn HasClosure u.cells v
closure_there u (InCell c) h = h
closure_there u Null h = absurd h
closure_there u (Truth b) h = absurd h
closure_there u (Whole z) h = absurd h

-- the first flow nodes of a block and of its body
pub record Starts (vs : List Value) : Type 0 where
  pub many : 1 < length vs
  pub start : IsNatural (value_at 0 vs)
  pub body : IsNatural (value_at 1 vs)

pub starts_kept : (u : Common) (further : Further) (xs : List Sort) (vs : List Value) → ValuesFit (known u) further (Flow_node ∷ Flow_node ∷ xs) vs → Starts vs
starts_kept u further xs [] h = absurd h
starts_kept u further xs (v ∷ []) h = absurd h.1
starts_kept u further xs (v ∷ w ∷ vs) h = record { many = omega arith; start = node_natural u v h.0; body = node_natural u w h.1.0 }

pub starts_in : (u : Standing) (f : Frame) (e : Ending) (d : FrameKind) (xs : List Sort) → MayGoOn u f e → f.kind ≡ d → ((sh : Shape) (left : ℕ) (env : Env) → (frame_row d sh left env).values ≡ Flow_node ∷ Flow_node ∷ xs) → Starts f.values
starts_in u f e d xs may is row =
    let sh = shape_at u.world.setting.script f.node in
    let further = (frame_row d sh f.left f.env).further in
    starts_kept u.world.shared further xs f.values (subst (λ ys. ValuesFit (known u.world.shared) further ys f.values) (row sh f.left f.env) (values_fit u.world.shared u.world.setting.script f d is ((may.frame).fits)))

-- What stood inside a frame of a known kind has ended so: the answer to its wait.
ended_in : (u : Standing) (f : Frame) (e : Ending) (d : FrameKind) → MayGoOn u f e → f.kind ≡ d → EndsAt u.world.setting.script u.world.shared (spot u.world.setting.script f.node (frame_row d (shape_at u.world.setting.script f.node) f.left f.env).inside) e
ended_in u f e d may is = subst (λ k. EndsAt u.world.setting.script u.world.shared (spot u.world.setting.script f.node (frame_row k (shape_at u.world.setting.script f.node) f.left f.env).inside) e) is may.ending

decided : (u : Common) (e : Ending) → AnswersAt u For_person e → IsDecided e
decided u (Answered (Decided proceed name)) h = tt
decided u (Answered Begin) h = absurd h
decided u (Answered (Granted x)) h = absurd h
decided u (Answered (Done code out)) h = absurd h
decided u (Answered (Joined ends)) h = absurd h
decided u (Normal v) h = absurd h
decided u (Thrown c) h = absurd h
decided u (Returned v) h = absurd h
decided u Broke h = absurd h
decided u Continued h = absurd h
decided u (Declared b) h = absurd h

done : (u : Common) (e : Ending) → AnswersAt u For_task e → IsDone e
done u (Answered (Decided proceed name)) h = absurd h
done u (Answered Begin) h = absurd h
done u (Answered (Granted x)) h = absurd h
done u (Answered (Done code out)) h = tt
done u (Answered (Joined ends)) h = absurd h
done u (Normal v) h = absurd h
done u (Thrown c) h = absurd h
done u (Returned v) h = absurd h
done u Broke h = absurd h
done u Continued h = absurd h
done u (Declared b) h = absurd h

granted : (u : Common) (e : Ending) → AnswersAt u For_executor e → IsGranted e
granted u (Answered (Decided proceed name)) h = absurd h
granted u (Answered Begin) h = absurd h
granted u (Answered (Granted x)) h = tt
granted u (Answered (Done code out)) h = absurd h
granted u (Answered (Joined ends)) h = absurd h
granted u (Normal v) h = absurd h
granted u (Thrown c) h = absurd h
granted u (Returned v) h = absurd h
granted u Broke h = absurd h
granted u Continued h = absurd h
granted u (Declared b) h = absurd h

joined : (u : Common) (e : Ending) → AnswersAt u For_branches e → IsJoined e
joined u (Answered (Decided proceed name)) h = absurd h
joined u (Answered Begin) h = absurd h
joined u (Answered (Granted x)) h = absurd h
joined u (Answered (Done code out)) h = absurd h
joined u (Answered (Joined ends)) h = tt
joined u (Normal v) h = absurd h
joined u (Thrown c) h = absurd h
joined u (Returned v) h = absurd h
joined u Broke h = absurd h
joined u Continued h = absurd h
joined u (Declared b) h = absurd h

pub decided_in : (u : Standing) (f : Frame) (e : Ending) → MayGoOn u f e → f.kind ≡ kind.InputWait → IsDecided e
decided_in u f e may is = decided u.world.shared e (ended_in u f e kind.InputWait may is)

pub done_in : (u : Standing) (f : Frame) (e : Ending) → MayGoOn u f e → f.kind ≡ kind.ShWait → IsDone e
done_in u f e may is = done u.world.shared e (ended_in u f e kind.ShWait may is)

pub granted_in : (u : Standing) (f : Frame) (e : Ending) → MayGoOn u f e → f.kind ≡ kind.NodeWait → AnswersAt u.world.shared For_executor e
granted_in u f e may is = ended_in u f e kind.NodeWait may is

pub is_granted : (u : Common) (e : Ending) → AnswersAt u For_executor e → IsGranted e
is_granted = granted

pub joined_in : (u : Standing) (f : Frame) (e : Ending) → MayGoOn u f e → f.kind ≡ kind.ParallelWait → AnswersAt u.world.shared For_branches e
joined_in u f e may is = ended_in u f e kind.ParallelWait may is

pub is_joined : (u : Common) (e : Ending) → AnswersAt u For_branches e → IsJoined e
is_joined = joined

-- the two flags of an `sh`
pub record Flags (vs : List Value) : Type 0 where
  pub many : 1 < length vs
  pub status : IsTruth (value_at 0 vs)
  pub keep_out : IsTruth (value_at 1 vs)

flag_truth : (u : Common) (v : Value) → known u Flag v → IsTruth v
flag_truth u (Truth b) h = tt
flag_truth u Null h = absurd h
flag_truth u (Whole z) h = absurd h
flag_truth u (InCell c) h = absurd h

flags_kept : (u : Common) (further : Further) (vs : List Value) → ValuesFit (known u) further (Flag ∷ Flag ∷ []) vs → Flags vs
flags_kept u further [] h = absurd h
flags_kept u further (v ∷ []) h = absurd h.1
flags_kept u further (v ∷ w ∷ vs) h = record { many = omega arith; status = flag_truth u v h.0; keep_out = flag_truth u w h.1.0 }

pub flags_in : (u : Standing) (f : Frame) (e : Ending) → MayGoOn u f e → f.kind ≡ kind.ShWait → Flags f.values
flags_in u f e may is =
    let sh = shape_at u.world.setting.script f.node in
    flags_kept u.world.shared (frame_row kind.ShWait sh f.left f.env).further f.values (values_fit u.world.shared u.world.setting.script f kind.ShWait is ((may.frame).fits))

bounded_low : (u : Common) (n : ℕ) (v : Value) → known u (Up_to n) v → position v ≤ n
bounded_low u n (Whole (pos m)) h = h
bounded_low u n (Whole z) h = absurd h
bounded_low u n Null h = absurd h
bounded_low u n (Truth b) h = absurd h
bounded_low u n (InCell c) h = absurd h

-- a bounded number behind the first flow nodes
pub record Bounded (n : ℕ) (vs : List Value) : Type 0 where
  pub many : 2 < length vs
  pub number : IsNatural (value_at 2 vs)
  pub low : position (value_at 2 vs) ≤ n

bounded_kept : (u : Common) (n : ℕ) (further : Further) (xs : List Sort) (vs : List Value) → ValuesFit (known u) further (Flow_node ∷ Flow_node ∷ Up_to n ∷ xs) vs → Bounded n vs
bounded_kept u n further xs [] h = absurd h
bounded_kept u n further xs (v ∷ []) h = absurd h.1
bounded_kept u n further xs (v ∷ w ∷ []) h = absurd h.1.1
bounded_kept u n further xs (v ∷ w ∷ x ∷ vs) h = record { many = omega arith; number = bounded_natural u n x h.1.1.0; low = bounded_low u n x h.1.1.0 }

pub bounded_in : (u : Standing) (f : Frame) (e : Ending) (d : FrameKind) (n : ℕ) (xs : List Sort) → MayGoOn u f e → f.kind ≡ d → ((sh : Shape) (left : ℕ) (env : Env) → (frame_row d sh left env).values ≡ Flow_node ∷ Flow_node ∷ Up_to n ∷ xs) → Bounded n f.values
bounded_in u f e d n xs may is row =
    let sh = shape_at u.world.setting.script f.node in
    let further = (frame_row d sh f.left f.env).further in
    bounded_kept u.world.shared n further xs f.values (subst (λ ys. ValuesFit (known u.world.shared) further ys f.values) (row sh f.left f.env) (values_fit u.world.shared u.world.setting.script f d is ((may.frame).fits)))

-- the closure of a `node` that waits
pub record Waits (u : Common) (vs : List Value) : Type 0 where
  pub many : 0 < length vs
  pub body : IsIn HasClosure u.cells (value_at 0 vs)

waits_kept : (u : Common) (further : Further) (vs : List Value) → ValuesFit (known u) further (A_closure ∷ []) vs → Waits u vs
waits_kept u further [] h = absurd h
waits_kept u further (v ∷ vs) h = record { many = omega arith; body = closure_there u v h.0 }

pub waits_in : (u : Standing) (f : Frame) (e : Ending) → MayGoOn u f e → f.kind ≡ kind.NodeWait → Waits u.world.shared f.values
waits_in u f e may is =
    let sh = shape_at u.world.setting.script f.node in
    waits_kept u.world.shared (frame_row kind.NodeWait sh f.left f.env).further f.values (values_fit u.world.shared u.world.setting.script f kind.NodeWait is ((may.frame).fits))

-- the message of a `catchError`
pub record Messages (u : Common) (vs : List Value) : Type 0 where
  pub many : 3 < length vs
  pub message : known u Text_or_null (value_at 3 vs)

messages_kept : (u : Common) (n : ℕ) (further : Further) (vs : List Value) → ValuesFit (known u) further (Flow_node ∷ Flow_node ∷ Up_to n ∷ Text_or_null ∷ []) vs → Messages u vs
messages_kept u n further [] h = absurd h
messages_kept u n further (v ∷ []) h = absurd h.1
messages_kept u n further (v ∷ w ∷ []) h = absurd h.1.1
messages_kept u n further (v ∷ w ∷ x ∷ []) h = absurd h.1.1.1
messages_kept u n further (v ∷ w ∷ x ∷ y ∷ vs) h = record { many = omega arith; message = h.1.1.1.0 }

pub messages_in : (u : Standing) (f : Frame) (e : Ending) → MayGoOn u f e → f.kind ≡ kind.CatchErrorBody → Messages u.world.shared f.values
messages_in u f e may is =
    let sh = shape_at u.world.setting.script f.node in
    messages_kept u.world.shared 4 (frame_row kind.CatchErrorBody sh f.left f.env).further f.values (values_fit u.world.shared u.world.setting.script f kind.CatchErrorBody is ((may.frame).fits))

text_within : (cs : List Cell) (c : ℕ) (o : Option Cell) → slice_get cs c ≡ o → HasText o → c < length cs
text_within cs c None is h = absurd h
text_within cs c (Some x) is h = slice_get_within cs c x is

-- a text that is kept is there
pub text_below : (u : Common) (v : Value) → known u Text_or_null v → ValueBelow (length u.cells) v
text_below u Null h = tt
text_below u (Truth b) h = tt
text_below u (Whole z) h = tt
text_below u (InCell c) h = text_within u.cells c (slice_get u.cells c) refl h

text_kept : (c : ℕ) (o : Option Cell) → HasText o → IsMessage (cell_kind c o)
text_kept c (Some (cell.Text t)) h = tt
text_kept c (Some (cell.List vs)) h = absurd h
text_kept c (Some (cell.Map es)) h = absurd h
text_kept c (Some (cell.Closure node env)) h = absurd h
text_kept c (Some (cell.Thrown class m)) h = absurd h
text_kept c (Some (cell.Variable v)) h = absurd h
text_kept c None h = absurd h

-- and it is a message
pub text_message : (u : Common) (v : Value) → known u Text_or_null v → IsMessage (kind_in u.cells v)
text_message u Null h = tt
text_message u (Truth b) h = absurd h
text_message u (Whole z) h = absurd h
text_message u (InCell c) h = text_kept c (slice_get u.cells c) h

-- what a body has thrown is there
thrown_there : (u : Common) (e : Ending) → EndFits form.Block u e → Throws u.cells e
thrown_there u (Thrown c) h = h
thrown_there u (Normal v) h = tt
thrown_there u (Returned v) h = tt
thrown_there u Broke h = tt
thrown_there u Continued h = tt
thrown_there u (Declared b) h = tt
thrown_there u (Answered x) h = tt

pub body_throws : (u : Standing) (f : Frame) (e : Ending) (d : FrameKind) → MayGoOn u f e → f.kind ≡ d → ((root : Term) (k : ℕ) (sh : Shape) (left : ℕ) (env : Env) → spot root k (frame_row d sh left env).inside ≡ Any_body) → Throws u.world.shared.cells e
body_throws u f e d may is row =
    let root = u.world.setting.script in
    thrown_there u.world.shared e (subst (λ at. EndsAt root u.world.shared at e) (row root f.node (shape_at root f.node) f.left f.env) (ended_in u f e d may is))

flow_node_at : (u : Common) (v : Value) → known u Flow_node v → IsFlowNode u.nodes (position v)
flow_node_at u (Whole (pos n)) h = h
flow_node_at u (Whole z) h = absurd h
flow_node_at u Null h = absurd h
flow_node_at u (Truth b) h = absurd h
flow_node_at u (InCell c) h = absurd h

-- the first flow node of a `parallel` or a branch
pub record Start (u : Common) (vs : List Value) : Type 0 where
  pub many : 0 < length vs
  pub start : IsNatural (value_at 0 vs)
  pub there : IsFlowNode u.nodes (position (value_at 0 vs))

start_kept : (u : Common) (further : Further) (vs : List Value) → ValuesFit (known u) further (Flow_node ∷ []) vs → Start u vs
start_kept u further [] h = absurd h
start_kept u further (v ∷ vs) h = record { many = omega arith; start = node_natural u v h.0; there = flow_node_at u v h.0 }

pub start_in : (u : Standing) (f : Frame) (e : Ending) (d : FrameKind) → MayGoOn u f e → f.kind ≡ d → ((sh : Shape) (left : ℕ) (env : Env) → (frame_row d sh left env).values ≡ Flow_node ∷ []) → Start u.world.shared f.values
start_in u f e d may is row =
    let sh = shape_at u.world.setting.script f.node in
    let further = (frame_row d sh f.left f.env).further in
    start_kept u.world.shared further f.values (subst (λ ys. ValuesFit (known u.world.shared) further ys f.values) (row sh f.left f.env) (values_fit u.world.shared u.world.setting.script f d is ((may.frame).fits)))
