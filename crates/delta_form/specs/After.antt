-- The image that a delta makes of an image (this product's own; docs/FORMATS.md, "Records of changes"). Each part of the
-- image is replaced, or changed at some of its keys, or gets more behind it; where a part is undefined, so is the whole.
use Rattle.std.specs.Prelude.{◌+◌, ℕ, Bool, not, ◌&&◌, nat_eq, nat_le, nat_lt, if◌then◌else◌, List, [], ◌∷◌, ◌++◌, length, map, take, Option, Some, None, slice_get, slice_set}
use Rattle.std.specs.List.{list_all, list_any}
use Rattle.std.specs.Option.{option_map}
use Rattle.std.specs.Ordering.{nat_cmp, on}
use Rattle.std.specs.Cmp.Lexicographic.{slice_cmp}
use Rattle.field_form.specs.Flow.{with_id}
use Rattle.field_form.specs.Rules.{is_new}
use Rattle.model_values.specs.declared.cell.Binding.{Binding}
use Rattle.model_values.specs.declared.cell.Cell.{Cell}
use Rattle.model_values.specs.declared.cell.Cell.TheVariants as cell
use Rattle.model_values.specs.declared.key.Key.{Key}
use Rattle.model_values.specs.declared.value.Value.{Value}
use Rattle.model_run.specs.declared.flow.FlowNode.{FlowNode}
use Rattle.model_run.specs.declared.request.Request.{Request}
use Rattle.model_run.specs.declared.request.Request.TheVariants as request
use Rattle.model_run.specs.declared.request.OpenRequest.{OpenRequest}
use Rattle.image_form.specs.declared.image.Image.{Image}
use Rattle.image_form.specs.declared.image.ImageFrame.{ImageFrame}
use Rattle.image_form.specs.declared.image.ImageThread.{ImageThread}
use Rattle.delta_form.specs.Applying.{◌>>=◌, in_turn}
use Rattle.delta_form.specs.Changes.{Changing, EachBelow, by_number, changed, rising}
use Rattle.delta_form.specs.Deltas.{new_node_parts}
use Rattle.delta_form.specs.Numbers.{written_number}
use Rattle.delta_form.specs.declared.delta.NumberedCell.{NumberedCell}
use Rattle.delta_form.specs.declared.delta.NewNode.{NewNode}
use Rattle.delta_form.specs.declared.delta.WrittenCell.{WrittenCell}
use Rattle.delta_form.specs.declared.delta.WrittenCell.TheVariants as now
use Rattle.delta_form.specs.declared.delta.WrittenRequest.{WrittenRequest}
use Rattle.delta_form.specs.declared.delta.WrittenRequest.TheVariants as written
use Rattle.delta_form.specs.declared.delta.WrittenThread.{WrittenThread}
use Rattle.delta_form.specs.declared.delta.Delta.{Delta}

-- A new variable of the binding is put where the names rise. None of its name stood before.
abbrev pub new_binding : Binding → Option Binding → Option (Option Binding)
new_binding b None = Some (Some b)
new_binding b (Some c) = None

abbrev pub binding_changes : Changing Binding Binding
binding_changes = record {
  compare = on (λ b. b.name) (slice_cmp nat_cmp);
  order = on (λ b. b.name) (slice_cmp nat_cmp);
  made = new_binding;
}

-- An entry is put behind those of a map where none of them has its key.
abbrev pub put_entry : Key × Value → List (Key × Value) → Option (List (Key × Value))
put_entry e entries = if is_new entries e.0 then Some (entries ++ e ∷ []) else None

-- A list, or a map, that stood and has these behind; of anything else there is none.
abbrev pub grown_list : List Value → Cell → Option Cell
grown_list values (cell.List had) = Some (cell.List (had ++ values))
grown_list values c = None

abbrev pub grown_map : List (Key × Value) → Cell → Option Cell
grown_map entries (cell.Map had) = option_map (λ all. cell.Map all) (in_turn put_entry entries had)
grown_map entries c = None

-- A written cell is the whole cell, or a list or a map that stood and has grown.
abbrev pub written_cell : WrittenCell → Option Cell → Option Cell
written_cell (now.Whole c) stood = Some c
written_cell (now.GrownList values) stood = stood >>= grown_list values
written_cell (now.GrownMap entries) stood = stood >>= grown_map entries

-- A cell replaces the one with its number, or is put behind where it has the next number. There is no gap.
abbrev pub put_at : ℕ → Cell → List Cell → Option (List Cell)
put_at number cell cells =
    if nat_lt number (length cells) then Some (slice_set cells number cell)
    else if nat_eq number (length cells) then Some (cells ++ cell ∷ []) else None

abbrev pub put_cell : NumberedCell → List Cell → Option (List Cell)
put_cell c cells = written_cell c.cell (slice_get cells c.number) >>= λ cell. put_at c.number cell cells

-- A new flow node is put behind, and its number is the next. There is no number of 4294967296.
abbrev pub put_node : NewNode → List FlowNode → Option (List FlowNode)
put_node n nodes = if nat_lt (length nodes) 4294967294 then Some (nodes ++ with_id (length nodes + 2) (new_node_parts n) ∷ []) else None

-- One that stood is gone.
abbrev pub gone : {X : Type 0} → ℕ → Option X → Option (Option X)
gone number stood = option_map (λ x. None) stood

-- A task of which more output was taken: so many bytes of its log stream, and these more of its output stream.
abbrev pub grown : ℕ → List ℕ → Request → Option Request
grown taken added (request.Task executor workspace folder env script status keep_out was out) =
    Some (request.Task executor workspace folder env script status keep_out taken (out ++ added))
grown taken added r = None

-- A written request is the whole request, or a task that stood and has grown.
abbrev pub written_request : WrittenRequest → Option OpenRequest → Option (Option OpenRequest)
written_request (written.Whole r) stood = Some (Some r)
written_request (written.Grown number taken added) None = None
written_request (written.Grown number taken added) (Some r) = option_map (λ q. Some (record r { request = q })) (grown taken added r.request)

-- A written thread keeps so many of the frames that it had, of which a new one had none, and has these behind.
abbrev pub frames_of : Option ImageThread → List ImageFrame
frames_of None = []
frames_of (Some t) = t.frames

abbrev pub thread_with : WrittenThread → List ImageFrame → ImageThread
thread_with w kept = record { number = w.number; parent = w.parent; head = w.head; wait = w.wait; context = w.context; frames = kept ++ w.frames }

abbrev pub written_thread : WrittenThread → Option ImageThread → Option (Option ImageThread)
written_thread w stood = if nat_le w.kept (length (frames_of stood)) then Some (Some (thread_with w (take w.kept (frames_of stood)))) else None

-- no number is in both lists
abbrev pub are_apart : List ℕ → List ℕ → Bool
are_apart ns ms = list_all (λ n. not (list_any (nat_eq n) ms)) ns

-- Items by numbers: those with these numbers stood and are gone, and the changes are made, none at one of these numbers.
abbrev pub renewed : {C X : Type 0} → (X → ℕ) → (C → ℕ) → Changing C X → List ℕ → List C → List X → Option (List X)
renewed item_number number how numbers cs xs =
    if are_apart numbers (map number cs) then changed (by_number item_number (λ n. n) gone) numbers xs >>= changed how cs else None

abbrev pub request_changes : Changing WrittenRequest OpenRequest
request_changes = by_number (λ r. r.number) written_number written_request

abbrev pub thread_changes : Changing WrittenThread ImageThread
thread_changes = by_number (λ t. t.number) (λ w. w.number) written_thread

abbrev pub requests_after : List ℕ → List WrittenRequest → List OpenRequest → Option (List OpenRequest)
requests_after closed requests stood = renewed (λ r. r.number) written_number request_changes closed requests stood

abbrev pub threads_after : List ℕ → List WrittenThread → List ImageThread → Option (List ImageThread)
threads_after ended threads stood = renewed (λ t. t.number) (λ w. w.number) thread_changes ended threads stood

-- The image with the changes made.
abbrev pub with_changes : Image → Delta → Option Image
with_changes i d =
    changed binding_changes d.bindings i.bindings >>= λ bindings.
    in_turn put_cell d.cells i.cells >>= λ cells.
    in_turn put_node d.nodes i.nodes >>= λ nodes.
    requests_after d.closed_requests d.requests i.requests >>= λ requests.
    threads_after d.ended_threads d.threads i.threads >>= λ threads.
    Some (record {
      next_request = d.next_request;
      next_thread = d.next_thread;
      result = d.result;
      ended = d.ended;
      bindings = bindings;
      cells = cells;
      nodes = nodes;
      log = i.log ++ d.log;
      requests = requests;
      held = d.held;
      threads = threads;
    })

-- each list of the delta rises that has names or numbers
abbrev pub in_order : Delta → Bool
in_order d =
    rising (on (λ b. b.name) (slice_cmp nat_cmp)) d.bindings && rising (on (λ c. c.number) nat_cmp) d.cells && rising nat_cmp d.closed_requests
    && rising (on written_number nat_cmp) d.requests && rising (on (λ h. h.executor) nat_cmp) d.held && rising nat_cmp d.ended_threads
    && rising (on (λ w. w.number) nat_cmp) d.threads

-- The image after the changes. A delta whose lists do not rise has none.
abbrev pub after : Image → Delta → Option Image
after i d = if in_order d then with_changes i d else None

-- the lists that are changed key by key, and the numbers of those that are gone, rise
pub record IsInOrder (delta : Delta) : Type 0 where
  pub bindings : EachBelow (on (λ b. b.name) (slice_cmp nat_cmp)) delta.bindings
  pub closed_requests : EachBelow nat_cmp delta.closed_requests
  pub requests : EachBelow (on written_number nat_cmp) delta.requests
  pub ended_threads : EachBelow nat_cmp delta.ended_threads
  pub threads : EachBelow (on (λ w. w.number) nat_cmp) delta.threads
