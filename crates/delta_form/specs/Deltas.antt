-- How a delta is spelled: what changed from one image of a build to the next, which is this product's own
-- (docs/FORMATS.md, "Records of changes").
use Rattle.std.specs.Prelude.{◌≡◌, ◌^◌, ◌<◌, ℕ, Bool, List, length, Option, refl, ◌⊎◌}
use Rattle.std.proofs.Common.{inl, inr}
use Rattle.field_form.specs.Forms.{Form, Lawful, last, ◌or◌, kinds, of_parts, that_needs, pair, u32_form, u64_form, bytes_form, bool_form, list_of, many, optional}
use Rattle.field_form.specs.FieldLaws.{u32_lawful, u64_lawful, bytes_lawful}
use Rattle.field_form.specs.FormLaws.{last_lawful, or_lawful, kinds_lawful, of_parts_lawful, that_needs_lawful, pair_lawful, list_lawful, many_lawful, optional_lawful, bool_lawful}
use Rattle.field_form.specs.Flow.{NodeParts, parts_form, node_kind_lawful}
use Rattle.field_form.specs.Requests.{request_form, request_lawful, open_of, open_parts, held_behind, held_behind_lawful}
use Rattle.field_form.specs.Waits.{wait_form, wait_lawful, context_form, context_lawful}
use Rattle.image_form.specs.Images.{binding_behind, binding_behind_lawful, frame_form, frame_lawful, result_form, result_lawful}
use Rattle.image_form.specs.declared.image.ImageFrame.{ImageFrame}
use Rattle.model_values.specs.declared.cell.Binding.{Binding}
use Rattle.model_run.specs.declared.result.BuildResult.{BuildResult}
use Rattle.model_run.specs.declared.request.Request.{Request}
use Rattle.model_run.specs.declared.held.Held.{Held}
use Rattle.model_run.specs.declared.wait.Wait.{Wait}
use Rattle.model_run.specs.declared.context.Context.{Context}
use Rattle.delta_form.specs.Numbers.{rising_number, rising_number_lawful, written_number}
use Rattle.delta_form.specs.WrittenCells.{written_cell_form, written_cell_lawful}
use Rattle.delta_form.specs.declared.delta.NumberedCell.{NumberedCell}
use Rattle.delta_form.specs.declared.delta.WrittenCell.{WrittenCell}
use Rattle.delta_form.specs.declared.delta.NewNode.{NewNode}
use Rattle.delta_form.specs.declared.delta.WrittenRequest.{WrittenRequest}
use Rattle.delta_form.specs.declared.delta.WrittenRequest.TheVariants as written
use Rattle.delta_form.specs.declared.delta.WrittenThread.{WrittenThread}
use Rattle.delta_form.specs.declared.delta.Delta.{Delta}

-- Numbers that rise.
abbrev pub number_behind : List ℕ → Form ℕ
number_behind before = rising_number (λ n. n) before

pub number_behind_lawful : (before : List ℕ) → Lawful (number_behind before)
number_behind_lawful before = rising_number_lawful (λ n. n) before

-- Written cells by rising numbers: number, written cell.
abbrev pub numbered_of : ℕ × WrittenCell → NumberedCell
numbered_of p = record { number = p.0; cell = p.1 }

abbrev pub numbered_parts : NumberedCell → ℕ × WrittenCell
numbered_parts c = (c.number, c.cell)

abbrev pub cell_behind : List NumberedCell → Form NumberedCell
cell_behind before = of_parts numbered_of numbered_parts (pair (rising_number (λ c. c.number) before) written_cell_form)

pub cell_behind_lawful : (before : List NumberedCell) → Lawful (cell_behind before)
cell_behind_lawful before = of_parts_lawful numbered_of numbered_parts _ (λ x. refl) (λ c. refl) (pair_lawful _ _ (rising_number_lawful (λ (c : NumberedCell). c.number) before) written_cell_lawful)

-- Flow nodes without their numbers: kind, name, start, list of parents.
abbrev pub new_node_of : NodeParts → NewNode
new_node_of p = record { kind = p.0; name = p.1.0; start = p.1.1.0; parents = p.1.1.1 }

abbrev pub new_node_parts : NewNode → NodeParts
new_node_parts n = (n.kind, (n.name, (n.start, n.parents)))

abbrev pub new_node_form : Form NewNode
new_node_form = of_parts new_node_of new_node_parts parts_form

pub new_node_lawful : Lawful new_node_form
new_node_lawful = of_parts_lawful new_node_of new_node_parts _ (λ x. refl) (λ n. refl) (pair_lawful _ _ node_kind_lawful (pair_lawful _ _ bytes_lawful (pair_lawful _ _ u32_lawful (many_lawful _ u32_lawful))))

-- Written requests by rising numbers: `00` and the whole request (number, thread, request), or `01`, the number, the new
-- taken u64 and the bytes added to `out`.
abbrev pub WrittenParts : Type 0
WrittenParts = (ℕ × (ℕ × Request)) ⊎ (ℕ × (ℕ × List ℕ))

abbrev pub written_of : WrittenParts → WrittenRequest
written_of (inl r) = written.Whole (open_of r)
written_of (inr g) = written.Grown g.0 g.1.0 g.1.1

abbrev pub written_parts : WrittenRequest → WrittenParts
written_parts (written.Whole r) = inl (open_parts r)
written_parts (written.Grown number taken out) = inr (number, (taken, out))

written_there : (x : WrittenParts) → written_parts (written_of x) ≡ x
written_there (inl r) = refl
written_there (inr g) = refl

written_back : (w : WrittenRequest) → written_of (written_parts w) ≡ w
written_back (written.Whole r) = refl
written_back (written.Grown number taken out) = refl

abbrev pub request_behind : List WrittenRequest → Form WrittenRequest
request_behind before = of_parts written_of written_parts (kinds (
    pair (rising_number written_number before) (pair u32_form request_form)
    or last (pair (rising_number written_number before) (pair u64_form bytes_form))))

pub request_behind_lawful : (before : List WrittenRequest) → Lawful (request_behind before)
request_behind_lawful before =
    let number = rising_number_lawful written_number before in
    of_parts_lawful written_of written_parts _ written_there written_back (kinds_lawful _
    (or_lawful _ _ (pair_lawful _ _ number (pair_lawful _ _ u32_lawful request_lawful)) (last_lawful _ (pair_lawful _ _ number (pair_lawful _ _ u64_lawful bytes_lawful)))))

-- Written threads by rising numbers: number, option of parent, head, wait, context, kept u32, list of frames.
abbrev pub RestOfThread : Type 0
RestOfThread = Option ℕ × (ℕ × (Wait × (Context × (ℕ × List ImageFrame))))

abbrev pub thread_of : ℕ × RestOfThread → WrittenThread
thread_of p = record { number = p.0; parent = p.1.0; head = p.1.1.0; wait = p.1.1.1.0; context = p.1.1.1.1.0; kept = p.1.1.1.1.1.0; frames = p.1.1.1.1.1.1 }

abbrev pub thread_parts : WrittenThread → ℕ × RestOfThread
thread_parts t = (t.number, (t.parent, (t.head, (t.wait, (t.context, (t.kept, t.frames))))))

abbrev pub rest_of_thread : Form RestOfThread
rest_of_thread = pair (optional u32_form) (pair u32_form (pair wait_form (pair context_form (pair u32_form (many frame_form)))))

rest_lawful : Lawful rest_of_thread
rest_lawful = pair_lawful _ _ (optional_lawful _ u32_lawful) (pair_lawful _ _ u32_lawful (pair_lawful _ _ wait_lawful (pair_lawful _ _ context_lawful (pair_lawful _ _ u32_lawful (many_lawful _ frame_lawful)))))

abbrev pub written_behind : List WrittenThread → Form WrittenThread
written_behind before = of_parts thread_of thread_parts (pair (rising_number (λ t. t.number) before) rest_of_thread)

pub written_behind_lawful : (before : List WrittenThread) → Lawful (written_behind before)
written_behind_lawful before = of_parts_lawful thread_of thread_parts _ (λ x. refl) (λ t. refl) (pair_lawful _ _ (rising_number_lawful (λ (t : WrittenThread). t.number) before) rest_lawful)

-- The delta, in order: next request, next thread, result, ended, new bindings, cells,
abbrev pub FirstParts : Type 0
FirstParts = ℕ × (ℕ × (BuildResult × (Bool × (List Binding × List NumberedCell))))

abbrev pub first_form : Form FirstParts
first_form = pair u32_form (pair u32_form (pair result_form (pair bool_form (pair (list_of binding_behind) (list_of cell_behind)))))

-- new nodes, log, closed requests, written requests, held executors, ended threads, written threads.
abbrev pub OtherParts : Type 0
OtherParts = List NewNode × (List ℕ × (List ℕ × (List WrittenRequest × (List Held × (List ℕ × List WrittenThread)))))

abbrev pub other_form : Form OtherParts
other_form = pair (many new_node_form) (pair bytes_form (pair (list_of number_behind) (pair (list_of request_behind) (pair (list_of held_behind) (pair (list_of number_behind) (list_of written_behind))))))

abbrev pub delta_of_parts : FirstParts × OtherParts → Delta
delta_of_parts p = record {
  next_request = p.0.0;
  next_thread = p.0.1.0;
  result = p.0.1.1.0;
  ended = p.0.1.1.1.0;
  bindings = p.0.1.1.1.1.0;
  cells = p.0.1.1.1.1.1;
  nodes = p.1.0;
  log = p.1.1.0;
  closed_requests = p.1.1.1.0;
  requests = p.1.1.1.1.0;
  held = p.1.1.1.1.1.0;
  ended_threads = p.1.1.1.1.1.1.0;
  threads = p.1.1.1.1.1.1.1;
}

abbrev pub delta_parts : Delta → FirstParts × OtherParts
delta_parts d = (
  (d.next_request, (d.next_thread, (d.result, (d.ended, (d.bindings, d.cells))))),
  (d.nodes, (d.log, (d.closed_requests, (d.requests, (d.held, (d.ended_threads, d.threads)))))),
)

-- What a delta of the program needs to have a spelling. Of each list and text: that it has fewer than 4294967296 items
-- or bytes. Besides, that what rises in it does so, and that no thread is ready to go on.
pub record CanBeWritten (delta : Delta) : Type 0 where
  pub bindings : (list_of binding_behind).Needs delta.bindings
  pub cells : (list_of cell_behind).Needs delta.cells
  pub nodes : (many new_node_form).Needs delta.nodes
  pub log : length delta.log < 2 ^ 32
  pub closed_requests : (list_of number_behind).Needs delta.closed_requests
  pub requests : (list_of request_behind).Needs delta.requests
  pub held : (list_of held_behind).Needs delta.held
  pub ended_threads : (list_of number_behind).Needs delta.ended_threads
  pub threads : (list_of written_behind).Needs delta.threads

abbrev pub delta_form : Form Delta
delta_form = that_needs CanBeWritten (of_parts delta_of_parts delta_parts (pair first_form other_form))

first_lawful : Lawful first_form
first_lawful = pair_lawful _ _ u32_lawful (pair_lawful _ _ u32_lawful (pair_lawful _ _ result_lawful (pair_lawful _ _ bool_lawful (pair_lawful _ _ (list_lawful _ binding_behind_lawful) (list_lawful _ cell_behind_lawful)))))

other_lawful : Lawful other_form
other_lawful = pair_lawful _ _ (many_lawful _ new_node_lawful) (pair_lawful _ _ bytes_lawful (pair_lawful _ _ (list_lawful _ number_behind_lawful) (pair_lawful _ _ (list_lawful _ request_behind_lawful) (pair_lawful _ _ (list_lawful _ held_behind_lawful) (pair_lawful _ _ (list_lawful _ number_behind_lawful) (list_lawful _ written_behind_lawful))))))

can_be_written : (delta : Delta) → first_form.Fits (delta_parts delta).0 × other_form.Fits (delta_parts delta).1 → CanBeWritten delta
can_be_written delta fits =
    let first = first_lawful.needed (delta_parts delta).0 fits.0 in
    let other = other_lawful.needed (delta_parts delta).1 fits.1 in
    record {
      bindings = first.1.1.1.1.0;
      cells = first.1.1.1.1.1;
      nodes = other.0;
      log = other.1.0;
      closed_requests = other.1.1.0;
      requests = other.1.1.1.0;
      held = other.1.1.1.1.0;
      ended_threads = other.1.1.1.1.1.0;
      threads = other.1.1.1.1.1.1;
    }

pub delta_lawful : Lawful delta_form
delta_lawful = that_needs_lawful CanBeWritten _ (of_parts_lawful delta_of_parts delta_parts _ (λ x. refl) (λ d. refl) (pair_lawful _ _ first_lawful other_lawful)) can_be_written
