-- How an image is spelled: form 1 of the image of a build, which is this product's own.
use Rattle.std.specs.Prelude.{◌≡◌, ◌^◌, ◌<◌, ℕ, Bool, nat_lt, List, [], ◌∷◌, length, Option, Some, refl, slice_get}
use Rattle.std.specs.Ordering.{nat_cmp, is_lt}
use Rattle.std.specs.Cmp.Lexicographic.{slice_cmp}
use Rattle.std.proofs.Common.{arith}
use Rattle.field_form.specs.Forms.{Form, Lawful, of_parts, that_needs, pair, numbered, admitted, u8_form, u32_form, bytes_form, bool_form, list_of, many, optional}
use Rattle.field_form.specs.FieldLaws.{u8_lawful, u32_lawful, bytes_lawful}
use Rattle.field_form.specs.FormLaws.{of_parts_lawful, that_needs_lawful, pair_lawful, admitted_lawful, list_lawful, many_lawful, optional_lawful, bool_lawful}
use Rattle.field_form.specs.Numbered.{few_lawful}
use Rattle.field_form.specs.Rules.{rises}
use Rattle.field_form.specs.Values.{value_form, value_lawful, binding_of, env_form, env_lawful}
use Rattle.field_form.specs.Cells.{cell_form, cell_lawful}
use Rattle.field_form.specs.Flow.{nodes_form, nodes_lawful}
use Rattle.field_form.specs.Requests.{open_behind, open_behind_lawful, held_behind, held_behind_lawful}
use Rattle.field_form.specs.Waits.{wait_form, wait_lawful, context_form, context_lawful}
use Rattle.model_values.specs.declared.value.Value.{Value}
use Rattle.model_values.specs.declared.cell.Binding.{Binding}
use Rattle.model_values.specs.declared.cell.Cell.{Cell}
use Rattle.model_run.specs.declared.result.BuildResult.{BuildResult}
use Rattle.model_run.specs.declared.result.BuildResult.TheVariants as result
use Rattle.model_run.specs.Results.{rank}
use Rattle.model_run.specs.declared.flow.FlowNode.{FlowNode}
use Rattle.model_run.specs.declared.request.OpenRequest.{OpenRequest}
use Rattle.model_run.specs.declared.held.Held.{Held}
use Rattle.model_run.specs.declared.wait.Wait.{Wait}
use Rattle.model_run.specs.declared.context.Context.{Context}
use Rattle.image_form.specs.declared.image.Image.{Image}
use Rattle.image_form.specs.declared.image.ImageThread.{ImageThread}
use Rattle.image_form.specs.declared.image.ImageFrame.{ImageFrame}

-- Frame: kind u8, node u32, at u32, environment, values.
abbrev pub FrameParts : Type 0
FrameParts = ℕ × (ℕ × (ℕ × (List Binding × List Value)))

abbrev pub frame_of : FrameParts → ImageFrame
frame_of p = record { kind = p.0; node = p.1.0; at = p.1.1.0; env = p.1.1.1.0; values = p.1.1.1.1 }

abbrev pub frame_parts : ImageFrame → FrameParts
frame_parts f = (f.kind, (f.node, (f.at, (f.env, f.values))))

abbrev pub frame_form : Form ImageFrame
frame_form = of_parts frame_of frame_parts (pair u8_form (pair u32_form (pair u32_form (pair env_form (many value_form)))))

pub frame_lawful : Lawful frame_form
frame_lawful = of_parts_lawful frame_of frame_parts _ (λ x. refl) (λ f. refl) (pair_lawful _ _ u8_lawful (pair_lawful _ _ u32_lawful (pair_lawful _ _ u32_lawful (pair_lawful _ _ env_lawful (many_lawful _ value_lawful)))))

-- Thread: number, option of parent, head, wait, context, list of frames.
abbrev pub RestOfThread : Type 0
RestOfThread = Option ℕ × (ℕ × (Wait × (Context × List ImageFrame)))

abbrev pub thread_of : ℕ × RestOfThread → ImageThread
thread_of p = record { number = p.0; parent = p.1.0; head = p.1.1.0; wait = p.1.1.1.0; context = p.1.1.1.1.0; frames = p.1.1.1.1.1 }

abbrev pub thread_parts : ImageThread → ℕ × RestOfThread
thread_parts t = (t.number, (t.parent, (t.head, (t.wait, (t.context, t.frames)))))

abbrev pub rest_of_thread : Form RestOfThread
rest_of_thread = pair (optional u32_form) (pair u32_form (pair wait_form (pair context_form (many frame_form))))

-- Threads by rising numbers: a number that does not rise is a fault at its place.
abbrev pub lower_thread : ImageThread → ℕ → Bool
lower_thread t number = nat_lt t.number number

abbrev pub thread_behind : List ImageThread → Form ImageThread
thread_behind before = of_parts thread_of thread_parts (pair (admitted (rises lower_thread before) u32_form) rest_of_thread)

rest_lawful : Lawful rest_of_thread
rest_lawful = pair_lawful _ _ (optional_lawful _ u32_lawful) (pair_lawful _ _ u32_lawful (pair_lawful _ _ wait_lawful (pair_lawful _ _ context_lawful (many_lawful _ frame_lawful))))

pub thread_behind_lawful : (before : List ImageThread) → Lawful (thread_behind before)
thread_behind_lawful before = of_parts_lawful thread_of thread_parts _ (λ x. refl) (λ t. refl) (pair_lawful _ _ (admitted_lawful (rises lower_thread before) _ u32_lawful) rest_lawful)

-- The variables of the binding by names that rise byte by byte: one that does not is a fault at its place.
abbrev pub lower_name : Binding → List ℕ → Bool
lower_name b name = is_lt (slice_cmp nat_cmp b.name name)

abbrev pub binding_behind : List Binding → Form Binding
binding_behind before = of_parts binding_of (λ b. (b.name, b.cell)) (pair (admitted (rises lower_name before) bytes_form) u32_form)

pub binding_behind_lawful : (before : List Binding) → Lawful (binding_behind before)
binding_behind_lawful before = of_parts_lawful binding_of (λ (b : Binding). (b.name, b.cell)) _ (λ x. refl) (λ b. refl) (pair_lawful _ _ (admitted_lawful (rises lower_name before) _ bytes_lawful) u32_lawful)

-- Result: 0 best to 4.
abbrev pub results : List BuildResult
results = result.Success ∷ result.Unstable ∷ result.Failure ∷ result.NotBuilt ∷ result.Aborted ∷ []

result_found : (r : BuildResult) → slice_get results (rank r) ≡ Some r
result_found = elim [ result.Success ↦ refl | result.Unstable ↦ refl | result.Failure ↦ refl | result.NotBuilt ↦ refl | result.Aborted ↦ refl ]

abbrev pub result_form : Form BuildResult
result_form = numbered rank results

pub result_lawful : Lawful result_form
result_lawful = few_lawful rank results result_found refl (omega arith)

-- The image, in order: next request, next thread, result, ended, bindings, cells,
abbrev pub FirstParts : Type 0
FirstParts = ℕ × (ℕ × (BuildResult × (Bool × (List Binding × List Cell))))

abbrev pub first_form : Form FirstParts
first_form = pair u32_form (pair u32_form (pair result_form (pair bool_form (pair (list_of binding_behind) (many cell_form)))))

-- nodes, log, open requests, held executors, threads.
abbrev pub OtherParts : Type 0
OtherParts = List FlowNode × (List ℕ × (List OpenRequest × (List Held × List ImageThread)))

abbrev pub other_form : Form OtherParts
other_form = pair nodes_form (pair bytes_form (pair (list_of open_behind) (pair (list_of held_behind) (list_of thread_behind))))

abbrev pub image_of_parts : FirstParts × OtherParts → Image
image_of_parts p = record {
  next_request = p.0.0;
  next_thread = p.0.1.0;
  result = p.0.1.1.0;
  ended = p.0.1.1.1.0;
  bindings = p.0.1.1.1.1.0;
  cells = p.0.1.1.1.1.1;
  nodes = p.1.0;
  log = p.1.1.0;
  requests = p.1.1.1.0;
  held = p.1.1.1.1.0;
  threads = p.1.1.1.1.1;
}

abbrev pub image_parts : Image → FirstParts × OtherParts
image_parts i = ((i.next_request, (i.next_thread, (i.result, (i.ended, (i.bindings, i.cells))))), (i.nodes, (i.log, (i.requests, (i.held, i.threads)))))

-- What an image of the program needs to have a spelling. Of each list and text: that it has fewer than 4294967296 items
-- or bytes. Besides, that the names of the binding and the numbers of requests, executors and threads rise, that the
-- numbers of the flow nodes go up by one from 2, and that no thread is ready to go on.
pub record CanBeWritten (image : Image) : Type 0 where
  pub bindings : (list_of binding_behind).Needs image.bindings
  pub cells : (many cell_form).Needs image.cells
  pub nodes : nodes_form.Needs image.nodes
  pub log : length image.log < 2 ^ 32
  pub requests : (list_of open_behind).Needs image.requests
  pub held : (list_of held_behind).Needs image.held
  pub threads : (list_of thread_behind).Needs image.threads

abbrev pub image_form : Form Image
image_form = that_needs CanBeWritten (of_parts image_of_parts image_parts (pair first_form other_form))

first_lawful : Lawful first_form
first_lawful = pair_lawful _ _ u32_lawful (pair_lawful _ _ u32_lawful (pair_lawful _ _ result_lawful (pair_lawful _ _ bool_lawful (pair_lawful _ _ (list_lawful _ binding_behind_lawful) (many_lawful _ cell_lawful)))))

other_lawful : Lawful other_form
other_lawful = pair_lawful _ _ nodes_lawful (pair_lawful _ _ bytes_lawful (pair_lawful _ _ (list_lawful _ open_behind_lawful) (pair_lawful _ _ (list_lawful _ held_behind_lawful) (list_lawful _ thread_behind_lawful))))

can_be_written : (image : Image) → first_form.Fits (image_parts image).0 × other_form.Fits (image_parts image).1 → CanBeWritten image
can_be_written image fits =
    let first = first_lawful.needed (image_parts image).0 fits.0 in
    let other = other_lawful.needed (image_parts image).1 fits.1 in
    record {
      bindings = first.1.1.1.1.0;
      cells = first.1.1.1.1.1;
      nodes = other.0;
      log = other.1.0;
      requests = other.1.1.0;
      held = other.1.1.1.0;
      threads = other.1.1.1.1;
    }

pub image_lawful : Lawful image_form
image_lawful = that_needs_lawful CanBeWritten _ (of_parts_lawful image_of_parts image_parts _ (λ x. refl) (λ i. refl) (pair_lawful _ _ first_lawful other_lawful)) can_be_written
