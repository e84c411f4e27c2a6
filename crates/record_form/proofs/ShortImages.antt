-- A record that is short enough can be written, where its image stands in order.
use Rattle.std.proofs.Common.{◌≡◌, ◌<◌, ◌+◌, ◌^◌, ℕ, List, [], ◌∷◌, ◌++◌, length, arith, length-append}
use Rattle.std.specs.Prelude.{IsTrue}
use Rattle.std.specs.List.{AllByRecursion as AllAre}
use Rattle.byte_form.specs.Fields.{u32_spelling}
use Rattle.field_form.specs.Forms.{u8_form, u32_form, u64_form, i32_form, bool_form, bytes_form, mark, optional, AllBehind, spelled, list_of, many}
use Rattle.field_form.specs.Rules.{rises}
use Rattle.field_form.specs.Values.{value_form, value_of, value_parts, outcome_form, outcome_of, outcome_parts, key_form, key_of, key_parts, binding_form, binding_of, env_form}
use Rattle.field_form.specs.Cells.{class_form, cell_form, cell_of, cell_parts, entry_form, entry_behind, entries_form}
use Rattle.field_form.specs.Flow.{node_behind, nodes_form, node_parts, parts_form, node_kind_form}
use Rattle.field_form.specs.Requests.{texts_form, place_form, streams_form, request_form, request_of, request_parts, open_behind, lower_request, held_behind, lower_executor}
use Rattle.field_form.specs.Waits.{end_form, end_of, end_parts, join_form, join_of, wait_form, NeedsWait, context_form, context_of}
use Rattle.field_form.specs.Events.{event_form, event_of, event_parts, stream_form, why_form}
use Rattle.image_form.specs.Images.{result_form, frame_form, frame_of, frame_parts, thread_behind, lower_thread, RestOfThread, rest_of_thread, binding_behind, lower_name, first_form, other_form, image_form, image_parts, CanBeWritten}
use Rattle.image_form.specs.declared.image.Image.{Image}
use Rattle.image_form.specs.declared.image.ImageThread.{ImageThread}
use Rattle.model_values.specs.declared.key.Key.{Key}
use Rattle.model_values.specs.declared.value.Value.{Value}
use Rattle.model_values.specs.declared.cell.Binding.{Binding}
use Rattle.model_run.specs.declared.event.Event.{Event}
use Rattle.model_run.specs.declared.flow.FlowNode.{FlowNode}
use Rattle.model_run.specs.declared.held.Held.{Held}
use Rattle.model_run.specs.declared.request.OpenRequest.{OpenRequest}
use Rattle.model_run.specs.declared.context.Context.{Context}
use Rattle.model_run.specs.declared.wait.Join.{Join}
use Rattle.model_run.specs.declared.wait.Wait.{Wait}
use Rattle.model_run.specs.declared.wait.Wait.TheVariants as wait
use Rattle.model_run.specs.Fitting.{NotReady}
use Rattle.record_form.specs.Ordered.{IsInOrder}
use Rattle.record_form.specs.Records.{record_form, record_of}
use Rattle.record_form.proofs.Short.{Short, Nothing, Plain, free, short_bytes, short_pair, plain_pair, plain_parts, plain_last, plain_or, plain_kinds, plain_nothing, plain_optional, items_few, short_list, plain_many}
use Rattle.record_form.proofs.Rising.{all_rise, below_numbers, below_names, counted_behind, all_both, all_items}

short_u32 : Plain u32_form
short_u32 = free u32_form (λ v. tt)

short_u8 : Plain u8_form
short_u8 = free u8_form (λ v. tt)

short_u64 : Plain u64_form
short_u64 = free u64_form (λ v. tt)

short_i32 : Plain i32_form
short_i32 = free i32_form (λ v. tt)

short_flag : Plain bool_form
short_flag = free bool_form (λ v. tt)

-- ---- values

short_value : Plain value_form
short_value = plain_parts value_of value_parts _ (plain_kinds _ (plain_or _ _ plain_nothing (plain_or _ _ plain_nothing (plain_or _ _ plain_nothing (plain_or _ _ short_i32 (plain_last _ short_u32))))))

short_outcome : Plain outcome_form
short_outcome = plain_parts outcome_of outcome_parts _ (plain_kinds _ (plain_or _ _ short_value (plain_last _ short_u32)))

short_key : Plain key_form
short_key = plain_parts key_of key_parts _ (plain_kinds _ (plain_or _ _ short_i32 (plain_last _ short_bytes)))

short_binding : Plain binding_form
short_binding = plain_parts binding_of (λ (b : Binding). (b.name, b.cell)) _ (plain_pair _ _ short_bytes short_u32)

-- a number stands in front of each
some_number : (n : ℕ) (rest : List ℕ) → 0 < length (u32_spelling n ++ rest)
some_number n rest = omega (arith, length-append (u32_spelling n) rest)

some_text : (text rest : List ℕ) → 0 < length ((u32_spelling (length text) ++ text) ++ rest)
some_text text rest = omega (arith, length-append (u32_spelling (length text) ++ text) rest, length-append (u32_spelling (length text)) text)

short_env : Plain env_form
short_env = plain_many binding_form (λ b. some_text b.name (u32_spelling b.cell)) short_binding

short_values : Plain (many value_form)
short_values = plain_many value_form (λ v. omega arith) short_value

-- ---- cells

short_entry : Plain entry_form
short_entry = plain_pair _ _ short_key short_value

entries_all : (before es : List (Key × Value)) → length (spelled entry_behind before es) < 2 ^ 32 → AllAre entry_form.Needs es
entries_all before [] lt = tt
entries_all before (e ∷ es) lt =
    let both = length-append (entry_form.spelling e) (spelled entry_behind (before ++ e ∷ []) es) in
    (short_entry.needs e tt (omega (arith, both, lt)), entries_all (before ++ e ∷ []) es (omega (arith, both, lt)))

entry_bytes : (before : List (Key × Value)) (e : Key × Value) → 0 < length ((entry_behind before).spelling e)
entry_bytes before e = omega (arith, length-append (key_form.spelling e.0) (value_form.spelling e.1))

short_entries : Plain entries_form
short_entries = record {
  needs = λ es asked lt.
      let both = length-append (u32_spelling (length es)) (spelled entry_behind [] es) in
      (omega (arith, both, lt, items_few entry_behind entry_bytes [] es), entries_all [] es (omega (arith, both, lt)));
}

short_class : Plain class_form
short_class = free class_form (λ v. tt)

short_cell : Plain cell_form
short_cell = plain_parts cell_of cell_parts _ (plain_kinds _
    (plain_or _ _ short_value (plain_or _ _ short_bytes (plain_or _ _ short_values (plain_or _ _ short_entries
    (plain_or _ _ (plain_pair _ _ short_u32 short_env) (plain_last _ (plain_pair _ _ short_class (plain_optional _ short_bytes)))))))))

short_cells : Plain (many cell_form)
short_cells = plain_many cell_form (λ c. omega arith) short_cell

-- ---- requests and events

short_texts : Plain texts_form
short_texts = record { needs = λ p asked lt. (plain_pair bytes_form bytes_form short_bytes short_bytes).needs (p.name, p.value) tt lt }

short_pairs : Plain (many texts_form)
short_pairs = plain_many texts_form (λ p. some_text p.name (u32_spelling (length p.value) ++ p.value)) short_texts

short_place : Plain place_form
short_place = plain_pair _ _ short_u32 (plain_pair _ _ short_bytes (plain_pair _ _ short_bytes (plain_pair _ _ short_pairs short_bytes)))

short_streams : Plain streams_form
short_streams = plain_pair _ _ short_flag (plain_pair _ _ short_flag (plain_pair _ _ short_u64 short_bytes))

short_request : Plain request_form
short_request = plain_parts request_of request_parts _ (plain_kinds _ (plain_or _ _ (plain_optional _ short_bytes) (plain_or _ _ (plain_pair _ _ short_place short_streams) (plain_last _ short_bytes))))

short_stream : Plain stream_form
short_stream = free stream_form (λ v. tt)

short_why : Plain why_form
short_why = free why_form (λ v. tt)

pub short_event : Plain event_form
short_event = plain_parts event_of event_parts _ (plain_kinds _
    (plain_or _ _ (plain_pair _ _ short_bytes short_bytes) (plain_or _ _ (plain_pair _ _ short_u32 short_u32)
    (plain_or _ _ (plain_pair _ _ short_u32 (plain_pair _ _ short_stream (plain_pair _ _ short_u64 short_bytes)))
    (plain_or _ _ (plain_pair _ _ short_u32 short_i32) (plain_or _ _ (plain_pair _ _ short_u32 short_why)
    (plain_last _ (plain_pair _ _ short_u32 (plain_pair _ _ short_flag short_bytes)))))))))

-- ---- waits and threads

short_mark : (byte : ℕ) → Plain (mark byte)
short_mark byte = free (mark byte) (λ v. tt)

short_end : Plain end_form
short_end = plain_parts end_of end_parts _ (plain_kinds _ (plain_or _ _ (short_mark 0) (plain_last _ (plain_pair _ _ short_u32 (plain_pair _ _ (short_mark 1) (plain_pair _ _ short_outcome short_u32))))))

short_join : Plain join_form
short_join = plain_parts join_of (λ (j : Join). (j.name, (j.thread, j.ended))) _ (plain_pair _ _ short_bytes (plain_pair _ _ short_u32 short_end))

short_joins : Plain (many join_form)
short_joins = plain_many join_form (λ j. some_text j.name (u32_spelling j.thread ++ end_form.spelling j.ended)) short_join

wait_needs : (w : Wait) → NotReady w → length (wait_form.spelling w) < 2 ^ 32 → NeedsWait w
wait_needs (wait.Ready a) asked lt = asked
wait_needs (wait.Request n) asked lt = tt
wait_needs (wait.Branches js) asked lt = short_joins.needs js tt (omega (arith, lt))

short_wait : Short wait_form NotReady
short_wait = record { needs = wait_needs }

short_ids : Plain (many u32_form)
short_ids = plain_many u32_form (λ n. omega arith) short_u32

short_folders : Plain (many bytes_form)
short_folders = plain_many bytes_form (λ t. some_number (length t) t) short_bytes

short_context : Plain context_form
short_context = plain_parts context_of (λ (c : Context). (c.held, (c.folders, c.env))) _ (plain_pair _ _ short_ids (plain_pair _ _ short_folders short_pairs))

short_frame : Plain frame_form
short_frame = plain_parts frame_of frame_parts _ (plain_pair _ _ short_u8 (plain_pair _ _ short_u32 (plain_pair _ _ short_u32 (plain_pair _ _ short_env short_values))))

short_frames : Plain (many frame_form)
short_frames = plain_many frame_form (λ f. omega arith) short_frame

short_parent : Plain (optional u32_form)
short_parent = plain_optional _ short_u32

abbrev ThreadAsked : List ImageThread → ImageThread → Type 0
ThreadAsked before t = IsTrue (rises lower_thread before t.number) × NotReady t.wait

short_rest : Short rest_of_thread (λ r. Unit {0} × (Unit {0} × (NotReady r.1.1.0 × Unit {0})))
short_rest = short_pair _ _ Nothing (λ r. Unit {0} × (NotReady r.1.0 × Unit {0})) short_parent
    (short_pair _ _ Nothing (λ r. NotReady r.0 × Unit {0}) short_u32 (short_pair _ _ NotReady Nothing short_wait (plain_pair _ _ short_context short_frames)))

short_thread : (before : List ImageThread) → Short (thread_behind before) (ThreadAsked before)
short_thread before = record {
  needs = λ t asked lt.
      let rest : RestOfThread = (t.parent, (t.head, (t.wait, (t.context, t.frames)))) in
      ((asked.0, tt), short_rest.needs rest (tt, (tt, (asked.1, tt))) (omega (arith, length-append (u32_spelling t.number) (rest_of_thread.spelling rest), lt)));
}

thread_bytes : (before : List ImageThread) (t : ImageThread) → 0 < length ((thread_behind before).spelling t)
thread_bytes before t = some_number t.number (rest_of_thread.spelling (t.parent, (t.head, (t.wait, (t.context, t.frames)))))

-- ---- lists of an image

abbrev NameAsked : List Binding → Binding → Type 0
NameAsked before b = IsTrue (rises lower_name before b.name)

short_name : (before : List Binding) → Short (binding_behind before) (NameAsked before)
short_name before = record {
  needs = λ b asked lt. ((asked, short_bytes.needs b.name tt (omega (arith, length-append (u32_spelling (length b.name) ++ b.name) (u32_spelling b.cell), lt))), tt);
}

name_bytes : (before : List Binding) (b : Binding) → 0 < length ((binding_behind before).spelling b)
name_bytes before b = some_text b.name (u32_spelling b.cell)

abbrev OpenAsked : List OpenRequest → OpenRequest → Type 0
OpenAsked before r = IsTrue (rises lower_request before r.number)

short_open : (before : List OpenRequest) → Short (open_behind before) (OpenAsked before)
short_open before = record {
  needs = λ r asked lt.
      let all = length-append (u32_spelling r.number) (u32_spelling r.thread ++ request_form.spelling r.request) in
      let rest = length-append (u32_spelling r.thread) (request_form.spelling r.request) in
      ((asked, tt), (tt, short_request.needs r.request tt (omega (arith, all, rest, lt))));
}

open_bytes : (before : List OpenRequest) (r : OpenRequest) → 0 < length ((open_behind before).spelling r)
open_bytes before r = some_number r.number (u32_spelling r.thread ++ request_form.spelling r.request)

abbrev HeldAsked : List Held → Held → Type 0
HeldAsked before h = IsTrue (rises lower_executor before h.executor)

short_held : (before : List Held) → Short (held_behind before) (HeldAsked before)
short_held before = record { needs = λ h asked lt. ((asked, tt), (tt, tt)) }

held_bytes : (before : List Held) (h : Held) → 0 < length ((held_behind before).spelling h)
held_bytes before h = some_number h.executor (u32_spelling h.request ++ u32_spelling h.workspace)

abbrev NodeAsked : List FlowNode → FlowNode → Type 0
NodeAsked before n = n.id ≡ length before + 2

short_kind : Plain node_kind_form
short_kind = free node_kind_form (λ v. tt)

short_parts : Plain parts_form
short_parts = plain_pair _ _ short_kind (plain_pair _ _ short_bytes (plain_pair _ _ short_u32 short_ids))

short_node : (before : List FlowNode) → Short (node_behind before) (NodeAsked before)
short_node before = record { needs = λ n asked lt. (asked, short_parts.needs (node_parts n) tt lt) }

node_bytes : (before : List FlowNode) (n : FlowNode) → 0 < length ((node_behind before).spelling n)
node_bytes before n = omega arith

short_result : Plain result_form
short_result = free result_form (λ v. tt)

-- ---- whole images

module _ (image : Image) (order : IsInOrder image) where
  abbrev first : List ℕ
  first = first_form.spelling (image_parts image).0

  abbrev other : List ℕ
  other = other_form.spelling (image_parts image).1

  abbrev BindingsAsked : List Binding → Type 0
  BindingsAsked xs = AllBehind NameAsked [] xs

  short_bindings : Short (list_of binding_behind) BindingsAsked
  short_bindings = short_list binding_behind NameAsked name_bytes short_name

  short_first : length first < 2 ^ 32 → first_form.Needs (image_parts image).0
  short_first lt =
      (short_pair _ _ Nothing _ short_u32 (short_pair _ _ Nothing _ short_u32 (short_pair _ _ Nothing _ short_result (short_pair _ _ Nothing _ short_flag
      (short_pair _ _ BindingsAsked Nothing short_bindings short_cells))))).needs
      (image_parts image).0 (tt, (tt, (tt, (tt, (all_rise lower_name (λ (b : Binding). b.name) image.bindings (below_names image.bindings order.names), tt))))) lt

  short_nodes : Short nodes_form (λ xs. AllBehind NodeAsked [] xs)
  short_nodes = short_list node_behind NodeAsked node_bytes short_node

  short_requests : Short (list_of open_behind) (λ xs. AllBehind OpenAsked [] xs)
  short_requests = short_list open_behind OpenAsked open_bytes short_open

  short_holds : Short (list_of held_behind) (λ xs. AllBehind HeldAsked [] xs)
  short_holds = short_list held_behind HeldAsked held_bytes short_held

  short_threads : Short (list_of thread_behind) (λ xs. AllBehind ThreadAsked [] xs)
  short_threads = short_list thread_behind ThreadAsked thread_bytes short_thread

  short_other : length other < 2 ^ 32 → other_form.Needs (image_parts image).1
  short_other lt =
      (short_pair _ _ (λ xs. AllBehind NodeAsked [] xs) _ short_nodes (short_pair _ _ Nothing _ short_bytes (short_pair _ _ (λ xs. AllBehind OpenAsked [] xs) _ short_requests
      (short_pair _ _ (λ xs. AllBehind HeldAsked [] xs) (λ xs. AllBehind ThreadAsked [] xs) short_holds short_threads)))).needs
      (image_parts image).1 (
        counted_behind [] image.nodes 2 (omega arith) order.nodes,
        (
          tt,
          (
            all_rise lower_request (λ (r : OpenRequest). r.number) image.requests (below_numbers (λ (r : OpenRequest). r.number) image.requests order.requests),
            (
              all_rise lower_executor (λ (h : Held). h.executor) image.held (below_numbers (λ (h : Held). h.executor) image.held order.held),
              all_both (λ b t. IsTrue (rises lower_thread b t.number)) (λ b t. NotReady t.wait) [] image.threads
                  (all_rise lower_thread (λ (t : ImageThread). t.number) image.threads (below_numbers (λ (t : ImageThread). t.number) image.threads order.threads))
                  (all_items (λ (t : ImageThread). NotReady t.wait) [] image.threads order.rests),
            ),
          ),
        ),
      )
      lt

  pub short_image : length (image_form.spelling image) < 2 ^ 32 → CanBeWritten image
  short_image lt =
      let both = length-append first other in
      let f = short_first (omega (arith, both, lt)) in
      let o = short_other (omega (arith, both, lt)) in
      record {
        bindings = f.1.1.1.1.0;
        cells = f.1.1.1.1.1;
        nodes = o.0;
        log = o.1.0;
        requests = o.1.1.0;
        held = o.1.1.1.0;
        threads = o.1.1.1.1;
      }

  -- an event and an image whose record is short
  pub short_record : (event : Event) → length (record_form.spelling (record_of event image)) < 2 ^ 32 → event_form.Needs event × CanBeWritten image
  short_record event lt =
      let both = length-append (event_form.spelling event) (image_form.spelling image) in
      (short_event.needs event tt (omega (arith, both, lt)), short_image (omega (arith, both, lt)))
