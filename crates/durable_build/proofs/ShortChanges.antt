-- Changes that lead to an image in order can be written, where their payload is short enough.
use Rattle.std.proofs.Common.{◌≡◌, ◌<◌, ◌^◌, ℕ, Bool, true, false, List, [], ◌∷◌, ◌++◌, length, Option, Some, None, refl, sym, ap, ◌∙◌, subst, arith, length-append}
use Rattle.std.specs.Prelude.{IsTrue, ◌&&◌, map, nat_le, if◌then◌else◌, take}
use Rattle.std.specs.List.{AllByRecursion as AllAre}
use Rattle.std.specs.Option.{option_map, option_to_list}
use Rattle.std.specs.Ordering.{is_lt, nat_cmp, on}
use Rattle.std.specs.Cmp.Lexicographic.{slice_cmp}
use Rattle.std.specs.declared.cmp.Ordering.{Ordering}
use Rattle.std.specs.declared.cmp.Ordering.TheVariants.{Less}
use Rattle.std.proofs.lemmas.Bool.{lt-ltb}
use Rattle.byte_form.specs.Fields.{u32_spelling, u64_spelling}
use Rattle.field_form.specs.Forms.{u8_form, u32_form, u64_form, i32_form, bool_form, bytes_form, mark, optional, AllBehind, spelled, list_of, many}
use Rattle.field_form.specs.Rules.{rises}
use Rattle.field_form.specs.Values.{value_form, value_of, value_parts, outcome_form, outcome_of, outcome_parts, key_form, key_of, key_parts, binding_form, binding_of, env_form}
use Rattle.field_form.specs.Cells.{class_form, entry_form, entry_behind, entries_form}
use Rattle.field_form.specs.Flow.{parts_form, node_kind_form}
use Rattle.field_form.specs.Requests.{texts_form, place_form, streams_form, request_form, request_of, request_parts, held_behind, lower_executor}
use Rattle.field_form.specs.Waits.{end_form, end_of, end_parts, join_form, join_of, wait_form, NeedsWait, context_form, context_of}
use Rattle.field_form.specs.Events.{event_form}
use Rattle.image_form.specs.Images.{result_form, frame_form, frame_of, frame_parts, binding_behind, lower_name}
use Rattle.image_form.specs.declared.image.Image.{Image}
use Rattle.image_form.specs.declared.image.ImageThread.{ImageThread}
use Rattle.model_values.specs.declared.key.Key.{Key}
use Rattle.model_values.specs.declared.value.Value.{Value}
use Rattle.model_values.specs.declared.cell.Binding.{Binding}
use Rattle.model_values.specs.declared.cell.Cell.{Cell}
use Rattle.model_run.specs.declared.flow.FlowNode.{FlowNode}
use Rattle.model_run.specs.declared.request.OpenRequest.{OpenRequest}
use Rattle.model_run.specs.declared.event.Event.{Event}
use Rattle.model_run.specs.declared.held.Held.{Held}
use Rattle.model_run.specs.declared.context.Context.{Context}
use Rattle.model_run.specs.declared.wait.Join.{Join}
use Rattle.model_run.specs.declared.wait.Wait.{Wait}
use Rattle.model_run.specs.declared.wait.Wait.TheVariants as wait
use Rattle.model_run.specs.Fitting.{NotReady}
use Rattle.delta_records.specs.Lower.record_form.Ordered.{IsInOrder}
use Rattle.delta_records.proofs.Lower.record_form.Short.{Short, Nothing, Plain, free, short_bytes, short_pair, plain_pair, plain_parts, plain_last, plain_or, plain_kinds, plain_nothing, plain_optional, items_few, short_list, plain_many}
use Rattle.delta_records.proofs.Lower.record_form.ShortImages.{short_event}
use Rattle.delta_records.proofs.Lower.record_form.Rising.{EachBelow as EachLower, all_rise, below_numbers, all_both, all_items}
use Rattle.delta_records.specs.Lower.delta_form.After.{IsInOrder as IsDeltaInOrder, after, are_apart, binding_changes, gone, frames_of, in_order, put_cell, put_node, requests_after, thread_changes, thread_with, threads_after, with_changes, written_thread}
use Rattle.delta_records.specs.Lower.delta_form.Applying.{◌>>=◌, in_turn}
use Rattle.delta_records.specs.Lower.delta_form.Changes.{EachBelow, Parted, by_number, changed, merged, parted, rising}
use Rattle.delta_records.specs.Lower.delta_form.ChangeLaws.{threads_keyed}
use Rattle.delta_records.specs.Lower.delta_form.Deltas.{CanBeWritten, RestOfThread, cell_behind, delta_form, delta_parts, first_form, new_node_form, new_node_of, new_node_parts, number_behind, other_form, request_behind, rest_of_thread, written_behind}
use Rattle.delta_records.specs.Lower.delta_form.Numbers.{has_lower, written_number}
use Rattle.delta_records.specs.Lower.delta_form.WrittenCells.{written_cell_form, written_cell_of, written_cell_parts}
use Rattle.delta_records.specs.Lower.delta_form.declared.delta.Delta.{Delta}
use Rattle.delta_records.specs.Lower.delta_form.declared.delta.NumberedCell.{NumberedCell}
use Rattle.delta_records.specs.Lower.delta_form.declared.delta.WrittenRequest.{WrittenRequest}
use Rattle.delta_records.specs.Lower.delta_form.declared.delta.WrittenRequest.TheVariants as written
use Rattle.delta_records.specs.Lower.delta_form.declared.delta.WrittenThread.{WrittenThread}
use Rattle.delta_records.specs.Lower.delta_form.declared.refusal.DeltaRefusal.TheVariants.{Fault}
use Rattle.delta_records.proofs.Lower.delta_form.InOrder.{is_in_order}
use Rattle.delta_records.proofs.Lower.delta_form.Orders.{less}
use Rattle.delta_records.proofs.Lower.delta_form.Walks.{walk_ends, walk_refused}
use Rattle.delta_records.specs.Payloads.{CanBeWritten as PayloadCanBeWritten, payload_form}
use Rattle.delta_records.specs.declared.payload.Payload.TheVariants as payload

-- ---- forms that need nothing besides being short (as those of a whole image do, which record_form shows of them together)

short_u32 : Plain u32_form
short_u32 = free u32_form (λ v. tt)

short_u8 : Plain u8_form
short_u8 = free u8_form (λ v. tt)

short_u64 : Plain u64_form
short_u64 = free u64_form (λ v. tt)

short_i32 : Plain i32_form
short_i32 = free i32_form (λ v. tt)

short_flag : Plain bool_form
short_flag = free bool_form (λ v. tt)

-- ---- values

short_value : Plain value_form
short_value = plain_parts value_of value_parts _ (plain_kinds _ (plain_or _ _ plain_nothing (plain_or _ _ plain_nothing (plain_or _ _ plain_nothing (plain_or _ _ short_i32 (plain_last _ short_u32))))))

short_outcome : Plain outcome_form
short_outcome = plain_parts outcome_of outcome_parts _ (plain_kinds _ (plain_or _ _ short_value (plain_last _ short_u32)))

short_key : Plain key_form
short_key = plain_parts key_of key_parts _ (plain_kinds _ (plain_or _ _ short_i32 (plain_last _ short_bytes)))

short_binding : Plain binding_form
short_binding = plain_parts binding_of (λ (b : Binding). (b.name, b.cell)) _ (plain_pair _ _ short_bytes short_u32)

-- a number stands in front of each
some_number : (n : ℕ) (rest : List ℕ) → 0 < length (u32_spelling n ++ rest)
some_number n rest = omega (arith, length-append (u32_spelling n) rest)

some_text : (text rest : List ℕ) → 0 < length ((u32_spelling (length text) ++ text) ++ rest)
some_text text rest = omega (arith, length-append (u32_spelling (length text) ++ text) rest, length-append (u32_spelling (length text)) text)

short_env : Plain env_form
short_env = plain_many binding_form (λ b. some_text b.name (u32_spelling b.cell)) short_binding

short_values : Plain (many value_form)
short_values = plain_many value_form (λ v. omega arith) short_value

-- ---- cells

short_entry : Plain entry_form
short_entry = plain_pair _ _ short_key short_value

entries_all : (before es : List (Key × Value)) → length (spelled entry_behind before es) < 2 ^ 32 → AllAre entry_form.Needs es
entries_all before [] lt = tt
entries_all before (e ∷ es) lt =
    let both = length-append (entry_form.spelling e) (spelled entry_behind (before ++ e ∷ []) es) in
    (short_entry.needs e tt (omega (arith, both, lt)), entries_all (before ++ e ∷ []) es (omega (arith, both, lt)))

entry_bytes : (before : List (Key × Value)) (e : Key × Value) → 0 < length ((entry_behind before).spelling e)
entry_bytes before e = omega (arith, length-append (key_form.spelling e.0) (value_form.spelling e.1))

short_entries : Plain entries_form
short_entries = record {
  needs = λ es asked lt.
      let both = length-append (u32_spelling (length es)) (spelled entry_behind [] es) in
      (omega (arith, both, lt, items_few entry_behind entry_bytes [] es), entries_all [] es (omega (arith, both, lt)));
}

short_class : Plain class_form
short_class = free class_form (λ v. tt)

-- whole ones, and lists and maps that have grown
short_written_cell : Plain written_cell_form
short_written_cell = plain_parts written_cell_of written_cell_parts _ (plain_kinds _
    (plain_or _ _ short_value (plain_or _ _ short_bytes (plain_or _ _ short_values (plain_or _ _ short_entries
    (plain_or _ _ (plain_pair _ _ short_u32 short_env) (plain_or _ _ (plain_pair _ _ short_class (plain_optional _ short_bytes))
    (plain_or _ _ short_values (plain_last _ short_entries)))))))))

-- ---- requests and events

short_texts : Plain texts_form
short_texts = record { needs = λ p asked lt. (plain_pair bytes_form bytes_form short_bytes short_bytes).needs (p.name, p.value) tt lt }

short_pairs : Plain (many texts_form)
short_pairs = plain_many texts_form (λ p. some_text p.name (u32_spelling (length p.value) ++ p.value)) short_texts

short_place : Plain place_form
short_place = plain_pair _ _ short_u32 (plain_pair _ _ short_bytes (plain_pair _ _ short_bytes (plain_pair _ _ short_pairs short_bytes)))

short_streams : Plain streams_form
short_streams = plain_pair _ _ short_flag (plain_pair _ _ short_flag (plain_pair _ _ short_u64 short_bytes))

short_request : Plain request_form
short_request = plain_parts request_of request_parts _ (plain_kinds _ (plain_or _ _ (plain_optional _ short_bytes) (plain_or _ _ (plain_pair _ _ short_place short_streams) (plain_last _ short_bytes))))

short_mark : (byte : ℕ) → Plain (mark byte)
short_mark byte = free (mark byte) (λ v. tt)

short_end : Plain end_form
short_end = plain_parts end_of end_parts _ (plain_kinds _ (plain_or _ _ (short_mark 0) (plain_last _ (plain_pair _ _ short_u32 (plain_pair _ _ (short_mark 1) (plain_pair _ _ short_outcome short_u32))))))

short_join : Plain join_form
short_join = plain_parts join_of (λ (j : Join). (j.name, (j.thread, j.ended))) _ (plain_pair _ _ short_bytes (plain_pair _ _ short_u32 short_end))

short_joins : Plain (many join_form)
short_joins = plain_many join_form (λ j. some_text j.name (u32_spelling j.thread ++ end_form.spelling j.ended)) short_join

wait_needs : (w : Wait) → NotReady w → length (wait_form.spelling w) < 2 ^ 32 → NeedsWait w
wait_needs (wait.Ready a) asked lt = asked
wait_needs (wait.Request n) asked lt = tt
wait_needs (wait.Branches js) asked lt = short_joins.needs js tt (omega (arith, lt))

short_wait : Short wait_form NotReady
short_wait = record { needs = wait_needs }

short_ids : Plain (many u32_form)
short_ids = plain_many u32_form (λ n. omega arith) short_u32

short_folders : Plain (many bytes_form)
short_folders = plain_many bytes_form (λ t. some_number (length t) t) short_bytes

short_context : Plain context_form
short_context = plain_parts context_of (λ (c : Context). (c.held, (c.folders, c.env))) _ (plain_pair _ _ short_ids (plain_pair _ _ short_folders short_pairs))

short_frame : Plain frame_form
short_frame = plain_parts frame_of frame_parts _ (plain_pair _ _ short_u8 (plain_pair _ _ short_u32 (plain_pair _ _ short_u32 (plain_pair _ _ short_env short_values))))

short_frames : Plain (many frame_form)
short_frames = plain_many frame_form (λ f. omega arith) short_frame

short_parent : Plain (optional u32_form)
short_parent = plain_optional _ short_u32

abbrev NameAsked : List Binding → Binding → Type 0
NameAsked before b = IsTrue (rises lower_name before b.name)

short_name : (before : List Binding) → Short (binding_behind before) (NameAsked before)
short_name before = record {
  needs = λ b asked lt. ((asked, short_bytes.needs b.name tt (omega (arith, length-append (u32_spelling (length b.name) ++ b.name) (u32_spelling b.cell), lt))), tt);
}

name_bytes : (before : List Binding) (b : Binding) → 0 < length ((binding_behind before).spelling b)
name_bytes before b = some_text b.name (u32_spelling b.cell)

abbrev HeldAsked : List Held → Held → Type 0
HeldAsked before h = IsTrue (rises lower_executor before h.executor)

short_held : (before : List Held) → Short (held_behind before) (HeldAsked before)
short_held before = record { needs = λ h asked lt. ((asked, tt), (tt, tt)) }

held_bytes : (before : List Held) (h : Held) → 0 < length ((held_behind before).spelling h)
held_bytes before h = some_number h.executor (u32_spelling h.request ++ u32_spelling h.workspace)

short_kind : Plain node_kind_form
short_kind = free node_kind_form (λ v. tt)

short_parts : Plain parts_form
short_parts = plain_pair _ _ short_kind (plain_pair _ _ short_bytes (plain_pair _ _ short_u32 short_ids))

short_result : Plain result_form
short_result = free result_form (λ v. tt)

-- ---- what rises

lower_numbers : {V : Type 0} (number : V → ℕ) (xs : List V) → EachBelow (λ c d. nat_cmp (number c) (number d)) xs → EachLower (has_lower number) number xs
lower_numbers number [] each = tt
lower_numbers number (x ∷ []) each = tt
lower_numbers number (x ∷ y ∷ ys) each = (lt-ltb (number x) (number y) (less (number x) (number y) each.0), lower_numbers number (y ∷ ys) each.1)

lower_names : (bs : List Binding) → EachBelow (on (λ b. b.name) (slice_cmp nat_cmp)) bs → EachLower lower_name (λ b. b.name) bs
lower_names [] each = tt
lower_names (b ∷ []) each = tt
lower_names (b ∷ c ∷ bs) each = (ap is_lt each.0, lower_names (c ∷ bs) each.1)

-- ---- lists of a delta

abbrev NumberAsked : {V : Type 0} → (V → ℕ) → List V → V → Type 0
NumberAsked number before x = IsTrue (rises (has_lower number) before (number x))

short_number : (before : List ℕ) → Short (number_behind before) (NumberAsked (λ n. n) before)
short_number before = record { needs = λ n asked lt. (asked, tt) }

short_numbers : Short (list_of number_behind) (λ ns. AllBehind (NumberAsked (λ n. n)) [] ns)
short_numbers = short_list number_behind (NumberAsked (λ n. n)) (λ before n. omega arith) short_number

short_numbered : (before : List NumberedCell) → Short (cell_behind before) (NumberAsked (λ c. c.number) before)
short_numbered before = record { needs = λ c asked lt. ((asked, tt), short_written_cell.needs c.cell tt (omega (arith, length-append (u32_spelling c.number) (written_cell_form.spelling c.cell), lt))) }

short_numbered_cells : Short (list_of cell_behind) (λ cs. AllBehind (NumberAsked (λ c. c.number)) [] cs)
short_numbered_cells = short_list cell_behind (NumberAsked (λ c. c.number)) (λ before c. some_number c.number (written_cell_form.spelling c.cell)) short_numbered

short_bindings : Short (list_of binding_behind) (λ bs. AllBehind NameAsked [] bs)
short_bindings = short_list binding_behind NameAsked name_bytes short_name

short_new : Plain new_node_form
short_new = plain_parts new_node_of new_node_parts _ short_parts

short_new_nodes : Plain (many new_node_form)
short_new_nodes = plain_many new_node_form (λ n. omega arith) short_new

written_needs : (before : List WrittenRequest) (w : WrittenRequest) → NumberAsked written_number before w → length ((request_behind before).spelling w) < 2 ^ 32 → (request_behind before).Needs w
written_needs before (written.Whole r) asked lt =
    let all = length-append (u32_spelling r.number) (u32_spelling r.thread ++ request_form.spelling r.request) in
    let rest = length-append (u32_spelling r.thread) (request_form.spelling r.request) in
    ((asked, tt), (tt, short_request.needs r.request tt (omega (arith, all, rest, lt))))
written_needs before (written.Grown number taken out) asked lt =
    let bytes = u32_spelling (length out) ++ out in
    let all = length-append (u32_spelling number) (u64_spelling taken ++ bytes) in
    let rest = length-append (u64_spelling taken) bytes in
    ((asked, tt), (tt, short_bytes.needs out tt (omega (arith, all, rest, lt))))

short_written : (before : List WrittenRequest) → Short (request_behind before) (NumberAsked written_number before)
short_written before = record { needs = written_needs before }

written_bytes : (before : List WrittenRequest) (w : WrittenRequest) → 0 < length ((request_behind before).spelling w)
written_bytes before (written.Whole r) = omega arith
written_bytes before (written.Grown number taken out) = omega arith

short_requests : Short (list_of request_behind) (λ ws. AllBehind (NumberAsked written_number) [] ws)
short_requests = short_list request_behind (NumberAsked written_number) written_bytes short_written

short_holds : Short (list_of held_behind) (λ hs. AllBehind HeldAsked [] hs)
short_holds = short_list held_behind HeldAsked held_bytes short_held

abbrev ThreadAsked : List WrittenThread → WrittenThread → Type 0
ThreadAsked before w = NumberAsked (λ t. t.number) before w × NotReady w.wait

short_rest : Short rest_of_thread (λ r. Unit {0} × (Unit {0} × (NotReady r.1.1.0 × Unit {0})))
short_rest = short_pair _ _ Nothing (λ r. Unit {0} × (NotReady r.1.0 × Unit {0})) short_parent
    (short_pair _ _ Nothing (λ r. NotReady r.0 × Unit {0}) short_u32 (short_pair _ _ NotReady Nothing short_wait (plain_pair _ _ short_context (plain_pair _ _ short_u32 short_frames))))

short_thread : (before : List WrittenThread) → Short (written_behind before) (ThreadAsked before)
short_thread before = record {
  needs = λ w asked lt.
      let rest : RestOfThread = (w.parent, (w.head, (w.wait, (w.context, (w.kept, w.frames))))) in
      ((asked.0, tt), short_rest.needs rest (tt, (tt, (asked.1, tt))) (omega (arith, length-append (u32_spelling w.number) (rest_of_thread.spelling rest), lt)));
}

thread_bytes : (before : List WrittenThread) (w : WrittenThread) → 0 < length ((written_behind before).spelling w)
thread_bytes before w = some_number w.number (rest_of_thread.spelling (w.parent, (w.head, (w.wait, (w.context, (w.kept, w.frames))))))

short_threads : Short (list_of written_behind) (λ ws. AllBehind ThreadAsked [] ws)
short_threads = short_list written_behind ThreadAsked thread_bytes short_thread

-- ---- a written thread waits as the thread does that it makes

all_front : {A : Type 0} (P : A → Type 0) (xs ys : List A) → AllAre P (xs ++ ys) → AllAre P xs
all_front P [] ys all = tt
all_front P (x ∷ xs) ys all = (all.0, all_front P xs ys all.1)

all_back : {A : Type 0} (P : A → Type 0) (xs ys : List A) → AllAre P (xs ++ ys) → AllAre P ys
all_back P [] ys all = all
all_back P (x ∷ xs) ys all = all_back P xs ys all.1

abbrev Rests : ImageThread → Type 0
Rests t = NotReady t.wait

abbrev WillRest : WrittenThread → Type 0
WillRest w = NotReady w.wait

made_rests : (w : WrittenThread) (stood y : Option ImageThread) → written_thread w stood ≡ Some y → AllAre Rests (option_to_list y) → WillRest w
made_rests w stood y made rests = go (nat_le w.kept (length (frames_of stood))) made
  where
    go : (b : Bool) → (if b then Some (Some (thread_with w (take w.kept (frames_of stood)))) else None) ≡ Some y → WillRest w
    go true is = let same : Some (thread_with w (take w.kept (frames_of stood))) ≡ y = cc in (subst (λ (o : Option ImageThread). AllAre Rests (option_to_list o)) (sym same) rests).0
    go false is = absurd (cc)

abbrev beside : List ImageThread → List ImageThread → List ImageThread × List ImageThread
beside xs ys = (xs, ys)

-- what a walk over threads has done has all that it has written
abbrev HasWritten : List WrittenThread → List ImageThread → List ImageThread → List ImageThread → List ImageThread → Type 0
HasWritten ws done xs front rest = in_turn (merged thread_changes) ws (done, xs) ≡ Some (front, rest) → AllAre Rests front → AllAre Rests done × AllAre WillRest ws

one_written : (w : WrittenThread) (ws : List WrittenThread) (done front rest : List ImageThread) (p : Parted ImageThread) → AllAre Rests front → ((now left : List ImageThread) → HasWritten ws now left front rest)
    → (o : Option (Option ImageThread)) → written_thread w p.1.0 ≡ o
    → (option_map (λ h. beside (done ++ h.0) h.1) (option_map (λ y. beside (p.0 ++ option_to_list y) p.1.1) o) >>= in_turn (merged thread_changes) ws) ≡ Some (front, rest) → AllAre Rests done × AllAre WillRest (w ∷ ws)
one_written w ws done front rest p all next None made is = absurd (cc)
one_written w ws done front rest p all next (Some y) made is =
    let more = next (done ++ (p.0 ++ option_to_list y)) p.1.1 is all in
    let behind = all_back Rests done (p.0 ++ option_to_list y) more.0 in
    (all_front Rests done (p.0 ++ option_to_list y) more.0, (made_rests w p.1.0 y made (all_back Rests p.0 (option_to_list y) behind), more.1))

walked_rests : (ws : List WrittenThread) (done xs front rest : List ImageThread) → HasWritten ws done xs front rest
walked_rests [] done xs front rest is all =
    let both : beside done xs ≡ beside front rest = cc in
    (subst (AllAre Rests) (sym (ap (λ (p : List ImageThread × List ImageThread). p.0) both)) all, tt)
walked_rests (w ∷ ws) done xs front rest is all =
    let p = parted (λ x. thread_changes.compare x w) xs in
    one_written w ws done front rest p all (λ now left. walked_rests ws now left front rest) (written_thread w p.1.0) refl is

changed_rests : (ws : List WrittenThread) (xs ys : List ImageThread) → EachBelow thread_changes.order ws → changed thread_changes ws xs ≡ Some ys → AllAre Rests ys → AllAre WillRest ws
changed_rests ws xs ys each is all = go (in_turn (merged thread_changes) ws ([], xs)) refl
  where
    go : (o : Option (List ImageThread × List ImageThread)) → in_turn (merged thread_changes) ws ([], xs) ≡ o → AllAre WillRest ws
    go None none =
        let refused : changed thread_changes ws xs ≡ None = walk_refused thread_changes threads_keyed ws [] xs xs Fault refl refl each none in
        let bad : None ≡ Some ys = sym refused ∙ is in absurd (cc)
    go (Some m) made =
        let ends : changed thread_changes ws xs ≡ Some (m.0 ++ m.1) = walk_ends thread_changes threads_keyed ws [] xs xs m.0 m.1 (m.0 ++ m.1) refl refl each made refl in
        let same : Some (m.0 ++ m.1) ≡ Some ys = sym ends ∙ is in
        let all_same : m.0 ++ m.1 ≡ ys = cc in
        (walked_rests ws [] xs m.0 m.1 made (all_front Rests m.0 m.1 (subst (AllAre Rests) (sym all_same) all))).1

-- ---- the parts of the image that a delta makes

bind_some : {A B : Type 0} (o : Option A) (f : A → Option B) (y : B) → (o >>= f) ≡ Some y → (x : A) × (o ≡ Some x) × (f x ≡ Some y)
bind_some None f y is = absurd (cc)
bind_some (Some x) f y is = (x, refl, is)

some_is : {A : Type 0} (x y : A) → Some x ≡ Some y → x ≡ y
some_is x y e = cc

if_some : {A : Type 0} (b : Bool) (o : Option A) (y : A) → (if b then o else None) ≡ Some y → (b ≡ true) × (o ≡ Some y)
if_some true o y is = (refl, is)
if_some false o y is = absurd (cc)

pub record Made (d : Delta) (now : Image) : Type 0 where
  pub order : in_order d ≡ true
  pub held : d.held ≡ now.held
  pub left : List ImageThread
  pub threads : changed thread_changes d.threads left ≡ Some now.threads

module _ (before now : Image) (d : Delta) where
  abbrev image_with : List Binding → List Cell → List FlowNode → List OpenRequest → List ImageThread → Image
  image_with bindings cells nodes requests threads = record {
    next_request = d.next_request;
    next_thread = d.next_thread;
    result = d.result;
    ended = d.ended;
    bindings = bindings;
    cells = cells;
    nodes = nodes;
    log = before.log ++ d.log;
    requests = requests;
    held = d.held;
    threads = threads;
  }

  abbrev with_requests : List Binding → List Cell → List FlowNode → List OpenRequest → Option Image
  with_requests b c n r = threads_after d.ended_threads d.threads before.threads >>= λ t. Some (image_with b c n r t)

  abbrev with_nodes : List Binding → List Cell → List FlowNode → Option Image
  with_nodes b c n = requests_after d.closed_requests d.requests before.requests >>= with_requests b c n

  abbrev with_cells : List Binding → List Cell → Option Image
  with_cells b c = in_turn put_node d.nodes before.nodes >>= with_nodes b c

  abbrev with_bindings : List Binding → Option Image
  with_bindings b = in_turn put_cell d.cells before.cells >>= with_cells b

  made_by : after before d ≡ Some now → Made d now
  made_by is =
      let a = if_some (in_order d) (with_changes before d) now is in
      let b = bind_some (changed binding_changes d.bindings before.bindings) with_bindings now a.1 in
      let c = bind_some (in_turn put_cell d.cells before.cells) (with_cells b.0) now b.2 in
      let n = bind_some (in_turn put_node d.nodes before.nodes) (with_nodes b.0 c.0) now c.2 in
      let r = bind_some (requests_after d.closed_requests d.requests before.requests) (with_requests b.0 c.0 n.0) now n.2 in
      let t = bind_some (threads_after d.ended_threads d.threads before.threads) (λ (x : List ImageThread). Some (image_with b.0 c.0 n.0 r.0 x)) now r.2 in
      let gone_ones = changed (by_number (λ (x : ImageThread). x.number) (λ (k : ℕ). k) gone) d.ended_threads before.threads in
      let g = if_some (are_apart d.ended_threads (map (λ (w : WrittenThread). w.number) d.threads)) (gone_ones >>= changed thread_changes d.threads) t.0 t.1 in
      let l = bind_some gone_ones (changed thread_changes d.threads) t.0 g.1 in
      let same : image_with b.0 c.0 n.0 r.0 t.0 ≡ now = some_is (image_with b.0 c.0 n.0 r.0 t.0) now t.2 in
      record { order = a.0; held = ap (λ (i : Image). i.held) same; left = l.0; threads = l.2 ∙ ap (λ (i : Image). Some i.threads) same }

-- ---- the whole

both : (a b : Bool) → (a && b) ≡ true → (a ≡ true) × (b ≡ true)
both true b e = (refl, e)
both false b e = absurd (cc)

is_less : (o : Ordering) → is_lt o ≡ true → o ≡ Less
is_less Less e = refl
is_less o e = absurd (cc)

each_below : {C : Type 0} (order : C → C → Ordering) (cs : List C) → rising order cs ≡ true → EachBelow order cs
each_below order [] e = tt
each_below order (c ∷ []) e = tt
each_below order (c ∷ d ∷ ds) e = let p = both (is_lt (order c d)) (rising order (d ∷ ds)) e in (is_less (order c d) p.0, each_below order (d ∷ ds) p.1)

cells_below : (d : Delta) → in_order d ≡ true → EachBelow (on (λ c. c.number) nat_cmp) d.cells
cells_below d e =
    let names = rising (on (λ b. b.name) (slice_cmp nat_cmp)) d.bindings in
    let cells = rising (on (λ c. c.number) nat_cmp) d.cells in
    let closed = rising nat_cmp d.closed_requests in
    let requests = rising (on written_number nat_cmp) d.requests in
    let held = rising (on (λ h. h.executor) nat_cmp) d.held in
    let ended = rising nat_cmp d.ended_threads in
    let threads = rising (on (λ w. w.number) nat_cmp) d.threads in
    let p = both (names && cells && closed && requests && held && ended) threads e in
    let q = both (names && cells && closed && requests && held) ended p.0 in
    let r = both (names && cells && closed && requests) held q.0 in
    let s = both (names && cells && closed) requests r.0 in
    let t = both (names && cells) closed s.0 in
    each_below (on (λ c. c.number) nat_cmp) d.cells (both names cells t.0).1

module _ (d : Delta) (now : Image) (made : Made d now) (image : IsInOrder now) where
  order : IsDeltaInOrder d
  order = is_in_order d made.order

  abbrev first : List ℕ
  first = first_form.spelling (delta_parts d).0

  abbrev other : List ℕ
  other = other_form.spelling (delta_parts d).1

  names_asked : AllBehind NameAsked [] d.bindings
  names_asked = all_rise lower_name (λ (b : Binding). b.name) d.bindings (lower_names d.bindings order.bindings)

  cells_asked : AllBehind (NumberAsked (λ c. c.number)) [] d.cells
  cells_asked = all_rise (has_lower (λ (c : NumberedCell). c.number)) (λ (c : NumberedCell). c.number) d.cells (lower_numbers (λ (c : NumberedCell). c.number) d.cells (cells_below d made.order))

  numbers_asked : (ns : List ℕ) → EachBelow nat_cmp ns → AllBehind (NumberAsked (λ n. n)) [] ns
  numbers_asked ns each = all_rise (has_lower (λ (n : ℕ). n)) (λ (n : ℕ). n) ns (lower_numbers (λ (n : ℕ). n) ns each)

  requests_asked : AllBehind (NumberAsked written_number) [] d.requests
  requests_asked = all_rise (has_lower written_number) written_number d.requests (lower_numbers written_number d.requests order.requests)

  held_asked : AllBehind HeldAsked [] d.held
  held_asked = subst (AllBehind HeldAsked []) (sym made.held) (all_rise lower_executor (λ (h : Held). h.executor) now.held (below_numbers (λ (h : Held). h.executor) now.held image.held))

  threads_asked : AllBehind ThreadAsked [] d.threads
  threads_asked = all_both (NumberAsked (λ t. t.number)) (λ b w. NotReady w.wait) [] d.threads
      (all_rise (has_lower (λ (w : WrittenThread). w.number)) (λ (w : WrittenThread). w.number) d.threads (lower_numbers (λ (w : WrittenThread). w.number) d.threads order.threads))
      (all_items WillRest [] d.threads (changed_rests d.threads made.left now.threads order.threads made.threads image.rests))

  short_first : length first < 2 ^ 32 → first_form.Needs (delta_parts d).0
  short_first lt =
      (short_pair _ _ Nothing _ short_u32 (short_pair _ _ Nothing _ short_u32 (short_pair _ _ Nothing _ short_result (short_pair _ _ Nothing _ short_flag
      (short_pair _ _ (λ bs. AllBehind NameAsked [] bs) (λ cs. AllBehind (NumberAsked (λ c. c.number)) [] cs) short_bindings short_numbered_cells))))).needs
      (delta_parts d).0 (tt, (tt, (tt, (tt, (names_asked, cells_asked))))) lt

  short_other : length other < 2 ^ 32 → other_form.Needs (delta_parts d).1
  short_other lt =
      (short_pair _ _ Nothing _ short_new_nodes (short_pair _ _ Nothing _ short_bytes (short_pair _ _ (λ ns. AllBehind (NumberAsked (λ n. n)) [] ns) _ short_numbers
      (short_pair _ _ (λ ws. AllBehind (NumberAsked written_number) [] ws) _ short_requests (short_pair _ _ (λ hs. AllBehind HeldAsked [] hs) _ short_holds
      (short_pair _ _ (λ ns. AllBehind (NumberAsked (λ n. n)) [] ns) (λ ws. AllBehind ThreadAsked [] ws) short_numbers short_threads)))))).needs
      (delta_parts d).1 (tt, (tt, (numbers_asked d.closed_requests order.closed_requests, (requests_asked, (held_asked, (numbers_asked d.ended_threads order.ended_threads, threads_asked)))))) lt

  short_delta : length (delta_form.spelling d) < 2 ^ 32 → CanBeWritten d
  short_delta lt =
      let lengths = length-append first other in
      let f = short_first (omega (arith, lengths, lt)) in
      let o = short_other (omega (arith, lengths, lt)) in
      record {
        bindings = f.1.1.1.1.0;
        cells = f.1.1.1.1.1;
        nodes = o.0;
        log = o.1.0;
        closed_requests = o.1.1.0;
        requests = o.1.1.1.0;
        held = o.1.1.1.1.0;
        ended_threads = o.1.1.1.1.1.0;
        threads = o.1.1.1.1.1.1;
      }

-- an event and changes whose payload is short
pub short_changed : (e : Event) (before now : Image) (d : Delta) → after before d ≡ Some now → IsInOrder now → length (payload_form.spelling (payload.Changed e d)) < 2 ^ 32 → PayloadCanBeWritten (payload.Changed e d)
short_changed e before now d is image lt =
    let lengths = length-append (event_form.spelling e) (delta_form.spelling d) in
    (short_event.needs e tt (omega (arith, lengths, lt)), short_delta d now (made_by before now d is) image (omega (arith, lengths, lt)))
