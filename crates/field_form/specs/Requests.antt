-- How requests and held executors are spelled.
use Rattle.std.specs.Prelude.{◌≡◌, ℕ, nat_lt, Bool, List, Option, refl, ◌⊎◌}
use Rattle.std.proofs.Common.{inl, inr}
use Rattle.field_form.specs.Forms.{Form, Lawful, last, ◌or◌, kinds, of_parts, pair, u32_form, u64_form, bytes_form, bool_form, many, admitted, optional}
use Rattle.field_form.specs.FieldLaws.{u32_lawful, u64_lawful, bytes_lawful}
use Rattle.field_form.specs.FormLaws.{last_lawful, or_lawful, kinds_lawful, of_parts_lawful, pair_lawful, many_lawful, admitted_lawful, optional_lawful, bool_lawful}
use Rattle.field_form.specs.Rules.{rises}
use Rattle.model_text.specs.declared.pair.Pair.{Pair}
use Rattle.model_run.specs.declared.request.Request.{Request}
use Rattle.model_run.specs.declared.request.Request.TheVariants as request
use Rattle.model_run.specs.declared.request.OpenRequest.{OpenRequest}
use Rattle.model_run.specs.declared.held.Held.{Held}

-- A pair of texts.
abbrev pub two_texts : List ℕ × List ℕ → Pair
two_texts p = record { name = p.0; value = p.1 }

abbrev pub texts_form : Form Pair
texts_form = of_parts two_texts (λ p. (p.name, p.value)) (pair bytes_form bytes_form)

pub texts_lawful : Lawful texts_form
texts_lawful = of_parts_lawful two_texts (λ (p : Pair). (p.name, p.value)) _ (λ x. refl) (λ p. refl) (pair_lawful _ _ bytes_lawful bytes_lawful)

-- `00` Node (option of label), `01` Task (executor, workspace, folder, list of pairs, script, status u8, keep_out u8, taken u64, out), `02` Input (id).
abbrev pub PlaceParts : Type 0
PlaceParts = ℕ × (List ℕ × (List ℕ × (List Pair × List ℕ)))

abbrev pub StreamParts : Type 0
StreamParts = Bool × (Bool × (ℕ × List ℕ))

abbrev pub place_form : Form PlaceParts
place_form = pair u32_form (pair bytes_form (pair bytes_form (pair (many texts_form) bytes_form)))

abbrev pub streams_form : Form StreamParts
streams_form = pair bool_form (pair bool_form (pair u64_form bytes_form))

task_lawful : Lawful (pair place_form streams_form)
task_lawful = pair_lawful _ _ (pair_lawful _ _ u32_lawful (pair_lawful _ _ bytes_lawful (pair_lawful _ _ bytes_lawful (pair_lawful _ _ (many_lawful _ texts_lawful) bytes_lawful))))
    (pair_lawful _ _ bool_lawful (pair_lawful _ _ bool_lawful (pair_lawful _ _ u64_lawful bytes_lawful)))

abbrev pub RequestParts : Type 0
RequestParts = Option (List ℕ) ⊎ ((PlaceParts × StreamParts) ⊎ List ℕ)

abbrev pub request_of : RequestParts → Request
request_of (inl l) = request.Node l
request_of (inr (inl t)) = request.Task t.0.0 t.0.1.0 t.0.1.1.0 t.0.1.1.1.0 t.0.1.1.1.1 t.1.0 t.1.1.0 t.1.1.1.0 t.1.1.1.1
request_of (inr (inr i)) = request.Input i

abbrev pub request_parts : Request → RequestParts
request_parts (request.Node label) = inl label
request_parts (request.Task executor workspace folder env script status keep_out taken out) = inr (inl ((executor, (workspace, (folder, (env, script)))), (status, (keep_out, (taken, out)))))
request_parts (request.Input id) = inr (inr id)

abbrev pub request_form : Form Request
request_form = of_parts request_of request_parts (kinds (optional bytes_form or pair place_form streams_form or last bytes_form))

request_there : (x : RequestParts) → request_parts (request_of x) ≡ x
request_there (inl l) = refl
request_there (inr (inl t)) = refl
request_there (inr (inr i)) = refl

request_back : (r : Request) → request_of (request_parts r) ≡ r
request_back (request.Node label) = refl
request_back (request.Task executor workspace folder env script status keep_out taken out) = refl
request_back (request.Input id) = refl

pub request_lawful : Lawful request_form
request_lawful = of_parts_lawful request_of request_parts _ request_there request_back (kinds_lawful _ (or_lawful _ _ (optional_lawful _ bytes_lawful) (or_lawful _ _ task_lawful (last_lawful _ bytes_lawful))))

-- Number, thread, then the request.
abbrev pub open_of : ℕ × (ℕ × Request) → OpenRequest
open_of p = record { number = p.0; thread = p.1.0; request = p.1.1 }

abbrev pub open_parts : OpenRequest → ℕ × (ℕ × Request)
open_parts r = (r.number, (r.thread, r.request))

-- Open requests by rising numbers: a number that does not rise is a fault at its place.
abbrev pub lower_request : OpenRequest → ℕ → Bool
lower_request r number = nat_lt r.number number

abbrev pub open_behind : List OpenRequest → Form OpenRequest
open_behind before = of_parts open_of open_parts (pair (admitted (rises lower_request before) u32_form) (pair u32_form request_form))

pub open_behind_lawful : (before : List OpenRequest) → Lawful (open_behind before)
open_behind_lawful before = of_parts_lawful open_of open_parts _ (λ x. refl) (λ r. refl) (pair_lawful _ _ (admitted_lawful (rises lower_request before) _ u32_lawful) (pair_lawful _ _ u32_lawful request_lawful))

-- Held executors: executor, request, workspace number; executors rising.
abbrev pub held_of : ℕ × (ℕ × ℕ) → Held
held_of p = record { executor = p.0; request = p.1.0; workspace = p.1.1 }

abbrev pub held_parts : Held → ℕ × (ℕ × ℕ)
held_parts h = (h.executor, (h.request, h.workspace))

abbrev pub lower_executor : Held → ℕ → Bool
lower_executor h executor = nat_lt h.executor executor

abbrev pub held_behind : List Held → Form Held
held_behind before = of_parts held_of held_parts (pair (admitted (rises lower_executor before) u32_form) (pair u32_form u32_form))

pub held_behind_lawful : (before : List Held) → Lawful (held_behind before)
held_behind_lawful before = of_parts_lawful held_of held_parts _ (λ x. refl) (λ h. refl) (pair_lawful _ _ (admitted_lawful (rises lower_executor before) _ u32_lawful) (pair_lawful _ _ u32_lawful u32_lawful))
