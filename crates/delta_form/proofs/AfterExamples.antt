-- Small images and deltas, worked out.
use Rattle.std.proofs.Common.{◌≡◌, ℕ, true, false, List, [], ◌∷◌, Some, None, refl}
use Rattle.std.specs.Option.{option_map}
use Rattle.model_values.specs.declared.value.Value.TheVariants.{Null, Bool as Boolean}
use Rattle.model_values.specs.declared.cell.Cell.TheVariants.{Variable}
use Rattle.model_values.specs.declared.cell.Cell.TheVariants as holds
use Rattle.model_values.specs.declared.key.Key.{Key}
use Rattle.model_values.specs.declared.key.Key.TheVariants as key
use Rattle.model_values.specs.declared.value.Value.{Value}
use Rattle.model_values.specs.declared.cell.Binding.{Binding}
use Rattle.model_run.specs.declared.result.BuildResult.TheVariants.{Success}
use Rattle.model_run.specs.declared.flow.NodeKind.TheVariants.{Start, Atom}
use Rattle.model_run.specs.declared.request.OpenRequest.{OpenRequest}
use Rattle.model_run.specs.declared.request.Request.TheVariants as request
use Rattle.model_run.specs.declared.wait.Wait.TheVariants as wait
use Rattle.model_run.specs.declared.context.Context.{Context}
use Rattle.image_form.specs.declared.image.Image.{Image}
use Rattle.image_form.specs.declared.image.ImageFrame.{ImageFrame}
use Rattle.image_form.specs.declared.image.ImageThread.{ImageThread}
use Rattle.delta_form.specs.After.{after}
use Rattle.delta_form.specs.declared.delta.Delta.{Delta}
use Rattle.delta_form.specs.declared.delta.NumberedCell.{NumberedCell}
use Rattle.delta_form.specs.declared.delta.WrittenCell.{WrittenCell}
use Rattle.delta_form.specs.declared.delta.WrittenCell.TheVariants.{Whole, GrownList, GrownMap}
use Rattle.delta_form.specs.declared.delta.WrittenRequest.TheVariants as written
use Rattle.delta_form.specs.declared.delta.WrittenThread.{WrittenThread}

-- the variables `a` and `c` of two cells, a task with the output 7, and a thread with two frames
abbrev variable : ℕ → ℕ → Binding
variable letter cell = record { name = letter ∷ []; cell = cell }

abbrev task : ℕ → List ℕ → OpenRequest
task taken out = record { number = 2; thread = 0; request = request.Task 0 [] [] [] [] false true taken out }

abbrev asked : ℕ → OpenRequest
asked number = record { number = number; thread = 0; request = request.Input (103 ∷ []) }

abbrev frame : ℕ → ImageFrame
frame node = record { kind = 0; node = node; at = 0; env = []; values = [] }

abbrev nowhere : Context
nowhere = record { held = []; folders = []; env = [] }

abbrev thread : ℕ → List ImageFrame → ImageThread
thread number frames = record { number = number; parent = None; head = 2; wait = wait.Request 2; context = nowhere; frames = frames }

abbrev image : Image
image = record {
  next_request = 3;
  next_thread = 1;
  result = Success;
  ended = false;
  bindings = variable 97 0 ∷ variable 99 1 ∷ [];
  cells = Variable Null ∷ Variable Null ∷ [];
  nodes = record { id = 2; kind = Start; name = []; start = 0; parents = [] } ∷ [];
  log = 1 ∷ [];
  requests = task 5 (7 ∷ []) ∷ [];
  held = [];
  threads = thread 0 (frame 1 ∷ frame 2 ∷ []) ∷ [];
}

abbrev nothing : Delta
nothing = record {
  next_request = 3;
  next_thread = 1;
  result = Success;
  ended = false;
  bindings = [];
  cells = [];
  nodes = [];
  log = [];
  closed_requests = [];
  requests = [];
  held = [];
  ended_threads = [];
  threads = [];
}

abbrev kept : ℕ → ℕ → WrittenThread
kept number many = record { number = number; parent = None; head = 2; wait = wait.Request 2; context = nowhere; kept = many; frames = frame 3 ∷ [] }

abbrev changed : ℕ → WrittenCell → NumberedCell
changed number cell = record { number = number; cell = cell }

abbrev cell : ℕ → NumberedCell
cell number = changed number (Whole (Variable (Boolean true)))

-- an image with a list of one value as its cell 0, and a map of one entry as its cell 1
abbrev entry : ℕ → Key × Value
entry letter = (key.Text (letter ∷ []), Null)

abbrev gathered : Image
gathered = record image { cells = holds.List (Null ∷ []) ∷ holds.Map (entry 97 ∷ []) ∷ [] }

-- where nothing changed the image stays
same : after image nothing ≡ Some image
same = refl

-- `b` is put between `a` and `c`, and no second `a` is put anywhere
between : option_map (λ i. i.bindings) (after image (record nothing { bindings = variable 98 1 ∷ [] })) ≡ Some (variable 97 0 ∷ variable 98 1 ∷ variable 99 1 ∷ [])
between = refl

twice : after image (record nothing { bindings = variable 97 1 ∷ [] }) ≡ None
twice = refl

-- cell 1 is replaced, cell 2 is put behind, and cell 5 lies behind a gap
cells : option_map (λ i. i.cells) (after image (record nothing { cells = cell 1 ∷ cell 2 ∷ [] })) ≡ Some (Variable Null ∷ Variable (Boolean true) ∷ Variable (Boolean true) ∷ [])
cells = refl

gap : after image (record nothing { cells = cell 5 ∷ [] }) ≡ None
gap = refl

-- the list and the map have grown
longer : option_map (λ i. i.cells) (after gathered (record nothing { cells = changed 0 (GrownList (Boolean true ∷ Null ∷ [])) ∷ changed 1 (GrownMap (entry 98 ∷ [])) ∷ [] }))
    ≡ Some (holds.List (Null ∷ Boolean true ∷ Null ∷ []) ∷ holds.Map (entry 97 ∷ entry 98 ∷ []) ∷ [])
longer = refl

-- no list grows where a map or no cell stood, no map where a list stood, and no key stands twice
no_list : after gathered (record nothing { cells = changed 1 (GrownList (Null ∷ [])) ∷ [] }) ≡ None
no_list = refl

no_cell : after gathered (record nothing { cells = changed 2 (GrownList (Null ∷ [])) ∷ [] }) ≡ None
no_cell = refl

no_map : after gathered (record nothing { cells = changed 0 (GrownMap (entry 98 ∷ [])) ∷ [] }) ≡ None
no_map = refl

key_twice : after gathered (record nothing { cells = changed 1 (GrownMap (entry 98 ∷ entry 97 ∷ [])) ∷ [] }) ≡ None
key_twice = refl

-- a new flow node has the next number
numbered : option_map (λ i. i.nodes) (after image (record nothing { nodes = record { kind = Atom; name = []; start = 0; parents = 2 ∷ [] } ∷ [] }))
    ≡ Some (record { id = 2; kind = Start; name = []; start = 0; parents = [] } ∷ record { id = 3; kind = Atom; name = []; start = 0; parents = 2 ∷ [] } ∷ [])
numbered = refl

-- the task has grown; a task that is closed does not stand and is not written too, and one that does not stand is neither closed nor grown
grown : option_map (λ i. i.requests) (after image (record nothing { requests = written.Grown 2 9 (8 ∷ []) ∷ [] })) ≡ Some (task 9 (7 ∷ 8 ∷ []) ∷ [])
grown = refl

closed : option_map (λ i. i.requests) (after image (record nothing { closed_requests = 2 ∷ [] })) ≡ Some []
closed = refl

closed_and_written : after image (record nothing { closed_requests = 2 ∷ []; requests = written.Whole (task 5 []) ∷ [] }) ≡ None
closed_and_written = refl

not_there : after image (record nothing { closed_requests = 1 ∷ [] }) ≡ None
not_there = refl

not_grown : after image (record nothing { requests = written.Grown 1 9 [] ∷ [] }) ≡ None
not_grown = refl

-- the thread keeps its first frame, and cannot keep three of two; a new thread keeps none
one_kept : option_map (λ i. i.threads) (after image (record nothing { threads = kept 0 1 ∷ [] })) ≡ Some (thread 0 (frame 1 ∷ frame 3 ∷ []) ∷ [])
one_kept = refl

three_kept : after image (record nothing { threads = kept 0 3 ∷ [] }) ≡ None
three_kept = refl

new_thread : option_map (λ i. i.threads) (after image (record nothing { threads = kept 1 0 ∷ [] })) ≡ Some (thread 0 (frame 1 ∷ frame 2 ∷ []) ∷ thread 1 (frame 3 ∷ []) ∷ [])
new_thread = refl

new_keeps : after image (record nothing { threads = kept 1 1 ∷ [] }) ≡ None
new_keeps = refl

-- a thread that has ended does not stand and is not written too
ended : option_map (λ i. i.threads) (after image (record nothing { ended_threads = 0 ∷ [] })) ≡ Some []
ended = refl

ended_and_written : after image (record nothing { ended_threads = 0 ∷ []; threads = kept 0 1 ∷ [] }) ≡ None
ended_and_written = refl

-- what is no task does not grow, and a new request is put where the numbers rise
no_task : after (record image { requests = asked 2 ∷ [] }) (record nothing { requests = written.Grown 2 9 [] ∷ [] }) ≡ None
no_task = refl

put_between : option_map (λ i. i.requests) (after (record image { requests = asked 1 ∷ asked 5 ∷ [] }) (record nothing { requests = written.Whole (asked 3) ∷ [] })) ≡ Some (asked 1 ∷ asked 3 ∷ asked 5 ∷ [])
put_between = refl

-- the new log stands behind the old one
logged : option_map (λ i. i.log) (after image (record nothing { log = 2 ∷ 3 ∷ [] })) ≡ Some (1 ∷ 2 ∷ 3 ∷ [])
logged = refl

-- lists that do not rise fit no image
same_twice : after image (record nothing { cells = cell 1 ∷ cell 1 ∷ [] }) ≡ None
same_twice = refl

falling : after image (record nothing { bindings = variable 100 1 ∷ variable 98 1 ∷ [] }) ≡ None
falling = refl
