-- What the events of a build output of a task's streams (this product's own).
use Rattle.std.specs.Prelude.{◌≡◌, ◌<◌, ◌+◌, ℕ, nat_eq, if◌then◌else◌, List, [], ◌∷◌, ◌++◌, length, Some}
use Rattle.model_run.specs.declared.event.Event.{Event}
use Rattle.model_run.specs.declared.event.Event.TheVariants.{Start as StartEvent, Granted as GrantedEvent, Output as OutputEvent, Exited as ExitedEvent, Lost as LostEvent, Decided as DecidedEvent}
use Rattle.model_run.specs.declared.event.Stream.{Stream}
use Rattle.model_run.specs.declared.event.Stream.TheVariants.{Log as LogStream, Out as OutStream}
use Rattle.model_run.specs.declared.request.Request.{Request}
use Rattle.model_run.specs.declared.request.Request.TheVariants.{Node as NodeRequest, Task as TaskRequest, Input as InputRequest}
use Rattle.model_run.specs.State.{Common}
use Rattle.model_run.specs.Taking.{request_of}

-- the bytes, where the streams are the same
abbrev pub if_same : Stream → Stream → List ℕ → List ℕ
if_same LogStream LogStream bytes = bytes
if_same LogStream OutStream bytes = []
if_same OutStream LogStream bytes = []
if_same OutStream OutStream bytes = bytes

-- what an event outputs of this stream of a task
abbrev pub output_in : ℕ → Stream → Event → List ℕ
output_in task stream (OutputEvent t name place bytes) = if nat_eq task t then if_same stream name bytes else []
output_in task stream (StartEvent script agents) = []
output_in task stream (GrantedEvent request executor) = []
output_in task stream (ExitedEvent t code) = []
output_in task stream (LostEvent t why) = []
output_in task stream (DecidedEvent request proceed name) = []

-- what all of these events do, put together
abbrev pub output_of : ℕ → Stream → List Event → List ℕ
output_of task stream [] = []
output_of task stream (e ∷ es) = output_in task stream e ++ output_of task stream es

-- A request later on. Of a task that many bytes more of its log were taken, and these bytes more of its output were kept.
abbrev pub Grows : List ℕ → List ℕ → Request → Request → Type 0
Grows log out (TaskRequest x w f env script status keep taken kept) (TaskRequest x2 w2 f2 env2 script2 status2 keep2 taken2 kept2) = (taken2 ≡ taken + length log) × (kept2 ≡ kept ++ out)
Grows log out (NodeRequest label) (NodeRequest label2) = Unit {0}
Grows log out (InputRequest id) (InputRequest id2) = Unit {0}
Grows log out old new = ⊥

-- What is open now under a number below this one was open before, and grew by what these events output.
abbrev pub GrowsBy : List Event → ℕ → Common → Common → Type 0
GrowsBy events below before now =
    (n : ℕ) (r : Request) → n < below → request_of now.requests n ≡ Some r
    → (q : Request) × (request_of before.requests n ≡ Some q) × Grows (output_of n LogStream events) (output_of n OutStream events) q r

-- The outputs of this stream of a task follow each other: each begins where those before it end, the first of them at this place.
abbrev pub AreInOrder : ℕ → Stream → ℕ → List Event → Type 0
AreInOrder task stream first events =
    (front rest : List Event) (place : ℕ) (bytes : List ℕ) → events ≡ front ++ OutputEvent task stream place bytes ∷ rest → place ≡ first + length (output_of task stream front)
