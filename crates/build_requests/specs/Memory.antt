-- Which events are answered with memory (this product's own): a grant of an open request of a `node` step and of an executor of the
-- site that is free, since whether that executor fits is read off the request's label.
use Rattle.std.specs.Prelude.{◌≡◌, false, List, Option, Some, None}
use Rattle.model_run.specs.Grants.{executor_of, is_held}
use Rattle.model_run.specs.declared.event.Event.{Event}
use Rattle.model_run.specs.declared.event.Event.TheVariants.{Start as StartEvent, Granted as GrantedEvent, Output as OutputEvent, Exited as ExitedEvent, Lost as LostEvent, Decided as DecidedEvent}
use Rattle.model_run.specs.Taking.{Standing, request_of}
use Rattle.build_requests.specs.Names.{Executor, Held, Request, NodeRequest, TaskRequest, InputRequest}

-- an executor that is there and that no request holds
abbrev pub IsFree : List Held → Option Executor → Type 0
IsFree held None = ⊥
IsFree held (Some x) = is_held held x.number ≡ false

-- a request of a `node` step, which may get this executor if it fits
abbrev pub AsksFit : List Held → Option Executor → Option Request → Type 0
AsksFit held x None = ⊥
AsksFit held x (Some (NodeRequest label)) = IsFree held x
AsksFit held x (Some (TaskRequest executor workspace folder env script status keep_out taken out)) = ⊥
AsksFit held x (Some (InputRequest id)) = ⊥

abbrev pub NeedsMemory : Standing → Event → Type 0
NeedsMemory build (StartEvent script agents) = ⊥
NeedsMemory build (GrantedEvent request executor) = AsksFit build.held (executor_of build.site executor) (request_of build.requests request)
NeedsMemory build (OutputEvent task stream from bytes) = ⊥
NeedsMemory build (ExitedEvent task code) = ⊥
NeedsMemory build (LostEvent task why) = ⊥
NeedsMemory build (DecidedEvent request proceed name) = ⊥
