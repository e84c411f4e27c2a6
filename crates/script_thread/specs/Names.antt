-- The names by which the definitions call the types of `model_run`.
pub use Rattle.model_run.specs.declared.site.Site.{Site}
pub use Rattle.model_run.specs.declared.site.Executor.{Executor}
pub use Rattle.model_run.specs.declared.held.Held.{Held}
pub use Rattle.model_run.specs.declared.request.OpenRequest.{OpenRequest}
pub use Rattle.model_run.specs.declared.request.Request.{Request}
pub use Rattle.model_run.specs.declared.request.Request.TheVariants.{Node as NodeRequest, Task as TaskRequest, Input as InputRequest}
pub use Rattle.model_run.specs.declared.event.Event.{Event}
pub use Rattle.model_run.specs.declared.event.Event.TheVariants.{Start as StartEvent, Granted as GrantedEvent, Output as OutputEvent, Exited as ExitedEvent, Lost as LostEvent, Decided as DecidedEvent}
pub use Rattle.model_run.specs.declared.event.Stream.{Stream}
pub use Rattle.model_run.specs.declared.event.Stream.TheVariants.{Log as LogStream, Out as OutStream}
pub use Rattle.model_run.specs.declared.taken.Taken.{Taken}
pub use Rattle.model_run.specs.declared.taken.Taken.TheVariants.{Accepted, NotOpen, Finished}
pub use Rattle.model_run.specs.declared.wait.Answer.{Answer}
pub use Rattle.model_run.specs.declared.wait.Answer.TheVariants.{Begin, Granted as GrantedAnswer, Done, Decided as DecidedAnswer}
pub use Rattle.model_run.specs.declared.wait.Wait.TheVariants.{Ready}
