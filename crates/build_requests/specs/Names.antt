-- The names by which the definitions call the types of `model_run`.
pub use Rattle.model_run.specs.declared.site.Site.{Site}
pub use Rattle.model_run.specs.declared.site.Executor.{Executor}
pub use Rattle.model_run.specs.declared.held.Held.{Held}
pub use Rattle.model_run.specs.declared.request.OpenRequest.{OpenRequest}
pub use Rattle.model_run.specs.declared.request.Request.{Request}
pub use Rattle.model_run.specs.declared.request.Request.TheVariants.{Node as NodeRequest, Task as TaskRequest, Input as InputRequest}
