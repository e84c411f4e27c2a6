-- What an image keeps that stands in order, so that it has a spelling where it is short enough (this product's own).
use Rattle.std.specs.Prelude.{map}
use Rattle.std.specs.List.{AllByRecursion as AllAre}
use Rattle.model_run.specs.Fitting.{NamesRise, NodesFit, NotReady, Rises}
use Rattle.image_form.specs.declared.image.Image.{Image}

-- The names of the binding and the numbers of requests, executors and threads rise, the flow nodes are numbered from 2, and
-- no thread is about to go on.
pub record IsInOrder (image : Image) : Type 0 where
  pub names : NamesRise image.bindings
  pub nodes : NodesFit 2 image.nodes
  pub requests : Rises (map (λ r. r.number) image.requests)
  pub held : Rises (map (λ h. h.executor) image.held)
  pub threads : Rises (map (λ t. t.number) image.threads)
  pub rests : AllAre (λ t. NotReady t.wait) image.threads
