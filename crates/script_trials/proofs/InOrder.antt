-- The image of a build has a spelling: what rises in it does so.
use Rattle.std.proofs.Common.{◌≡◌, ◌<◌, ◌≤◌, ℕ, suc, List, [], ◌∷◌, map}
use Rattle.model_run.specs.Fitting.{Rise, Rises}
use Rattle.model_run.specs.State.{Setting}
use Rattle.image_form.specs.declared.image.Image.{Image}
use Rattle.record_form.specs.Ordered.{IsInOrder}
use Rattle.build_images.specs.Images.{IsOrdered}

rises_on : (k m : ℕ) (ns : List ℕ) → Rise (suc k) m ns → Rises (k ∷ ns)
rises_on k m [] rise = tt
rises_on k m (n ∷ ns) rise = (rise.0, rises_on n m ns rise.2)

rises_from : (low m : ℕ) (ns : List ℕ) → Rise low m ns → Rises ns
rises_from low m [] rise = tt
rises_from low m (n ∷ ns) rise = rises_on n m ns rise.2

pub in_order : (setting : Setting) (image : Image) → IsOrdered setting image → IsInOrder image
in_order setting image is = record {
  names = is.shared.names;
  nodes = is.shared.nodes;
  requests = rises_from 0 image.next_request (map (λ r. r.number) image.requests) is.shared.requests;
  held = is.shared.rising;
  threads = rises_from 0 image.next_thread (map (λ t. t.number) image.threads) is.numbers;
  rests = is.rests;
}
