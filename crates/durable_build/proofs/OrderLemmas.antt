-- The image of a build has a spelling, and so has each that is whole: what rises in it does so.
use Rattle.std.proofs.Common.{◌≡◌, ℕ, suc, List, [], ◌∷◌, map, refl, ap, subst}
use Rattle.std.specs.List.{AllByRecursion as AllAre}
use Rattle.model_run.specs.Fitting.{NotReady, Rise, Rises, Seat}
use Rattle.model_run.specs.State.{Setting}
use Rattle.model_run.specs.Terms.{Term}
use Rattle.model_run.specs.declared.request.OpenRequest.{OpenRequest}
use Rattle.image_form.specs.declared.image.Image.{Image}
use Rattle.image_form.specs.declared.image.ImageThread.{ImageThread}
use Rattle.build_images.specs.Lower.image_check.Standings.{seat_in}
use Rattle.delta_records.specs.Lower.record_form.Ordered.{IsInOrder}
use Rattle.build_images.specs.Images.{IsOrdered, IsWhole}

rises_on : (k m : ℕ) (ns : List ℕ) → Rise (suc k) m ns → Rises (k ∷ ns)
rises_on k m [] rise = tt
rises_on k m (n ∷ ns) rise = (rise.0, rises_on n m ns rise.2)

rises : (low m : ℕ) (ns : List ℕ) → Rise low m ns → Rises ns
rises low m [] rise = tt
rises low m (n ∷ ns) rise = rises_on n m ns rise.2

pub in_order : (setting : Setting) (image : Image) → IsOrdered setting image → IsInOrder image
in_order setting image is = record {
  names = is.shared.names;
  nodes = is.shared.nodes;
  requests = rises 0 image.next_request (map (λ r. r.number) image.requests) is.shared.requests;
  held = is.shared.rising;
  threads = rises 0 image.next_thread (map (λ t. t.number) image.threads) is.numbers;
  rests = is.rests;
}

-- ---- of an image that is whole

numbers_told : (root : Term) (threads : List ImageThread) → map (λ (t : Seat). t.number) (map (seat_in root) threads) ≡ map (λ (t : ImageThread). t.number) threads
numbers_told root [] = refl
numbers_told root (t ∷ ts) = ap (λ (ns : List ℕ). t.number ∷ ns) (numbers_told root ts)

rests_told : (root : Term) (threads : List ImageThread) → AllAre (λ (t : Seat). NotReady t.wait) (map (seat_in root) threads) → AllAre (λ (t : ImageThread). NotReady t.wait) threads
rests_told root [] rests = tt
rests_told root (t ∷ ts) rests = (rests.0, rests_told root ts rests.1)

pub whole_in_order : (setting : Setting) (image : Image) → IsWhole setting image → IsInOrder image
whole_in_order setting image is =
    let fits = is.stands.fits.fits in
    record {
      names = fits.shared.names;
      nodes = fits.shared.nodes;
      requests = rises 0 image.next_request (map (λ (r : OpenRequest). r.number) image.requests) fits.shared.requests;
      held = fits.shared.rising;
      threads = rises 0 image.next_thread (map (λ (t : ImageThread). t.number) image.threads) (subst (Rise 0 image.next_thread) (numbers_told setting.script image.threads) fits.numbers);
      rests = rests_told setting.script image.threads is.stands.fits.rests;
    }
