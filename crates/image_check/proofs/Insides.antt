-- The frames of a thread one after the other.
use Rattle.std.proofs.Common.{◌≡◌, ◌∙◌, ◌<◌, ◌+◌, ℕ, suc, true, false, List, ◌∷◌, length, drop, drop-cons, get_or, add-one, Option, Some, None, refl, ap, sym}
use Rattle.std.specs.Prelude.{is_some}
use Rattle.model_run.specs.Terms.{Term}
use Rattle.image_form.specs.declared.image.Image.{Image}
use Rattle.image_form.specs.declared.image.ImageFrame.{ImageFrame}
use Rattle.image_form.specs.declared.image.ImageThread.{ImageThread}
use Rattle.image_check.specs.declared.finding.Finding.{Finding}
use Rattle.image_check.specs.Scans.{◌then◌}
use Rattle.image_check.specs.Threads.{fault_at, frames_fault}

some_first : (o u : Option Finding) → is_some o ≡ true → o ≡ (o then u)
some_first (Some f) u e = refl
some_first None u e = absurd (cc e)

none_first : (o u : Option Finding) → is_some o ≡ false → u ≡ (o then u)
none_first (Some f) u e = absurd (cc e)
none_first None u e = refl

module _ (root : Term) (i : Image) (t : ImageThread) (place : ℕ) (fs : List ImageFrame) (f : ImageFrame) (behind : List ImageFrame) (found : Option Finding) where
  rest_is : f ≡ get_or fs place f → place < length fs → drop place fs ≡ f ∷ drop (place + 1) fs
  rest_is is within = drop-cons fs place f within ∙ ap (λ g. g ∷ drop (suc place) fs) (sym is) ∙ ap (λ n. f ∷ drop n fs) (sym (add-one place))

  stepped : f ≡ get_or fs place f → place < length fs → behind ≡ drop (place + 1) fs → found ≡ fault_at root i t place f behind → (found then frames_fault root i t (suc place) (drop (place + 1) fs)) ≡ frames_fault root i t place (drop place fs)
  stepped is within back e =
      ap (λ o. o then frames_fault root i t (suc place) (drop (place + 1) fs)) (e ∙ ap (fault_at root i t place f) back)
      ∙ sym (ap (frames_fault root i t place) (rest_is is within))

  -- a fault of the frame at a place is the first from there on
  pub first_here : f ≡ get_or fs place f → place < length fs → behind ≡ drop (place + 1) fs → found ≡ fault_at root i t place f behind → is_some found ≡ true → found ≡ frames_fault root i t place (drop place fs)
  first_here is within back e some = some_first found (frames_fault root i t (suc place) (drop (place + 1) fs)) some ∙ stepped is within back e

  -- and where it has none, the first is that of the frames behind it
  pub first_behind : f ≡ get_or fs place f → place < length fs → behind ≡ drop (place + 1) fs → found ≡ fault_at root i t place f behind → is_some found ≡ false → frames_fault root i t (place + 1) (drop (place + 1) fs) ≡ frames_fault root i t place (drop place fs)
  first_behind is within back e none =
      ap (λ n. frames_fault root i t n (drop (place + 1) fs)) (add-one place)
      ∙ none_first found (frames_fault root i t (suc place) (drop (place + 1) fs)) none ∙ stepped is within back e
