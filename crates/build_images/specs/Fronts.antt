-- What an image before an event still has of the threads behind it (this product's own).
use Rattle.std.specs.Prelude.{◌≡◌, ℕ, Bool, false, List, [], ◌∷◌, map, nat_eq, take, if◌then◌else◌, Option, Some, None}
use Rattle.std.specs.List.{AllByRecursion as AllAre}
use Rattle.model_run.specs.Terms.{Term}
use Rattle.green_threads.specs.declared.runner.Seated.{Seated}
use Rattle.settle_laws.specs.Stances.{Stance}
use Rattle.image_form.specs.declared.image.ImageThread.{ImageThread}
use Rattle.saved_thread.specs.Lower.thread_fits.Seats.{as_seat}
use Rattle.saved_thread.specs.Saving.{frame_told, thread_told}

-- In x stand the frames of y that count as untouched, and where y took no turn since it was marked all of y but its
-- parent and what it waits for.
pub record HasStood {T : Type 0} (low : T → ℕ) (touched : T → Bool) (stance : T → Stance) (root : Term) (y : Seated T) (x : ImageThread) : Type 0 where
  pub front : take (low y.thread) x.frames ≡ take (low y.thread) (map (frame_told root) (stance y.thread).frames)
  pub same : touched y.thread ≡ false → record x { parent = y.parent; wait = y.wait } ≡ thread_told root (as_seat stance y)

-- of the thread that it has under the number of y
abbrev pub HasStoodAs : {T : Type 0} → (T → ℕ) → (T → Bool) → (T → Stance) → Term → Seated T → ImageThread → Type 0
HasStoodAs low touched stance root y x = x.number ≡ y.number → HasStood low touched stance root y x

abbrev pub ThreadsStand : {T : Type 0} → (T → ℕ) → (T → Bool) → (T → Stance) → Term → List ImageThread → List (Seated T) → Type 0
ThreadsStand low touched stance root before seats = AllAre (λ y. AllAre (HasStoodAs low touched stance root y) before) seats

-- the thread of this number
abbrev pub thread_at : ℕ → List ImageThread → Option ImageThread
thread_at number [] = None
thread_at number (x ∷ xs) = if nat_eq x.number number then Some x else thread_at number xs
