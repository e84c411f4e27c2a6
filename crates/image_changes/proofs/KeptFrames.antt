-- Threads that are written with the front of their frames that is the same.
use Rattle.std.proofs.Common.{◌≡◌, ◌∙◌, ◌≤◌, ℕ, Bool, List, ◌++◌, length, take, drop, Some, None, refl, ap}
use Rattle.std.specs.Prelude.{if◌then◌else◌}
use Rattle.std.proofs.lemmas.Bool.{le-leb}
use Rattle.std.proofs.lemmas.List.{take-append-drop}
use Rattle.image_form.specs.declared.image.ImageFrame.{ImageFrame}
use Rattle.image_form.specs.declared.image.ImageThread.{ImageThread}
use Rattle.delta_form.specs.After.{written_thread}
use Rattle.image_changes.specs.Growing.{with_front}

pub written_new : (t : ImageThread) → written_thread (with_front t 0) None ≡ Some (Some t)
written_new t = refl

pub written_kept : (stood t : ImageThread) (kept : ℕ) → kept ≤ length stood.frames → take kept stood.frames ≡ take kept t.frames → written_thread (with_front t kept) (Some stood) ≡ Some (Some t)
written_kept stood t kept le same =
    ap (λ (b : Bool). if b then Some (Some (record t { frames = take kept stood.frames ++ drop kept t.frames })) else None) (le-leb kept (length stood.frames) le)
    ∙ ap (λ (l : List ImageFrame). Some (Some (record t { frames = l ++ drop kept t.frames }))) same
    ∙ ap (λ (l : List ImageFrame). Some (Some (record t { frames = l }))) (take-append-drop kept t.frames)
