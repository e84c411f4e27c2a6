-- When a task is known not to come back. This product's own rules (docs/HOSTS.md).
use Rattle.std.specs.Prelude.{◌+◌, ℕ, Bool, true, false, Option, Some, None, if◌then◌else◌, min, nat_le}
use Rattle.control_folders.specs.declared.fate.Fate.{Fate}
use Rattle.control_folders.specs.declared.fate.Fate.TheVariants as fate
use Rattle.real_edge.specs.declared.loss.Loss.{Loss}
use Rattle.real_edge.specs.declared.loss.Loss.TheVariants as loss

-- how many looks in a row, a quarter of a second apart, have found an end without a result, after one more
abbrev pub ends_after : ℕ → Fate → Bool → ℕ
ends_after ends fate.Gone has_ended = min (ends + 1) 255
ends_after ends fate.Unknown true = min (ends + 1) 255
ends_after ends fate.Unknown false = 0
ends_after ends fate.OtherBoot has_ended = 0
ends_after ends fate.Elsewhere has_ended = 0
ends_after ends fate.Lives has_ended = 0

-- What is lost after so many: of another boot at once; where its process is gone after a second; and after five where the
-- process that this host started has ended and nothing is known of the one that took the permit.
abbrev pub loss_after : ℕ → Fate → Bool → Option Loss
loss_after ends fate.OtherBoot has_ended = Some loss.OtherBoot
loss_after ends fate.Gone has_ended = if nat_le 4 ends then Some loss.Gone else None
loss_after ends fate.Unknown true = if nat_le 20 ends then Some loss.Unfinished else None
loss_after ends fate.Unknown false = None
loss_after ends fate.Elsewhere has_ended = None
loss_after ends fate.Lives has_ended = None
