-- What becomes of a text that is to be written. This product's own.
use Rattle.std.specs.Prelude.{◌≡◌, ℕ, List, Option}
use Rattle.std.specs.Io.KnownBytes.{Appends}
use Rattle.device_faults.specs.Faults.{Rose}
use Rattle.jp_io.specs.Whole.{AppendsPart}

-- The text that a command is for was written whole, or the sink counted a fault and has the front of it: then the status is 7.
pub data Writes (old new : Option (List ℕ)) (before after : ℕ) (text : List ℕ) : ℕ → ℕ → Type 0 where
  whole : {status : ℕ} → Appends old new text → after ≡ before → Writes old new before after text status status
  cut : {status : ℕ} → AppendsPart old new text → Rose before after → Writes old new before after text status 7

-- The text of a refusal was written whole, or the sink counted a fault and has the front of it; the status is as it was.
pub data Tells (old new : Option (List ℕ)) (before after : ℕ) (text : List ℕ) : Type 0 where
  whole : Appends old new text → after ≡ before → Tells old new before after text
  cut : AppendsPart old new text → Rose before after → Tells old new before after text
