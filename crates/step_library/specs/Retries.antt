-- How `retry` goes on behind its body's end node.
use Rattle.std.specs.Prelude.{◌≡◌, ◌⊎◌, ◌≢◌, ℕ, zero, suc, true, false, List, Result as Outcome, Ok, Err, slice_get}
use Rattle.model_values.specs.Fitting.{HasThrowable}
use Rattle.model_values.specs.declared.cell.Cell.{Cell}
use Rattle.model_values.specs.declared.value.Value.{Value}
use Rattle.model_run.specs.declared.ending.Ending.{Ending}
use Rattle.model_run.specs.declared.ending.Ending.TheVariants.{Thrown}
use Rattle.model_run.specs.State.{State, Env, Result, seeing, on_throw}
use Rattle.model_run.specs.Around.{Around}
use Rattle.model_run.specs.Steps.{after_retry, is_interruption, retry_body, retry_end, retry_next}

-- a thrown cell is there
abbrev pub Throws : List Cell → Ending → Type 0
Throws h (Thrown c) = HasThrowable (slice_get h c)
Throws h e = Unit {0}

-- the body's end decides: it is begun again behind this throwable, or `retry` ends so
abbrev pub FailsSo : List Cell → ℕ → Ending → Outcome ℕ Ending → Type 0
FailsSo h more e (Ok c) = (e ≡ Thrown c) × (more ≢ 0) × (is_interruption (slice_get h c) ≡ false) × HasThrowable (slice_get h c)
FailsSo h more (Thrown c) (Err x) = (x ≡ Thrown c) × ((more ≡ 0) ⊎ (is_interruption (slice_get h c) ≡ true))
FailsSo h more e (Err x) = x ≡ e

-- what `retry` does behind the end node of its body
abbrev pub after_try : Around → ℕ → Env → ℕ → Value → ℕ → Ending → State → Result
after_try a k env start f zero e = retry_end start e
after_try a k env start f (suc m) e = on_throw
    (λ c. seeing (λ w. retry_next (retry_body (after_retry a k env start f m) a k env start m f) start c (is_interruption (slice_get w.shared.cells c)) (slice_get w.shared.cells c)))
    (retry_end start) e
