-- The calls of a device in memory, for tests: which of them fail, and what each counts. This product's own rule: calls
-- are numbered from 1, in the order in which they are made.
use Rattle.std.specs.Prelude.{◌≡◌, ℕ, List, Contains}
use Rattle.device_faults.specs.Faults.{counted}

-- the numbers of the calls that fail; how many calls were made, how many of them failed, and how many of these because
-- memory was refused
pub record Calls : Type 0 where
  pub fail_at : List ℕ
  pub made : ℕ
  pub faults : ℕ
  pub refused : ℕ

-- no call was made
abbrev pub begun : List ℕ → Calls
begun fail_at = record { fail_at = fail_at; made = 0; faults = 0; refused = 0 }

-- the next call is one of those that fail
abbrev pub NextFails : Calls → Type 0
NextFails calls = Contains calls.fail_at (counted calls.made)

-- one call more was made
abbrev pub after_call : Calls → Calls
after_call calls = record calls { made = counted calls.made }

-- and failed
abbrev pub after_failure : Calls → Calls
after_failure calls = record calls { made = counted calls.made; faults = counted calls.faults }

-- and failed because memory was refused
abbrev pub after_refusal : Calls → Calls
after_refusal calls = record calls { made = counted calls.made; faults = counted calls.faults; refused = counted calls.refused }

-- One call: it fails where it must, and else only where memory for it was refused.
pub record IsOneCall (Must Fails : Type 0) (old new : Calls) : Type 0 where
  pub must_fail : Must → Fails
  pub done : ¬ Fails → new ≡ after_call old
  pub failed : Must → new ≡ after_failure old
  pub refused : Fails → ¬ Must → new ≡ after_refusal old
