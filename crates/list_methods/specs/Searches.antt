-- What the search for a value in a list answers.
use Rattle.std.specs.Prelude.{◌≡◌, ℕ, Result, Ok, Err, Option, Some, None}
use Rattle.model_values.specs.ListMethods.{Search, Found, Absent, Met}
use Rattle.model_values.specs.declared.limit.LimitKind.{LimitKind}

-- the place that the table finds, or none, or the limit that it meets, with the count of compared pairs
abbrev pub Finds : Search → ℕ → Result (Option ℕ) LimitKind → Type 0
Finds s count (Ok (Some i)) = s ≡ Found i count
Finds s count (Ok None) = s ≡ Absent count
Finds s count (Err k) = s ≡ Met k count
