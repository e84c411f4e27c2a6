-- What the frame of a turn of a `for` keeps.
use Rattle.std.specs.Prelude.{◌≤◌, pos}
use Rattle.model_values.specs.declared.value.Value.{Value}
use Rattle.model_values.specs.declared.value.Value.TheVariants.{Int as Whole}

-- a position, which the table of frames bounds
abbrev pub IsPosition : Value → Type 0
IsPosition (Whole (pos m)) = m ≤ 2147483646
IsPosition v = ⊥
