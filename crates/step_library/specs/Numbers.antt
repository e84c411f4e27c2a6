-- The numbers of flow nodes as frames keep them.
use Rattle.std.specs.Prelude.{◌<◌, ◌+◌, ◌^◌, length, pos}
use Rattle.model_values.specs.declared.value.Value.{Value}
use Rattle.model_values.specs.declared.value.Value.TheVariants.{Bool as Truth, Int as Whole}
use Rattle.cps_frames.specs.Standing.{Standing}

-- a whole number from 0 on
abbrev pub IsNatural : Value → Type 0
IsNatural (Whole (pos n)) = Unit {0}
IsNatural v = ⊥

abbrev pub IsTruth : Value → Type 0
IsTruth (Truth b) = Unit {0}
IsTruth v = ⊥

-- the thread's last flow node and the next one have numbers that a script can count
pub record Countable (u : Standing) : Type 0 where
  pub head : u.world.own.head < 2 ^ 31
  pub next : length u.world.shared.nodes + 2 < 2 ^ 31
