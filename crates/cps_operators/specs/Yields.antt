-- What an operation of the definitions comes to, whatever is done with its value.
use Rattle.std.specs.Prelude.{◌≡◌, ◌≤◌, List, Result as Outcome, Ok, Err}
use Rattle.model_values.specs.declared.value.Value.{Value}
use Rattle.model_run.specs.State.{Reply, State, Result, Ended, Limited, Unfinished}
use Rattle.cps_frames.specs.Standing.{Beside, Standing, state, room_of}
use Rattle.cps_frames.specs.declared.halt.Halt.{Halt}
use Rattle.cps_frames.specs.declared.halt.Halt.TheVariants.{Memory, Ends, Limit}

-- an operation: what it does, given what is done with its value
abbrev pub Operation : Type 0
Operation = (Value → State → Result) → State → Result

-- it goes on with a value, or ends
abbrev pub goes_by : Outcome Value Halt → Operation
goes_by (Ok v) go s = go v s
goes_by (Err (Ends e)) go s = Ended e s
goes_by (Err (Limit k)) go s = Limited k s
goes_by (Err Memory) go s = Unfinished

-- It did what the definitions say, in one world, with this result, in another.
pub record Performed (m : Operation) (u : Standing) (result : Outcome Value Halt) (v : Standing) : Type 0 where
  pub same : (go : Value → State → Result) (rs : List Reply) → m go (state u.world rs) ≡ goes_by result go (state v.world rs)
  pub stack : v.stack ≡ u.stack
  pub beside : Beside u v
  pub setting : v.world.setting ≡ u.world.setting
  pub less : room_of v.world ≤ room_of u.world

-- The same where the memory may have been refused, of which nothing is said.
abbrev pub Yields : Operation → Standing → Outcome Value Halt → Standing → Type 0
Yields m u (Ok x) v = Performed m u (Ok x) v
Yields m u (Err (Ends e)) v = Performed m u (Err (Ends e)) v
Yields m u (Err (Limit k)) v = Performed m u (Err (Limit k)) v
Yields m u (Err Memory) v = Unit {0}
