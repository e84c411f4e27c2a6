-- How a frame goes on by the ending inside it: with what, or that it ends itself with this ending.
use Rattle.std.specs.Prelude.{ℕ, Bool, true, false, ◌∷◌, Result as Outcome, Ok, Err}
use Rattle.model_values.specs.declared.value.Value.{Value}
use Rattle.model_values.specs.declared.value.Value.TheVariants.{Null}
use Rattle.model_run.specs.State.{Env}
use Rattle.model_run.specs.declared.ending.Ending.{Ending}
use Rattle.model_run.specs.declared.ending.Ending.TheVariants.{Normal, Thrown, Returned, Broke, Continued, Declared, Answered}

-- a value
abbrev pub value_of : Ending → Outcome Value Ending
value_of (Normal v) = Ok v
value_of (Thrown c) = Err (Thrown c)
value_of (Returned v) = Err (Returned v)
value_of Broke = Err Broke
value_of Continued = Err Continued
value_of (Declared b) = Err (Declared b)
value_of (Answered x) = Err (Answered x)

-- the cell of a throwable
abbrev pub thrown_of : Ending → Outcome ℕ Ending
thrown_of (Normal v) = Err (Normal v)
thrown_of (Thrown c) = Ok c
thrown_of (Returned v) = Err (Returned v)
thrown_of Broke = Err Broke
thrown_of Continued = Err Continued
thrown_of (Declared b) = Err (Declared b)
thrown_of (Answered x) = Err (Answered x)

-- what a wait has ended with, and no node
abbrev pub is_answer : Ending → Bool
is_answer (Answered x) = true
is_answer e = false

-- how a block may end, or any other node that declares nothing
abbrev pub is_block_ending : Ending → Bool
is_block_ending (Declared b) = false
is_block_ending (Answered x) = false
is_block_ending e = true

-- a loop goes on, and `break` ends it
abbrev pub turn_of : Ending → Outcome (Unit {0}) Ending
turn_of (Normal v) = Ok tt
turn_of (Thrown c) = Err (Thrown c)
turn_of (Returned v) = Err (Returned v)
turn_of Broke = Err (Normal Null)
turn_of Continued = Ok tt
turn_of (Declared b) = Ok tt
turn_of (Answered x) = Err (Answered x)

-- the value of a statement and the variables behind it
abbrev pub statement_of : Env → Ending → Outcome (Value × Env) Ending
statement_of env (Normal v) = Ok (v, env)
statement_of env (Thrown c) = Err (Thrown c)
statement_of env (Returned v) = Err (Returned v)
statement_of env Broke = Err Broke
statement_of env Continued = Err Continued
statement_of env (Declared b) = Ok (Null, b ∷ env)
statement_of env (Answered x) = Err (Answered x)
