-- What goes on by the ending inside a frame.
use Rattle.std.proofs.Common.{◌≡◌, ◌∙◌, ℕ, refl, ap}
use Rattle.std.specs.Prelude.{Result as Outcome, Ok, Err}
use Rattle.model_values.specs.declared.value.Value.{Value}
use Rattle.model_run.specs.State.{State, Env, Result, Ended, on_value, on_throw}
use Rattle.model_run.specs.Statements.{on_turn, on_statement}
use Rattle.model_run.specs.declared.ending.Ending.{Ending}
use Rattle.model_run.specs.declared.ending.Ending.TheVariants.{Normal, Thrown, Returned, Broke, Continued, Declared, Answered}
use Rattle.cps_frames.specs.Ways.{value_of, thrown_of, turn_of, statement_of}

-- goes one way with what is there, and another with an ending
abbrev by : {T : Type 0} → (T → State → Result) → (Ending → State → Result) → Outcome T Ending → State → Result
by go other (Ok x) = go x
by go other (Err e) = other e

value_way : (go : Value → State → Result) (e : Ending) (s : State) → on_value go e s ≡ by go Ended (value_of e) s
value_way go (Normal v) s = refl
value_way go (Thrown c) s = refl
value_way go (Returned v) s = refl
value_way go Broke s = refl
value_way go Continued s = refl
value_way go (Declared b) s = refl
value_way go (Answered x) s = refl

pub value_ok : (go : Value → State → Result) (e : Ending) (v : Value) (s : State) → value_of e ≡ Ok v → on_value go e s ≡ go v s
value_ok go e v s h = value_way go e s ∙ ap (λ w. by go Ended w s) h

pub value_err : (go : Value → State → Result) (e x : Ending) (s : State) → value_of e ≡ Err x → on_value go e s ≡ Ended x s
value_err go e x s h = value_way go e s ∙ ap (λ w. by go Ended w s) h

throw_way : (go : ℕ → State → Result) (other : Ending → State → Result) (e : Ending) (s : State) → on_throw go other e s ≡ by go other (thrown_of e) s
throw_way go other (Normal v) s = refl
throw_way go other (Thrown c) s = refl
throw_way go other (Returned v) s = refl
throw_way go other Broke s = refl
throw_way go other Continued s = refl
throw_way go other (Declared b) s = refl
throw_way go other (Answered x) s = refl

pub throw_ok : (go : ℕ → State → Result) (other : Ending → State → Result) (e : Ending) (c : ℕ) (s : State) → thrown_of e ≡ Ok c → on_throw go other e s ≡ go c s
throw_ok go other e c s h = throw_way go other e s ∙ ap (λ w. by go other w s) h

pub throw_err : (go : ℕ → State → Result) (other : Ending → State → Result) (e x : Ending) (s : State) → thrown_of e ≡ Err x → on_throw go other e s ≡ other x s
throw_err go other e x s h = throw_way go other e s ∙ ap (λ w. by go other w s) h

turn_way : (go : State → Result) (e : Ending) (s : State) → on_turn go e s ≡ by (λ u. go) Ended (turn_of e) s
turn_way go (Normal v) s = refl
turn_way go (Thrown c) s = refl
turn_way go (Returned v) s = refl
turn_way go Broke s = refl
turn_way go Continued s = refl
turn_way go (Declared b) s = refl
turn_way go (Answered x) s = refl

pub turn_ok : (go : State → Result) (e : Ending) (u : Unit {0}) (s : State) → turn_of e ≡ Ok u → on_turn go e s ≡ go s
turn_ok go e u s h = turn_way go e s ∙ ap (λ w. by (λ u. go) Ended w s) h

pub turn_err : (go : State → Result) (e x : Ending) (s : State) → turn_of e ≡ Err x → on_turn go e s ≡ Ended x s
turn_err go e x s h = turn_way go e s ∙ ap (λ w. by (λ u. go) Ended w s) h

statement_way : (env : Env) (go : Value → Env → State → Result) (e : Ending) (s : State) → on_statement env go e s ≡ by (λ p. go p.0 p.1) Ended (statement_of env e) s
statement_way env go (Normal v) s = refl
statement_way env go (Thrown c) s = refl
statement_way env go (Returned v) s = refl
statement_way env go Broke s = refl
statement_way env go Continued s = refl
statement_way env go (Declared b) s = refl
statement_way env go (Answered x) s = refl

pub statement_ok : (env : Env) (go : Value → Env → State → Result) (e : Ending) (v : Value) (env' : Env) (s : State) → statement_of env e ≡ Ok (v, env') → on_statement env go e s ≡ go v env' s
statement_ok env go e v env' s h = statement_way env go e s ∙ ap (λ w. by (λ p. go p.0 p.1) Ended w s) h

pub statement_err : (env : Env) (go : Value → Env → State → Result) (e x : Ending) (s : State) → statement_of env e ≡ Err x → on_statement env go e s ≡ Ended x s
statement_err env go e x s h = statement_way env go e s ∙ ap (λ w. by (λ p. go p.0 p.1) Ended w s) h
