-- The calls of a gate, as contracts read them (this product's own).
use Rattle.std.specs.Prelude.{ℕ, List, [], ◌∷◌, ◌++◌}
use Rattle.agent_worker.specs.declared.gate.GateCall.{GateCall}
use Rattle.agent_worker.specs.declared.gate.GateCall.TheVariants as gate_call
use Rattle.member_turns.specs.declared.calls.Called.{Called, Nothing, Claim', Report', Inputs', Answer', Halt'}
use Rattle.member_turns.specs.declared.calls.Spelled.{Spelled, Byte'}
use Rattle.member_turns.specs.declared.calls.Spelled as spelled

-- the bytes of a line, in their order
abbrev pub bytes_of : Spelled → List ℕ
bytes_of spelled.Nothing = []
bytes_of (Byte' marker before byte) = bytes_of before ++ byte ∷ []

-- the calls, in their order
abbrev pub calls_of : Called → List GateCall
calls_of Nothing = []
calls_of (Claim' marker before executor answer) = calls_of before ++ gate_call.Claim executor answer.value ∷ []
calls_of (Report' marker before event answer) = calls_of before ++ gate_call.Report event.value answer ∷ []
calls_of (Inputs' marker before answer) = calls_of before ++ gate_call.Inputs answer ∷ []
calls_of (Answer' marker before line answer) = calls_of before ++ gate_call.Answer (bytes_of line.value) answer ∷ []
calls_of (Halt' marker before) = calls_of before ++ gate_call.Halt ∷ []
