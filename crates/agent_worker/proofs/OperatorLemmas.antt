-- The operator's work, after one call on the gate more.
use Rattle.std.proofs.Common.{◌≡◌, ◌⊎◌, ◌++◌, ◌∷◌, ◌||◌, [], ℕ, List, Bool, true, false, Option, Some, None, Result, Ok, inl, inr, sym, ap, subst, ◌∙◌, refl, append_assoc, append-nil}
use Rattle.journal_core.specs.declared.faults.TakeFault.{TakeFault}
use Rattle.agent_worker.specs.declared.gate.Heard.{Heard}
use Rattle.agent_worker.specs.declared.gate.Inputs.{Inputs}
use Rattle.agent_worker.specs.declared.gate.GateCall.TheVariants as gate_call
use Rattle.agent_worker.specs.declared.gate.Said.TheVariants as says
use Rattle.agent_worker.specs.declared.operator.LineEnd.{LineEnd}
use Rattle.agent_worker.specs.declared.operator.LineEnd.TheVariants as line_end
use Rattle.agent_worker.specs.Gate.{GateTells, Becomes, Stays, Adds, heard_of, AddsLine, AddsDecided}
use Rattle.agent_worker.specs.AnswerBytes.{NoNewline}
use Rattle.agent_worker.specs.Operating.{Ask, Asked, Reads, Given, Halted, operator_calls, heard_in, FoundInput, ReadLine, MayAsk, PassedOver, Heeded, IsReadToEnd, NoMore, LastHeeded, MayOperate, OperatesSoFar}
use Rattle.agent_worker.proofs.TellLemmas.{becomes, stays, stays-on}

-- two pieces that were added are one
adds-both : {A : Type 0} (old mid now : Option (List A)) (a b : List A) → Becomes (λ list. list ++ a) old mid → Becomes (λ list. list ++ b) mid now → Becomes (λ list. list ++ (a ++ b)) old now
adds-both old mid None a b first second = tt
adds-both old None (Some now) a b first second = absurd second
adds-both None (Some mid) (Some now) a b first second = absurd first
adds-both (Some old) (Some mid) (Some now) a b first second = second ∙ ap (λ l. l ++ b) first ∙ append_assoc old a b

nothing-added : {A : Type 0} (old : Option (List A)) → Becomes (λ list. list ++ []) old old
nothing-added None = tt
nothing-added (Some list) = sym (append-nil list)

-- Nothing was done yet.
pub operates-none : (now : GateTells) → OperatesSoFar now now []
operates-none now = record { calls = stays now.calls; lines = nothing-added now.lines; events = []; decided = refl; told = nothing-added now.told; claimed = stays now.claimed; said = refl; lawful = tt }

pub operates-asked : (old now next : GateTells) (past : List Ask) (inputs : Inputs) → OperatesSoFar old now past → MayAsk past
    → Adds (gate_call.Inputs inputs) now.calls next.calls → Stays now.told next.told → Stays now.lines next.lines → Stays now.claimed next.claimed → next.said ≡ says.Inputs inputs
    → OperatesSoFar old next (Asked inputs ∷ past)
operates-asked old now next past inputs so may called told_so lines_so same said_so = record {
  calls = becomes (operator_calls past) (λ list. list ++ gate_call.Inputs inputs ∷ []) old.calls now.calls next.calls so.calls called;
  lines = becomes (λ list. list ++ heard_in past) (λ list. list) old.lines now.lines next.lines so.lines lines_so;
  events = so.events;
  decided = so.decided;
  told = becomes (λ list. list ++ so.events) (λ list. list) old.told now.told next.told so.told told_so;
  claimed = stays-on old.claimed now.claimed next.claimed so.claimed same;
  said = said_so;
  lawful = (may, so.lawful);
}

pub operates-read : (old now : GateTells) (past : List Ask) (bytes : List ℕ) (end : LineEnd) → OperatesSoFar old now past → FoundInput past → NoNewline bytes
    → OperatesSoFar old now (Reads bytes end ∷ past)
operates-read old now past bytes end so found plain = record {
  calls = so.calls;
  lines = so.lines;
  events = so.events;
  decided = so.decided;
  told = so.told;
  claimed = so.claimed;
  said = so.said;
  lawful = ((found, plain), so.lawful);
}

pub operates-given : (old now next : GateTells) (past : List Ask) (line : List ℕ) (answer : Result Heard TakeFault) → OperatesSoFar old now past → ReadLine past
    → Adds (gate_call.Answer line answer) now.calls next.calls → AddsDecided line answer now.told next.told → AddsLine line answer now.lines next.lines → Stays now.claimed next.claimed → next.said ≡ says.Answer answer
    → OperatesSoFar old next (Given line answer ∷ past)
operates-given old now next past line answer so found called told_so lines_so same said_so = record {
  calls = becomes (operator_calls past) (λ list. list ++ gate_call.Answer line answer ∷ []) old.calls now.calls next.calls so.calls called;
  lines = adds-both old.lines now.lines next.lines (heard_in past) (heard_of line answer) so.lines lines_so;
  events = so.events ++ told_so.0;
  decided = (so.events, told_so.0, so.decided, told_so.1, refl);
  told = adds-both old.told now.told next.told so.events told_so.0 so.told told_so.2;
  claimed = stays-on old.claimed now.claimed next.claimed so.claimed same;
  said = said_so;
  lawful = (found, so.lawful);
}

pub operates-halted : (old now next : GateTells) (past : List Ask) → OperatesSoFar old now past → MayOperate past Halted
    → Adds gate_call.Halt now.calls next.calls → Stays now.told next.told → Stays now.lines next.lines → Stays now.claimed next.claimed → next.said ≡ says.Halt
    → OperatesSoFar old next (Halted ∷ past)
operates-halted old now next past so may called told_so lines_so same said_so = record {
  calls = becomes (operator_calls past) (λ list. list ++ gate_call.Halt ∷ []) old.calls now.calls next.calls so.calls called;
  lines = becomes (λ list. list ++ heard_in past) (λ list. list) old.lines now.lines next.lines so.lines lines_so;
  events = so.events;
  decided = so.decided;
  told = becomes (λ list. list ++ so.events) (λ list. list) old.told now.told next.told so.told told_so;
  claimed = stays-on old.claimed now.claimed next.claimed so.claimed same;
  said = said_so;
  lawful = (may, so.lawful);
}

-- Behind a line with its newline, which was passed over or heard, it may be asked again.
pub may-ask-behind : (bytes : List ℕ) (before next : List Ask)
    → (next ≡ Reads bytes line_end.Line ∷ before) ⊎ ((said : List ℕ) × (heard : Heard) × (next ≡ Given said (Ok heard) ∷ Reads bytes line_end.Line ∷ before)) → MayAsk next
may-ask-behind bytes before next (inl is) = subst MayAsk (sym is) (PassedOver bytes before)
may-ask-behind bytes before next (inr (said, heard, is)) = subst MayAsk (sym is) (Heeded said heard bytes before)

-- Behind the last line it was read to the end.
pub read-to-end-behind : (bytes : List ℕ) (before next : List Ask)
    → (next ≡ Reads bytes line_end.End ∷ before) ⊎ ((said : List ℕ) × (heard : Heard) × (next ≡ Given said (Ok heard) ∷ Reads bytes line_end.End ∷ before)) → IsReadToEnd next
read-to-end-behind bytes before next (inl is) = subst IsReadToEnd (sym is) (NoMore bytes before)
read-to-end-behind bytes before next (inr (said, heard, is)) = subst IsReadToEnd (sym is) (LastHeeded said heard bytes before)

-- The answers had not ended, and have not now; or have.
pub ended-before : (old now has : Bool) → old ≡ false → now ≡ false → has ≡ false → now ≡ (old || has)
ended-before old now has old_not now_not has_not = subst (λ (o : Bool). now ≡ (o || has)) (sym old_not) (now_not ∙ sym has_not)

pub ended-now : (old : Bool) → true ≡ (old || true)
ended-now true = refl
ended-now false = refl
