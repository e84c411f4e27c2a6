-- What a serve has come to, after a read and after the report of its bytes.
use Rattle.std.proofs.Common.{◌≡◌, ◌⊎◌, ◌<◌, ◌≤◌, ◌+◌, ◌-◌, ◌^◌, ◌++◌, ◌∷◌, [], ℕ, ℤ, List, length, take, drop, Option, Some, Ok, Err, Result, min, if◌then◌else◌, le_refl, take_all, append-nil, length-append, inl, inr, sym, ap, ◌∙◌, refl, arith, subst}
use Rattle.task_host.specs.Host.{Records, GoesOn}
use Rattle.task_host.specs.declared.call.Call.TheVariants as call
use Rattle.agent_worker.specs.declared.gate.GateCall.{GateCall}
use Rattle.agent_worker.specs.declared.gate.Said.{Said}
use Rattle.agent_worker.specs.declared.gate.Said.TheVariants as says
use Rattle.agent_worker.specs.declared.gate.GateCall.TheVariants as gate_call
use Rattle.journal_core.specs.declared.faults.TakeFault.{TakeFault}
use Rattle.journal_core.specs.declared.faults.TakeFault.TheVariants as take_fault
use Rattle.agent_worker.specs.declared.task.Served.{Served}
use Rattle.agent_worker.specs.declared.task.Served.TheVariants as served
use Rattle.agent_worker.specs.Types.{Event, OutputEvent, Taken, Accepted, NotOpen, WrongPlace, Finished, Order, Stream, Log, Out, Call}
use Rattle.agent_worker.specs.Sizes.{piece_size}
use Rattle.agent_worker.specs.Gate.{Told, Adds, AddsTold, is_accepted}
use Rattle.agent_worker.specs.Acts.{Act, Reported, HasStream, named, kept, accepted, output_in, read, unreported, WasDone}
use Rattle.agent_worker.specs.Causes.{FoundEnd, IsReadNext}
use Rattle.agent_worker.specs.Serving.{IsInTurn, served_by, EndsFor}
use Rattle.agent_worker.specs.Delivering.{Holds}
use Rattle.agent_worker.specs.Serve.{Seen}
use Rattle.agent_worker.specs.Standing.{Stands, Tells}
use Rattle.agent_worker.specs.Reading.{taken_in}
use Rattle.agent_worker.proofs.HoldLemmas.{grew-of, holds-on, holds-output}
use Rattle.agent_worker.proofs.StandLemmas.{stands-called, stands-reported}

pub no-bytes : (bytes : List ℕ) → 0 < length bytes → Some bytes ≡ Some [] → ⊥
no-bytes [] some is = absurd (omega (arith, some))
no-bytes (b ∷ bytes) some is = cc

-- where a read gave nothing, the output ends
pub nothing-left : (end place n : ℕ) → (place < end → 0 < n) → n ≡ 0 → end ≤ place
nothing-left end place n some is = grind arith

-- A read, whatever it gave.
pub stands-read : (honest before : Type 0) (order : Order) (looks : ℕ) (stream : Stream) (old now : Seen) (past : List Act) (place room : ℕ) (given : Option (List ℕ)) (calls : Option (List Call)) (output : ℕ → Stream → List ℕ) (exited : ℕ → Option ℤ)
    → Stands before order looks old now past → (honest → before)
    → Records now.calls calls (call.Read order stream place room given) → room ≡ piece_size
    → HasStream order stream → place ≡ kept order stream past → unreported past ≡ [] → IsInTurn past → IsReadNext order stream past
    → (before → GoesOn order.task now.exited exited now.output output) → (before → given ≡ Some [] → length (output order.task stream) ≤ place)
    → Stands honest order looks old (record now { calls = calls; output = output; exited = exited }) (read order stream place given ∷ past)
stands-read honest before order looks stream old now past place room given calls output exited stands is_honest kept_call size has at all turning next goes ends =
    let call_so = subst (λ (n : ℕ). Records now.calls calls (call.Read order stream place n given)) size kept_call in
    stands-called honest before order looks old now past (call.Read order stream place piece_size given) calls output exited stands is_honest call_so (refl, has, at, refl, all, turning, next) goes
    (λ is holds. holds-on order (now.output order.task) (output order.task) (now.exited order.task) (exited order.task) past (read order stream place given) (λ s. refl) refl (found is)
    (grew-of order.task now.exited exited now.output output (goes is)) holds)
  where
    found : before → (s : Stream) (p : ℕ) → FoundEnd order s p (read order stream place given ∷ past) → FoundEnd order s p past ⊎ (length (output order.task s) ≤ p)
    found is s p (inr (none, rest)) = inl rest
    found is s p (inl e) =
        let nothing : given ≡ Some [] = cc in
        let same_stream : stream ≡ s = cc in
        let same_place : place ≡ p = cc in
        let le = ends is nothing in
        inr (subst (λ (q : ℕ). length (output order.task s) ≤ q) same_place (subst (λ (t : Stream). length (output order.task t) ≤ place) same_stream le))

-- The report of what a read gave, whatever is answered.
pub stands-output : (honest : Type 0) (order : Order) (looks : ℕ) (stream : Stream) (old now : Seen) (past : List Act) (place : ℕ) (bytes : List ℕ) (event : Event) (answer : Result Taken TakeFault) (told : Option (List Told)) (reports : Option (List GateCall)) (said : Said)
    → Stands honest order looks old now (read order stream place (Some bytes) ∷ past)
    → event ≡ OutputEvent order.task (named stream) place bytes
    → AddsTold event answer now.told told → Adds (gate_call.Report event answer) now.reports reports → said ≡ says.Report answer
    → HasStream order stream → place ≡ kept order stream past → 0 < length bytes → IsInTurn past
    → (honest → Holds order (now.output order.task) (now.exited order.task) (read order stream place (Some bytes) ∷ past) → Holds order (now.output order.task) (now.exited order.task) (Reported (OutputEvent order.task (named stream) place bytes) answer ∷ read order stream place (Some bytes) ∷ past))
    → Stands honest order looks old (record now { told = told; reports = reports; said = said }) (Reported (OutputEvent order.task (named stream) place bytes) answer ∷ read order stream place (Some bytes) ∷ past)
stands-output honest order looks stream old now past place bytes event answer told reports said stands is told_by reported_by said_by has at some turning holds =
    let told_so = subst (λ (e : Event). AddsTold e answer now.told told) is told_by in
    let called = subst (λ (e : Event). Adds (gate_call.Report e answer) now.reports reports) is reported_by in
    stands-reported honest order looks old now (read order stream place (Some bytes) ∷ past) (OutputEvent order.task (named stream) place bytes) answer told reports said stands told_so called said_by
    (refl, record { stream = stream; has = has; named_so = refl; place = at; some = some; before = past; read_so = refl }) refl (inl turning) holds

-- A report that was not accepted ends the serve.
pub ends-told : (order : Order) (event : Event) (past : List Act) (answer : Result Taken TakeFault) → (served_by answer ≡ served.Done → ⊥)
    → EndsFor order (Reported event answer ∷ past) (served_by answer)
ends-told order event past (Ok Accepted) not_done = absurd (not_done refl)
ends-told order event past (Ok NotOpen) not_done = (event, NotOpen, past, refl, λ e. cc)
ends-told order event past (Ok (WrongPlace place)) not_done = (event, WrongPlace place, past, refl, λ e. cc)
ends-told order event past (Ok Finished) not_done = (event, Finished, past, refl, λ e. cc)
ends-told order event past (Err take_fault.Memory) not_done = tt
ends-told order event past (Err take_fault.Disk) not_done = (event, take_fault.Disk, past, refl, λ e. cc)
ends-told order event past (Err (take_fault.Full len add)) not_done = (event, take_fault.Full len add, past, refl, λ e. cc)
ends-told order event past (Err take_fault.Stopped) not_done = (event, take_fault.Stopped, past, refl, λ e. cc)

-- A report that ends in `Done` was accepted.
pub done-accepted : (answer : Result Taken TakeFault) → served_by answer ≡ served.Done → answer ≡ Ok Accepted
done-accepted (Ok Accepted) is = refl
done-accepted (Ok NotOpen) is = cc
done-accepted (Ok (WrongPlace place)) is = cc
done-accepted (Ok Finished) is = cc
done-accepted (Err take_fault.Memory) is = cc
done-accepted (Err take_fault.Disk) is = cc
done-accepted (Err (take_fault.Full len add)) is = cc
done-accepted (Err take_fault.Stopped) is = cc

adds-nothing : (answer : Result Taken TakeFault) (old bytes : List ℕ) → (answer ≡ Ok Accepted → ⊥) → old ++ (if is_accepted answer then bytes else []) ≡ old
adds-nothing (Ok Accepted) old bytes refused = absurd (refused refl)
adds-nothing (Ok NotOpen) old bytes refused = append-nil old
adds-nothing (Ok (WrongPlace place)) old bytes refused = append-nil old
adds-nothing (Ok Finished) old bytes refused = append-nil old
adds-nothing (Err fault) old bytes refused = append-nil old

-- What was not accepted leaves what stands on the host.
pub holds-refused : (order : Order) (output : Stream → List ℕ) (ended : Option ℤ) (past : List Act) (event : Event) (answer : Result Taken TakeFault) → (answer ≡ Ok Accepted → ⊥)
    → Holds order output ended past → Holds order output ended (Reported event answer ∷ past)
holds-refused order output ended past event answer refused holds =
    holds-on order output output ended ended past (Reported event answer) (λ s. adds-nothing answer (accepted s past) (output_in s event) refused) refl found
    (record { grows = λ s. take_all (length (output s)) (output s) (le_refl (length (output s))); stays = λ s is. refl; exit = λ is. refl }) holds
  where
    found : (s : Stream) (p : ℕ) → FoundEnd order s p (Reported event answer ∷ past) → FoundEnd order s p past ⊎ (length (output s) ≤ p)
    found s p (inl e) = cc
    found s p (inr (none, rest)) = inl rest

-- an accepted output moves the kept place on
pub kept-taken : (order : Order) (stream : Stream) (place : ℕ) (bytes : List ℕ) (past : List Act)
    → kept order stream (taken_in order stream place bytes past) ≡ min (kept order stream past + length bytes) (2 ^ 64 - 1)
kept-taken order Log place bytes past = omega (arith, length-append (accepted Log past) bytes)
kept-taken order Out place bytes past = omega (arith, length-append (accepted Out past) bytes)

-- The report was refused.
pub stands-refused : (honest : Type 0) (order : Order) (looks : ℕ) (stream : Stream) (old now : Seen) (past : List Act) (place : ℕ) (bytes : List ℕ) (event : Event) (last : Served) (told : Option (List Told)) (reports : Option (List GateCall)) (said : Said)
    → Stands honest order looks old now (read order stream place (Some bytes) ∷ past)
    → event ≡ OutputEvent order.task (named stream) place bytes
    → Tells event now.told told now.reports reports said last → (last ≡ served.Done → ⊥)
    → HasStream order stream → place ≡ kept order stream past → 0 < length bytes → IsInTurn past
    → (next : List Act) × Stands honest order looks old (record now { told = told; reports = reports; said = said }) next × EndsFor order next last × ((act : Act) → WasDone act past → WasDone act next)
stands-refused honest order looks stream old now past place bytes event last told reports said stands is tells not_done has at some turning =
    let not_accepted : tells.answer ≡ Ok Accepted → ⊥ = λ accepted. not_done (tells.means ∙ ap served_by accepted) in
    let output_event = OutputEvent order.task (named stream) place bytes in
    let next = Reported output_event tells.answer ∷ read order stream place (Some bytes) ∷ past in (
      next,
      stands-output honest order looks stream old now past place bytes event tells.answer told reports said stands is tells.told_so tells.called tells.said_so has at some turning
          (λ is_honest. holds-refused order (now.output order.task) (now.exited order.task) (read order stream place (Some bytes) ∷ past) output_event tells.answer not_accepted),
      subst (EndsFor order next) (sym tells.means) (ends-told order output_event (read order stream place (Some bytes) ∷ past) tells.answer (λ done. not_done (tells.means ∙ done))),
      λ act done. inr (inr done),
    )

-- It was accepted.
pub stands-taken : (honest : Type 0) (order : Order) (looks : ℕ) (stream : Stream) (old now : Seen) (past : List Act) (place n : ℕ) (bytes : List ℕ) (event : Event) (last : Served) (told : Option (List Told)) (reports : Option (List GateCall)) (said : Said)
    → Stands honest order looks old now (read order stream place (Some bytes) ∷ past)
    → event ≡ OutputEvent order.task (named stream) place bytes
    → Tells event now.told told now.reports reports said last → last ≡ served.Done
    → HasStream order stream → place ≡ kept order stream past → 0 < length bytes → IsInTurn past
    → (honest → bytes ≡ take n (drop place (now.output order.task stream)))
    → Stands honest order looks old (record now { told = told; reports = reports; said = said }) (taken_in order stream place bytes past)
stands-taken honest order looks stream old now past place n bytes event last told reports said stands is tells done has at some turning right =
    let accepted_so = done-accepted tells.answer (sym tells.means ∙ done) in
    let told_so = subst (λ (a : Result Taken TakeFault). AddsTold event a now.told told) accepted_so tells.told_so in
    let called = subst (λ (a : Result Taken TakeFault). Adds (gate_call.Report event a) now.reports reports) accepted_so tells.called in
    let said_so = subst (λ (a : Result Taken TakeFault). said ≡ says.Report a) accepted_so tells.said_so in
    stands-output honest order looks stream old now past place bytes event (Ok Accepted) told reports said stands is told_so called said_so has at some turning
    (λ is_honest. holds-output order (now.output order.task) (now.exited order.task) (read order stream place (Some bytes) ∷ past) stream place n bytes at (right is_honest))
