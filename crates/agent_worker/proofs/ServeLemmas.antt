-- How a serve ends, and what it has then delivered.
use Rattle.std.proofs.Common.{◌≡◌, ◌⊎◌, ◌<◌, ◌≤◌, ◌-◌, ◌^◌, ◌++◌, ◌∷◌, [], ℕ, ℤ, List, Bool, true, false, length, drop, Option, IsSome, Ok, Err, Result, inl, inr, sym, ap, ◌∙◌, refl, arith, subst, append-nil, if◌then◌else◌}
use Rattle.device_faults.specs.declared.faults.Failed.{Failed}
use Rattle.task_host.specs.Host.{Records, GoesOn, RemovesFolder}
use Rattle.task_host.specs.declared.call.Call.TheVariants as call
use Rattle.journal_core.specs.declared.faults.TakeFault.{TakeFault}
use Rattle.journal_core.specs.declared.faults.TakeFault.TheVariants as take_fault
use Rattle.agent_worker.specs.declared.gate.GateCall.{GateCall}
use Rattle.agent_worker.specs.declared.gate.Said.{Said}
use Rattle.agent_worker.specs.declared.task.Served.{Served}
use Rattle.agent_worker.specs.declared.task.Served.TheVariants as served
use Rattle.agent_worker.specs.Types.{Event, Why, Taken, Accepted, NotOpen, WrongPlace, Finished, Order, Stream, Call}
use Rattle.agent_worker.specs.Gate.{Told, is_accepted}
use Rattle.agent_worker.specs.Acts.{Act, Called, Reported, HasStream, kept, kept_before, accepted, output_in, latest_look, unreported, bytes_of, WasDone}
use Rattle.agent_worker.specs.Causes.{FoundEnd, Exits, IsCaused}
use Rattle.agent_worker.specs.Serving.{IsInTurn, MayReport, IsServe, EndsFor, exited, lost, served_by}
use Rattle.agent_worker.specs.Delivering.{Holds, Delivers}
use Rattle.agent_worker.specs.Folders.{RemovesSome, LeavesFolders}
use Rattle.agent_worker.specs.Serve.{Seen}
use Rattle.agent_worker.specs.Standing.{Stands, ServesOn, Tells}
use Rattle.agent_worker.proofs.ListLemmas.{stands-all}
use Rattle.agent_worker.proofs.HoldLemmas.{grew-of, holds-on}
use Rattle.agent_worker.proofs.GoesOnLemmas.{goes-nowhere}
use Rattle.agent_worker.proofs.StandLemmas.{stands-called, stands-reported}
use Rattle.agent_worker.proofs.ReadLemmas.{ends-told, done-accepted}

abbrev empty : List ℕ
empty = []

if-same : (b : Bool) → (if b then empty else empty) ≡ empty
if-same true = refl
if-same false = refl

none-added : (bytes : List ℕ) (b : Bool) → bytes ++ (if b then empty else empty) ≡ bytes
none-added bytes b = ap (λ (more : List ℕ). bytes ++ more) (if-same b) ∙ append-nil bytes

-- An exit that was accepted: all output was.
all-at : (order : Order) (looks : ℕ) (output : Stream → List ℕ) (ended : Option ℤ) (past before : List Act) (code : ℤ) (stream : Stream)
    → IsServe order looks (Reported (exited order code) (Ok Accepted) ∷ before)
    → Holds order output ended past → latest_look past ≡ latest_look before → accepted stream past ≡ accepted stream before
    → ((place : ℕ) → FoundEnd order stream place before → FoundEnd order stream place past)
    → HasStream order stream → kept order stream past < 2 ^ 64 - 1
    → drop (kept_before order stream) (output stream) ≡ accepted stream past
all-at order looks output ended past before code stream lawful holds looks_same same found has small =
    let exits = lawful.0.0.1 in
    let le = holds.read_out code stream (kept order stream before) (looks_same ∙ exits.said) (found (kept order stream before) (exits.read_out stream has)) in
    stands-all (kept_before order stream) (accepted stream past) (output stream) (holds.delivered stream small) (omega (arith, le, small, ap length same))

-- What was reported of the output is so.
pub delivers-of : (honest : Type 0) (order : Order) (looks : ℕ) (old now : Seen) (past : List Act) → Stands honest order looks old now past → honest → Delivers order past (now.output order.task) (now.exited order.task)
delivers-of honest order looks old now past stands is = record {
  a_part = (stands.holds is).delivered;
  all = λ code stream has by small. every code stream has by.before by.is small;
  over = λ code by. ended code by.before by.is;
}
  where
    every : (code : ℤ) (stream : Stream) → HasStream order stream → (before : List Act)
        → (past ≡ Reported (exited order code) (Ok Accepted) ∷ before) ⊎ ((removed : Result (Unit {0}) Failed) × (past ≡ Called (call.Remove order removed) ∷ Reported (exited order code) (Ok Accepted) ∷ before))
        → kept order stream past < 2 ^ 64 - 1 → drop (kept_before order stream) (now.output order.task stream) ≡ accepted stream past
    every code stream has before (inl e) small =
        all-at order looks (now.output order.task) (now.exited order.task) past before code stream (subst (IsServe order looks) e stands.lawful) (stands.holds is)
        (ap latest_look e) (ap (accepted stream) e ∙ append-nil (accepted stream before)) (λ place found. subst (FoundEnd order stream place) (sym e) (inr (refl, found))) has small
    every code stream has before (inr (removed, e)) small =
        all-at order looks (now.output order.task) (now.exited order.task) past before code stream (subst (IsServe order looks) e stands.lawful).1 (stands.holds is)
        (ap latest_look e) (ap (accepted stream) e ∙ append-nil (accepted stream before)) (λ place found. subst (FoundEnd order stream place) (sym e) (inr (refl, inr (refl, found)))) has small

    ended : (code : ℤ) → (before : List Act)
        → (past ≡ Reported (exited order code) (Ok Accepted) ∷ before) ⊎ ((removed : Result (Unit {0}) Failed) × (past ≡ Called (call.Remove order removed) ∷ Reported (exited order code) (Ok Accepted) ∷ before))
        → IsSome (now.exited order.task)
    ended code before (inl e) =
        let exits = (subst (IsServe order looks) e stands.lawful).0.0.1 in
        (stands.holds is).over code (ap latest_look e ∙ exits.said)
    ended code before (inr (removed, e)) =
        let exits = (subst (IsServe order looks) e stands.lawful).1.0.0.1 in
        (stands.holds is).over code (ap latest_look e ∙ exits.said)

-- The end of a serve.
pub serves-by : (honest : Type 0) (order : Order) (looks : ℕ) (old now : Seen) (past : List Act) (old_dirs dirs : List ℕ) (answer : Served) → (begun : List Act) → ((act : Act) → WasDone act begun → WasDone act past)
    → Stands honest order looks old now past → EndsFor order past answer → (honest → LeavesFolders order past old_dirs dirs) → ServesOn honest order looks old now begun old_dirs dirs answer
serves-by honest order looks old now past old_dirs dirs answer begun still stands ends leaves = record {
  still = still;
  folders = leaves;
  serve = record {
    past = past;
    shows = stands.shows;
    lawful = stands.lawful;
    ends = ends;
    delivers = delivers-of honest order looks old now past stands;
    goes_on = stands.goes_on;
  };
}

-- a last event of the task
abbrev pub IsLast : Order → Event → Type 0
IsLast order event = ((code : ℤ) × (event ≡ exited order code)) ⊎ ((why : Why) × (event ≡ lost order why))

last-gives-none : (order : Order) (event : Event) → IsLast order event → (stream : Stream) → output_in stream event ≡ []
last-gives-none order event (inl (code, is)) stream = ap (output_in stream) is
last-gives-none order event (inr (why, is)) stream = ap (output_in stream) is

last-no-bytes : (order : Order) (event : Event) → IsLast order event → [] ≡ bytes_of event
last-no-bytes order event (inl (code, is)) = sym (ap bytes_of is)
last-no-bytes order event (inr (why, is)) = sym (ap bytes_of is)

-- The report of a loss ends the serve, whatever is answered.
ends-lost : (order : Order) (why : Why) (past : List Act) (answer : Result Taken TakeFault) → EndsFor order (Reported (lost order why) answer ∷ past) (served_by answer)
ends-lost order why past (Ok Accepted) = inr (why, past, refl)
ends-lost order why past (Ok NotOpen) = ends-told order (lost order why) past (Ok NotOpen) (λ e. cc)
ends-lost order why past (Ok (WrongPlace place)) = ends-told order (lost order why) past (Ok (WrongPlace place)) (λ e. cc)
ends-lost order why past (Ok Finished) = ends-told order (lost order why) past (Ok Finished) (λ e. cc)
ends-lost order why past (Err take_fault.Memory) = tt
ends-lost order why past (Err take_fault.Disk) = ends-told order (lost order why) past (Err take_fault.Disk) (λ e. cc)
ends-lost order why past (Err (take_fault.Full len add)) = ends-told order (lost order why) past (Err (take_fault.Full len add)) (λ e. cc)
ends-lost order why past (Err take_fault.Stopped) = ends-told order (lost order why) past (Err take_fault.Stopped) (λ e. cc)

-- The report of a last event.
pub stands-last : (honest : Type 0) (order : Order) (looks : ℕ) (old now : Seen) (past : List Act) (event : Event) (answer : Result Taken TakeFault) (told : Option (List Told)) (reports : Option (List GateCall)) (said : Said) (ending : Served)
    → Stands honest order looks old now past → (tells : Tells event now.told told now.reports reports said ending) → IsCaused order looks past event → IsLast order event → unreported past ≡ [] → MayReport order past
    → Stands honest order looks old (record now { told = told; reports = reports; said = said }) (Reported event tells.answer ∷ past)
stands-last honest order looks old now past event answer told reports said ending stands tells caused last all may =
    stands-reported honest order looks old now past event tells.answer told reports said stands tells.told_so tells.called tells.said_so caused (all ∙ last-no-bytes order event last) may
    (λ is holds. holds-on order (now.output order.task) (now.output order.task) (now.exited order.task) (now.exited order.task) past (Reported event tells.answer) same refl found
    (grew-of order.task now.exited now.exited now.output now.output (goes-nowhere order.task now.exited now.output)) holds)
  where
    same : (s : Stream) → accepted s (Reported event tells.answer ∷ past) ≡ accepted s past
    same s = ap (λ (bytes : List ℕ). accepted s past ++ (if is_accepted tells.answer then bytes else [])) (last-gives-none order event last s) ∙ none-added (accepted s past) (is_accepted tells.answer)

    found : (s : Stream) (p : ℕ) → FoundEnd order s p (Reported event tells.answer ∷ past) → FoundEnd order s p past ⊎ (length (now.output order.task s) ≤ p)
    found s p (inl e) = cc
    found s p (inr (none, rest)) = inl rest

pub serves-lost : (honest : Type 0) (order : Order) (looks : ℕ) (old now : Seen) (past : List Act) (why : Why) (told : Option (List Told)) (reports : Option (List GateCall)) (said : Said) (old_dirs dirs : List ℕ) (ending : Served)
    → (begun : List Act) → ((act : Act) → WasDone act begun → WasDone act past)
    → Stands honest order looks old now past → Tells (lost order why) now.told told now.reports reports said ending → IsCaused order looks past (lost order why) → unreported past ≡ [] → MayReport order past
    → (honest → dirs ≡ old_dirs)
    → ServesOn honest order looks old (record now { told = told; reports = reports; said = said }) begun old_dirs dirs ending
serves-lost honest order looks old now past why told reports said old_dirs dirs ending begun still stands tells caused all may same =
    serves-by honest order looks old (record now { told = told; reports = reports; said = said }) (Reported (lost order why) tells.answer ∷ past) old_dirs dirs ending begun (λ act done. inr (still act done))
    (stands-last honest order looks old now past (lost order why) tells.answer told reports said ending stands tells caused (inr (why, refl)) all may)
    (subst (EndsFor order (Reported (lost order why) tells.answer ∷ past)) (sym tells.means) (ends-lost order why past tells.answer)) (λ is. inl (same is))

-- what a removal leaves
removes-some : (task : ℕ) (old now : List ℕ) (removed : Result (Unit {0}) Failed) → RemovesFolder task old now removed → RemovesSome task old now
removes-some task old now (Ok done) is = inr is
removes-some task old now (Err failed) is = is

-- The exit was accepted, and the folder removed.
pub serves-removed : (honest before : Type 0) (order : Order) (looks : ℕ) (old now : Seen) (past : List Act) (code : ℤ) (told : Option (List Told)) (reports : Option (List GateCall)) (said : Said) (ending : Served)
    (removed : Result (Unit {0}) Failed) (calls : Option (List Call)) (output : ℕ → Stream → List ℕ) (exited_now : ℕ → Option ℤ) (old_dirs dirs : List ℕ)
    → Stands before order looks old now past → (event : Event) → event ≡ exited order code → Tells event now.told told now.reports reports said ending → ending ≡ served.Done → Exits order code past → unreported past ≡ [] → IsInTurn past
    → (honest → before) → Records now.calls calls (call.Remove order removed) → (before → GoesOn order.task now.exited exited_now now.output output) → (before → RemovesFolder order.task old_dirs dirs removed)
    → ServesOn honest order looks old (record { calls = calls; told = told; reports = reports; said = said; output = output; exited = exited_now }) past old_dirs dirs served.Done
serves-removed honest before order looks old now past code told reports said ending removed calls output exited_now old_dirs dirs stands event is_exit tells_so done exits all turning is_honest kept_call goes removes =
    let tells = subst (λ (e : Event). Tells e now.told told now.reports reports said ending) is_exit tells_so in
    let accepted_so = done-accepted tells.answer (sym tells.means ∙ done) in
    let next = Reported (exited order code) (Ok Accepted) ∷ past in
    let mid = record now { told = told; reports = reports; said = said } in
    let reported = subst (λ (a : Result Taken TakeFault). Stands before order looks old mid (Reported (exited order code) a ∷ past)) accepted_so
    (stands-last before order looks old now past (exited order code) tells.answer told reports said ending stands tells (refl, exits) (inl (code, refl)) all (inl turning)) in
    let gone = stands-called honest before order looks old mid next (call.Remove order removed) calls output exited_now reported is_honest kept_call (refl, (code, past, refl)) goes
    (λ is holds. holds-on order (now.output order.task) (output order.task) (now.exited order.task) (exited_now order.task) next (Called (call.Remove order removed)) (λ s. refl) refl found
    (grew-of order.task now.exited exited_now now.output output (goes is)) holds) in
    serves-by honest order looks old (record { calls = calls; told = told; reports = reports; said = said; output = output; exited = exited_now }) (Called (call.Remove order removed) ∷ next) old_dirs dirs served.Done past (λ act done. inr (inr done)) gone
    (inl (code, removed, past, refl)) (λ is. inr ((code, record { before = past; is = inr (removed, refl) }), removes-some order.task old_dirs dirs removed (removes (is_honest is))))
  where
    found : (s : Stream) (p : ℕ) → FoundEnd order s p (Called (call.Remove order removed) ∷ Reported (exited order code) (Ok Accepted) ∷ past) → FoundEnd order s p (Reported (exited order code) (Ok Accepted) ∷ past) ⊎ (length (output order.task s) ≤ p)
    found s p (inl e) = cc
    found s p (inr (none, rest)) = inl rest

-- The report of an exit, which was not accepted.
pub serves-exited : (honest : Type 0) (order : Order) (looks : ℕ) (old now : Seen) (past : List Act) (code : ℤ) (event : Event) (told : Option (List Told)) (reports : Option (List GateCall)) (said : Said) (dirs : List ℕ) (ending : Served)
    → Stands honest order looks old now past → event ≡ exited order code → Tells event now.told told now.reports reports said ending → Exits order code past → unreported past ≡ [] → IsInTurn past → (ending ≡ served.Done → ⊥)
    → ServesOn honest order looks old (record now { told = told; reports = reports; said = said }) past dirs dirs ending
serves-exited honest order looks old now past code event told reports said dirs ending stands is tells_so exits all turning not_done =
    let tells = subst (λ (e : Event). Tells e now.told told now.reports reports said ending) is tells_so in
    serves-by honest order looks old (record now { told = told; reports = reports; said = said }) (Reported (exited order code) tells.answer ∷ past) dirs dirs ending past (λ act done. inr done)
    (stands-last honest order looks old now past (exited order code) tells.answer told reports said ending stands tells (refl, exits) (inl (code, refl)) all (inl turning))
    (subst (EndsFor order (Reported (exited order code) tells.answer ∷ past)) (sym tells.means) (ends-told order (exited order code) past tells.answer (λ done. not_done (tells.means ∙ done)))) (λ is_honest. inl refl)

-- folders that had stayed until then
pub leaves-on : (order : Order) (past : List Act) (old mid now : List ℕ) → mid ≡ old → LeavesFolders order past mid now → LeavesFolders order past old now
leaves-on order past old mid now same leaves = subst (λ (d : List ℕ). LeavesFolders order past d now) same leaves
