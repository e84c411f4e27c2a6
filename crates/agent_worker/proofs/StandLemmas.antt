-- What a serve has come to, after one act more.
use Rattle.std.proofs.Common.{◌≡◌, ◌++◌, ◌∷◌, [], ℕ, ℤ, List, Option, IsSome, Result, sym, refl, subst}
use Rattle.task_host.specs.Host.{Records, TellsState, GoesOn}
use Rattle.task_host.specs.declared.call.Call.TheVariants as call
use Rattle.task_host.specs.declared.answers.Look.TheVariants as look
use Rattle.agent_worker.proofs.HoldLemmas.{grew-of, holds-looked}
use Rattle.agent_worker.proofs.GoesOnLemmas.{goes-further}
use Rattle.agent_worker.specs.declared.gate.GateCall.{GateCall}
use Rattle.agent_worker.specs.declared.gate.Said.{Said}
use Rattle.agent_worker.specs.declared.gate.Said.TheVariants as says
use Rattle.agent_worker.specs.declared.gate.GateCall.TheVariants as gate_call
use Rattle.journal_core.specs.declared.faults.TakeFault.{TakeFault}
use Rattle.agent_worker.specs.Types.{Event, Taken, Order, Stream, Call, Look}
use Rattle.agent_worker.specs.Gate.{Told, told_as, Adds, AddsTold, is_told, added_if}
use Rattle.agent_worker.specs.Acts.{Act, Called, Reported, with_calls, with_told, with_reports, looked, unreported, bytes_of}
use Rattle.agent_worker.specs.Causes.{IsCaused}
use Rattle.agent_worker.specs.Serving.{MayDo, MayLook, MayReport}
use Rattle.agent_worker.specs.Delivering.{Holds}
use Rattle.agent_worker.specs.Serve.{Seen}
use Rattle.agent_worker.specs.Standing.{Stands}
use Rattle.agent_worker.proofs.TellLemmas.{becomes, records}

-- A call on the host.
pub stands-called : (honest before : Type 0) (order : Order) (looks : ℕ) (old now : Seen) (past : List Act) (call : Call) (calls : Option (List Call)) (output : ℕ → Stream → List ℕ) (exited : ℕ → Option ℤ)
    → Stands before order looks old now past → (honest → before)
    → Records now.calls calls call
    → MayDo order looks past (Called call)
    → (before → GoesOn order.task now.exited exited now.output output)
    → (before → Holds order (now.output order.task) (now.exited order.task) past → Holds order (output order.task) (exited order.task) (Called call ∷ past))
    → Stands honest order looks old (record now { calls = calls; output = output; exited = exited }) (Called call ∷ past)
stands-called honest before order looks old now past call calls output exited stands is_honest kept may goes holds = record {
  shows = record {
    calls = becomes (with_calls past) (λ list. list ++ call ∷ []) old.calls now.calls calls stands.shows.calls (records now.calls calls call kept);
    told = stands.shows.told;
    reports = stands.shows.reports;
    said = stands.shows.said;
  };
  lawful = (may, stands.lawful);
  holds = λ is. holds (is_honest is) (stands.holds (is_honest is));
  goes_on = λ is. goes-further order.task old.exited now.exited exited old.output now.output output (stands.goes_on (is_honest is)) (goes (is_honest is));
}

-- A report.
pub stands-reported : (honest : Type 0) (order : Order) (looks : ℕ) (old now : Seen) (past : List Act) (event : Event) (answer : Result Taken TakeFault) (told : Option (List Told)) (reports : Option (List GateCall)) (said : Said)
    → Stands honest order looks old now past
    → AddsTold event answer now.told told → Adds (gate_call.Report event answer) now.reports reports → said ≡ says.Report answer
    → IsCaused order looks past event → unreported past ≡ bytes_of event → MayReport order past
    → (honest → Holds order (now.output order.task) (now.exited order.task) past → Holds order (now.output order.task) (now.exited order.task) (Reported event answer ∷ past))
    → Stands honest order looks old (record now { told = told; reports = reports; said = said }) (Reported event answer ∷ past)
stands-reported honest order looks old now past event answer told reports said stands told_so reported said_so caused all may holds = record {
  shows = record {
    calls = stands.shows.calls;
    told = becomes (with_told past) (added_if (is_told answer) (told_as event answer)) old.told now.told told stands.shows.told told_so;
    reports = becomes (with_reports past) (λ list. list ++ gate_call.Report event answer ∷ []) old.reports now.reports reports stands.shows.reports reported;
    said = said_so;
  };
  lawful = ((caused, all, may), stands.lawful);
  holds = λ is. holds is (stands.holds is);
  goes_on = stands.goes_on;
}

-- A look.
pub stands-looked : (honest before : Type 0) (order : Order) (looks : ℕ) (old now : Seen) (past : List Act) (answer : Look) (calls : Option (List Call)) (output : ℕ → Stream → List ℕ) (exited : ℕ → Option ℤ) (dirs launches : List ℕ)
    → Stands before order looks old now past → (honest → before)
    → Records now.calls calls (call.Look order answer)
    → MayLook order past
    → (before → GoesOn order.task now.exited exited now.output output) → (before → TellsState order.task dirs launches (now.exited order.task) (exited order.task) answer)
    → Stands honest order looks old (record now { calls = calls; output = output; exited = exited }) (looked order answer ∷ past)
stands-looked honest before order looks old now past answer calls output exited dirs launches stands is_honest kept may goes state =
    stands-called honest before order looks old now past (call.Look order answer) calls output exited stands is_honest kept (refl, may) goes
    (λ is holds. holds-looked order (now.output order.task) (output order.task) (now.exited order.task) (exited order.task) past order answer (right is)
    (grew-of order.task now.exited exited now.output output (goes is)) holds)
  where
    right : before → (code : ℤ) → answer ≡ look.Exited code → IsSome (exited order.task)
    right is code e =
        let told = subst (λ (a : Look). TellsState order.task dirs launches (now.exited order.task) (exited order.task) a) e (state is) in
        subst IsSome (sym told.2) refl
