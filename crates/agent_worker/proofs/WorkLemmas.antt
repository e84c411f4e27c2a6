-- An executor's work, after one deed more.
use Rattle.std.proofs.Common.{◌≡◌, ◌++◌, ◌∷◌, [], ℕ, ℤ, List, Option, Some, None, IsSome, sym, ap, ◌∙◌, refl, subst}
use Rattle.task_host.specs.Host.{Records}
use Rattle.task_host.specs.Host.{Stays as OutputStays}
use Rattle.task_host.specs.declared.call.Call.TheVariants as call
use Rattle.agent_worker.specs.Types.{Order, Stream, Call}
use Rattle.agent_worker.specs.declared.gate.Claim.{Claim}
use Rattle.agent_worker.specs.declared.gate.Claim.TheVariants as claim
use Rattle.agent_worker.specs.declared.gate.GateCall.{GateCall}
use Rattle.agent_worker.specs.declared.gate.Said.{Said}
use Rattle.agent_worker.specs.declared.gate.Said.TheVariants as says
use Rattle.agent_worker.specs.declared.gate.ClaimSaid.TheVariants as claim_says
use Rattle.agent_worker.specs.declared.gate.GateCall.TheVariants as gate_call
use Rattle.agent_worker.specs.declared.task.Served.{Served}
use Rattle.agent_worker.specs.declared.worked.Worked.{Worked}
use Rattle.agent_worker.specs.Gate.{Told, Claimed, Becomes, Stays, Adds, AddsClaim, claimed_in, claim_said}
use Rattle.agent_worker.specs.Acts.{with_calls, with_told, with_reports, said_after}
use Rattle.agent_worker.specs.Serve.{Seen, Tasks, tasks_at, ServesOrder}
use Rattle.agent_worker.specs.Working.{Deed, GivesNone, Claims, Serves, Pauses, Halts, Telling, OnHost, WorkLaunches, WorksOnHost, WorksSoFar, WorkEnds, Works, MayWork, MayClaim, work_calls, work_told, work_reports, work_claims}
use Rattle.agent_worker.proofs.TellLemmas.{becomes, records}
use Rattle.agent_worker.proofs.DeliverLemmas.{all-delivered}

-- what is told now was told before
was-told : {A : Type 0} (f : List A → List A) (old now : Option (List A)) → Becomes f old now → IsSome now → IsSome old
was-told f old None becomes_so some = cc
was-told f None (Some now) becomes_so some = absurd becomes_so
was-told f (Some old) (Some now) becomes_so some = refl

-- A claim, whatever it gave.
pub work-claims : (number looks : ℕ) (honest : Type 0) (old now : Telling) (past : List Deed) (answer : Claim) (told : Option (List Told)) (reports : Option (List GateCall)) (said : Said) (claimed : Option (List Claimed))
    → WorksSoFar number looks honest old now past → MayClaim past
    → Stays now.told told → Adds (gate_call.Claim number answer) now.reports reports → said ≡ says.Claim (claim_said answer) → AddsClaim number answer now.claimed claimed
    → WorksSoFar number looks honest old (record now { told = told; reports = reports; said = said; claimed = claimed }) (Claims answer ∷ past)
work-claims number looks honest old now past answer told reports said claimed so may told_so called said_so adds = record {
  calls = so.calls;
  told = becomes (work_told past) (λ list. list) old.told now.told told so.told told_so;
  reports = becomes (work_reports number past) (λ list. list ++ gate_call.Claim number answer ∷ []) old.reports now.reports reports so.reports called;
  said = said_so;
  claimed = becomes (work_claims past) (λ list. list ++ claimed_in answer) old.claimed now.claimed claimed so.claimed adds.told;
  lawful = (may, so.lawful);
  own = λ some. so.own (was-told (λ list. list ++ claimed_in answer) now.claimed claimed adds.told some);
  launched = so.launched;
  on_host = so.on_host;
}

-- what stands on a host that a serve has seen
abbrev pub host_at : Tasks → Seen → OnHost
host_at tasks s = record { tasks = tasks; output = s.output; exited = s.exited }

abbrev pub telling_at : Option (List Claimed) → Tasks → Seen → Telling
telling_at claimed tasks s = record { calls = s.calls; told = s.told; reports = s.reports; said = s.said; claimed = claimed; host = host_at tasks s }

-- The serve of the order that the claim just gave.
work-serves : (number looks : ℕ) (honest h : Type 0) (old : Telling) (before : List Deed) (order : Order) (seen_old seen_now : Seen) (old_tasks tasks : Tasks) (answer : Served) (claimed next_claimed : Option (List Claimed))
    → WorksSoFar number looks honest old (telling_at claimed old_tasks seen_old) (Claims (claim.Order order) ∷ before)
    → (serve : ServesOrder h order looks seen_old seen_now old_tasks tasks answer) → (honest → h)
    → Stays claimed next_claimed → (IsSome claimed → order.executor ≡ number)
    → WorksSoFar number looks honest old (telling_at next_claimed tasks seen_now) (Serves order serve.serve.past answer ∷ Claims (claim.Order order) ∷ before)
work-serves number looks honest h old before order seen_old seen_now old_tasks tasks answer claimed next_claimed so serve is_honest same own = record {
  calls = becomes (work_calls before) (with_calls serve.serve.past) old.calls seen_old.calls seen_now.calls so.calls serve.serve.shows.calls;
  told = becomes (work_told before) (with_told serve.serve.past) old.told seen_old.told seen_now.told so.told serve.serve.shows.told;
  reports = becomes (work_reports number (Claims (claim.Order order) ∷ before)) (with_reports serve.serve.past) old.reports seen_old.reports seen_now.reports so.reports serve.serve.shows.reports;
  said = serve.serve.shows.said ∙ ap (said_after serve.serve.past) so.said;
  claimed = becomes (work_claims (Claims (claim.Order order) ∷ before)) (λ list. list) old.claimed claimed next_claimed so.claimed same;
  lawful = (((before, refl), serve.serve.lawful, serve.serve.ends), so.lawful);
  own = λ some. (own (was-told (λ list. list) claimed next_claimed same some), so.own (was-told (λ list. list) claimed next_claimed same some));
  launched = (old_tasks.launches, so.launched, serve.launched);
  on_host = λ is. (host_at old_tasks seen_old, so.on_host is, record { kept = serve.kept (is_honest is); delivers = serve.serve.delivers (is_honest is); goes_on = serve.serve.goes_on (is_honest is) });
}

-- A claim that gave an order, and its serve, which ended so.
pub work-order : (number looks : ℕ) (honest h : Type 0) (old : Telling) (past : List Deed) (order : Order) (told : Option (List Told)) (reports : Option (List GateCall)) (said : Said) (claimed mid_claimed next_claimed : Option (List Claimed))
    (seen_old seen_now : Seen) (old_tasks tasks : Tasks) (answer ended : Served)
    → WorksSoFar number looks honest old (telling_at claimed old_tasks (record seen_old { told = told; reports = reports; said = said })) past → MayClaim past
    → Stays told seen_old.told → Adds (gate_call.Claim number (claim.Order order)) reports seen_old.reports → seen_old.said ≡ says.Claim claim_says.Order → AddsClaim number (claim.Order order) claimed mid_claimed
    → (serve : ServesOrder h order looks seen_old seen_now old_tasks tasks answer) → (honest → h) → Stays mid_claimed next_claimed → answer ≡ ended
    → WorksSoFar number looks honest old (telling_at next_claimed tasks seen_now) (Serves order serve.serve.past ended ∷ Claims (claim.Order order) ∷ past)
work-order number looks honest h old past order told reports said claimed mid_claimed next_claimed seen_old seen_now old_tasks tasks answer ended so may told_so called said_so adds serve is_honest same is =
    let claims = work-claims number looks honest old (telling_at claimed old_tasks (record seen_old { told = told; reports = reports; said = said })) past (claim.Order order) seen_old.told seen_old.reports seen_old.said mid_claimed so may told_so called said_so adds in
    let serves = work-serves number looks honest h old past order seen_old seen_now old_tasks tasks answer mid_claimed next_claimed claims serve is_honest same adds.own in
    subst (λ (a : Served). WorksSoFar number looks honest old (telling_at next_claimed tasks seen_now) (Serves order serve.serve.past a ∷ Claims (claim.Order order) ∷ past)) is serves

abbrev on_host_at : List ℕ → List ℕ → (ℕ → Option ℤ) → (ℕ → Stream → List ℕ) → OnHost
on_host_at launches dirs exited output = record { tasks = tasks_at launches dirs; output = output; exited = exited }

-- what a pause leaves on an honest host
pub same-host : (old_launches launches old_dirs dirs : List ℕ) (old_exited exited : ℕ → Option ℤ) (old_output output : ℕ → Stream → List ℕ)
    → launches ≡ old_launches → dirs ≡ old_dirs → OutputStays old_exited exited old_output output
    → on_host_at launches dirs exited output ≡ on_host_at old_launches old_dirs old_exited old_output
same-host old_launches launches old_dirs dirs old_exited exited old_output output a b stays =
    λ i. record { tasks = tasks_at (a i) (b i); output = λ task stream. stays.output task stream i; exited = λ task. stays.exited task i }

-- A pause, where a claim gave no task.
pub work-pauses : (number looks : ℕ) (honest : Type 0) (old now : Telling) (before : List Deed) (given : Claim) (calls : Option (List Call)) (host : OnHost)
    → GivesNone given → WorksSoFar number looks honest old now (Claims given ∷ before) → Records now.calls calls call.Pause → host.tasks.launches ≡ now.host.tasks.launches → (honest → host ≡ now.host)
    → WorksSoFar number looks honest old (record now { calls = calls; host = host }) (Pauses ∷ Claims given ∷ before)
work-pauses number looks honest old now before given calls host none so kept launches same = record {
  calls = becomes (work_calls before) (λ list. list ++ call.Pause ∷ []) old.calls now.calls calls so.calls (records now.calls calls call.Pause kept);
  told = so.told;
  reports = so.reports;
  said = so.said;
  claimed = so.claimed;
  lawful = ((given, before, none, refl), so.lawful);
  own = so.own;
  launched = work-launched before old.host.tasks.launches now.host.tasks.launches host.tasks.launches launches so.launched;
  on_host = λ is. subst (λ (x : OnHost). WorksOnHost before old.host x) (sym (same is)) (so.on_host is);
}
  where
    work-launched : (past : List Deed) (a b c : List ℕ) → c ≡ b → WorkLaunches past a b → WorkLaunches past a c
    work-launched past a b c is all = subst (WorkLaunches past a) (sym is) all

-- A halt.
pub work-halts : (number looks : ℕ) (honest : Type 0) (old now : Telling) (past : List Deed) (told : Option (List Told)) (reports : Option (List GateCall)) (said : Said) (claimed : Option (List Claimed))
    → WorksSoFar number looks honest old now past → MayWork looks past Halts
    → Stays now.told told → Adds gate_call.Halt now.reports reports → said ≡ says.Halt → Stays now.claimed claimed
    → WorksSoFar number looks honest old (record now { told = told; reports = reports; said = said; claimed = claimed }) (Halts ∷ past)
work-halts number looks honest old now past told reports said claimed so may told_so called said_so same = record {
  calls = so.calls;
  told = becomes (work_told past) (λ list. list) old.told now.told told so.told told_so;
  reports = becomes (work_reports number past) (λ list. list ++ gate_call.Halt ∷ []) old.reports now.reports reports so.reports called;
  said = said_so;
  claimed = becomes (work_claims past) (λ list. list) old.claimed now.claimed claimed so.claimed same;
  lawful = (may, so.lawful);
  own = λ some. so.own (was-told (λ list. list) now.claimed claimed same some);
  launched = so.launched;
  on_host = so.on_host;
}

-- The end of the work.
pub works-ended : (number looks : ℕ) (honest : Type 0) (old now : Telling) (past : List Deed) (answer : Worked) → WorksSoFar number looks honest old now past → WorkEnds past answer → Works number looks honest old now answer
works-ended number looks honest old now past answer so ends = record { past = past; so_far = so; ends = ends; delivered = λ is. all-delivered past old.host now.host (so.on_host is) }
