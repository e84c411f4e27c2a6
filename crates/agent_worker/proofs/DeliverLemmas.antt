-- What was delivered stands when tasks have gone on.
use Rattle.std.proofs.Common.{◌≡◌, ◌≢◌, ◌∷◌, [], ℕ, List, Bool, true, false, IsSome, length, take, drop, nat_eq, sym, ap, ◌∙◌, refl, arith, subst, take_all, le_refl}
use Rattle.std.proofs.lemmas.Bool.Decides.{nat_tests}
use Rattle.task_host.specs.Host.{GoesOn}
use Rattle.agent_worker.specs.Types.{Order}
use Rattle.agent_worker.specs.Acts.{Act, kept_before, accepted}
use Rattle.agent_worker.specs.Delivering.{Delivers}
use Rattle.agent_worker.specs.Working.{Deed, Claims, Serves, Pauses, Halts, OnHost, WorksOnHost, AllDelivered}
use Rattle.agent_worker.proofs.ListLemmas.{stands-grown}
use Rattle.agent_worker.proofs.HoldLemmas.{Grew, grew-of}

-- a call on one task leaves another as it was
grew-other : (task other : ℕ) (old now : OnHost) → GoesOn task old.exited now.exited old.output now.output → other ≢ task → Grew (old.output other) (now.output other) (old.exited other) (now.exited other)
grew-other task other old now goes not_same = record {
  grows = λ s. ap (take (length (old.output other s))) (goes.other_output other s not_same) ∙ take_all (length (old.output other s)) (old.output other s) (le_refl (length (old.output other s)));
  stays = λ s is. goes.other_output other s not_same;
  exit = λ is. goes.other_exited other not_same;
}

grew-any : (task other : ℕ) (old now : OnHost) → GoesOn task old.exited now.exited old.output now.output → Grew (old.output other) (now.output other) (old.exited other) (now.exited other)
grew-any task other old now goes = by (nat_eq other task) refl
  where
    by : (same : Bool) → nat_eq other task ≡ same → Grew (old.output other) (now.output other) (old.exited other) (now.exited other)
    by true is =
        let same : task ≡ other = grind (arith, nat_tests) in
        subst (λ (t : ℕ). Grew (old.output t) (now.output t) (old.exited t) (now.exited t)) same (grew-of task old.exited now.exited old.output now.output goes)
    by false is = grew-other task other old now goes (λ same. grind (arith, nat_tests, is, same))

delivers-still : (order : Order) (acts : List Act) (old now : OnHost) → Delivers order acts (old.output order.task) (old.exited order.task)
    → Grew (old.output order.task) (now.output order.task) (old.exited order.task) (now.exited order.task) → Delivers order acts (now.output order.task) (now.exited order.task)
delivers-still order acts old now d grew = record {
  a_part = λ stream small. stands-grown (kept_before order stream) (accepted stream acts) (old.output order.task stream) (now.output order.task stream) (grew.grows stream) (d.a_part stream small);
  all = λ code stream has by small. ap (drop (kept_before order stream)) (grew.stays stream (d.over code by)) ∙ d.all code stream has by small;
  over = λ code by. subst IsSome (sym (grew.exit (d.over code by))) (d.over code by);
}

all-still : (past : List Deed) (task : ℕ) (old now : OnHost) → GoesOn task old.exited now.exited old.output now.output → AllDelivered past old → AllDelivered past now
all-still [] task old now goes all = tt
all-still (Claims claim ∷ past) task old now goes all = all-still past task old now goes all
all-still (Serves order acts answer ∷ past) task old now goes all = (delivers-still order acts old now all.0 (grew-any task order.task old now goes), all-still past task old now goes all.1)
all-still (Pauses ∷ past) task old now goes all = all-still past task old now goes all
all-still (Halts ∷ past) task old now goes all = all-still past task old now goes all

-- What each serve of an executor's work delivered stands at its end.
pub all-delivered : (past : List Deed) (old now : OnHost) → WorksOnHost past old now → AllDelivered past now
all-delivered [] old now works = tt
all-delivered (Claims claim ∷ past) old now works = all-delivered past old now works
all-delivered (Serves order acts answer ∷ past) old now works =
    (works.2.delivers, all-still past order.task works.0 now works.2.goes_on (all-delivered past old works.0 works.1))
all-delivered (Pauses ∷ past) old now works = all-delivered past old now works
all-delivered (Halts ∷ past) old now works = all-delivered past old now works
