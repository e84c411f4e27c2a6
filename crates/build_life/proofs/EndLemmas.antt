-- How a life ended, by the last look and by what its history tells.
use Rattle.std.proofs.Common.{◌≡◌, ◌∙◌, ◌<◌, inl, inr, ℕ, Bool, true, false, List, [], ◌∷◌, ◌++◌, None, refl, sym, ap, subst, append_assoc, append-nil, arith}
use Rattle.std.specs.Prelude.{◌&&◌, ◌||◌, not, nat_lt, if◌then◌else◌}
use Rattle.agent_worker.specs.declared.member.Member.{Member}
use Rattle.agent_worker.specs.declared.member.Member.TheVariants.{Executor, Operator}
use Rattle.build_store.specs.Lower.build_core.Builds.{Parts}
use Rattle.build_store.specs.Lower.build_core.Phases.{has_ended}
use Rattle.build_requests.specs.Waiting.{open_tasks, waiting_inputs}
use Rattle.build_store.proofs.Lower.durable_build.OpenLemmas.{begun_all}
use Rattle.launch_laws.specs.ManyTurns.{AllTaken, IsTaken}
use Rattle.model_run.specs.declared.event.Event.{Event}
use Rattle.model_run.specs.State.{Setting}
use Rattle.model_run.specs.World as W
use Rattle.build_life.specs.declared.resting.Rest.TheVariants.{Waits, AnswersFailed}
use Rattle.build_store.specs.Lower.durable_build.Settings.{IsProper}
use Rattle.settle_laws.specs.Stances.{Stance}
use Rattle.member_turns.specs.Lower.locked_build.declared.ask.Progress.{Progress}
use Rattle.member_turns.specs.Lower.locked_build.Claims.{within_u32}
use Rattle.member_turns.specs.Lower.locked_build.Showing.{IsSettled}
use Rattle.member_turns.specs.Ending.{can_answer, goes_on}
use Rattle.build_life.specs.Ending.{any_failed, AllReadOut, RestsWith, rest_of}
use Rattle.build_life.specs.Going.{Comes, by_grant, by_report, by_line, GoesBy, begins, takes, passes}
use Rattle.build_life.proofs.WalkLemmas.{ShowsAll, requests_are, settled_none}

either_false : (a b : Bool) → (a || b) ≡ false → (a ≡ false) × (b ≡ false)
either_false true b is = absurd (cc)
either_false false b is = (refl, is)

none_within : (n : ℕ) → nat_lt 0 (within_u32 n) ≡ false → n ≡ 0
none_within n is = grind (arith, is)

some_within : (n : ℕ) → nat_lt 0 (within_u32 n) ≡ true → 0 < n
some_within n is = grind (arith, is)

module _ {H A : Type 0} where
  read_out : (members : List (Member H A)) → can_answer members ≡ false → any_failed members ≡ false → AllReadOut members
  read_out [] stop calm = tt
  read_out (Executor number host ∷ members) stop calm = read_out members stop calm
  read_out (Operator answers line true failed ∷ members) stop calm = (refl, read_out members (either_false (not (true || failed)) (can_answer members) stop).1 (either_false failed (any_failed members) calm).1)
  read_out (Operator answers line false true ∷ members) stop calm = absurd (cc)
  read_out (Operator answers line false false ∷ members) stop calm = absurd (cc)

  module _ (setting : Setting) (w : W.Build) (members : List (Member H A)) (none : W.next_grant setting w ≡ None) where
    -- why it rests, by what is known of its build
    waits_by : (n : ℕ) (some failed : Bool) → nat_lt 0 (within_u32 n) ≡ some → any_failed members ≡ failed → w.ended ≡ false → open_tasks w.shared.requests ≡ 0 → waiting_inputs w.shared.requests ≡ n
        → (some && can_answer members) ≡ false → RestsWith (if some && failed then AnswersFailed else Waits) setting w members
    waits_by n true true found is going tasks waits stop = (going, none, tasks, subst (λ (m : ℕ). 0 < m) (sym waits) (some_within n found), is)
    waits_by n true false found is going tasks waits stop = (going, none, tasks, inr (read_out members stop is))
    waits_by n false failed found is going tasks waits stop = (going, none, tasks, inl (waits ∙ none_within n found))

    rests_by : (ended : Bool) (t n : ℕ) → w.ended ≡ ended → open_tasks w.shared.requests ≡ t → waiting_inputs w.shared.requests ≡ n
        → goes_on (record { ended = ended; stopped = false; tasks = within_u32 t; waiting = within_u32 n }) members ≡ false
        → RestsWith (rest_of (record { ended = ended; stopped = false; tasks = within_u32 t; waiting = within_u32 n }) members) setting w members
    rests_by true t n over tasks waits stop = over
    rests_by false t n over tasks waits stop =
        let both = either_false (nat_lt 0 (within_u32 t)) (nat_lt 0 (within_u32 n) && can_answer members) stop in
        waits_by n (nat_lt 0 (within_u32 n)) (any_failed members) refl refl over (tasks ∙ none_within t both.0) waits both.1

-- how far a build has come
abbrev pub progress_of : {T : Type 0} → Parts T → Progress
progress_of b = record { ended = has_ended b.phase; stopped = false; tasks = within_u32 (open_tasks b.shared.requests); waiting = within_u32 (waiting_inputs b.shared.requests) }

-- Where a look said so of a settled build that does not go on, it rests.
pub rests_so : {T H A : Type 0} (stance : T → Stance) (setting : Setting) (proper : IsProper setting) (now : List Event) (b k : Parts T) (members : List (Member H A)) (come : Progress) → ShowsAll stance setting proper b now
    → ShowsAll stance setting proper k now → IsSettled k → come ≡ progress_of b → goes_on come members ≡ false → RestsWith (rest_of come members) setting (W.world_in setting now) members
rests_so stance setting proper now b k members come shown still settled is stop =
    let w : W.Build = W.world_in setting now in
    let same : w.shared.requests ≡ b.shared.requests = requests_are stance setting proper b now shown in
    subst (λ (c : Progress). goes_on c members ≡ false → RestsWith (rest_of c members) setting w members) (sym is)
    (λ rest. rests_by setting w members (settled_none stance setting proper k now still settled) (has_ended b.phase) (open_tasks b.shared.requests) (waiting_inputs b.shared.requests) shown.stands.ended
    (ap open_tasks same) (ap waiting_inputs same) rest) stop

module _ (setting : Setting) where
  -- events that came for one reason came for another
  comes_so : (R S : Event → Type 0) (events : List Event) (e : Event) (heard : List (List ℕ)) → ((x : Event) → R x → S x) → Comes setting R events e heard → Comes setting S events e heard
  comes_so R S events e heard goes (by_grant request executor is) = by_grant request executor is
  comes_so R S events e heard goes (by_report x none other r) = by_report x none other (goes x r)
  comes_so R S events e heard goes (by_line line x none d) = by_line line x none d

  goes_so : (R S : Event → Type 0) (before now : List Event) (lines : List (List ℕ)) → ((x : Event) → R x → S x) → GoesBy setting R before now lines → GoesBy setting S before now lines
  goes_so R S before now lines goes begins = begins
  goes_so R S before now lines goes (takes {events = events} {heard = heard} e g comes accepted) = takes e (goes_so R S before events _ goes g) (comes_so R S events e heard goes comes) accepted
  goes_so R S before now lines goes (passes {events = events} line g none passed) = passes line (goes_so R S before events _ goes g) none passed

  -- one after the other
  pub goes_then : (R S : Event → Type 0) (before mid now : List Event) (first lines : List (List ℕ)) → ((x : Event) → R x → S x) → GoesBy setting R before mid first → GoesBy setting S mid now lines → GoesBy setting S before now (first ++ lines)
  goes_then R S before mid now first lines goes one begins = subst (GoesBy setting S before mid) (sym (append-nil first)) (goes_so R S before mid first goes one)
  goes_then R S before mid now first lines goes one (takes {events = events} {lines = ls} {heard = heard} e g comes accepted) =
      subst (GoesBy setting S before (events ++ e ∷ [])) (append_assoc first ls heard) (takes e (goes_then R S before mid events first ls goes one g) comes accepted)
  goes_then R S before mid now first lines goes one (passes {lines = ls} line g none passed) =
      subst (GoesBy setting S before now) (append_assoc first ls (line ∷ [])) (passes line (goes_then R S before mid now first ls goes one g) none passed)

  taken_last : (before es : List Event) (e : Event) → AllTaken setting before es → IsTaken setting (before ++ es) e → AllTaken setting before (es ++ e ∷ [])
  taken_last before [] e all one = (subst (λ (xs : List Event). IsTaken setting xs e) (append-nil before) one, tt)
  taken_last before (x ∷ es) e all one = (all.0, taken_last (before ++ x ∷ []) es e all.1 (subst (λ (xs : List Event). IsTaken setting xs e) (sym (append_assoc before (x ∷ []) es)) one))

  -- the events that came were taken one after the other
  pub goes_taken : (R : Event → Type 0) (before now : List Event) (lines : List (List ℕ)) → (W.world_in setting before).started ≡ true → GoesBy setting R before now lines → (taken : List Event) × (now ≡ before ++ taken) × AllTaken setting before taken
  goes_taken R before now lines begun begins = ([], sym (append-nil before), tt)
  goes_taken R before now lines begun (takes {events = events} e g comes accepted) =
      let so_far = goes_taken R before events _ begun g in
      let here : (W.world_in setting events).started ≡ true = subst (λ (xs : List Event). (W.world_in setting xs).started ≡ true) (sym so_far.1) (begun_all setting before so_far.0 begun) in (
        so_far.0 ++ e ∷ [],
        ap (λ (xs : List Event). xs ++ e ∷ []) so_far.1 ∙ append_assoc before so_far.0 (e ∷ []),
        taken_last before so_far.0 e so_far.2 (subst (λ (xs : List Event). IsTaken setting xs e) so_far.1 (record { begun = here; accepted = accepted })),
      )
  goes_taken R before now lines begun (passes {events = events} line g none passed) = goes_taken R before events _ begun g
