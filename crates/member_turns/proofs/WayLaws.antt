-- What a member's own way through a life adds to the launches of its host: tasks that were claimed in that life.
use Rattle.std.proofs.Common.{◌≡◌, ◌∙◌, ⊎_elim, inl, inr, ℕ, List, [], ◌∷◌, ◌++◌, refl, sym, ap, subst, append_assoc, append-nil}
use Rattle.std.specs.List.{AllZip, AllByRecursion as AllAre}
use Rattle.program_lock.specs.Merge.{IsMergeOf}
use Rattle.agent_worker.specs.declared.member.Member.{Member}
use Rattle.agent_worker.specs.declared.member.Member.TheVariants.{Executor, Operator}
use Rattle.member_turns.specs.Lower.locked_build.declared.ask.Entry.{Entry}
use Rattle.member_turns.specs.Tales.{claimed_of}
use Rattle.member_turns.specs.Turning.{tasks_of}
use Rattle.member_turns.proofs.PartLemmas.{all_append, all_first, all_map}
use Rattle.member_turns.specs.Turns.{IsIn, Launches, MadeOf, Turn}
use Rattle.member_turns.specs.Ways.{Chained, Way}
use Rattle.member_turns.proofs.LaunchLaws.{claims_merge}
use Rattle.task_host.specs.View.{HostView}

all_second : {A : Type 0} (P : A → Type 0) (xs ys zs : List A) → IsMergeOf xs ys zs → AllAre P zs → AllAre P ys
all_second P xs ys [] m all = subst (AllAre P) (sym m.1) tt
all_second {A} P xs ys (z ∷ zs) m all = ⊎_elim
    (λ (l : (us : List A) × (xs ≡ z ∷ us) × IsMergeOf us ys zs). all_second P l.0 ys zs l.2 all.1)
    (λ (r : (vs : List A) × (ys ≡ z ∷ vs) × IsMergeOf xs vs zs). subst (AllAre P) (sym r.1) (all.0, all_second P xs r.0 zs r.2 all.1))
    m

-- each of a list is in it
all_in : (xs : List ℕ) → AllAre (λ x. IsIn x xs) xs
all_in [] = tt
all_in (x ∷ xs) = (inl refl, all_map (λ y. IsIn y xs) (λ y. IsIn y (x ∷ xs)) xs (λ y there. inr there) (all_in xs))

-- the task is claimed by one of these entries
abbrev pub IsClaimedIn : List Entry → ℕ → Type 0
IsClaimedIn history task = IsIn task (tasks_of (claimed_of history))

-- each task that these entries claim is
abbrev AreClaimedIn : List Entry → List Entry → Type 0
AreClaimedIn history es = AllAre (IsClaimedIn history) (tasks_of (claimed_of es))

module _ {H : Type 0} (host : HostView H) (history : List Entry) where
  -- What a host has launched more, with tasks that were claimed.
  abbrev pub LaunchesMore : H → H → Type 0
  LaunchesMore machine now = (more : List ℕ) × (host.launches now ≡ host.launches machine ++ more) × AllAre (IsClaimedIn history) more

  pub launches_same : (machine : H) → LaunchesMore machine machine
  launches_same machine = ([], sym (append-nil (host.launches machine)), tt)

module _ {H A : Type 0} (host : HostView H) (history : List Entry) where
  abbrev pub MemberLaunches : Member H A → Member H A → Type 0
  MemberLaunches (Executor number machine) (Executor now next) = LaunchesMore host history machine next
  MemberLaunches (Operator answers line ended failed) (Operator next kept now_ended now_failed) = Unit {0}
  MemberLaunches (Executor number machine) (Operator next kept now_ended now_failed) = ⊥
  MemberLaunches (Operator answers line ended failed) (Executor now next) = ⊥

  launches_none : (m n : Member H A) → n ≡ m → MemberLaunches m n
  launches_none (Executor number machine) n is = subst (MemberLaunches (Executor number machine)) (sym is) (launches_same host history machine)
  launches_none (Operator answers line ended failed) n is = subst (MemberLaunches (Operator answers line ended failed)) (sym is) tt

  launches_then : (m k n : Member H A) → MemberLaunches m k → MemberLaunches k n → MemberLaunches m n
  launches_then (Executor number machine) (Executor mid between) (Executor now next) one more = (
    one.0 ++ more.0,
    more.1 ∙ ap (λ (l : List ℕ). l ++ more.0) one.1 ∙ append_assoc (host.launches machine) one.0 more.0,
    all_append (IsClaimedIn history) one.0 more.0 one.2 more.2,
  )
  launches_then (Operator answers line ended failed) (Operator mid held mid_ended mid_failed) (Operator next kept now_ended now_failed) one more = tt
  launches_then (Executor number machine) (Executor mid between) (Operator next kept now_ended now_failed) one more = absurd more
  launches_then (Executor number machine) (Operator mid held mid_ended mid_failed) n one more = absurd one
  launches_then (Operator answers line ended failed) (Executor mid between) n one more = absurd one
  launches_then (Operator answers line ended failed) (Operator mid held mid_ended mid_failed) (Executor now next) one more = absurd more

  turn_launches : (old now : Member H A) (own : List Entry) (added : List ℕ) → AreClaimedIn history own → Launches host old now own added → MemberLaunches old now
  turn_launches (Executor number machine) (Executor now next) own added claims l = (added, l.0, all_first (IsClaimedIn history) added l.1.0 (tasks_of (claimed_of own)) l.1.1 claims)
  turn_launches (Operator answers line ended failed) (Operator next kept now_ended now_failed) own added claims l = tt
  turn_launches (Executor number machine) (Operator next kept now_ended now_failed) own added claims l = absurd l
  turn_launches (Operator answers line ended failed) (Executor now next) own added claims l = absurd l

  -- what turns have made has the claims from before them
  claims_before : (before : List Entry) (turns : List (Turn H A)) (after : List Entry) → MadeOf before turns after → AreClaimedIn history after → AreClaimedIn history before
  claims_before before [] after made claims = subst (AreClaimedIn history) (sym made) claims
  claims_before before (turn ∷ turns) after made claims =
      all_first (IsClaimedIn history) (tasks_of (claimed_of before)) (tasks_of (claimed_of turn.own)) (tasks_of (claimed_of made.0)) (claims_merge before turn.own made.0 made.1) (claims_before made.0 turns after made.2 claims)

  turns_launch : (old now : Member H A) (turns : List (Turn H A)) (before own : List Entry) → Chained old turns now → AllAre (λ (turn : Turn H A). Launches host turn.old turn.now turn.own turn.launches) turns → MadeOf before turns own → AreClaimedIn history own → MemberLaunches old now
  turns_launch old now [] before own chain did made claims = launches_none old now chain
  turns_launch old now (turn ∷ turns) before own chain did made claims =
      let mid = claims_before made.0 turns own made.2 claims in
      let here = all_second (IsClaimedIn history) (tasks_of (claimed_of before)) (tasks_of (claimed_of turn.own)) (tasks_of (claimed_of made.0)) (claims_merge before turn.own made.0 made.1) mid in
      launches_then old turn.now now (subst (λ (m : Member H A). MemberLaunches m turn.now) chain.0 (turn_launches turn.old turn.now turn.own turn.launches here did.0)) (turns_launch turn.now now turns made.0 own chain.1 did.1 made.2 claims)

  module _ (Did : Turn H A → Type 0) (launched : (turn : Turn H A) → Did turn → Launches host turn.old turn.now turn.own turn.launches) where
    way_launches : (old now : Member H A) → Way Did history old now → MemberLaunches old now
    way_launches old now way = turns_launch old now way.turns [] way.own way.chain (all_map Did (λ (turn : Turn H A). Launches host turn.old turn.now turn.own turn.launches) way.turns launched way.did) way.made
        (all_first (IsClaimedIn history) (tasks_of (claimed_of way.own)) (tasks_of (claimed_of way.others)) (tasks_of (claimed_of history)) (claims_merge way.own way.others history way.part) (all_in (tasks_of (claimed_of history))))

    -- each host has launched, in the life, only tasks that were claimed in it
    pub ways_launch : (old now : List (Member H A)) → AllZip (Way Did history) old now → AllZip MemberLaunches old now
    ways_launch [] [] ways = tt
    ways_launch [] (n ∷ now) ways = absurd ways
    ways_launch (o ∷ old) [] ways = absurd ways
    ways_launch (o ∷ old) (n ∷ now) ways = (way_launches o n ways.0, ways_launch old now ways.1)
