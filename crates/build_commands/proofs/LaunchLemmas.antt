-- What the hosts of a life have launched in it: tasks behind those from before it, and no task twice, on whichever hosts.
use Rattle.std.proofs.Common.{◌≡◌, ◌∙◌, ℕ, ℤ, false, List, [], ◌∷◌, ◌++◌, drop, length, map, Option, Result, Ok, Err, refl, sym, ap, subst, append-nil, append_assoc, arith}
use Rattle.std.specs.Prelude.{nat_eq}
use Rattle.std.specs.List.{AllByRecursion as AllAre, AllZip, IsDistinct, concat}
use Rattle.std.specs.List.Sorted.{IsPermutation}
use Rattle.std.proofs.lemmas.List.Sorted.{IsPermutation-append_comm, IsPermutation-append_left, IsPermutation-append_right, IsPermutation-refl, IsPermutation-sym, IsPermutation-trans}
use Rattle.std.proofs.lemmas.Map.Keys.{IsDistinct-IsPermutation}
use Rattle.std.proofs.Math.Seq.{drop-append_seam, drop-length}
use Rattle.program_lock.specs.declared.program.Memory.{Memory}
use Rattle.program_lock.specs.Legal.{Answers}
use Rattle.task_host.specs.declared.call.Call.{Call}
use Rattle.task_host.specs.declared.order.Stream.{Stream}
use Rattle.agent_worker.specs.declared.member.Member.{Member}
use Rattle.agent_worker.specs.declared.member.Member.TheVariants.{Executor, Operator}
use Rattle.model_run.specs.declared.site.Executor.{Executor as SiteExecutor}
use Rattle.build_life.specs.Lower.locked_build.declared.ask.Ask.{Ask}
use Rattle.build_life.specs.Lower.locked_build.declared.ask.Entry.{Entry}
use Rattle.build_life.specs.Lower.locked_build.declared.ask.Progress.{Progress}
use Rattle.build_life.specs.Lower.locked_build.declared.ask.Reply.{Reply}
use Rattle.build_life.specs.Lower.member_turns.Lives.{EndsWith, Life}
use Rattle.build_life.specs.Lower.member_turns.Rounds.{AreTurnsOf, Round, RoundsFrom, turns_of}
use Rattle.build_life.specs.Lower.member_turns.Turns.{DidTurn, Launches, Turn, launches_of}
use Rattle.agent_worker.specs.Crews.{hosts_in, members_of, others_of}
use Rattle.build_commands.specs.Launching.{LaunchedOnce, all_launched_since, launched_since}
use Rattle.build_commands.proofs.LivingLemmas.{hosts_all}
use Rattle.task_host.specs.View.{HostView}
use Rattle.jp_io.specs.View.{SourceView}

module _ {H : Type 0} (host : HostView H) where
  -- hosts that no member had are as they were
  record HostsGrew (hosts rest : List H) (tasks : List ℕ) : Type 0 where
    behind : AllZip (λ machine now. host.launches now ≡ host.launches machine ++ launched_since host machine now) hosts rest
    all : all_launched_since host hosts rest ≡ tasks

  none_since : (hosts : List H) → HostsGrew hosts hosts []
  none_since [] = record { behind = tt; all = refl }
  none_since (machine ∷ hosts) =
      let rest = none_since hosts in
      let none : drop (length (host.launches machine)) (host.launches machine) ≡ [] = drop-length (host.launches machine) in
      record {
        behind = (subst (λ (l : List ℕ). host.launches machine ≡ host.launches machine ++ l) (sym none) (sym (append-nil (host.launches machine))), rest.behind);
        all = ap (λ (l : List ℕ). l ++ all_launched_since host hosts hosts) none ∙ rest.all;
      }

  pub none_launched : (hosts : List H) → LaunchedOnce host hosts hosts
  unfolding IsDistinct
  none_launched hosts = let g = none_since hosts in record { behind = g.behind; once = subst (IsDistinct nat_eq) (sym g.all) tt }

nat_eq_flips : (x y : ℕ) → nat_eq x y ≡ nat_eq y x
nat_eq_flips x y = grind arith

-- lists that are put together in another order
regrouped : (m l c r : List ℕ) → IsPermutation ((m ++ l) ++ (c ++ r)) ((m ++ c) ++ (l ++ r))
regrouped m l c r =
    let before : m ++ ((l ++ c) ++ r) ≡ (m ++ l) ++ (c ++ r) = ap (λ (xs : List ℕ). m ++ xs) (append_assoc l c r) ∙ sym (append_assoc m l (c ++ r)) in
    let behind : m ++ ((c ++ l) ++ r) ≡ (m ++ c) ++ (l ++ r) = ap (λ (xs : List ℕ). m ++ xs) (append_assoc c l r) ∙ sym (append_assoc m c (l ++ r)) in
    subst (λ (xs : List ℕ). IsPermutation xs ((m ++ c) ++ (l ++ r))) before
    (subst (λ (xs : List ℕ). IsPermutation (m ++ ((l ++ c) ++ r)) xs) behind
    (IsPermutation-append_right m ((l ++ c) ++ r) ((c ++ l) ++ r) (IsPermutation-append_left r (l ++ c) (c ++ l) (IsPermutation-append_comm l c))))

module _ {H A : Type 0} where
  launches-append : (xs ys : List (Turn H A)) → launches_of (xs ++ ys) ≡ launches_of xs ++ launches_of ys
  launches-append [] ys = refl
  launches-append (x ∷ xs) ys = ap (λ (l : List ℕ). x.launches ++ l) (launches-append xs ys) ∙ sym (append_assoc x.launches (launches_of xs) (launches_of ys))

module _ {H A : Type 0} (host : HostView H) where
  -- a member's host has launched these tasks behind those from before; the operator launches nothing
  abbrev Added : List ℕ → Member H A → Member H A → Type 0
  Added more (Executor number machine) (Executor now next) = host.launches next ≡ host.launches machine ++ more
  Added more (Operator answers line ended failed) (Operator next kept now_ended now_failed) = more ≡ []
  Added more (Executor number machine) (Operator next kept now_ended now_failed) = ⊥
  Added more (Operator answers line ended failed) (Executor now next) = ⊥

  abbrev AllAdded : List (List ℕ) → List (Member H A) → List (Member H A) → Type 0
  AllAdded [] [] [] = Unit {0}
  AllAdded [] [] (n ∷ ns) = ⊥
  AllAdded [] (m ∷ ms) ns = ⊥
  AllAdded (more ∷ mores) [] ns = ⊥
  AllAdded (more ∷ mores) (m ∷ ms) [] = ⊥
  AllAdded (more ∷ mores) (m ∷ ms) (n ∷ ns) = Added more m n × AllAdded mores ms ns

  none_added : (m : Member H A) → Added [] m m
  none_added (Executor number machine) = sym (append-nil (host.launches machine))
  none_added (Operator answers line ended failed) = refl

  more_added : (xs ys : List ℕ) (a b c : Member H A) → Added xs a b → Added ys b c → Added (xs ++ ys) a c
  more_added xs ys (Executor n a) (Executor m b) (Executor k c) one two = two ∙ ap (λ (l : List ℕ). l ++ ys) one ∙ append_assoc (host.launches a) xs ys
  more_added xs ys (Executor n a) (Executor m b) (Operator c line ended failed) one two = absurd two
  more_added xs ys (Executor n a) (Operator b line ended failed) c one two = absurd one
  more_added xs ys (Operator a line ended failed) (Executor m b) c one two = absurd one
  more_added xs ys (Operator a line ended failed) (Operator b kept now_ended now_failed) (Executor k c) one two = absurd two
  more_added xs ys (Operator a line ended failed) (Operator b kept now_ended now_failed) (Operator c part done broken) one two = ap (λ (l : List ℕ). l ++ ys) one ∙ two

  turn_added : (old now : Member H A) (own : List Entry) (more : List ℕ) → Launches host old now own more → Added more old now
  turn_added (Executor number machine) (Executor now next) own more l = l.0
  turn_added (Operator answers line ended failed) (Operator next kept now_ended now_failed) own more l = l
  turn_added (Executor number machine) (Operator next kept now_ended now_failed) own more l = absurd l
  turn_added (Operator answers line ended failed) (Executor now next) own more l = absurd l

  -- so from these members to those, and these are all the tasks, in another order
  record Grew (start now : List (Member H A)) (tasks : List ℕ) : Type 0 where
    mores : List (List ℕ)
    added : AllAdded mores start now
    same : IsPermutation (concat mores) tasks

  record NoneGrew (ms : List (Member H A)) : Type 0 where
    mores : List (List ℕ)
    added : AllAdded mores ms ms
    none : concat mores ≡ []

  none_grew : (ms : List (Member H A)) → NoneGrew ms
  none_grew [] = record { mores = []; added = tt; none = refl }
  none_grew (m ∷ ms) = let rest = none_grew ms in record { mores = [] ∷ rest.mores; added = (none_added m, rest.added); none = rest.none }

  begin_grew : (ms : List (Member H A)) → Grew ms ms []
  begin_grew ms = let g = none_grew ms in record { mores = g.mores; added = g.added; same = subst (λ (l : List ℕ). IsPermutation l []) (sym g.none) (IsPermutation-refl []) }

  module _ (Did : Turn H A → Type 0) (launched : (turn : Turn H A) → Did turn → Launches host turn.old turn.now turn.own turn.launches) where
    abbrev olds_of : List (Turn H A) → List (Member H A)
    olds_of turns = map (λ (turn : Turn H A). turn.old) turns

    abbrev nows_of : List (Turn H A) → List (Member H A)
    nows_of turns = map (λ (turn : Turn H A). turn.now) turns

    -- turns of the first members
    abbrev TurnsGrew : List (List ℕ) → List (Member H A) → List (Member H A) → List (Turn H A) → Type 0
    TurnsGrew mores start now turns = (all : List (List ℕ)) × AllAdded all start now × IsPermutation (concat all) (concat mores ++ launches_of turns)

    turns_grew : (turns : List (Turn H A)) (others start : List (Member H A)) (mores : List (List ℕ)) → AllAre Did turns → AllAdded mores start (olds_of turns ++ others) → TurnsGrew mores start (nows_of turns ++ others) turns
    turns_grew [] others start mores did added = (mores, added, subst (IsPermutation (concat mores)) (sym (append-nil (concat mores))) (IsPermutation-refl (concat mores)))
    turns_grew (turn ∷ turns) others [] [] did added = absurd added
    turns_grew (turn ∷ turns) others [] (more ∷ mores) did added = absurd added
    turns_grew (turn ∷ turns) others (s ∷ start) [] did added = absurd added
    turns_grew (turn ∷ turns) others (s ∷ start) (more ∷ mores) did added =
        let rest = turns_grew turns others start mores did.1 added.1 in (
          (more ++ turn.launches) ∷ rest.0,
          (more_added more turn.launches s turn.old turn.now added.0 (turn_added turn.old turn.now turn.own turn.launches (launched turn did.0)), rest.1),
          IsPermutation-trans ((more ++ turn.launches) ++ concat rest.0) ((more ++ turn.launches) ++ (concat mores ++ launches_of turns)) ((more ++ concat mores) ++ (turn.launches ++ launches_of turns))
              (IsPermutation-append_right (more ++ turn.launches) (concat rest.0) (concat mores ++ launches_of turns) rest.2) (regrouped more turn.launches (concat mores) (launches_of turns)),
        )

    are_grown : (turns : List (Turn H A)) (others start old now : List (Member H A)) (tasks : List ℕ) → AreTurnsOf turns others old now → AllAre Did turns → Grew start old tasks → Grew start now (tasks ++ launches_of turns)
    are_grown turns others start old now tasks are did g =
        let all = turns_grew turns others start g.mores did (subst (AllAdded g.mores start) are.0 g.added) in
        record {
          mores = all.0;
          added = subst (AllAdded all.0 start) (sym are.1) all.1;
          same = IsPermutation-trans (concat all.0) (concat g.mores ++ launches_of turns) (tasks ++ launches_of turns) all.2 (IsPermutation-append_left (launches_of turns) (concat g.mores) tasks g.same);
        }

    did_two : (xs ys : List (Turn H A)) → AllAre Did (xs ++ ys) → AllAre Did xs × AllAre Did ys
    did_two [] ys all = (tt, all)
    did_two (x ∷ xs) ys all = let rest = did_two xs ys all.1 in ((all.0, rest.0), rest.1)

    module _ {B : Type 0} (answers : Answers B Entry Ask Reply) (base : B) where
      rounds_grown : (rounds : List (Round H A)) (last : List (Turn H A)) (start old now : List (Member H A)) (before after : List Entry) (tasks : List ℕ) → AllAre Did (turns_of rounds ++ last)
          → RoundsFrom answers base rounds old before now after → Grew start old tasks → Grew start now (tasks ++ launches_of (turns_of rounds)) × AllAre Did last
      rounds_grown [] last start old now before after tasks did r g =
          (subst (Grew start now) (sym (append-nil tasks)) (subst (λ (ms : List (Member H A)). Grew start ms tasks) (sym r.0) g), did)
      rounds_grown (round ∷ rounds) last start old now before after tasks did r g =
          let two = did_two round.turns (turns_of rounds ++ last) (subst (AllAre Did) (append_assoc round.turns (turns_of rounds) last) did) in
          let rest = rounds_grown rounds last start r.0 now (before ++ r.1) after (tasks ++ launches_of round.turns) two.1 r.7 (are_grown round.turns [] start old r.0 tasks r.2 two.0 g) in
          let same : (tasks ++ launches_of round.turns) ++ launches_of (turns_of rounds) ≡ tasks ++ launches_of (round.turns ++ turns_of rounds) =
          append_assoc tasks (launches_of round.turns) (launches_of (turns_of rounds)) ∙ ap (λ (l : List ℕ). tasks ++ l) (sym (launches-append round.turns (turns_of rounds))) in
          (subst (Grew start now) same rest.0, rest.1)

      ends_grown : (how : Result Progress Memory) (last : List (Turn H A)) (start old now : List (Member H A)) (before part history : List Entry) (tasks : List ℕ) → AllAre Did last
          → EndsWith answers base last old before now part history how → Grew start old tasks → Grew start now (tasks ++ launches_of last)
      ends_grown (Ok come) last start old now before part history tasks did e g = are_grown last [] start old now tasks e.0 did g
      ends_grown (Err memory) last start old now before part history tasks did e g = are_grown last e.0 start old now tasks e.1 did g

  hosts_grew : (mores : List (List ℕ)) (old now : List (Member H A)) (others : List H) → AllAdded mores old now → HostsGrew host (hosts_in old ++ others) (hosts_in now ++ others) (concat mores)
  hosts_grew [] [] [] others added = none_since host others
  hosts_grew [] [] (n ∷ ns) others added = absurd added
  hosts_grew [] (m ∷ ms) ns others added = absurd added
  hosts_grew (more ∷ mores) [] ns others added = absurd added
  hosts_grew (more ∷ mores) (m ∷ ms) [] others added = absurd added
  hosts_grew (more ∷ mores) (Executor number machine ∷ ms) (Executor now next ∷ ns) others added =
      let rest = hosts_grew mores ms ns others added.1 in
      let since : launched_since host machine next ≡ more = ap (λ (l : List ℕ). drop (length (host.launches machine)) l) added.0 ∙ drop-append_seam (host.launches machine) more in
      record {
        behind = (added.0 ∙ ap (λ (l : List ℕ). host.launches machine ++ l) (sym since), rest.behind);
        all = ap (λ (l : List ℕ). l ++ all_launched_since host (hosts_in ms ++ others) (hosts_in ns ++ others)) since ∙ ap (λ (l : List ℕ). more ++ l) rest.all;
      }
  hosts_grew (more ∷ mores) (Operator answers line ended failed ∷ ms) (Operator next kept now_ended now_failed ∷ ns) others added =
      let rest = hosts_grew mores ms ns others added.1 in
      record { behind = rest.behind; all = rest.all ∙ sym (ap (λ (l : List ℕ). l ++ concat mores) added.0) }
  hosts_grew (more ∷ mores) (Executor number machine ∷ ms) (Operator next kept now_ended now_failed ∷ ns) others added = absurd added.0
  hosts_grew (more ∷ mores) (Operator answers line ended failed ∷ ms) (Executor now next ∷ ns) others added = absurd added.0

  crew_launched : (xs : List SiteExecutor) (hosts : List H) (answers : A) (new : List (Member H A)) (rest : List H) (tasks : List ℕ) → rest ≡ hosts_in new ++ others_of xs hosts
      → Grew (members_of xs hosts answers) new tasks → IsDistinct nat_eq tasks → LaunchedOnce host hosts rest
  crew_launched xs hosts answers new rest tasks are g once =
      let h = hosts_grew g.mores (members_of xs hosts answers) new (others_of xs hosts) g.added in
      let differ = IsDistinct-IsPermutation nat_eq nat_eq_flips tasks (concat g.mores) (IsPermutation-sym (concat g.mores) tasks g.same) once in
      subst (λ (front : List H). LaunchedOnce host front rest) (hosts_all xs hosts answers)
      (subst (λ (back : List H). LaunchedOnce host (hosts_in (members_of xs hosts answers) ++ others_of xs hosts) back) (sym are)
      (record { behind = h.behind; once = subst (IsDistinct nat_eq) (sym h.all) differ }))

module _ {H A : Type 0} (host : HostView H) (source : SourceView A) (looks : ℕ) where
  abbrev Did : Turn H A → Type 0
  Did = DidTurn host source looks

  -- In a life of members that are made of these hosts each launch stands behind those from before, and no task is launched twice.
  pub life_launched : {B : Type 0} (answers : Answers B Entry Ask Reply) (start base : B) (old new : List (Member H A)) (history : List Entry) (how : Result Progress Memory)
      → Life host source looks answers start base old new history how
      → (xs : List SiteExecutor) (hosts rest : List H) (given : A) → old ≡ members_of xs hosts given → rest ≡ hosts_in new ++ others_of xs hosts → LaunchedOnce host hosts rest
  life_launched answers start base old new history how life xs hosts rest given is are =
      let begun = begin_grew host old in
      let rounds = rounds_grown host Did (λ turn did. did.launched) answers base life.rounds life.last old old life.members [] life.before [] life.turns life.went_on begun in
      let all = ends_grown host Did (λ turn did. did.launched) answers base how life.last old life.members new life.before life.part history (launches_of (turns_of life.rounds)) rounds.1 life.ends rounds.0 in
      let same : launches_of (turns_of life.rounds) ++ launches_of life.last ≡ launches_of (turns_of life.rounds ++ life.last) = sym (launches-append (turns_of life.rounds) life.last) in
      crew_launched host xs hosts given new rest (launches_of (turns_of life.rounds ++ life.last)) are
      (subst (λ (ms : List (Member H A)). Grew host ms new (launches_of (turns_of life.rounds ++ life.last))) is (subst (Grew host old new) same all)) life.launched_once
