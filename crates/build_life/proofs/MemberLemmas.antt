-- What became of each member in a life, by its turns.
use Rattle.std.specs.Prelude.{◌||◌, ◌↔◌}
use Rattle.std.proofs.Common.{◌≡◌, ◌⊎◌, ◌≤◌, ◌∙◌, inl, inr, ℕ, ℤ, Bool, true, false, List, [], ◌∷◌, ◌++◌, map, Option, Some, None, refl, sym, ap, subst, append_assoc, append-nil, arith}
use Rattle.std.specs.List.{AllByRecursion as AllAre}
use Rattle.device_faults.specs.Faults.{CountsFault, Rose}
use Rattle.jp_disk.proofs.MomentLemmas.{rose_later}
use Rattle.program_lock.specs.Legal.{Answers}
use Rattle.task_host.specs.declared.call.Call.{Call}
use Rattle.task_host.specs.declared.order.Stream.{Stream}
use Rattle.agent_worker.specs.declared.member.Member.{Member}
use Rattle.agent_worker.specs.declared.member.Member.TheVariants.{Executor, Operator}
use Rattle.agent_worker.specs.declared.worked.Worked.{Worked}
use Rattle.agent_worker.specs.declared.worked.Worked.TheVariants as worked
use Rattle.agent_worker.specs.declared.gate.GateCall.{GateCall}
use Rattle.agent_worker.specs.declared.gate.Said.{Said}
use Rattle.agent_worker.specs.declared.gate.Said.TheVariants.{Nothing}
use Rattle.agent_worker.specs.Gate.{Becomes, Told, Claimed as ClaimedTask}
use Rattle.task_host.specs.declared.call.Call.TheVariants as call
use Rattle.agent_worker.specs.Acts.{Act, Called, Reported, with_calls}
use Rattle.agent_worker.specs.Working.{Deed, Claims, Serves, Pauses, Halts, AreOf, on_host, work_calls}
use Rattle.member_turns.specs.Lower.locked_build.declared.ask.Ask.{Ask}
use Rattle.member_turns.specs.Lower.locked_build.declared.ask.Entry.{Entry}
use Rattle.member_turns.specs.Lower.locked_build.declared.ask.Reply.{Reply}
use Rattle.member_turns.specs.Tales.{claimed_of, told_of, tells_of}
use Rattle.member_turns.specs.Turning.{tasks_of}
use Rattle.member_turns.specs.Served.{Executed}
use Rattle.member_turns.proofs.ClaimLaws.{tasks-append}
use Rattle.member_turns.proofs.MadeLemmas.{made_behind, made_join}
use Rattle.member_turns.proofs.PartLemmas.{all_append}
use Rattle.member_turns.specs.Rounds.{Round, AreTurnsOf, RoundsFrom, turns_of}
use Rattle.member_turns.specs.Turns.{Turn, MadeOf, DidTurn, Work}
use Rattle.launch_laws.specs.Fitting.{Among}
use Rattle.launch_laws.specs.ManyTurns.{Turns, none as no_turn, more as another_turn}
use Rattle.launch_laws.proofs.Lists.{NoTwice, among_either, twice_append, twice_front}
use Rattle.agent_worker.specs.Operating.{has_ended, read_in}
use Rattle.std.specs.Io.KnownBytes.{IsAtEnd}
use Rattle.std.proofs.KnownBytes.{Consumes-nil, Consumes-trans}
use Rattle.build_life.specs.Serving.{AreServed, HostStays, ReadOn}
use Rattle.world_laws.proofs.Places.{some_front, some_behind}
use Rattle.task_host.specs.View.{HostView}
use Rattle.jp_io.specs.View.{SourceView}

-- no number stands twice in the second of two lists, or in both
twice_behind : (xs ys : List ℕ) → NoTwice (xs ++ ys) → NoTwice ys
twice_behind [] ys once = once
twice_behind (x ∷ xs) ys once = twice_behind xs ys once.1

not_in_both : (xs ys : List ℕ) → NoTwice (xs ++ ys) → (n : ℕ) → Among n xs → Among n ys → ⊥
not_in_both [] ys once n here there = here
not_in_both (x ∷ xs) ys once n (inl same) there = once.0 (subst (λ (m : ℕ). Among m (xs ++ ys)) (sym same) (some_behind (λ m. m ≡ n) xs ys there))
not_in_both (x ∷ xs) ys once n (inr here) there = not_in_both xs ys once.1 n here there

module _ {H A : Type 0} where
  -- Members that become others, one at a turn.
  abbrev pub Steps : List (Member H A) → List (Turn H A) → List (Member H A) → Type 0
  Steps ms [] ns = ms ≡ ns
  Steps ms (turn ∷ turns) ns = (front : List (Member H A)) × (back : List (Member H A)) × (ms ≡ front ++ turn.old ∷ back) × Steps (front ++ turn.now ∷ back) turns ns

  steps_from : (front : List (Member H A)) (turns : List (Turn H A)) (others : List (Member H A))
      → Steps (front ++ (map (λ (turn : Turn H A). turn.old) turns ++ others)) turns (front ++ (map (λ (turn : Turn H A). turn.now) turns ++ others))
  steps_from front [] others = refl
  steps_from front (turn ∷ turns) others =
      let rest : List (Member H A) = map (λ (t : Turn H A). t.old) turns ++ others in
      let after : List (Member H A) = map (λ (t : Turn H A). t.now) turns ++ others in (
        front,
        rest,
        refl,
        subst (λ (ms : List (Member H A)). Steps ms turns (front ++ turn.now ∷ after)) (append_assoc front (turn.now ∷ []) rest)
            (subst (λ (ns : List (Member H A)). Steps ((front ++ turn.now ∷ []) ++ rest) turns ns) (append_assoc front (turn.now ∷ []) after) (steps_from (front ++ turn.now ∷ []) turns others)),
      )

  pub steps_of : (turns : List (Turn H A)) (others old now : List (Member H A)) → AreTurnsOf turns others old now → Steps old turns now
  steps_of turns others old now are = subst (λ (ms : List (Member H A)). Steps ms turns now) (sym are.0) (subst (λ (ns : List (Member H A)). Steps (map (λ (t : Turn H A). t.old) turns ++ others) turns ns) (sym are.1) (steps_from [] turns others))

  pub steps_then : (ms : List (Member H A)) (turns more : List (Turn H A)) (ns ks : List (Member H A)) → Steps ms turns ns → Steps ns more ks → Steps ms (turns ++ more) ks
  steps_then ms [] more ns ks one two = subst (λ (l : List (Member H A)). Steps l more ks) (sym one) two
  steps_then ms (turn ∷ turns) more ns ks one two = (one.0, one.1, one.2, steps_then (one.0 ++ turn.now ∷ one.1) turns more ns ks one.3 two)

  module _ {B : Type 0} (answers : Answers B Entry Ask Reply) (base : B) where
    pub rounds_steps : (rounds : List (Round H A)) (old : List (Member H A)) (before : List Entry) (now : List (Member H A)) (after : List Entry) → RoundsFrom answers base rounds old before now after
        → Steps old (turns_of rounds) now × MadeOf before (turns_of rounds) after
    rounds_steps [] old before now after r = (sym r.0, sym r.1)
    rounds_steps (round ∷ rounds) old before now after r =
        let later = rounds_steps rounds r.0 (before ++ r.1) now after r.7 in (
          steps_then old round.turns (turns_of rounds) r.0 now (steps_of round.turns [] old r.0 r.2) later.0,
          made_join round.turns (turns_of rounds) before (before ++ r.1) after (made_behind before round.turns r.1 r.3) later.1,
        )

  -- all claims of these turns
  abbrev pub claims_of_all : List (Turn H A) → List ℕ
  claims_of_all [] = []
  claims_of_all (turn ∷ turns) = tasks_of (claimed_of turn.own) ++ claims_of_all turns

-- a work adds its calls behind those that a host told
acts_added : (acts : List Act) (old : List Call) → with_calls acts old ≡ old ++ with_calls acts []
acts_added [] old = sym (append-nil old)
acts_added (Called c ∷ acts) old = ap (λ (l : List Call). l ++ c ∷ []) (acts_added acts old) ∙ append_assoc old (with_calls acts []) (c ∷ [])
acts_added (Reported e answer ∷ acts) old = acts_added acts old

calls_added : (past : List Deed) (old : List Call) → work_calls past old ≡ old ++ work_calls past []
calls_added [] old = sym (append-nil old)
calls_added (Claims claim ∷ past) old = calls_added past old
calls_added (Serves order acts answer ∷ past) old =
    acts_added acts (work_calls past old) ∙ ap (λ (l : List Call). l ++ with_calls acts []) (calls_added past old) ∙ append_assoc old (work_calls past []) (with_calls acts [])
    ∙ ap (λ (l : List Call). old ++ l) (sym (acts_added acts (work_calls past [])))
calls_added (Pauses ∷ past) old = ap (λ (l : List Call). l ++ call.Pause ∷ []) (calls_added past old) ∙ append_assoc old (work_calls past []) (call.Pause ∷ [])
calls_added (Halts ∷ past) old = calls_added past old

told_before : (past : List Deed) (old now : Option (List Call)) → Becomes (work_calls past) old now → (list : List Call) → now ≡ Some list → (before : List Call) × (more : List Call) × (old ≡ Some before) × (list ≡ before ++ more)
told_before past old None becomes list is = absurd (cc)
told_before past None (Some now) becomes list is = absurd becomes
told_before past (Some before) (Some now) becomes list is = (before, work_calls past [], refl, same_list list now is ∙ becomes ∙ calls_added past before)
  where
    same_list : (xs ys : List Call) → Some ys ≡ Some xs → xs ≡ ys
    same_list xs ys e = cc

stays_then : (h0 h1 h2 : Type 0) (f0 f1 f2 : ℕ) (c0 c1 c2 : Option (List Call)) → HostStays h0 h1 f0 f1 c0 c1 → (h2 ↔ h1) → f1 ≤ f2 → (past : List Deed) → Becomes (work_calls past) c1 c2 → HostStays h0 h2 f0 f2 c0 c2
stays_then h0 h1 h2 f0 f1 f2 c0 c1 c2 stays same below past becomes = record {
  honest_stays = (λ h. stays.honest_stays.0 (same.0 h), λ h. same.1 (stays.honest_stays.1 h));
  never_falls = let a : f0 ≤ f1 = stays.never_falls in omega (arith, a, below);
  called = λ list is.
      let mid = told_before past c1 c2 becomes list is in
      let first = stays.called mid.0 mid.2 in
      (first.0, first.1 ++ mid.1, first.2, mid.3 ∙ ap (λ (l : List Call). l ++ mid.1) first.3 ∙ append_assoc first.0 first.1 mid.1);
}

-- whether it said that the answers could not be read
pub said_failed : (w : Worked) → (w ≡ worked.AnswersFailed) ⊎ ¬ (w ≡ worked.AnswersFailed)
said_failed worked.Rest = inr (λ e. cc)
said_failed worked.Stopped = inr (λ e. cc)
said_failed worked.Memory = inr (λ e. cc)
said_failed worked.AnswersFailed = inl refl

-- what the entries of a turn say
abbrev pub SaysSo : {H A : Type 0} → (Told → Type 0) → (ClaimedTask → Type 0) → Turn H A → Type 0
SaysSo IsTold IsGiven turn = AllAre IsTold (told_of turn.own) × AllAre IsGiven (claimed_of turn.own)

module _ {H A : Type 0} (host : HostView H) (source : SourceView A) (looks : ℕ) (IsTold : Told → Type 0) (IsGiven : ClaimedTask → Type 0) where
  abbrev Did : Turn H A → Type 0
  Did turn = DidTurn host source looks turn

  -- An executor's host, from the beginning of the life on: its turns, and what was told and given in them; its claims are among those seen.
  pub record CameOn (number : ℕ) (machine next : H) (seen : List ℕ) : Type 0 where
    pub told : List Told
    pub claimed : List ClaimedTask
    pub stays : HostStays (host.honest machine) (host.honest next) (host.faults machine) (host.faults next) (host.calls machine) (host.calls next)
    pub turns : host.honest machine → Turns number looks (on_host host machine) told claimed (on_host host next)
    pub are_told : AllAre IsTold told
    pub are_given : AllAre IsGiven claimed
    pub once : NoTwice (tasks_of claimed)
    pub among : (n : ℕ) → Among n (tasks_of claimed) → Among n seen

  abbrev pub CameTo : Member H A → Member H A → List ℕ → Type 0
  CameTo (Executor number machine) (Executor now next) seen = (now ≡ number) × CameOn number machine next seen
  CameTo (Operator answers line ended failed) (Operator next kept now_ended now_failed) seen = ReadOn (source.left answers) (source.left next) (source.faults answers) (source.faults next) ended now_ended failed now_failed
  CameTo (Executor number machine) (Operator next kept now_ended now_failed) seen = ⊥
  CameTo (Operator answers line ended failed) (Executor now next) seen = ⊥

  came_start : (m : Member H A) → CameTo m m []
  came_start (Executor number machine) = (
    refl,
    record { told = []; claimed = []; stays = record { honest_stays = (λ h. h, λ h. h); never_falls = omega arith; called = λ list is. (list, [], is, sym (append-nil list)) }; turns = λ h. no_turn; are_told = tt; are_given = tt; once = tt; among = λ n there. there },
  )
  came_start (Operator answers line ended failed) = record {
    read = [];
    answers = Consumes-nil (source.left answers);
    at_end = λ not is. let bad : false ≡ true = sym not ∙ is in absurd (cc);
    counts = λ calm. record { never_falls = omega arith; calm = λ _. refl; failed = λ is. let bad : false ≡ true = sym calm ∙ is in absurd (cc) };
  }

  came_later : (o m : Member H A) (seen more : List ℕ) → CameTo o m seen → CameTo o m (seen ++ more)
  came_later (Executor number machine) (Executor now next) seen more c = (
    c.0,
    record {
      told = c.1.told;
      claimed = c.1.claimed;
      stays = c.1.stays;
      turns = c.1.turns;
      are_told = c.1.are_told;
      are_given = c.1.are_given;
      once = c.1.once;
      among = λ n there. some_front (λ m. m ≡ n) seen more (c.1.among n there);
    },
  )
  came_later (Operator answers line ended failed) (Operator next kept now_ended now_failed) seen more c = c
  came_later (Executor number machine) (Operator next kept now_ended now_failed) seen more c = absurd c
  came_later (Operator answers line ended failed) (Executor now next) seen more c = absurd c

  -- counts of faults, one turn more
  counts_then : (first mid last : ℕ) (was is : Bool) (Fails : Type 0) → CountsFault first mid (was ≡ true) → CountsFault mid last Fails → (Fails → is ≡ true) → (¬ Fails → is ≡ was) → (Fails ⊎ ¬ Fails) → CountsFault first last (is ≡ true)
  counts_then first mid last was is Fails one two fails calm (inl failed) = record {
    never_falls = let a : first ≤ mid = one.never_falls in let b : mid ≤ last = two.never_falls in omega (arith, a, b);
    calm = λ other. absurd (other (fails failed));
    failed = λ _. rose_later first mid last one.never_falls (two.failed failed);
  }
  counts_then first mid last was is Fails one two fails calm (inr never) = record {
    never_falls = let a : first ≤ mid = one.never_falls in let b : mid ≤ last = two.never_falls in omega (arith, a, b);
    calm = λ other. two.calm never ∙ one.calm (λ before. other (calm never ∙ before));
    failed = λ failed. subst (λ (n : ℕ). Rose first n) (sym (two.calm never)) (one.failed (sym (calm never) ∙ failed));
  }

  -- answers that are at their end stay so
  end_then : (was has : Bool) (mid last : Option (List ℕ)) → (was ≡ true → IsAtEnd mid) → (was ≡ true → last ≡ mid) → (has ≡ true → IsAtEnd last) → (was || has) ≡ true → IsAtEnd last
  end_then true has mid last before same now is = subst IsAtEnd (sym (same refl)) (before refl)
  end_then false has mid last before same now is = now is

  -- one turn more
  came_turn : (o m n : Member H A) (w : Worked) (own : List Entry) (gate_calls : List GateCall) (said : Said) (is_open : Bool) (seen : List ℕ) → Work host source looks m n w (tells_of [] [] Nothing false) (tells_of own gate_calls said is_open)
      → Executed host looks m n w own gate_calls → AllAre IsTold (told_of own) → AllAre IsGiven (claimed_of own) → NoTwice (tasks_of (claimed_of own))
      → ((x : ℕ) → Among x seen → Among x (tasks_of (claimed_of own)) → ⊥) → CameTo o m seen → CameTo o n (seen ++ tasks_of (claimed_of own))
  came_turn (Executor number machine) (Executor now next) (Executor then last) w own gate_calls said is_open seen works executed told given once apart c =
      let k = c.1 in
      let own_claims : List ClaimedTask = claimed_of own in (
        works.0 ∙ c.0,
        record {
          told = k.told ++ told_of own;
          claimed = k.claimed ++ own_claims;
          stays = stays_then (host.honest machine) (host.honest next) (host.honest last) (host.faults machine) (host.faults next) (host.faults last) (host.calls machine) (host.calls next) (host.calls last) k.stays works.1 works.2 executed.past executed.called;
          turns = λ h. another_turn (k.turns h) (record {
            past = executed.past;
            lawful = executed.lawful;
            orders = subst (λ (x : ℕ). AreOf x executed.past) c.0 executed.orders;
            tells = executed.told;
            claims = executed.claimed;
            on_host = executed.on_host (k.stays.honest_stays.1 h);
          });
          are_told = all_append IsTold k.told (told_of own) k.are_told told;
          are_given = all_append IsGiven k.claimed own_claims k.are_given given;
          once = subst NoTwice (sym (tasks-append k.claimed own_claims)) (twice_append (tasks_of k.claimed) (tasks_of own_claims) k.once once (λ x here there. apart x (k.among x here) there));
          among = λ x there. by x (among_either x (tasks_of k.claimed) (tasks_of own_claims) (subst (Among x) (tasks-append k.claimed own_claims) there));
        },
      )
    where
      by : (x : ℕ) → Among x (tasks_of c.1.claimed) ⊎ Among x (tasks_of (claimed_of own)) → Among x (seen ++ tasks_of (claimed_of own))
      by x (inl here) = some_front (λ m. m ≡ x) seen (tasks_of (claimed_of own)) (c.1.among x here)
      by x (inr there) = some_behind (λ m. m ≡ x) seen (tasks_of (claimed_of own)) there
  came_turn (Operator answers line ended failed) (Operator next kept now_ended now_failed) (Operator last held then_ended then_failed) w own gate_calls said is_open seen works executed told given once apart c =
      let o = works.0 in
      record {
        read = c.read ++ read_in o.past;
        answers = Consumes-trans (source.left answers) (source.left next) (source.left last) c.read (read_in o.past) c.answers o.read;
        at_end = λ not is. end_then now_ended (has_ended o.past) (source.left next) (source.left last) (c.at_end not) (λ over. (o.over over).1) o.at_end (sym o.ended_so ∙ is);
        counts = λ calm. counts_then (source.faults answers) (source.faults next) (source.faults last) now_failed then_failed (w ≡ worked.AnswersFailed) (c.counts calm) works.1 works.2 works.3 (said_failed w);
      }
  came_turn (Executor number machine) (Executor now next) (Operator last held then_ended then_failed) w own gate_calls said is_open seen works executed told given once apart c = absurd works
  came_turn (Executor number machine) (Operator next kept now_ended now_failed) n w own gate_calls said is_open seen works executed told given once apart c = absurd c
  came_turn (Operator answers line ended failed) (Operator next kept now_ended now_failed) (Executor then last) w own gate_calls said is_open seen works executed told given once apart c = absurd works
  came_turn (Operator answers line ended failed) (Executor now next) n w own gate_calls said is_open seen works executed told given once apart c = absurd c

  -- all members
  abbrev pub AllCame : List (Member H A) → List (Member H A) → List ℕ → Type 0
  AllCame [] [] seen = Unit {0}
  AllCame (o ∷ os) (m ∷ ms) seen = CameTo o m seen × AllCame os ms seen
  AllCame [] (m ∷ ms) seen = ⊥
  AllCame (o ∷ os) [] seen = ⊥

  all_start : (ms : List (Member H A)) → AllCame ms ms []
  all_start [] = tt
  all_start (m ∷ ms) = (came_start m, all_start ms)

  all_later : (os ms : List (Member H A)) (seen more : List ℕ) → AllCame os ms seen → AllCame os ms (seen ++ more)
  all_later [] [] seen more c = tt
  all_later (o ∷ os) (m ∷ ms) seen more c = (came_later o m seen more c.0, all_later os ms seen more c.1)
  all_later [] (m ∷ ms) seen more c = absurd c
  all_later (o ∷ os) [] seen more c = absurd c

  -- one of them has a turn
  all_turn : (os front back : List (Member H A)) (m n : Member H A) (seen more : List ℕ) → ((o : Member H A) → CameTo o m seen → CameTo o n (seen ++ more)) → AllCame os (front ++ m ∷ back) seen → AllCame os (front ++ n ∷ back) (seen ++ more)
  all_turn [] [] back m n seen more turn c = absurd c
  all_turn (o ∷ os) [] back m n seen more turn c = (turn o c.0, all_later os back seen more c.1)
  all_turn [] (k ∷ front) back m n seen more turn c = absurd c
  all_turn (o ∷ os) (k ∷ front) back m n seen more turn c = (came_later o k seen more c.0, all_turn os front back m n seen more turn c.1)

  pub all_steps : (os ms : List (Member H A)) (turns : List (Turn H A)) (ns : List (Member H A)) (seen : List ℕ) → Steps ms turns ns → AllAre Did turns → AllAre (SaysSo IsTold IsGiven) turns → NoTwice (seen ++ claims_of_all turns)
      → AllCame os ms seen → AllCame os ns (seen ++ claims_of_all turns)
  all_steps os ms [] ns seen steps did says once c = subst (AllCame os ns) (sym (append-nil seen)) (subst (λ (l : List (Member H A)). AllCame os l seen) steps c)
  all_steps os ms (turn ∷ turns) ns seen steps did says once c =
      let own : List ℕ = tasks_of (claimed_of turn.own) in
      let same : (seen ++ own) ++ claims_of_all turns ≡ seen ++ claims_of_all (turn ∷ turns) = append_assoc seen own (claims_of_all turns) in
      let once_here : NoTwice (seen ++ own) = twice_front (seen ++ own) (claims_of_all turns) (subst NoTwice (sym same) once) in
      subst (AllCame os ns) same
      (all_steps os (steps.0 ++ turn.now ∷ steps.1) turns ns (seen ++ own) steps.3 did.1 says.1 (subst NoTwice (sym same) once)
      (all_turn os steps.0 steps.1 turn.old turn.now seen own
      (λ o. came_turn o turn.old turn.now turn.worked turn.own turn.calls turn.said turn.is_open seen did.0.works did.0.executed says.0.0 says.0.1 (twice_behind seen own once_here) (not_in_both seen own once_here))
      (subst (λ (l : List (Member H A)). AllCame os l seen) steps.2 c)))

  -- from the beginning of a life to its end
  pub all_came : (old : List (Member H A)) (turns : List (Turn H A)) (new : List (Member H A)) → Steps old turns new → AllAre Did turns → AllAre (SaysSo IsTold IsGiven) turns → NoTwice (claims_of_all turns) → AllCame old new (claims_of_all turns)
  all_came old turns new steps did says once = all_steps old old turns new [] steps did says once (all_start old)

  pub all_served : (os ms : List (Member H A)) (seen : List ℕ) → AllCame os ms seen → AreServed host source os ms
  all_served [] [] seen c = tt
  all_served (Executor number machine ∷ os) (Executor now next ∷ ms) seen c = ((c.0.0, c.0.1.stays), all_served os ms seen c.1)
  all_served (Operator answers line ended failed ∷ os) (Operator next kept now_ended now_failed ∷ ms) seen c = (c.0, all_served os ms seen c.1)
  all_served (Executor number machine ∷ os) (Operator next kept now_ended now_failed ∷ ms) seen c = absurd c.0
  all_served (Operator answers line ended failed ∷ os) (Executor now next ∷ ms) seen c = absurd c.0
  all_served [] (m ∷ ms) seen c = absurd c
  all_served (o ∷ os) [] seen c = absurd c
