-- What was accepted of the outputs of tasks stands on the hosts of the executors at the end of a life, where it stood there at its beginning.
use Rattle.std.proofs.Common.{◌≡◌, ◌⊎◌, ◌∙◌, inl, inr, ℕ, ℤ, Bool, true, false, List, [], ◌∷◌, ◌++◌, map, Option, Result, Ok, Err, refl, sym, ap, subst, append_assoc}
use Rattle.std.specs.List.{AllByRecursion as AllAre}
use Rattle.program_lock.specs.declared.program.Memory.{Memory}
use Rattle.program_lock.specs.Legal.{Answers}
use Rattle.task_host.specs.declared.call.Call.{Call}
use Rattle.task_host.specs.declared.order.Stream.{Stream}
use Rattle.agent_worker.specs.declared.member.Member.{Member}
use Rattle.agent_worker.specs.declared.member.Member.TheVariants.{Executor, Operator}
use Rattle.agent_worker.specs.declared.worked.Worked.{Worked}
use Rattle.agent_worker.specs.declared.gate.GateCall.{GateCall}
use Rattle.agent_worker.specs.Acts.{named}
use Rattle.agent_worker.specs.Gate.{GateTells, Told, Claimed as ClaimedTask, told_at}
use Rattle.agent_worker.specs.Working.{on_host}
use Rattle.build_life.specs.Lower.durable_build.Standing.{Kept}
use Rattle.build_life.proofs.Lower.durable_build.OpenLemmas.{begun_all}
use Rattle.launch_laws.specs.Fitting.{AreApart, WasTask}
use Rattle.launch_laws.specs.ManyTurns.{InLife}
use Rattle.launch_laws.specs.Outputs.{AreOutputs, Delivered}
use Rattle.launch_laws.proofs.LifeLaws.{all_some}
use Rattle.launch_laws.proofs.Lists.{NoTwice, none_twice}
use Rattle.launch_laws.proofs.OutputLaws.{life_delivers}
use Rattle.launch_laws.proofs.TaskLaws.{one_executor}
use Rattle.model_syntax.specs.Nodes.{Node}
use Rattle.model_syntax.specs.TreeNodes.{tree_node}
use Rattle.model_run.specs.declared.event.Event.{Event}
use Rattle.model_run.specs.declared.event.Event.TheVariants.{Output, Decided}
use Rattle.model_run.specs.Below.{Small}
use Rattle.model_run.specs.Fitting.{Some_of}
use Rattle.model_run.specs.Requests.{IsTaskOf}
use Rattle.model_run.specs.State.{Setting}
use Rattle.model_run.specs.Terms.{term}
use Rattle.model_run.specs.World.{world_in}
use Rattle.build_life.specs.declared.resting.Rest.{Rest}
use Rattle.build_life.specs.Lower.durable_build.Settings.{IsProper}
use Rattle.settle_laws.specs.Stances.{Stance}
use Rattle.journal_core.specs.declared.faults.TakeFault.{TakeFault}
use Rattle.build_life.specs.Lower.member_turns.Tales.{claimed_of, is_grant, tells_of, told_of}
use Rattle.build_life.proofs.Lower.member_turns.PartLemmas.{all_map}
use Rattle.build_life.specs.Lower.member_turns.Coming.{EachIs}
use Rattle.build_life.specs.Lower.member_turns.Lives.{EndsWith, Life}
use Rattle.build_life.specs.Lower.member_turns.Rounds.{turns_of}
use Rattle.build_life.specs.Lower.member_turns.Turns.{ComesFrom, DidTurn, Explains, HoldsOfOne, IsExplained, IsIn, MadeOf, Turn}
use Rattle.build_life.proofs.Lower.member_turns.MadeLemmas.{made_behind, made_join}
use Rattle.build_life.specs.Lives.{Ends}
use Rattle.build_life.specs.Replies.{replies}
use Rattle.build_life.specs.Serving.{AreHonest, hosts_of}
use Rattle.build_life.specs.Telling.{ClaimedInTime}
use Rattle.build_life.proofs.FitLemmas.{made_says, told_taken}
use Rattle.build_life.proofs.MemberLemmas.{SaysSo, Steps, rounds_steps, steps_of, steps_then}
use Rattle.build_life.proofs.WalkLemmas.{of_tree, small}
use Rattle.build_life.specs.Lower.locked_build.Histories.{tooks}
use Rattle.build_life.specs.Lower.locked_build.declared.ask.Ask.{Ask}
use Rattle.build_life.specs.Lower.locked_build.declared.ask.Entry.{Entry}
use Rattle.build_life.specs.Lower.locked_build.declared.ask.Entry.TheVariants.{Took, Claimed, Line, Failed}
use Rattle.build_life.specs.Lower.locked_build.declared.ask.Progress.{Progress}
use Rattle.build_life.specs.Lower.locked_build.declared.ask.Reply.{Reply}
use Rattle.build_life.proofs.Lower.locked_build.HistoryLaws.{tooks-append}
use Rattle.world_laws.proofs.Places.{some_behind}
use Rattle.task_laws.specs.Members.{AllDelivered, AreShort}
use Rattle.task_laws.proofs.Serves.{caused_by}
use Rattle.task_laws.proofs.Telling.{IsNumber, TellsAll, AllCame, all_came, numbers}
use Rattle.jp_disk.specs.View.{DiskView}
use Rattle.task_host.specs.View.{HostView}
use Rattle.jp_io.specs.View.{SourceView}

-- lists
holds_both : {X : Type 0} (P Q : X → Type 0) (xs : List X) → AllAre P xs → HoldsOfOne Q xs → (x : X) × P x × Q x
holds_both P Q [] all one = absurd one
holds_both P Q (x ∷ xs) all (inl q) = (x, all.0, q)
holds_both P Q (x ∷ xs) all (inr one) = holds_both P Q xs all.1 one

both_all : {X : Type 0} (P Q : X → Type 0) (xs : List X) → AllAre P xs → AllAre Q xs → AllAre (λ (x : X). P x × Q x) xs
both_all P Q [] one two = tt
both_all P Q (x ∷ xs) one two = ((one.0, two.0), both_all P Q xs one.1 two.1)

in_all : {X : Type 0} (P : X → Type 0) (x : X) (xs : List X) → AllAre P xs → IsIn x xs → P x
in_all P x [] all there = absurd there
in_all P x (y ∷ ys) all (inl is) = subst P is all.0
in_all P x (y ∷ ys) all (inr there) = in_all P x ys all.1 there

some_both : {X : Type 0} (P Q : X → Type 0) (xs : List X) → AllAre P xs → Some_of Q xs → (x : X) × P x × Q x
some_both P Q [] all one = absurd one
some_both P Q (x ∷ xs) all (inl q) = (x, all.0, q)
some_both P Q (x ∷ xs) all (inr one) = some_both P Q xs all.1 one

some_either : (P : Event → Type 0) (xs ys : List Event) → Some_of P (xs ++ ys) → Some_of P xs ⊎ Some_of P ys
some_either P [] ys there = inr there
some_either P (x ∷ xs) ys (inl is) = inl (inl is)
some_either P (x ∷ xs) ys (inr there) = on (some_either P xs ys there)
  where
    on : Some_of P xs ⊎ Some_of P ys → Some_of P (x ∷ xs) ⊎ Some_of P ys
    on (inl a) = inl (inr a)
    on (inr b) = inr b

all_so : {X : Type 0} (xs : List X) → AllAre (λ (x : X). Unit {0}) xs
all_so [] = tt
all_so (x ∷ xs) = (tt, all_so xs)

-- the numbers of the members are those of their hosts
numbers_are : {H A : Type 0} (host : HostView H) (ms : List (Member H A)) → numbers ms ≡ map (λ h. h.number) (hosts_of host ms)
numbers_are host [] = refl
numbers_are host (Executor number machine ∷ ms) = ap (λ (ns : List ℕ). number ∷ ns) (numbers_are host ms)
numbers_are host (Operator answers line ended failed ∷ ms) = numbers_are host ms

-- a decision is no output
no_decision : (task : ℕ) (stream : Stream) (place request : ℕ) (bytes name : List ℕ) (proceed : Bool) → Output task (named stream) place bytes ≡ Decided request proceed name → ⊥
no_decision task stream place request bytes name proceed is = cc

module _ (setting : Setting) (events granted : List Event) (started : (world_in setting events).started ≡ true) (taken : List Event) where
  -- what was claimed in time was claimed in the life
  all_given : (before es : List Entry) → tooks (before ++ es) ≡ taken → EachIs (ClaimedInTime setting (events ++ granted)) before es → AllAre (λ (c : ClaimedTask). InLife setting events (granted ++ taken) c.executor c.task) (claimed_of es)
  all_given before [] is each = tt
  all_given before (Claimed executor task keep_out kept_log kept_out ∷ es) is each =
      let entry : Entry = Claimed executor task keep_out kept_log kept_out in
      let same : (events ++ granted) ++ tooks before ≡ events ++ (granted ++ tooks before) = append_assoc events granted (tooks before) in (
        record {
          front = granted ++ tooks before;
          rest = tooks es;
          is = ap (λ (xs : List Event). granted ++ xs) (sym is ∙ tooks-append before (entry ∷ es)) ∙ sym (append_assoc granted (tooks before) (tooks es));
          has_begun = begun_all setting events (granted ++ tooks before) started;
          task_of = subst (λ (xs : List Event). IsTaskOf executor task (world_in setting xs).shared) same each.0;
        },
        all_given (before ++ entry ∷ []) es (ap tooks (append_assoc before (entry ∷ []) es) ∙ is) each.1,
      )
  all_given before (Took event ∷ es) is each = all_given (before ++ Took event ∷ []) es (ap tooks (append_assoc before (Took event ∷ []) es) ∙ is) each.1
  all_given before (Line line ∷ es) is each = all_given (before ++ Line line ∷ []) es (ap tooks (append_assoc before (Line line ∷ []) es) ∙ is) each.1
  all_given before (Failed fault event ∷ es) is each = all_given (before ++ Failed fault event ∷ []) es (ap tooks (append_assoc before (Failed fault event ∷ []) es) ∙ is) each.1

module _ {H A : Type 0} (host : HostView H) (source : SourceView A) (looks : ℕ) where
  module _ {B : Type 0} (answers : Answers B Entry Ask Reply) (base : B) (old new : List (Member H A)) (h : List Entry) where
    -- the turns of a life, from its members to what they became
    steps_so : (how : Result Progress Memory) (life : Life host source looks answers base base old new h how) → Steps old (turns_of life.rounds ++ life.last) new × MadeOf [] (turns_of life.rounds ++ life.last) h
    steps_so how life =
        let first = rounds_steps answers base life.rounds old [] life.members life.before life.went_on in
        let last = last_steps how life.ends in
        (steps_then old (turns_of life.rounds) life.last life.members new first.0 last.0, made_join (turns_of life.rounds) life.last [] life.before h first.1 last.1)
      where
        last_made : MadeOf [] life.last life.part → life.before ++ life.part ≡ h → MadeOf life.before life.last h
        last_made made is = subst (MadeOf life.before life.last) is (made_behind life.before life.last life.part made)

        last_steps : (r : Result Progress Memory) → EndsWith answers base life.last life.members life.before new life.part h r → Steps life.members life.last new × MadeOf life.before life.last h
        last_steps (Ok come) e = (steps_of life.last [] life.members new e.0, last_made e.1 e.2)
        last_steps (Err memory) e = (steps_of life.last e.0 life.members new e.1, last_made e.2 e.3)

  module _ (setting : Setting) (p : Node) (e : setting.script ≡ term 0 p) (small : Small setting) (events taken : List Event) (turns : List (Turn H A)) where
    abbrev IsTold : Told → Type 0
    IsTold t = t.accepted ≡ true → Some_of (λ x. x ≡ t.event) taken

    abbrev IsGiven : ClaimedTask → Type 0
    IsGiven c = InLife setting events taken c.executor c.task

    -- An output that one of the turns explains was reported in a turn of the executor whose task it is.
    own_turn : (executor task : ℕ) (stream : Stream) (place : ℕ) (bytes : List ℕ) → WasTask setting (events ++ taken) executor task → (turn : Turn H A)
        → AllAre IsGiven (claimed_of turn.own) → (w : Worked) (own : List Entry) (gate_calls : List GateCall) (told : GateTells) → turn.own ≡ own → (m n : Member H A)
        → ComesFrom host source looks (Output task (named stream) place bytes) m n w own gate_calls told → IsNumber executor m
    own_turn executor task stream place bytes was turn given w own gate_calls told same (Executor number machine) (Executor now next) comes =
        let claimed = caused_by looks task (named stream) place bytes number comes.0.past comes.0.lawful comes.0.orders comes.1 in
        let among = subst (Some_of (λ (c : ClaimedTask). (c.executor ≡ number) × (c.task ≡ task))) (sym comes.0.claimed) claimed in
        let one = some_both IsGiven (λ (c : ClaimedTask). (c.executor ≡ number) × (c.task ≡ task)) (claimed_of own) (subst (λ (es : List Entry). AllAre IsGiven (claimed_of es)) same given) among in
        let life = one.1 in
        let its : IsTaskOf number task (world_in setting (events ++ life.front)).shared =
        subst (λ (t : ℕ). IsTaskOf number t (world_in setting (events ++ life.front)).shared) one.2.1 (subst (λ (x : ℕ). IsTaskOf x one.0.task (world_in setting (events ++ life.front)).shared) one.2.0 life.task_of) in
        sym (one_executor setting p e small (events ++ taken) executor number task was
        (record { front = events ++ life.front; rest = life.rest; is = ap (λ (xs : List Event). events ++ xs) life.is ∙ sym (append_assoc events life.front life.rest); begun = life.has_begun; task_of = its }))
    own_turn executor task stream place bytes was turn given w own gate_calls told same (Operator answers line ended failed) (Operator next kept now_ended now_failed) comes =
        let d = comes.1.2.1 in absurd (no_decision task stream place comes.1.2.0 bytes d.name d.proceed d.is)
    own_turn executor task stream place bytes was turn given w own gate_calls told same (Executor number machine) (Operator next kept now_ended now_failed) comes = absurd comes
    own_turn executor task stream place bytes was turn given w own gate_calls told same (Operator answers line ended failed) (Executor now next) comes = absurd comes

    module _ (started : (world_in setting events).started ≡ true)
        (explained : (task : ℕ) (stream : Stream) (place : ℕ) (bytes : List ℕ) → Some_of (λ x. x ≡ Output task (named stream) place bytes) taken
        → HoldsOfOne (Explains host source looks true (Output task (named stream) place bytes)) turns)
        (given : AllAre (λ (turn : Turn H A). AllAre IsGiven (claimed_of turn.own)) turns) (short : AreShort taken) where
      -- What an executor was told is what life_delivers asks for.
      are_outputs : (number : ℕ) (told : List Told) → AllAre IsTold told → TellsAll number told turns → AreOutputs setting events taken number told
      are_outputs number told are all = record {
        own = λ task stream place bytes was.
            let x : Event = Output task (named stream) place bytes in
            let there : Some_of (λ y. y ≡ x) taken = subst (Some_of (λ y. y ≡ x)) (sym was.is) (some_behind (λ y. y ≡ x) was.front (x ∷ was.rest) (inl refl)) in
            let one = holds_both (λ (turn : Turn H A). AllAre IsGiven (claimed_of turn.own) × (IsNumber number turn.old → AllAre (λ (t : Told). Some_of (λ (u : Told). u ≡ t) told) (told_of turn.own)))
            (Explains host source looks true x) turns
            (both_all (λ (turn : Turn H A). AllAre IsGiven (claimed_of turn.own)) (λ (turn : Turn H A). IsNumber number turn.old → AllAre (λ (t : Told). Some_of (λ (u : Told). u ≡ t) told) (told_of turn.own)) turns given all)
            (explained task stream place bytes there) in
            let turn : Turn H A = one.0 in
            let was_task : WasTask setting (events ++ taken) number task = record {
              front = events ++ was.front;
              rest = x ∷ was.rest;
              is = ap (λ (xs : List Event). events ++ xs) was.is ∙ sym (append_assoc events was.front (x ∷ was.rest));
              begun = begun_all setting events was.front started;
              task_of = was.task_of;
            } in
            let its = own_turn number task stream place bytes was_task turn one.1.0 turn.worked turn.own turn.calls (tells_of turn.own turn.calls turn.said turn.is_open) refl turn.old turn.now one.2.comes in
            in_all (λ (t : Told). Some_of (λ (u : Told). u ≡ t) told) (told_at x true) (told_of turn.own) (one.1.1 its) one.2.told;
        short = λ task stream place bytes there. short task stream place bytes (all_some IsTold told are (told_at (Output task (named stream) place bytes) true) there refl);
      }

      all_deliver : (os ms : List (Member H A)) → AllCame host source looks IsTold os ms turns → AreHonest host os → AllDelivered host setting events os → AllDelivered host setting (events ++ taken) ms
      all_deliver [] [] c are delivered = tt
      all_deliver (Executor number machine ∷ os) (Executor now next ∷ ms) c are delivered =
          let k = c.0.1 in (
            subst (λ (n : ℕ). Delivered setting (events ++ taken) n (host.output next)) (sym c.0.0)
                (life_delivers setting events taken number looks (on_host host machine) (on_host host next) k.told k.claimed (k.turns are.0) (are_outputs number k.told k.are_told k.all) delivered.0),
            all_deliver os ms c.1 are.1 delivered.1,
          )
      all_deliver (Operator answers line ended failed ∷ os) (Operator next kept now_ended now_failed ∷ ms) c are delivered = all_deliver os ms c.1 are delivered
      all_deliver (Executor number machine ∷ os) (Operator next kept now_ended now_failed ∷ ms) c are delivered = absurd c.0
      all_deliver (Operator answers line ended failed ∷ os) (Executor now next ∷ ms) c are delivered = absurd c.0
      all_deliver [] (m ∷ ms) c are delivered = absurd c
      all_deliver (o ∷ os) [] c are delivered = absurd c

  -- Where each output of the store's events stands on the hosts at the beginning of a life, each output of the events at its end stands there then,
  -- of a life with honest hosts of different executors, below the last number of 64 bits.
  pub members_deliver : {D T : Type 0} (disk : DiskView D) (stance : T → Stance)
      (setting : Setting) (proper : IsProper setting) (entry : Option (List ℕ)) (origin : D) (before events : List Event) {durable : Kept D T} (turns : List (Turn H A)) (old new : List (Member H A)) (history : List Entry) (kept : Kept D T) (ended : Result Rest TakeFault)
      → (world_in setting events).started ≡ true
      → (ends : Ends disk stance host source looks turns durable setting entry origin before events old new history kept ended)
      → AreHonest host old → AreApart (hosts_of host old) → AreShort (ends.granted ++ tooks history) → AllDelivered host setting events old → AllDelivered host setting ends.now new
  members_deliver disk stance setting proper entry origin before events turns old new history kept ended started ends are apart short delivered =
      subst (λ (now : List Event). AllDelivered host setting now new) (sym (ends.is ∙ append_assoc events ends.granted (tooks history)))
      (all_deliver setting (tree_node proper.tree) (of_tree stance setting proper) (small stance setting proper) events taken turns started explained given short old new came are delivered)
    where
      taken : List Event
      taken = ends.granted ++ tooks history

      life_turns : List (Turn H A)
      life_turns = turns_of ends.led.life.rounds ++ ends.led.life.last

      steps : Steps old life_turns new × MadeOf [] life_turns history
      steps = steps_so (replies setting) (events ++ ends.granted) old new history ends.led.how ends.led.life

      told_so : AllAre (λ (t : Told). t.accepted ≡ true → Some_of (λ x. x ≡ t.event) taken) (told_of history)
      told_so = all_map (λ (t : Told). t.accepted ≡ true → Some_of (λ x. x ≡ t.event) (tooks history)) (λ (t : Told). t.accepted ≡ true → Some_of (λ x. x ≡ t.event) taken) (told_of history)
          (λ t there is. some_behind (λ x. x ≡ t.event) ends.granted (tooks history) (there is)) (told_taken history)

      says : AllAre (SaysSo (λ (t : Told). t.accepted ≡ true → Some_of (λ x. x ≡ t.event) taken) (λ (c : ClaimedTask). InLife setting events taken c.executor c.task)) life_turns
      says = made_says (λ (t : Told). t.accepted ≡ true → Some_of (λ x. x ≡ t.event) taken) (λ (c : ClaimedTask). InLife setting events taken c.executor c.task) life_turns history steps.1 told_so
          (all_given setting events ends.granted started (tooks history) [] history refl ends.claims)

      given : AllAre (λ (turn : Turn H A). AllAre (λ (c : ClaimedTask). InLife setting events taken c.executor c.task) (claimed_of turn.own)) turns
      given = subst (AllAre (λ (turn : Turn H A). AllAre (λ (c : ClaimedTask). InLife setting events taken c.executor c.task) (claimed_of turn.own))) (sym ends.led.are)
          (all_map (SaysSo (λ (t : Told). t.accepted ≡ true → Some_of (λ x. x ≡ t.event) taken) (λ (c : ClaimedTask). InLife setting events taken c.executor c.task)) (λ (turn : Turn H A). AllAre (λ (c : ClaimedTask). InLife setting events taken c.executor c.task) (claimed_of turn.own)) life_turns
          (λ turn so. so.1) says)

      tells : AllAre (λ (turn : Turn H A). AllAre (λ (t : Told). t.accepted ≡ true → Some_of (λ x. x ≡ t.event) taken) (told_of turn.own)) life_turns
      tells = all_map (SaysSo (λ (t : Told). t.accepted ≡ true → Some_of (λ x. x ≡ t.event) taken) (λ (c : ClaimedTask). InLife setting events taken c.executor c.task)) (λ (turn : Turn H A). AllAre (λ (t : Told). t.accepted ≡ true → Some_of (λ x. x ≡ t.event) taken) (told_of turn.own)) life_turns
          (λ turn so. so.0) says

      once : NoTwice (numbers old)
      once = subst NoTwice (sym (numbers_are host old)) (none_twice (map (λ h. h.number) (hosts_of host old)) apart)

      came : AllCame host source looks (λ (t : Told). t.accepted ≡ true → Some_of (λ x. x ≡ t.event) taken) old new turns
      came = subst (AllCame host source looks (λ (t : Told). t.accepted ≡ true → Some_of (λ x. x ≡ t.event) taken) old new) (sym ends.led.are)
          (all_came host source looks (λ (t : Told). t.accepted ≡ true → Some_of (λ x. x ≡ t.event) taken) old life_turns new once steps.0
          (both_all (DidTurn host source looks) (λ (turn : Turn H A). AllAre (λ (t : Told). t.accepted ≡ true → Some_of (λ x. x ≡ t.event) taken) (told_of turn.own)) life_turns ends.led.life.turns tells))

      no_grant : (b : Bool) → b ≡ false → b ≡ true → ⊥
      no_grant b is other = let bad : false ≡ true = sym is ∙ other in absurd (cc)

      explained : (task : ℕ) (stream : Stream) (place : ℕ) (bytes : List ℕ) → Some_of (λ x. x ≡ Output task (named stream) place bytes) taken → HoldsOfOne (Explains host source looks true (Output task (named stream) place bytes)) turns
      explained task stream place bytes there = by (some_either (λ x. x ≡ Output task (named stream) place bytes) ends.granted (tooks history) there)
        where
          is_so : IsExplained host source looks life_turns true (Output task (named stream) place bytes)
              → HoldsOfOne (Explains host source looks true (Output task (named stream) place bytes)) turns
          is_so (inl grant) = absurd (no_grant false refl grant)
          is_so (inr one) = subst (HoldsOfOne (Explains host source looks true (Output task (named stream) place bytes))) (sym ends.led.are) one

          by : Some_of (λ x. x ≡ Output task (named stream) place bytes) ends.granted ⊎ Some_of (λ x. x ≡ Output task (named stream) place bytes) (tooks history)
              → HoldsOfOne (Explains host source looks true (Output task (named stream) place bytes)) turns
          by (inl grant) = absurd (no_grant false refl (all_some (λ x. is_grant x ≡ true) ends.granted ends.are_grants (Output task (named stream) place bytes) grant))
          by (inr taken_so) = is_so (all_some (IsExplained host source looks life_turns true) (tooks history) ends.led.life.explained (Output task (named stream) place bytes) taken_so)
