-- What was accepted of a task's output stands on its host, from a life's beginning to its end.
use Rattle.std.proofs.Common.{◌≡◌, ◌⊎◌, ◌∙◌, ◌+◌, ◌-◌, ◌^◌, ◌<◌, ◌≤◌, inl, inr, ℕ, suc, Bool, true, false, List, [], ◌∷◌, ◌++◌, length, take, drop, min, Result, Ok, Err, refl, sym, ap, subst, append_assoc, append-nil, arith}
use Rattle.std.specs.Prelude.{if◌then◌else◌}
use Rattle.std.specs.List.{AllByRecursion as AllAre}
use Rattle.std.proofs.lemmas.List.{drop-drop, drop-append-le, length-append, length-drop, take-append-drop}
use Rattle.std.proofs.Math.Nat.{min-eq_left, min-le_left}
use Rattle.std.proofs.Math.Seq.{drop-append_seam}
use Rattle.task_host.specs.Host.{GoesOn}
use Rattle.task_host.specs.declared.order.Order.{Order}
use Rattle.task_host.specs.declared.order.Stream.{Stream}
use Rattle.task_host.specs.declared.order.Stream.TheVariants.{Log, Out}
use Rattle.journal_core.specs.declared.faults.TakeFault.{TakeFault}
use Rattle.agent_worker.specs.Acts.{Act, Called, Reported, WasDone, accepted, kept, kept_before, named, is_named, output_in, with_told}
use Rattle.agent_worker.specs.Causes.{Gave}
use Rattle.agent_worker.specs.Delivering.{Delivers, StandsFrom}
use Rattle.agent_worker.specs.Gate.{Told, told_at, told_as, is_told, is_accepted, added_if}
use Rattle.agent_worker.specs.Serving.{IsServe, MayDo}
use Rattle.agent_worker.specs.Working.{Deed, Claims, Serves, Pauses, Halts, IsWork, OnHost, WorksOnHost, work_told}
use Rattle.model_run.specs.declared.event.Event.{Event}
use Rattle.model_run.specs.declared.event.Event.TheVariants.{Start, Granted, Output, Exited, Lost, Decided}
use Rattle.model_run.specs.declared.event.Stream.{Stream as EventStream}
use Rattle.model_run.specs.declared.event.Stream.TheVariants.{Log as LogStream, Out as OutStream}
use Rattle.model_run.specs.declared.taken.Taken.{Taken}
use Rattle.model_run.specs.declared.taken.Taken.TheVariants.{Accepted, NotOpen, WrongPlace, Finished}
use Rattle.model_run.specs.Fitting.{Some_of}
use Rattle.model_run.specs.Requests.{IsTaskOf}
use Rattle.model_run.specs.State.{Setting}
use Rattle.model_run.specs.World.{world_in}
use Rattle.world_laws.proofs.Places.{some_behind}
use Rattle.launch_laws.specs.ManyTurns.{Turns, none, more}
use Rattle.launch_laws.specs.Outputs.{AreOutputs, Delivered}
use Rattle.launch_laws.proofs.LifeLaws.{all_some, told_stays}
use Rattle.launch_laws.proofs.Lists.{same_or_not}

-- bytes that stand in a list stand in what it becomes
within_list : (place : ℕ) (old : List ℕ) (b : ℕ) (rest : List ℕ) → drop place old ≡ b ∷ rest → place ≤ length old
within_list place old b rest is = let n : length (drop place old) ≡ length (b ∷ rest) = ap length is in let m : length (drop place old) ≡ length old - place = length-drop place old in by (length old) (length rest) (sym m ∙ n)
  where
    by : (l r : ℕ) → l - place ≡ suc r → place ≤ l
    by l r eq = omega (arith, eq)

stands_grown : (place : ℕ) (bytes old new : List ℕ) → take (length old) new ≡ old → StandsFrom place bytes old → StandsFrom place bytes new
stands_grown place [] old new grows there = (drop place new, refl)
stands_grown place (b ∷ bytes) old new grows there =
    let grown : List ℕ = drop (length old) new in
    let is : old ++ grown ≡ new = ap (λ (l : List ℕ). l ++ grown) (sym grows) ∙ take-append-drop (length old) new in
    (there.0 ++ grown, ap (drop place) (sym is) ∙ drop-append-le place old grown (within_list place old b (bytes ++ there.0) there.1) ∙ ap (λ (l : List ℕ). l ++ grown) there.1 ∙ append_assoc (b ∷ bytes) there.0 grown)

-- an output that was reported and accepted
abbrev output_at : ℕ → Stream → ℕ → List ℕ → Act
output_at task stream place bytes = Reported (Output task (named stream) place bytes) (Ok Accepted)

same_named : (stream other : Stream) → named stream ≡ named other → other ≡ stream
same_named Log Log is = refl
same_named Log Out is = absurd (cc)
same_named Out Log is = absurd (cc)
same_named Out Out is = refl

is_named_so : (stream : Stream) → is_named stream (named stream) ≡ true
is_named_so Log = refl
is_named_so Out = refl

named_back : (stream : Stream) (name : EventStream) → is_named stream name ≡ true → name ≡ named stream
named_back Log LogStream is = refl
named_back Log OutStream is = absurd (cc)
named_back Out LogStream is = absurd (cc)
named_back Out OutStream is = refl

accepted_is : (answer : Result Taken TakeFault) → is_accepted answer ≡ true → answer ≡ Ok Accepted
accepted_is (Ok Accepted) is = refl
accepted_is (Ok NotOpen) is = absurd (cc)
accepted_is (Ok (WrongPlace kept)) is = absurd (cc)
accepted_is (Ok Finished) is = absurd (cc)
accepted_is (Err fault) is = absurd (cc)

same_event : (e f : Event) (a b : Result Taken TakeFault) → Reported e a ≡ Reported f b → e ≡ f
same_event e f a b is = cc

same_answer : (e f : Event) (a b : Result Taken TakeFault) → Reported e a ≡ Reported f b → a ≡ b
same_answer e f a b is = cc

same_bytes : (t u p q : ℕ) (n m : EventStream) (b c : List ℕ) → Output t n p b ≡ Output u m q c → b ≡ c
same_bytes t u p q n m b c is = cc

no_call : (c : _) (e : Event) (a : Result Taken TakeFault) → Called c ≡ Reported e a → ⊥
no_call c e a is = cc

module _ (order : Order) (looks : ℕ) (stream : Stream) where
  abbrev most : ℕ
  most = 2 ^ 64 - 1

  -- what an act adds to what was accepted of the stream
  abbrev adds : Event → Result Taken TakeFault → List ℕ
  adds event answer = if is_accepted answer then output_in stream event else []

  abbrev IsOutput : Event → Result Taken TakeFault → Type 0
  IsOutput event answer = (task : ℕ) × (place : ℕ) × (bytes : List ℕ) × (Reported event answer ≡ output_at task stream place bytes)

  named_output : (task place : ℕ) (name : EventStream) (bytes : List ℕ) → ((if is_named stream name then bytes else []) ≡ []) ⊎ IsOutput (Output task name place bytes) (Ok Accepted)
  named_output task place name bytes = by (is_named stream name) refl
    where
      by : (b : Bool) → is_named stream name ≡ b → ((if b then bytes else []) ≡ []) ⊎ IsOutput (Output task name place bytes) (Ok Accepted)
      by true is = inr (task, place, bytes, ap (λ (n : EventStream). Reported (Output task n place bytes) (Ok Accepted)) (named_back stream name is))
      by false is = inl refl

  adds_or_not : (event : Event) (answer : Result Taken TakeFault) → (adds event answer ≡ []) ⊎ IsOutput event answer
  adds_or_not (Output task name place bytes) (Ok Accepted) = named_output task place name bytes
  adds_or_not (Start script agents) (Ok Accepted) = inl refl
  adds_or_not (Granted request executor) (Ok Accepted) = inl refl
  adds_or_not (Exited task code) (Ok Accepted) = inl refl
  adds_or_not (Lost task why) (Ok Accepted) = inl refl
  adds_or_not (Decided request proceed name) (Ok Accepted) = inl refl
  adds_or_not event (Ok NotOpen) = inl refl
  adds_or_not event (Ok (WrongPlace place)) = inl refl
  adds_or_not event (Ok Finished) = inl refl
  adds_or_not event (Err fault) = inl refl

  adds_its : (event : Event) (answer : Result Taken TakeFault) (task place : ℕ) (bytes : List ℕ) → Reported event answer ≡ output_at task stream place bytes → adds event answer ≡ bytes
  adds_its event answer task place bytes is =
      subst (λ (a : Result Taken TakeFault). adds event a ≡ bytes) (sym (same_answer event (Output task (named stream) place bytes) answer (Ok Accepted) is))
      (subst (λ (e : Event). output_in stream e ≡ bytes) (sym (same_event event (Output task (named stream) place bytes) answer (Ok Accepted) is)) (ap (λ (b : Bool). if b then bytes else []) (is_named_so stream)))

  no_clip : (place all size : ℕ) → place ≡ min all most → place + size < most → place ≡ all
  no_clip place all size is less = by (small_or_not all)
    where
      small_or_not : (n : ℕ) → (n ≤ most) ⊎ (most ≤ n)
      small_or_not n = grind arith

      by : (all ≤ most) ⊎ (most ≤ all) → place ≡ all
      by (inl le) = is ∙ min-eq_left le
      by (inr ge) = grind (arith, is, less, ge)

  -- an output is of the order's task, and begins where the stream was kept
  its_task : (task place : ℕ) (bytes : List ℕ) (past : List Act) → MayDo order looks past (output_at task stream place bytes) → task ≡ order.task
  its_task task place bytes past may = may.0.0

  its_place : (task place : ℕ) (bytes : List ℕ) (past : List Act) → MayDo order looks past (output_at task stream place bytes) → place + length bytes < most → place ≡ kept_before order stream + length (accepted stream past)
  its_place task place bytes past may less =
      let gave : Gave order (named stream) place bytes past = may.0.1 in
      no_clip place (kept_before order stream + length (accepted stream past)) (length bytes) (subst (λ (s : Stream). place ≡ kept order s past) (same_named stream gave.stream gave.named_so) gave.place) less

  abbrev Short : List Act → Type 0
  Short acts = (task place : ℕ) (bytes : List ℕ) → WasDone (output_at task stream place bytes) acts → place + length bytes < most

  -- what was accepted ends below the last number, where there was any
  ends_below : (acts : List Act) → IsServe order looks acts → Short acts → (task place : ℕ) (bytes : List ℕ) → WasDone (output_at task stream place bytes) acts → kept_before order stream + length (accepted stream acts) < most
  ends_below [] lawful short task place bytes done = absurd done
  ends_below (Called c ∷ past) lawful short task place bytes (inl is) = absurd (no_call c (Output task (named stream) place bytes) (Ok Accepted) is)
  ends_below (Called c ∷ past) lawful short task place bytes (inr done) = ends_below past lawful.1 (λ t p b d. short t p b (inr d)) task place bytes done
  ends_below (Reported event answer ∷ past) lawful short task place bytes done = by (adds_or_not event answer) done (λ there. ends_below past lawful.1 (λ t p b d. short t p b (inr d)) task place bytes there)
    where
      here : (t p : ℕ) (b : List ℕ) → Reported event answer ≡ output_at t stream p b → kept_before order stream + length (accepted stream (Reported event answer ∷ past)) < most
      here t p b is =
          let less : p + length b < most = short t p b (inl is) in
          let at : p ≡ kept_before order stream + length (accepted stream past) = its_place t p b past (subst (MayDo order looks past) is lawful.0) less in
          let all : length (accepted stream past ++ adds event answer) ≡ length (accepted stream past) + length b = length-append (accepted stream past) (adds event answer) ∙ ap (λ (l : List ℕ). length (accepted stream past) + length l) (adds_its event answer t p b is) in
          sum (kept_before order stream) (length (accepted stream past)) (length b) p (length (accepted stream past ++ adds event answer)) less at all
        where
          sum : (k a b p n : ℕ) → p + b < most → p ≡ k + a → n ≡ a + b → k + n < most
          sum k a b p n less at all = omega (arith, less, at, all)

      by : (adds event answer ≡ []) ⊎ IsOutput event answer → WasDone (output_at task stream place bytes) (Reported event answer ∷ past)
          → (WasDone (output_at task stream place bytes) past → kept_before order stream + length (accepted stream past) < most) → kept_before order stream + length (accepted stream (Reported event answer ∷ past)) < most
      by (inr w) done so_far = here w.0 w.1 w.2 w.3
      by (inl nothing) (inl is) so_far = here task place bytes is
      by (inl nothing) (inr done) so_far = subst (λ (l : List ℕ). kept_before order stream + length l < most) (sym (ap (λ (l : List ℕ). accepted stream past ++ l) nothing ∙ append-nil (accepted stream past))) (so_far done)

  -- and where all of it stands on the host, so does that of each output
  each_stands : (output : List ℕ) (acts : List Act) → IsServe order looks acts → Short acts → StandsFrom (kept_before order stream) (accepted stream acts) output
      → (task place : ℕ) (bytes : List ℕ) → WasDone (output_at task stream place bytes) acts → (task ≡ order.task) × StandsFrom place bytes output
  each_stands output [] lawful short there task place bytes done = absurd done
  each_stands output (Called c ∷ past) lawful short there task place bytes (inl is) = absurd (no_call c (Output task (named stream) place bytes) (Ok Accepted) is)
  each_stands output (Called c ∷ past) lawful short there task place bytes (inr done) = each_stands output past lawful.1 (λ t p b d. short t p b (inr d)) there task place bytes done
  each_stands output (Reported event answer ∷ past) lawful short there task place bytes (inl is) =
      let may : MayDo order looks past (output_at task stream place bytes) = subst (MayDo order looks past) is lawful.0 in
      let at : place ≡ kept_before order stream + length (accepted stream past) = its_place task place bytes past may (short task place bytes (inl is)) in
      let all : drop (kept_before order stream) output ≡ accepted stream past ++ (bytes ++ there.0) = there.1 ∙ append_assoc (accepted stream past) (adds event answer) there.0 ∙ ap (λ (l : List ℕ). accepted stream past ++ (l ++ there.0)) (adds_its event answer task place bytes is) in (
        its_task task place bytes past may,
        (there.0, ap (λ (n : ℕ). drop n output) at ∙ sym (drop-drop (length (accepted stream past)) (kept_before order stream) output) ∙ ap (drop (length (accepted stream past))) all ∙ drop-append_seam (accepted stream past) (bytes ++ there.0)),
      )
  each_stands output (Reported event answer ∷ past) lawful short there task place bytes (inr done) =
      each_stands output past lawful.1 (λ t p b d. short t p b (inr d)) (adds event answer ++ there.0, there.1 ∙ append_assoc (accepted stream past) (adds event answer) there.0) task place bytes done

-- an event that was accepted was told
done_told : (e : Event) (acts : List Act) (old : List Told) → WasDone (Reported e (Ok Accepted)) acts → Some_of (λ t. t ≡ told_at e true) (with_told acts old)
done_told e [] old done = absurd done
done_told e (Called c ∷ acts) old (inl is) = absurd (no_call c e (Ok Accepted) is)
done_told e (Called c ∷ acts) old (inr done) = done_told e acts old done
done_told e (Reported f answer ∷ acts) old (inl is) =
    subst (λ (a : Act). Some_of (λ t. t ≡ told_at e true) (with_told (a ∷ acts) old)) (sym is) (some_behind (λ t. t ≡ told_at e true) (with_told acts old) (told_at e true ∷ []) (inl refl))
done_told e (Reported f answer ∷ acts) old (inr done) = told_stays (told_at e true) (is_told answer) (told_as f answer) (with_told acts old) (done_told e acts old done)

-- the output that was told as accepted stands there
abbrev HasTold : (ℕ → Stream → List ℕ) → Told → Type 0
HasTold output told = (task : ℕ) (stream : Stream) (place : ℕ) (bytes : List ℕ) → told ≡ told_at (Output task (named stream) place bytes) true → StandsFrom place bytes (output task stream)

abbrev AllHave : (ℕ → Stream → List ℕ) → List Told → Type 0
AllHave output told = AllAre (HasTold output) told

-- and ends below the last number
abbrev IsBelow : Told → Type 0
IsBelow told = (task : ℕ) (stream : Stream) (place : ℕ) (bytes : List ℕ) → told ≡ told_at (Output task (named stream) place bytes) true → place + length bytes < 2 ^ 64 - 1

-- what a host has it has still behind a serve
stands_still : (order : Order) (old now : OnHost) → GoesOn order.task old.exited now.exited old.output now.output → (task : ℕ) (stream : Stream) (place : ℕ) (bytes : List ℕ) → StandsFrom place bytes (old.output task stream) → StandsFrom place bytes (now.output task stream)
stands_still order old now goes task stream place bytes there = by (same_or_not task order.task)
  where
    by : (task ≡ order.task) ⊎ (task ≡ order.task → ⊥) → StandsFrom place bytes (now.output task stream)
    by (inl same) = stands_grown place bytes (old.output task stream) (now.output task stream) (subst (λ (n : ℕ). take (length (old.output n stream)) (now.output n stream) ≡ old.output n stream) (sym same) (goes.grows stream)) there
    by (inr other) = subst (StandsFrom place bytes) (sym (goes.other_output task stream other)) there

works_still : (past : List Deed) (start now : OnHost) → WorksOnHost past start now → (task : ℕ) (stream : Stream) (place : ℕ) (bytes : List ℕ) → StandsFrom place bytes (start.output task stream) → StandsFrom place bytes (now.output task stream)
works_still [] start now works task stream place bytes there = subst (λ (h : OnHost). StandsFrom place bytes (h.output task stream)) (sym works) there
works_still (Claims c ∷ past) start now works task stream place bytes there = works_still past start now works task stream place bytes there
works_still (Serves order acts answer ∷ past) start now works task stream place bytes there =
    stands_still order works.0 now works.2.goes_on task stream place bytes (works_still past start works.0 works.1 task stream place bytes there)
works_still (Pauses ∷ past) start now works task stream place bytes there = works_still past start now works task stream place bytes there
works_still (Halts ∷ past) start now works task stream place bytes there = works_still past start now works task stream place bytes there

pub turns_still : {executor looks : ℕ} (start : OnHost) (told : List Told) (claimed : List _) (now : OnHost) → Turns executor looks start told claimed now
    → (task : ℕ) (stream : Stream) (place : ℕ) (bytes : List ℕ) → StandsFrom place bytes (start.output task stream) → StandsFrom place bytes (now.output task stream)
turns_still start told claimed now none task stream place bytes there = there
turns_still start told claimed now (more {old_told = old_told} {old_claimed = old_claimed} {old = old} before turn) task stream place bytes there =
    works_still turn.past old now turn.on_host task stream place bytes (turns_still start old_told old_claimed old before task stream place bytes there)

all_weaker : {P Q : Told → Type 0} → ((t : Told) → P t → Q t) → (ts : List Told) → AllAre P ts → AllAre Q ts
all_weaker weaker [] all = tt
all_weaker weaker (t ∷ ts) all = (weaker t all.0, all_weaker weaker ts all.1)

all_last : (P : Told → Type 0) (ts : List Told) (t : Told) → AllAre P ts → P t → AllAre P (ts ++ t ∷ [])
all_last P [] t all one = (one, tt)
all_last P (x ∷ ts) t all one = (all.0, all_last P ts t all.1 one)

same_told : (e f : Event) (a b : Bool) → told_at e a ≡ told_at f b → (e ≡ f) × (a ≡ b)
same_told e f a b is = (ap (λ (t : Told). t.event) is, ap (λ (t : Told). t.accepted) is)

-- what was told in a serve stands on the host behind it
module _ (order : Order) (looks : ℕ) (acts : List Act) (lawful : IsServe order looks acts) (host : OnHost) (delivers : Delivers order acts (host.output order.task) (host.exited order.task)) (old : List Told)
    (below : AllAre IsBelow (with_told acts old)) where
  short : (stream : Stream) → Short order looks stream acts
  short stream task place bytes done =
      all_some IsBelow (with_told acts old) below (told_at (Output task (named stream) place bytes) true) (done_told (Output task (named stream) place bytes) acts old done) task stream place bytes refl

  done_stands : (task : ℕ) (stream : Stream) (place : ℕ) (bytes : List ℕ) → WasDone (output_at task stream place bytes) acts → StandsFrom place bytes (host.output task stream)
  done_stands task stream place bytes done =
      let under : kept_before order stream + length (accepted stream acts) < 2 ^ 64 - 1 = ends_below order looks stream acts lawful (short stream) task place bytes done in
      let clipped : kept order stream acts ≤ kept_before order stream + length (accepted stream acts) = min-le_left (kept_before order stream + length (accepted stream acts)) (2 ^ 64 - 1) in
      let each = each_stands order looks stream (host.output order.task stream) acts lawful (short stream) (delivers.a_part stream (less (kept order stream acts) (kept_before order stream + length (accepted stream acts)) clipped under)) task place bytes done in
      subst (λ (n : ℕ). StandsFrom place bytes (host.output n stream)) (sym each.0) each.1
    where
      less : (a b : ℕ) → a ≤ b → b < 2 ^ 64 - 1 → a < 2 ^ 64 - 1
      less a b le lt = omega (arith, le, lt)

  acts_stand : (part : List Act) → ((a : Act) → WasDone a part → WasDone a acts) → AllHave host.output old → AllHave host.output (with_told part old)
  acts_stand [] within all = all
  acts_stand (Called c ∷ part) within all = acts_stand part (λ a done. within a (inr done)) all
  acts_stand (Reported e answer ∷ part) within all = by (is_told answer) (acts_stand part (λ a done. within a (inr done)) all)
    where
      one : HasTold host.output (told_as e answer)
      one task stream place bytes is =
          let same = same_told e (Output task (named stream) place bytes) (is_accepted answer) true is in
          done_stands task stream place bytes (within (output_at task stream place bytes)
          (inl (ap (λ (f : Event). Reported f answer) same.0 ∙ ap (λ (a : Result Taken TakeFault). Reported (Output task (named stream) place bytes) a) (accepted_is answer same.1))))

      by : (b : Bool) → AllHave host.output (with_told part old) → AllHave host.output (added_if b (told_as e answer) (with_told part old))
      by true so_far = all_last (HasTold host.output) (with_told part old) (told_as e answer) so_far one
      by false so_far = so_far

below_acts : (acts : List Act) (old : List Told) → AllAre IsBelow (with_told acts old) → AllAre IsBelow old
below_acts [] old all = all
below_acts (Called c ∷ acts) old all = below_acts acts old all
below_acts (Reported e answer ∷ acts) old all = below_acts acts old (by (is_told answer) all)
  where
    first : (ts : List Told) → AllAre IsBelow (ts ++ told_as e answer ∷ []) → AllAre IsBelow ts
    first [] all = tt
    first (t ∷ ts) all = (all.0, first ts all.1)

    by : (b : Bool) → AllAre IsBelow (added_if b (told_as e answer) (with_told acts old)) → AllAre IsBelow (with_told acts old)
    by true all = first (with_told acts old) all
    by false all = all

-- in a turn
works_stand : (looks : ℕ) (past : List Deed) (start now : OnHost) → IsWork looks past → WorksOnHost past start now → AllAre IsBelow (work_told past []) → AllHave now.output (work_told past [])
works_stand looks [] start now lawful works below = tt
works_stand looks (Claims c ∷ past) start now lawful works below = works_stand looks past start now lawful.1 works below
works_stand looks (Serves order acts answer ∷ past) start now lawful works below =
    acts_stand order looks acts lawful.0.1 now works.2.delivers (work_told past []) below acts (λ a done. done)
    (all_weaker (λ t has task stream place bytes is. stands_still order works.0 now works.2.goes_on task stream place bytes (has task stream place bytes is)) (work_told past [])
    (works_stand looks past start works.0 lawful.1 works.1 (below_acts acts (work_told past []) below)))
works_stand looks (Pauses ∷ past) start now lawful works below = works_stand looks past start now lawful.1 works below
works_stand looks (Halts ∷ past) start now lawful works below = works_stand looks past start now lawful.1 works below

all_both : (P : Told → Type 0) (xs ys : List Told) → AllAre P xs → AllAre P ys → AllAre P (xs ++ ys)
all_both P [] ys a b = b
all_both P (x ∷ xs) ys a b = (a.0, all_both P xs ys a.1 b)

all_front : (P : Told → Type 0) (xs ys : List Told) → AllAre P (xs ++ ys) → AllAre P xs
all_front P [] ys all = tt
all_front P (x ∷ xs) ys all = (all.0, all_front P xs ys all.1)

all_rest : (P : Told → Type 0) (xs ys : List Told) → AllAre P (xs ++ ys) → AllAre P ys
all_rest P [] ys all = all
all_rest P (x ∷ xs) ys all = all_rest P xs ys all.1

-- in all turns
turns_stand : {executor looks : ℕ} (start : OnHost) (told : List Told) (claimed : List _) (now : OnHost) → Turns executor looks start told claimed now → AllAre IsBelow told → AllHave now.output told
turns_stand start told claimed now none below = tt
turns_stand {looks = looks} start told claimed now (more {old_told = old_told} {told = new_told} {old_claimed = old_claimed} {old = old} before turn) below =
    all_both (HasTold now.output) old_told new_told
    (all_weaker (λ t has task stream place bytes is. works_still turn.past old now turn.on_host task stream place bytes (has task stream place bytes is)) old_told
    (turns_stand start old_told old_claimed old before (all_front IsBelow old_told new_told below)))
    (subst (AllHave now.output) (sym turn.tells) (works_stand looks turn.past old now turn.lawful turn.on_host (subst (AllAre IsBelow) turn.tells (all_rest IsBelow old_told new_told below))))

-- an event of two lists is in the first or in the second
in_either : (begun taken front rest : List Event) (x : Event) → begun ++ taken ≡ front ++ x ∷ rest
    → ((r : List Event) × (begun ≡ front ++ x ∷ r)) ⊎ ((f : List Event) × (front ≡ begun ++ f) × (taken ≡ f ++ x ∷ rest))
in_either [] taken front rest x is = inr (front, refl, is)
in_either (y ∷ begun) taken [] rest x is = inl (begun, ap (λ (e : Event). e ∷ begun) (head_same y x (begun ++ taken) rest is))
  where
    head_same : (a b : Event) (xs ys : List Event) → a ∷ xs ≡ b ∷ ys → a ≡ b
    head_same a b xs ys is = cc
in_either (y ∷ begun) taken (z ∷ front) rest x is = by (in_either begun taken front rest x (tail_same y z (begun ++ taken) (front ++ x ∷ rest) is))
  where
    head_same : (a b : Event) (xs ys : List Event) → a ∷ xs ≡ b ∷ ys → a ≡ b
    head_same a b xs ys is = cc

    tail_same : (a b : Event) (xs ys : List Event) → a ∷ xs ≡ b ∷ ys → xs ≡ ys
    tail_same a b xs ys is = cc

    same : y ≡ z
    same = head_same y z (begun ++ taken) (front ++ x ∷ rest) is

    cons : {a b : Event} {xs ys : List Event} → a ≡ b → xs ≡ ys → a ∷ xs ≡ b ∷ ys
    cons one two = cc

    by : ((r : List Event) × (begun ≡ front ++ x ∷ r)) ⊎ ((f : List Event) × (front ≡ begun ++ f) × (taken ≡ f ++ x ∷ rest)) → ((r : List Event) × (y ∷ begun ≡ (z ∷ front) ++ x ∷ r)) ⊎ ((f : List Event) × (z ∷ front ≡ (y ∷ begun) ++ f) × (taken ≡ f ++ x ∷ rest))
    by (inl r) = inl (r.0, cons same r.1)
    by (inr f) = inr (f.0, cons (sym same) f.1, f.2)

-- What was accepted stands on the host at the end of a life, where it stood there at its beginning.
pub life_delivers : (setting : Setting) (begun taken : List Event) (executor looks : ℕ) (start now : OnHost) (told : List Told) (claimed : List _) → Turns executor looks start told claimed now
    → AreOutputs setting begun taken executor told → Delivered setting begun executor start.output → Delivered setting (begun ++ taken) executor now.output
life_delivers setting begun taken executor looks start now told claimed turns are delivered task stream place bytes was =
    by (in_either begun taken was.front was.rest (Output task (named stream) place bytes) was.is)
  where
    below : (ts : List Told) → ((t : Told) → Some_of (λ x. x ≡ t) ts → Some_of (λ x. x ≡ t) told) → AllAre IsBelow ts
    below [] within = tt
    below (t ∷ ts) within = (λ task stream place bytes is. are.short task stream place bytes (within (told_at (Output task (named stream) place bytes) true) (inl is)), below ts (λ u there. within u (inr there)))

    by : ((r : List Event) × (begun ≡ was.front ++ Output task (named stream) place bytes ∷ r)) ⊎ ((f : List Event) × (was.front ≡ begun ++ f) × (taken ≡ f ++ Output task (named stream) place bytes ∷ was.rest)) → StandsFrom place bytes (now.output task stream)
    by (inl r) = turns_still start told claimed now turns task stream place bytes (delivered task stream place bytes (record { front = was.front; rest = r.0; is = r.1; task_of = was.task_of }))
    by (inr f) =
        let own = are.own task stream place bytes (record { front = f.0; rest = was.rest; is = f.2; task_of = subst (λ (es : List Event). IsTaskOf executor task (world_in setting es).shared) f.1 was.task_of }) in
        all_some (HasTold now.output) told (turns_stand start told claimed now turns (below told (λ t there. there))) (told_at (Output task (named stream) place bytes) true) own task stream place bytes refl
