-- What is told of a life on each disk.
use Rattle.std.proofs.Common.{◌≡◌, ◌⊎◌, ◌∙◌, ◌≤◌, ◌+◌, ◌^◌, inl, inr, ℕ, ℤ, Bool, true, false, List, [], ◌∷◌, Option, Some, None, Result, Ok, Err, refl, sym, ap, subst, arith}
use Rattle.std.specs.Prelude.{IfErr, ◌&&◌, nat_lt, if◌then◌else◌}
use Rattle.std.specs.List.{AllZip, IsDistinct}
use Rattle.std.proofs.Props.{props}
use Rattle.std.proofs.Math.Logic.{∥∥₁_elim, ∥∥₁_map}
use Rattle.device_faults.specs.Faults.{CountsFault, Rose}
use Rattle.program_lock.specs.declared.program.Memory.{Memory}
use Rattle.program_lock.specs.Legal.{Answers}
use Rattle.task_host.specs.declared.call.Call.{Call}
use Rattle.task_host.specs.declared.order.Stream.{Stream}
use Rattle.journal_core.specs.declared.faults.TakeFault.{TakeFault}
use Rattle.journal_core.specs.declared.faults.TakeFault.TheVariants as take
use Rattle.agent_worker.specs.declared.member.Member.{Member}
use Rattle.image_form.specs.declared.image.Image.{Image}
use Rattle.build_store.specs.Lower.durable_build.Standing.{Kept}
use Rattle.build_life.specs.declared.resting.Rest.{Rest}
use Rattle.build_life.specs.declared.resting.Rest.TheVariants.{Ended, Waits, AnswersFailed}
use Rattle.settle_laws.specs.Stances.{Stance}
use Rattle.member_turns.specs.Lower.locked_build.declared.ask.Ask.{Ask}
use Rattle.model_run.specs.declared.event.Event.{Event}
use Rattle.build_store.specs.Lives.{TellsFault}
use Rattle.member_turns.specs.Lower.locked_build.declared.ask.Entry.{Entry}
use Rattle.member_turns.specs.Lower.locked_build.declared.ask.Entry.TheVariants.{Took, Claimed, Line, Failed}
use Rattle.member_turns.specs.Lower.locked_build.declared.ask.Progress.{Progress}
use Rattle.member_turns.specs.Lower.locked_build.declared.ask.Reply.{Reply}
use Rattle.member_turns.specs.Lower.locked_build.Facts.{Facts, IsFull, IsFullAt, IsSite}
use Rattle.member_turns.specs.Lower.locked_build.Grants.{OpenRefuses}
use Rattle.member_turns.specs.Lower.locked_build.Histories.{kept_fault}
use Rattle.member_turns.specs.Lives.{Life, LifeOf}
use Rattle.member_turns.specs.Ways.{Way}
use Rattle.member_turns.specs.Turns.{DidTurn}
use Rattle.build_life.specs.Ending.{any_failed, ended_as, rest_of}
use Rattle.jp_disk.specs.View.{DiskView}
use Rattle.task_host.specs.View.{HostView}
use Rattle.jp_io.specs.View.{SourceView}

-- Whether a count rose can be decided, so that what is merely known of it is so.
rose_or_not : (before now : ℕ) → Rose before now ⊎ ¬ (Rose before now)
rose_or_not before now = by (nat_lt before now) refl (nat_lt (now + 1) (2 ^ 64)) refl
  where
    by : (a : Bool) → nat_lt before now ≡ a → (b : Bool) → nat_lt (now + 1) (2 ^ 64) ≡ b → Rose before now ⊎ ¬ (Rose before now)
    by true is b there = inl (inl (grind (arith, is)))
    by false is false there = inl (inr (grind (arith, there)))
    by false is true there = inr (λ rose. never is there rose)
      where
        never : nat_lt before now ≡ false → nat_lt (now + 1) (2 ^ 64) ≡ true → Rose before now → ⊥
        never is there (inl less) = grind (arith, is, less)
        never is there (inr last) = grind (arith, there, last)

bottom_prop : (a b : ⊥) → a ≡ b
bottom_prop a b = absurd a

less_prop : (m n : ℕ) → IsProp (m ≤ n)
less_prop m n = hlevel props

same_prop : (m n : ℕ) → IsProp (m ≡ n)
same_prop m n = hlevel props

rose_known : (before now : ℕ) → ∥ Rose before now ∥₁ → Rose before now
rose_known before now known = by (rose_or_not before now)
  where
    by : Rose before now ⊎ ¬ (Rose before now) → Rose before now
    by (inl rose) = rose
    by (inr never) = absurd (∥∥₁_elim known bottom_prop never)

same_kept : (f g : TakeFault) → Some f ≡ Some g → f ≡ g
same_kept f g e = cc

abbrev failed : TakeFault → Result Rest TakeFault
failed f = Err f

abbrev rested : Rest → Result Rest TakeFault
rested r = Ok r

-- how a life ended, by the fault that is kept
fault_of : {H A : Type 0} (members : List (Member H A)) (how : Result Progress Memory) (f : Option TakeFault) → ended_as f how members ≡ Err take.Disk → f ≡ Some take.Disk
fault_of members how (Some f) is = ap Some (same f take.Disk is)
  where
    same : (f g : TakeFault) → failed f ≡ Err g → f ≡ g
    same f g e = cc
fault_of members (Ok come) None is = absurd (never (rest_of come members) is)
  where
    never : (r : Rest) → rested r ≡ Err take.Disk → ⊥
    never r e = cc
fault_of members (Err memory) None is = absurd (never is)
  where
    never : failed take.Memory ≡ Err take.Disk → ⊥
    never e = cc

disk_ended : {H A : Type 0} (members : List (Member H A)) (how : Result Progress Memory) (f : Option TakeFault) → f ≡ Some take.Disk → ended_as f how members ≡ Err take.Disk
disk_ended members how f is = ap (λ (g : Option TakeFault). ended_as g how members) is

waits_not : (b : Bool) → (if b then AnswersFailed else Waits) ≡ AnswersFailed → b ≡ true
waits_not true is = refl
waits_not false is = absurd (cc)

both_true : (a b : Bool) → (a && b) ≡ true → b ≡ true
both_true true b is = is
both_true false b is = absurd (cc)

rest_failed : (ended : Bool) (b : Bool) → (if ended then Ended else if b then AnswersFailed else Waits) ≡ AnswersFailed → b ≡ true
rest_failed true b is = absurd (cc)
rest_failed false b is = waits_not b is

ended_failed : {H A : Type 0} (members : List (Member H A)) (how : Result Progress Memory) (f : Option TakeFault) → ended_as f how members ≡ Ok AnswersFailed → any_failed members ≡ true
ended_failed members how (Some f) is = absurd (cc)
ended_failed members (Ok come) None is = both_true (nat_lt 0 come.waiting) (any_failed members) (rest_failed come.ended (nat_lt 0 come.waiting && any_failed members) (same (rest_of come members) AnswersFailed is))
  where
    same : (r q : Rest) → rested r ≡ Ok q → r ≡ q
    same r q e = cc
ended_failed members (Err memory) None is = absurd (cc)

-- a life that rests since answers could not be read
pub failed_so : {H A : Type 0} (members : List (Member H A)) (how : Result Progress Memory) (f : Option TakeFault) (ended : Result Rest TakeFault) → ended ≡ ended_as f how members → ended ≡ Ok AnswersFailed → any_failed members ≡ true
failed_so members how f ended is failed = ended_failed members how f (sym is ∙ failed)

-- a fault that is kept tells what it is
kept_tells : {D T : Type 0} (stance : T → Stance) (before : Option Image) (now : Kept D T) (h : List Entry) (fault : TakeFault) → IsFullAt stance now.weights before now h → kept_fault h ≡ Some fault → TellsFault stance now fault
kept_tells stance before now [] fault full is = absurd (cc)
kept_tells stance before now (Took e ∷ h) fault full is = kept_tells stance before now h fault full is
kept_tells stance before now (Claimed executor task keep_out kept_log kept_out ∷ h) fault full is = kept_tells stance before now h fault full is
kept_tells stance before now (Line line ∷ h) fault full is = kept_tells stance before now h fault full is
kept_tells {D} {T} stance before now (Failed noted event ∷ h) fault full is = subst (TellsFault stance now) (same_kept noted fault is) (tells noted event full)
  where
    tells : (f : TakeFault) (event : Option Event) → IsFull stance now.weights before now f event → TellsFault stance now f
    tells take.Memory event full = tt
    tells take.Disk event full = tt
    tells (take.Full len add) (Some e) full = (e, before, full)
    tells (take.Full len add) None full = absurd full
    tells take.Stopped event full = absurd full

err_same : (f g : TakeFault) → failed f ≡ failed g → f ≡ g
err_same f g e = cc

-- and so does the fault that ended a life
pub fault_tells : {D T H A : Type 0} (stance : T → Stance) (now : Kept D T) (h : List Entry) (members : List (Member H A)) (how : Result Progress Memory) (fault : TakeFault) → (full : (before : Option Image) × IsFullAt stance now.weights before now h) → ended_as (kept_fault h) how members ≡ failed fault → TellsFault stance now fault
fault_tells {H = H} {A = A} stance now h members how fault full is = by (kept_fault h) refl how is
  where
    by : (f : Option TakeFault) → kept_fault h ≡ f → (r : Result Progress Memory) → ended_as f r members ≡ failed fault → TellsFault stance now fault
    by (Some f) kept r ended = kept_tells stance full.0 now h fault full.1 (kept ∙ ap Some (err_same f fault ended))
    by None kept (Ok come) ended = absurd (never (rest_of come members) ended)
      where
        never : (q : Rest) → rested q ≡ failed fault → ⊥
        never q e = cc
    by None kept (Err memory) ended = subst (TellsFault stance now) (err_same take.Memory fault ended) tt

module _ {D T : Type 0} (disk : DiskView D) (stance : T → Stance) where
  -- the count of faults of the disk, over the opening and the life
  pub disk_counts : {H A : Type 0} (durable opened kept : Kept D T) (made h : List Entry) (capacity : ℕ) (members : List (Member H A)) (how : Result Progress Memory) (ended : Result Rest TakeFault)
      → Facts disk stance durable opened made → kept_fault made ≡ None → ∥ IsSite disk stance opened kept h capacity ∥₁ → ended ≡ ended_as (kept_fault h) how members
      → CountsFault (disk.faults durable.journal.disk) (disk.faults kept.journal.disk) (ended ≡ Err take.Disk)
  disk_counts durable opened kept made h capacity members how ended facts none site is =
      let same : disk.faults opened.journal.disk ≡ disk.faults durable.journal.disk = facts.calm (λ state. let bad : None ≡ Some take.Disk = sym none ∙ state in absurd (cc)) in
      let below : disk.faults opened.journal.disk ≤ disk.faults kept.journal.disk = ∥∥₁_elim site (less_prop (disk.faults opened.journal.disk) (disk.faults kept.journal.disk)) (λ s. s.facts.count) in
      subst (λ (n : ℕ). CountsFault n (disk.faults kept.journal.disk) (ended ≡ Err take.Disk)) same (record {
        never_falls = below;
        calm = λ other. ∥∥₁_elim site (same_prop (disk.faults kept.journal.disk) (disk.faults opened.journal.disk)) (λ s. s.facts.calm (λ state. other (is ∙ disk_ended members how (kept_fault h) state)));
        failed = λ failed. rose_known (disk.faults opened.journal.disk) (disk.faults kept.journal.disk) (∥∥₁_map site (λ s. s.facts.rose (fault_of members how (kept_fault h) (sym is ∙ failed))));
      })

  -- the fault of a life tells what it is
  pub err_tells : {H A : Type 0} (opened kept : Kept D T) (h : List Entry) (capacity : ℕ) (members : List (Member H A)) (how : Result Progress Memory) (ended : Result Rest TakeFault)
      → ∥ IsSite disk stance opened kept h capacity ∥₁ → ended ≡ ended_as (kept_fault h) how members → IfErr ended (λ fault. ∥ TellsFault stance kept fault ∥₁)
  err_tells opened kept h capacity members how (Ok rest) site is = tt
  err_tells opened kept h capacity members how (Err fault) site is = ∥∥₁_map site (λ s. fault_tells stance kept h members how fault s.facts.full (sym is))

  -- and so does that of an opening
  pub opening_tells : (durable now : Kept D T) (made : List Entry) (fault : TakeFault) → OpenRefuses stance durable now made fault → Facts disk stance durable now made → TellsFault stance now fault
  opening_tells durable now made fault (inl refuses) facts = kept_tells stance facts.full.0 now made fault facts.full.1 refuses.1
  opening_tells durable now made fault (inr wants) facts = subst (TellsFault stance now) (sym wants.2) tt

  -- the count over an opening that was refused
  pub opening_counts : (durable now : Kept D T) (made : List Entry) (fault : TakeFault) → OpenRefuses stance durable now made fault → Facts disk stance durable now made → CountsFault (disk.faults durable.journal.disk) (disk.faults now.journal.disk) (fault ≡ take.Disk)
  opening_counts durable now made fault (inl refuses) facts = record {
    never_falls = facts.count;
    calm = λ other. facts.calm (λ state. other (same_kept fault take.Disk (sym refuses.1 ∙ state)));
    failed = λ is. facts.rose (refuses.1 ∙ ap Some is);
  }
  opening_counts durable now made fault (inr wants) facts = record {
    never_falls = facts.count;
    calm = λ other. ap (λ (n : Kept D T). disk.faults n.journal.disk) wants.1;
    failed = λ is. let bad : take.Memory ≡ take.Disk = sym wants.2 ∙ is in absurd (cc);
  }

  -- what is known of a state is known of it from its opening on
  pub known_from : {B : Type 0} (value : B → Kept D T) (start base : B) (opened kept : Kept D T) (h : List Entry) (capacity : ℕ) → base ≡ start → value start ≡ opened
      → ∥ IsSite disk stance (value base) kept h capacity ∥₁ → ∥ IsSite disk stance opened kept h capacity ∥₁
  known_from value start base opened kept h capacity same is known = subst (λ (k : Kept D T). ∥ IsSite disk stance k kept h capacity ∥₁) (ap value same ∙ is) known

module _ {H A : Type 0} (host : HostView H) (source : SourceView A) (looks : ℕ) {B : Type 0} (answers : Answers B Entry Ask Reply) where
  no_ways : (ms : List (Member H A)) → AllZip (Way (DidTurn host source looks) []) ms ms
  no_ways [] = tt
  no_ways (m ∷ ms) = (record { turns = []; chain = refl; did = tt; own = []; made = refl; others = []; part = (refl, refl) }, no_ways ms)

  -- a life in which nothing was done
  no_life : (memory : Memory) (base : B) (members : List (Member H A)) → Life host source looks answers base base members members [] (Err memory)
  unfolding IsDistinct
  no_life memory base members = record {
    base_stays = refl;
    legal = ([], refl);
    rounds = [];
    last = [];
    members = members;
    before = [];
    part = [];
    went_on = (refl, refl);
    ends = (members, (refl, refl), refl, refl, ∣ tt ∣₁);
    turns = tt;
    ways = no_ways members;
    claimed_once = tt;
    launched_once = tt;
    told = tt;
    came = ∣ tt ∣₁;
    answered = ∣ tt ∣₁;
    halted = ∣ tt ∣₁;
    orders = ∣ tt ∣₁;
    waited = λ one. ∣ tt ∣₁;
    explained = tt;
    at_risk = tt;
  }

  -- and its turns
  pub no_turns : (base : B) (members : List (Member H A)) → LifeOf host source looks answers base members members [] []
  unfolding no_life
  no_turns base members = record { how = Err (record {}); life = no_life (record {}) base members; are = refl }

  pub nothing_done : (memory : Memory) (base b : B) (old now : List (Member H A)) (h : List Entry) → b ≡ base → now ≡ old → h ≡ [] → Life host source looks answers base b old now h (Err memory)
  nothing_done memory base b old now h same_base same none =
      subst (λ (x : B). Life host source looks answers base x old now h (Err memory)) (sym same_base)
      (subst (λ (ms : List (Member H A)). Life host source looks answers base base old ms h (Err memory)) (sym same)
      (subst (λ (es : List Entry). Life host source looks answers base base old old es (Err memory)) (sym none) (no_life memory base old)))

  -- the base stays
  pub same_start : (start base : B) (old now : List (Member H A)) (h : List Entry) (how : Result Progress Memory) → Life host source looks answers start base old now h how
      → Life host source looks answers base base old now h how
  same_start start base old now h how life = subst (λ (x : B). Life host source looks answers x base old now h how) (sym life.base_stays) life
