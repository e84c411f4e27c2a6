-- How a command ends that lets a build go on, put together.
use Rattle.std.proofs.Common.{◌≡◌, ◌⊎◌, ◌+◌, ◌<◌, ◌^◌, ◌∙◌, ℕ, ℤ, List, [], ◌∷◌, ◌++◌, length, Option, Some, None, Result, Ok, Err, inl, inr, refl, sym, ap, subst, length-append, arith}
use Rattle.std.specs.Prelude.{Bool, true, false, IfErr, IfOk, IfSome, IsSomeAnd, if◌then◌else◌}
use Rattle.std.proofs.Props.{props}
use Rattle.std.proofs.Math.Logic.{∥∥₁_elim, ∥∥₁_map}
use Rattle.device_faults.specs.Faults.{CountsFault, Rose}
use Rattle.jp_disk.specs.Runs.{AtEachMoment}
use Rattle.task_host.specs.declared.call.Call.{Call}
use Rattle.task_host.specs.declared.order.Stream.{Stream}
use Rattle.journal_core.specs.declared.faults.TakeFault.{TakeFault}
use Rattle.journal_core.specs.declared.faults.TakeFault.TheVariants as take
use Rattle.agent_worker.specs.declared.member.Member.{Member}
use Rattle.model_run.specs.declared.event.Event.{Event}
use Rattle.model_run.specs.State.{Common, Setting}
use Rattle.model_run.specs.declared.taken.Taken.TheVariants.{Accepted, Finished as Over}
use Rattle.model_run.specs.Taking.{answered, answered_first}
use Rattle.model_run.specs.World.{Build, answer_to, standing, world_in}
use Rattle.settle_laws.specs.Stances.{Stance}
use Rattle.build_life.specs.Lower.build_core.Builds.{Parts, StandsFor}
use Rattle.build_life.specs.Lower.build_images.Images.{image_in}
use Rattle.image_form.specs.declared.image.Image.{Image}
use Rattle.build_life.specs.Lower.durable_build.Standing.{Kept}
use Rattle.build_life.specs.declared.resting.Rest.{Rest}
use Rattle.build_life.specs.declared.resting.Rest.TheVariants.{Ended, Waits, AnswersFailed}
use Rattle.build_life.specs.Lower.build_store.Lives.{image_after, IsFull as IsFullOf, IsNext, Lasts, TellsFault}
use Rattle.build_life.specs.Lower.build_store.Saved.{Stores, Survives}
use Rattle.build_life.proofs.Lower.build_store.LifeLemmas.{saved_image}
use Rattle.build_life.specs.Lower.locked_build.declared.ask.Entry.{Entry}
use Rattle.build_life.specs.Lower.locked_build.Histories.{lines}
use Rattle.build_life.specs.Lower.member_turns.Lives.{LifeOf, any_reply}
use Rattle.build_life.specs.Lower.member_turns.Turns.{Turn}
use Rattle.build_life.specs.Ending.{RestsWith}
use Rattle.build_life.specs.Lives.{BreaksBehind, EndsBehind}
use Rattle.build_life.specs.Serving.{AreServed}
use Rattle.build_commands.specs.declared.refusal.Refusal.{Refusal}
use Rattle.build_commands.specs.declared.refusal.Refusal.TheVariants.{DiskFailed, OutOfMemory}
use Rattle.build_commands.specs.Refusals.{SaysTake, refusal_status, refusal_text}
use Rattle.build_commands.specs.Finishing.{ComesNext, Made, Breaks, answers_failed, disk_failed, full, no_memory, Finishes, by_rest, by_break, TellsEnd, TellsRest, TellsText}
use Rattle.agent_worker.specs.Crews.{answers_in, hosts_in, members_of, others_of}
use Rattle.build_commands.specs.Living.{ComesBy, Finished, HeardOf, IsRefused, TakesBy}
use Rattle.build_commands.specs.declared.end_text.EndText.{EndText}
use Rattle.build_commands.specs.declared.end_text.EndText.TheVariants.{Log, Numbers}
use Rattle.build_commands.specs.EndTexts.{Counts, text_in, world_text}
use Rattle.build_commands.specs.Reporting.{IsBroken, Reports}
use Rattle.build_commands.specs.Reporting as report
use Rattle.build_commands.specs.Texts.{full_text, out_of_memory_text}
use Rattle.build_commands.specs.Writing.{Writes, Tells}
use Rattle.build_commands.proofs.RefusalLemmas.{as_said, as_told}
use Rattle.jp_disk.specs.View.{DiskView}
use Rattle.task_host.specs.View.{HostView}
use Rattle.jp_io.specs.View.{SourceView}

-- the event that was not taken, where there is one
some_next : (P Q : Event → Type 0) (o : Option Event) → IsSomeAnd o P → IfSome o Q → (e : Event) × P e × Q e × (o ≡ Some e)
some_next P Q None next all = absurd next
some_next P Q (Some e) next all = (e, next, all, refl)

-- a build that has ended accepts nothing
accepted_going : (setting : Setting) (b : Build) (e : Event) → answer_to setting b e ≡ Accepted → b.ended ≡ false
accepted_going setting b e = one b.ended
  where
    one : (ended : Bool) → (if ended then Over else if b.started then answered (standing setting b) e else answered_first e) ≡ Accepted → ended ≡ false
    one true is = absurd (cc)
    one false is = refl

-- where so many events are counted, the text of the state is that of their number
text_counted : (kind : EndText) (records : ℕ) (events : List Event) (shared : Common) → Counts kind records events → text_in kind records shared ≡ text_in kind (length events) shared
text_counted Log records events shared counts = refl
text_counted (Numbers stages) records events shared counts = ap (λ (n : ℕ). text_in (Numbers stages) n shared) counts

-- The count goes on with the events.
counts_on : (kind : EndText) (first last : ℕ) (before granted taken now : List Event) → Counts kind first before → last ≡ first + (length granted + length taken) → now ≡ (before ++ granted) ++ taken → Counts kind last now
counts_on Log first last before granted taken now counts more is = tt
counts_on (Numbers stages) first last before granted taken now counts more is =
    omega (arith, counts, more, ap length is, length-append (before ++ granted) taken, length-append before granted)

pub counts_then : {A : Type 0} (ended : Result Rest A) (kind : EndText) (first last : ℕ) (before granted taken now : List Event) → Counts kind first before → last ≡ first + (length granted + length taken) → now ≡ (before ++ granted) ++ taken
    → IfOk ended (λ rest. Counts kind last now)
counts_then (Ok rest) kind first last before granted taken now counts more is = counts_on kind first last before granted taken now counts more is
counts_then (Err fault) kind first last before granted taken now counts more is = tt

at_some : (o : Option Event) (e : Event) (P : Event → Type 0) → o ≡ Some e → IfSome o P → P e
at_some o e P is all = subst (λ (x : Option Event). IfSome x P) is all

module _ {D T H A : Type 0} (disk : DiskView D) (stance : T → Stance)
    (host : HostView H) (source : SourceView A) (looks : ℕ)
    (setting : Setting) (entry : Option (List ℕ)) (origin : D) (before : List Event) (old new : List (Member H A)) (turns : List (Turn H A)) (history : List Entry) (kept : Kept D T) (HeardSo : Type 0) where
  abbrev TakesSo : List Event → Type 0
  TakesSo = TakesBy host source looks setting before old new turns history

  abbrev ComesSo : List Event → Event → Type 0
  ComesSo = ComesBy host source looks setting turns

  abbrev IdlesSo : List Event → Type 0
  IdlesSo events = RestsWith Waits setting (world_in setting events) new

  abbrev UnheardSo : List Event → Type 0
  UnheardSo events = RestsWith AnswersFailed setting (world_in setting events) new

  abbrev NextSo : List Event → Event → Type 0
  NextSo = ComesNext ComesSo setting

  abbrev MadeSo : List Event → Option Event → Type 0
  MadeSo = Made disk TakesSo ComesSo IdlesSo UnheardSo HeardSo setting entry origin before kept.journal.disk

  abbrev FailsSo : List Event → TakeFault → Type 0
  FailsSo now f = BreaksBehind disk stance setting entry origin before (IsRefused host source looks turns) now f kept

  -- a life that stands has made its events
  pub made_lasting : (now : List Event) → TakesSo now → Lasts disk stance setting entry origin before now kept → MadeSo now None
  made_lasting now takes lasts = record {
    takes = takes;
    next = tt;
    moments = lasts.moments;
    images = λ known image there. inl (saved_image disk stance setting now kept image lasts.goes.same (lasts.saves known) there);
  }

  made_broken : (now : List Event) (f : TakeFault) → TakesSo now → (b : FailsSo now f) (r : Option Event) → b.fails.risked ≡ r → IfSome r (NextSo now) → MadeSo now r
  made_broken now f takes b r is next = record {
    takes = takes;
    next = next;
    moments = λ known. subst (λ (o : Option Event). AtEachMoment disk origin kept.journal.disk (Survives setting before now o)) is (b.fails.moments known);
    images = λ known. subst (λ (o : Option Event). (image : List ℕ) → disk.may_leave kept.journal.disk image → Stores setting now image ⊎ IsSomeAnd o (λ e. Stores setting (now ++ e ∷ []) image)) is (b.fails.images known);
  }

  module _ (kind : EndText) (a b x y : ℕ) (wrote now_written : Option (List ℕ)) (c d : ℕ) where
    abbrev EndsSo : ℕ → Type 0
    EndsSo status = Finishes disk TakesSo ComesSo IdlesSo UnheardSo HeardSo setting entry origin before kept.journal.disk kind a b x y wrote now_written c d status

    abbrev BreaksSo : ℕ → List ℕ → Type 0
    BreaksSo = Breaks disk TakesSo ComesSo IdlesSo UnheardSo HeardSo setting entry origin before kept.journal.disk a b x y

    broke : (r : Refusal) (status : ℕ) → status ≡ refusal_status r → BreaksSo (refusal_status r) (refusal_text r) → Tells wrote now_written c d (refusal_text r) → EndsSo status
    broke r status is breaks told = subst EndsSo (sym is) (by_break breaks told)

    pub finishes_broken : (now : List Event) (f : TakeFault) (r : Refusal) (status : ℕ) → TakesSo now → FailsSo now f → SaysTake f r → (f ≡ take.Disk → Rose a b) → status ≡ refusal_status r → Tells wrote now_written c d (refusal_text r) → EndsSo status
    finishes_broken now take.Memory r status takes k says rose is told = broke r status is (as_told BreaksSo r OutOfMemory says (no_memory (made_broken now take.Memory takes k None k.fails.may_risk tt))) told
    finishes_broken now take.Disk r status takes k says rose is told =
        let next = some_next (IsNext setting now) (ComesSo now) k.fails.refused k.fails.is_next k.caused in
        let made = made_broken now take.Disk takes k (Some next.0) (k.fails.may_risk ∙ next.3) (record { is_next = next.1; caused = next.2 }) in
        broke r status is (as_told BreaksSo r DiskFailed says (disk_failed made (accepted_going setting (world_in setting now) next.0 next.1.accepted) (rose refl))) told
    finishes_broken now (take.Full at add) r status takes k says rose is told =
        let next = some_next (IsNext setting now) (ComesSo now) k.fails.refused k.fails.is_next k.caused in
        let sizes = at_some k.fails.refused next.0 (λ e. IsFullOf kept.weights (Some (image_after setting now)) e (image_after setting (now ++ e ∷ [])) kept.journal.len (take.Full at add)) next.3 k.fails.full in
        let made = made_broken now (take.Full at add) takes k None k.fails.may_risk tt in
        broke r status is (as_said BreaksSo r 14 (full_text at add) says (no_memory made) (full at add made (accepted_going setting (world_in setting now) next.0 next.1.accepted) (record {
          event = next.0;
          next = record { is_next = next.1; caused = next.2 };
          too_long = sizes.1;
          weights = kept.weights;
          adds = sizes.2;
          stored = k.fails.sized;
        }))) told
    finishes_broken now take.Stopped r status takes k says rose is told =
        let next = some_next (IsNext setting now) (ComesSo now) k.fails.refused k.fails.is_next k.caused in
        absurd (at_some k.fails.refused next.0 (λ e. IsFullOf kept.weights (Some (image_after setting now)) e (image_after setting (now ++ e ∷ [])) kept.journal.len take.Stopped) next.3 k.fails.full)

    finishes_rested : (now : List Event) (status : ℕ) → HeardSo → MadeSo now None → ((world_in setting now).ended ≡ true) ⊎ IdlesSo now → StandsFor stance kept.build (world_in setting now) → Counts kind kept.records now → TellsRest kind kept.records (StandsFor stance kept.build) (image_in stance kept.build) wrote now_written c d status → EndsSo status
    finishes_rested now status heard made rests stands counts (inl told) =
        let w = world_in setting now in
        let same = told.is w stands in
        by_rest (record { made = made; rests = rests; heard = heard })
        (subst (λ (n : ℕ). Writes wrote now_written c d (world_text kind setting now) n status) same.1
        (subst (λ (l : List ℕ). Writes wrote now_written c d l told.ended status) (same.0 ∙ text_counted kind kept.records now w.shared counts) told.wrote))
    finishes_rested now status heard made rests stands counts (inr wanting) = subst EndsSo (sym wanting.0) (by_break (no_memory made) wanting.1)

    pub finishes_ended : (now : List Event) (ended : Result Rest TakeFault) (status : ℕ) → IfOk ended (λ rest. HeardSo) → TakesSo now → IfOk ended (λ rest. Counts kind kept.records now) → EndsBehind disk stance setting entry origin before (IsRefused host source looks turns) now new kept ended
        → TellsEnd kind kept.records (StandsFor stance kept.build) (image_in stance kept.build) wrote now_written c d ended status → (ended ≡ Ok AnswersFailed → Rose x y) → (ended ≡ Err take.Disk → Rose a b) → EndsSo status
    finishes_ended now (Ok Ended) status heard takes counts r told answers state = finishes_rested now status heard (made_lasting now takes r.lasts) (inl r.rests) r.lasts.goes.stands counts told
    finishes_ended now (Ok Waits) status heard takes counts r told answers state = finishes_rested now status heard (made_lasting now takes r.lasts) (inr r.rests) r.lasts.goes.stands counts told
    finishes_ended now (Ok AnswersFailed) status heard takes counts r told answers state = subst EndsSo (sym told.0) (by_break (answers_failed (made_lasting now takes r.lasts) r.rests heard (answers refl)) told.1)
    finishes_ended now (Err f) status heard takes counts k told answers state = finishes_broken now f told.0 status takes k told.1 (λ e. state (ap Err e)) told.2 told.3

module _ {D T H A : Type 0} (disk : DiskView D) (stance : T → Stance) (host : HostView H) (source : SourceView A) (looks : ℕ)
    (kind : EndText) (setting : Setting) (entry : Option (List ℕ)) (origin : D) (before : List Event) (hosts rest : List H) (answers unread : A) (wrote now_written : Option (List ℕ)) (c d status before_faults : ℕ) where
  abbrev FinishedSo : List Entry → D → Type 0
  FinishedSo history state = Finished disk host source looks kind setting entry origin before hosts rest answers unread history state before_faults (disk.faults state) wrote now_written c d status

  abbrev BegunWith : List (Member H A)
  BegunWith = members_of setting.site.executors hosts answers

  abbrev HeardHere : List Entry → Type 0
  HeardHere history = ∥ HeardOf source answers unread (lines history) ∥₁

  abbrev LifeSo : List (Member H A) → List (Turn H A) → List Entry → Type 0
  LifeSo new turns history = LifeOf host source looks any_reply tt BegunWith new turns history

  abbrev ServedSo : List (Member H A) → Type 0
  ServedSo new = AreServed host source BegunWith new

  abbrev TookSo : List (Member H A) → List (Turn H A) → List Entry → List Event → Type 0
  TookSo new turns history now = TakesBy host source looks setting before BegunWith new turns history now

  -- a life of members that ended so
  pub finished_by : (new : List (Member H A)) (turns : List (Turn H A)) (history all : List Entry) (kept : Kept D T) (state : D) → state ≡ kept.journal.disk → all ≡ history
      → LifeSo new turns history → ServedSo new → rest ≡ hosts_in new ++ others_of setting.site.executors hosts → answers_in new ≡ unread ∷ []
      → (now : List Event) (ended : Result Rest TakeFault) → IfOk ended (λ rest. HeardHere history) → TookSo new turns history now → IfOk ended (λ rest. Counts kind kept.records now)
      → EndsBehind disk stance setting entry origin before (IsRefused host source looks turns) now new kept ended
      → TellsEnd kind kept.records (StandsFor stance kept.build) (image_in stance kept.build) wrote now_written c d ended status → (ended ≡ Ok AnswersFailed → Rose (source.faults answers) (source.faults unread)) → (ended ≡ Err take.Disk → Rose before_faults (disk.faults kept.journal.disk)) → FinishedSo all state
  finished_by new turns history all kept state same here life served hosts_are answers_are now ended heard takes counts ends told failed rose = subst (λ (es : List Entry). FinishedSo es state) (sym here) (subst (FinishedSo history) (sym same) (record {
    lived = record { new = new; turns = turns; life = life; served = served; hosts_are = hosts_are; answers_are = answers_are };
    finishes = finishes_ended disk stance host source looks setting entry origin before BegunWith new turns history kept (HeardHere history) kind before_faults (disk.faults kept.journal.disk) (source.faults answers) (source.faults unread)
        wrote now_written c d now ended status heard takes counts ends told failed rose;
  }))

  -- there was no memory for the members, and nothing was done
  pub finished_wanting : (all : List Entry) (kept : Kept D T) (state : D) → state ≡ kept.journal.disk → all ≡ [] → LifeSo BegunWith [] [] → ServedSo BegunWith → rest ≡ hosts_in BegunWith ++ others_of setting.site.executors hosts → answers_in BegunWith ≡ unread ∷ []
      → TookSo BegunWith [] [] before → Lasts disk stance setting entry origin before before kept → status ≡ 8 → Tells wrote now_written c d out_of_memory_text → FinishedSo all state
  finished_wanting all kept state same none life served hosts_are answers_are takes lasts eight told = subst (λ (es : List Entry). FinishedSo es state) (sym none) (subst (FinishedSo []) (sym same) (record {
    lived = record { new = BegunWith; turns = []; life = life; served = served; hosts_are = hosts_are; answers_are = answers_are };
    finishes = subst (λ (n : ℕ). EndsSo disk stance host source looks setting entry origin before BegunWith BegunWith [] [] kept (HeardHere []) kind before_faults (disk.faults kept.journal.disk)
        (source.faults answers) (source.faults unread) wrote now_written c d n) (sym eight)
        (by_break (no_memory (made_lasting disk stance host source looks setting entry origin before BegunWith BegunWith [] [] kept (HeardHere []) before takes lasts)) told);
  }))

less_prop : (m n : ℕ) → IsProp (m < n)
less_prop m n = hlevel props

-- the two numbers of a full journal are together too many, whatever the store has
pub told_long : {D T : Type 0} (stance : T → Stance) (kept : Kept D T) (f : TakeFault) (at add : ℕ) → f ≡ take.Full at add → TellsFault stance kept f → 2 ^ 30 < at + add
told_long stance kept f at add is told = (subst (λ (x : TakeFault). TellsFault stance kept x) is told).2.1

pub ended_long : {D T : Type 0} (stance : T → Stance) (kept : Kept D T) (ended : Result Rest TakeFault) → IfErr ended (λ f. ∥ TellsFault stance kept f ∥₁) → (at add : ℕ) → ended ≡ Err (take.Full at add) → 2 ^ 30 < at + add
ended_long stance kept ended told at add is =
    let here : ∥ TellsFault stance kept (take.Full at add) ∥₁ = subst (λ (r : Result Rest TakeFault). IfErr r (λ f. ∥ TellsFault stance kept f ∥₁)) is told in
    ∥∥₁_elim here (less_prop (2 ^ 30) (at + add)) (told_long stance kept (take.Full at add) at add refl)

module _ (a b x y : ℕ) (old new : Option (List ℕ)) (c d : ℕ) where
  pub reports_broken : (f : TakeFault) (r : Refusal) → SaysTake f r → CountsFault a b (f ≡ take.Disk) → ((at add : ℕ) → f ≡ take.Full at add → 2 ^ 30 < at + add) → Tells old new c d (refusal_text r) → Reports a b x y old new c d (refusal_status r)
  reports_broken take.Memory r says disk long = as_told (λ n t. Tells old new c d t → Reports a b x y old new c d n) r OutOfMemory says (report.no_memory (disk.calm (λ e. absurd (cc))))
  reports_broken take.Stopped r says disk long = as_told (λ n t. Tells old new c d t → Reports a b x y old new c d n) r OutOfMemory says (report.no_memory (disk.calm (λ e. absurd (cc))))
  reports_broken take.Disk r says disk long = as_told (λ n t. Tells old new c d t → Reports a b x y old new c d n) r DiskFailed says (report.disk_failed (disk.failed refl))
  reports_broken (take.Full at add) r says disk long =
      let calm = disk.calm (λ e. absurd (cc)) in
      as_said (λ n t. Tells old new c d t → Reports a b x y old new c d n) r 14 (full_text at add) says (report.no_memory calm) (report.full at add (long at add refl) calm)

  rested_reports : (kind : EndText) (records : ℕ) (Stands : Build → Type 0) (here : Image) (status : ℕ) → TellsRest kind records Stands here old new c d status → b ≡ a → Reports a b x y old new c d status
  rested_reports kind records Stands here status (inl told) calm = report.rested calm told.known told.wrote
  rested_reports kind records Stands here status (inr wanting) calm = subst (Reports a b x y old new c d) (sym wanting.0) (report.no_memory calm wanting.1)

  pub reports : (kind : EndText) (records : ℕ) (Stands : Build → Type 0) (here : Image) (ended : Result Rest TakeFault) (status : ℕ) → TellsEnd kind records Stands here old new c d ended status → (ended ≡ Ok AnswersFailed → Rose x y) → CountsFault a b (ended ≡ Err take.Disk)
      → ((at add : ℕ) → ended ≡ Err (take.Full at add) → 2 ^ 30 < at + add) → Reports a b x y old new c d status
  reports kind records Stands here (Ok AnswersFailed) status wrote answers disk long = subst (Reports a b x y old new c d) (sym wrote.0) (report.answers_failed (disk.calm (λ e. absurd (cc))) (answers refl) wrote.1)
  reports kind records Stands here (Ok Ended) status wrote answers disk long = rested_reports kind records Stands here status wrote (disk.calm (λ e. absurd (cc)))
  reports kind records Stands here (Ok Waits) status wrote answers disk long = rested_reports kind records Stands here status wrote (disk.calm (λ e. absurd (cc)))
  reports kind records Stands here (Err f) status wrote answers disk long =
      let counts : CountsFault a b (f ≡ take.Disk) = record { never_falls = disk.never_falls; calm = λ other. disk.calm (λ e. other (cc)); failed = λ e. disk.failed (ap Err e) } in
      subst (Reports a b x y old new c d) (sym wrote.2) (reports_broken f wrote.0 wrote.1 counts (λ at add is. long at add (ap Err is)) wrote.3)

-- the status of a fault of a take
pub broken_status : (f : TakeFault) (r : Refusal) → SaysTake f r → IsBroken (refusal_status r)
broken_status take.Memory r says = as_told (λ n t. IsBroken n) r OutOfMemory says (inr (inr (inr refl)))
broken_status take.Stopped r says = as_told (λ n t. IsBroken n) r OutOfMemory says (inr (inr (inr refl)))
broken_status take.Disk r says = as_told (λ n t. IsBroken n) r DiskFailed says (inr (inl refl))
broken_status (take.Full at add) r says = as_said (λ n t. IsBroken n) r 14 (full_text at add) says (inr (inr (inr refl))) (inr (inr (inl refl)))
