-- A life with hosts, from its opening to its end.
use Rattle.std.proofs.Common.{◌≡◌, ◌⊎◌, ◌∙◌, ◌≤◌, inl, inr, ℕ, zero, suc, ℤ, Bool, true, false, List, [], ◌∷◌, ◌++◌, Option, Some, None, Result, Ok, Err, refl, sym, ap, subst, append-nil, arith}
use Rattle.std.specs.Prelude.{IfOk, IfSome, if◌then◌else◌}
use Rattle.std.specs.List.{AllByRecursion as AllAre}
use Rattle.std.proofs.lemmas.List.{append_cancel_left}
use Rattle.std.proofs.Math.Logic.{∥∥₁_elim, ∥∥₁_map, ∥∥₁_prop}
use Rattle.device_faults.specs.Faults.{CountsFault, Rose}
use Rattle.program_lock.specs.declared.program.Memory.{Memory as NoMemory}
use Rattle.task_host.specs.declared.call.Call.{Call}
use Rattle.task_host.specs.declared.order.Stream.{Stream}
use Rattle.journal_core.specs.declared.faults.TakeFault.{TakeFault}
use Rattle.journal_core.specs.declared.faults.TakeFault.TheVariants.{Memory, Disk, Full, Stopped}
use Rattle.agent_worker.specs.declared.member.Member.{Member}
use Rattle.agent_worker.specs.Gate.{Told, told_at}
use Rattle.build_store.specs.Lower.build_core.Builds.{Parts}
use Rattle.build_store.specs.Lower.durable_build.Standing.{Kept}
use Rattle.build_store.proofs.Lower.durable_build.OpenLemmas.{begun_all}
use Rattle.launch_laws.specs.Fitting as fitting
use Rattle.launch_laws.specs.Fitting.{ExecutorHost}
use Rattle.launch_laws.proofs.LifeLaws.{all_fit_more}
use Rattle.model_run.specs.declared.taken.Taken.TheVariants.{Accepted}
use Rattle.launch_laws.specs.ManyTurns.{AllTaken, InLife}
use Rattle.model_run.specs.declared.event.Event.{Event}
use Rattle.model_run.specs.declared.event.Event.TheVariants.{Start, Granted, Output, Exited, Lost, Decided}
use Rattle.model_run.specs.Fitting.{Some_of}
use Rattle.model_run.specs.State.{Setting}
use Rattle.model_run.specs.World as W
use Rattle.build_life.specs.declared.resting.Rest.{Rest}
use Rattle.settle_laws.specs.Stances.{Stance}
use Rattle.build_store.specs.Lives.{IsNext as ComesNext, Lasts, Fails}
use Rattle.member_turns.specs.Lower.locked_build.declared.ask.Ask.TheVariants.{Look}
use Rattle.member_turns.specs.Lower.locked_build.declared.ask.Entry.{Entry}
use Rattle.member_turns.specs.Lower.locked_build.declared.ask.Entry.TheVariants.{Failed}
use Rattle.member_turns.specs.Lower.locked_build.declared.ask.Progress.{Progress}
use Rattle.member_turns.specs.Lower.locked_build.declared.ask.Reply.TheVariants as reply
use Rattle.member_turns.specs.Lower.locked_build.Facts.{Facts, IsSite}
use Rattle.member_turns.specs.Lower.locked_build.Grants.{Grants, OpenRefuses, granted, none_due, not_found, refused}
use Rattle.member_turns.specs.Lower.locked_build.Histories.{tooks, kept_fault, lines}
use Rattle.member_turns.specs.Lower.locked_build.Says.{Answers as AnswersOf, SaysAt, Says}
use Rattle.member_turns.proofs.Lower.locked_build.HistoryLaws.{kept_fault-append, no_fault, tooks-append}
use Rattle.member_turns.specs.Tales.{is_grant, told_of}
use Rattle.member_turns.proofs.TaleLemmas.{grants_silent, told-append}
use Rattle.member_turns.specs.Coming.{Came, EachIs}
use Rattle.member_turns.specs.Orders.{AllAnswered}
use Rattle.member_turns.specs.Waiting.{Waited, operators}
use Rattle.build_life.specs.Replies.{replies}
use Rattle.build_life.specs.Telling.{ClaimedInTime, HeardInTime, IsOrderOf, orders_in}
use Rattle.build_life.proofs.ReplyLemmas.{claimed_in_time, replies_so}
use Rattle.member_turns.proofs.OverLemmas.{life_over}
use Rattle.build_life.proofs.CallLemmas.{heard_in_time, turns_ordered}
use Rattle.member_turns.specs.Lives.{Life, LifeOf, EndsWith}
use Rattle.member_turns.specs.Rounds.{turns_of}
use Rattle.member_turns.specs.Turns.{Turn}
use Rattle.build_life.specs.Ending.{RestsWith, ended_as, rest_of}
use Rattle.build_life.specs.Going.{Comes, by_grant, by_report, by_line, GoesBy, begins}
use Rattle.build_life.specs.Lives.{BreaksBehind, EndsBehind, Ends, IsReported, IsRefused, OpeningBreaks}
use Rattle.build_life.specs.Serving.{AreHonest, AllFit, AreServed, hosts_of}
use Rattle.build_life.proofs.WalkLemmas.{all_behind, ShowsAll, shows_shown, grants_go, grants_stop, legal_at, At, StoppedBy, IsFaultOf, IsGrantOr, of_tree, small}
use Rattle.build_life.proofs.StoreLemmas.{lasts_on, fails_on, wants, wants_on}
use Rattle.build_life.proofs.EndLemmas.{rests_so, goes_then, goes_taken}
use Rattle.build_life.proofs.FitLemmas.{told_taken, life_serves, once_fit, came_all, fit_life}
use Rattle.model_syntax.specs.TreeNodes.{tree_node}
use Rattle.jp_disk.specs.View.{DiskLaws, DiskView}
use Rattle.task_host.specs.View.{HostView}
use Rattle.jp_io.specs.View.{SourceView}

-- a promise where there are few is known where what it promises is
few_known : (n : ℕ) (X : Type 0) → (n ≤ 1 → ∥ X ∥₁) → ∥ (n ≤ 1 → X) ∥₁
few_known zero X known = ∥∥₁_map (known (omega arith)) (λ x few. x)
few_known (suc zero) X known = ∥∥₁_map (known (omega arith)) (λ x few. x)
few_known (suc (suc n)) X known = ∣ (λ few. absurd (omega (arith, few))) ∣₁

some_none : (e : Event) → Some e ≡ None → ⊥
some_none e is = cc

same_fault : (f g : TakeFault) → Some f ≡ Some g → f ≡ g
same_fault f g is = cc

tooks_front : (front : List Entry) (f : TakeFault) (event : Option Event) → tooks (front ++ Failed f event ∷ []) ≡ tooks front
tooks_front front f event = tooks-append front (Failed f event ∷ []) ∙ append-nil (tooks front)

-- a fault that is noted last is the one that is kept
pub kept_last : (front : List Entry) (fault : TakeFault) (event : Option Event) → kept_fault front ≡ None → kept_fault (front ++ Failed fault event ∷ []) ≡ Some fault
kept_last front fault event none = kept_fault-append front (Failed fault event ∷ []) none

-- why the event came that was not taken, where it is explained
module _ (setting : Setting) (Refused : Event → Type 0) (events : List Event) where
  granted_comes : (e : Event) → is_grant e ≡ true → ComesNext setting events e → Comes setting Refused events e []
  granted_comes (Granted request executor) is next = by_grant request executor next.due
  granted_comes (Start script agents) is next = absurd (cc)
  granted_comes (Output task stream place bytes) is next = absurd (cc)
  granted_comes (Exited task code) is next = absurd (cc)
  granted_comes (Lost task why) is next = absurd (cc)
  granted_comes (Decided request proceed name) is next = absurd (cc)

  refused_comes : (e : Event) (heard : List (List ℕ)) → ComesNext setting events e → Comes setting (λ x. Unit {0}) events e heard → IsGrantOr Refused e → IsGrantOr Refused e × ((line : List (List ℕ)) × Comes setting Refused events e line)
  refused_comes e heard next (by_grant request executor is) why = (why, ([], by_grant request executor is))
  refused_comes e heard next (by_report x none other r) (inl grant) = (inl grant, ([], granted_comes x grant next))
  refused_comes e heard next (by_report x none other r) (inr told) = (inr told, ([], by_report x none other told))
  refused_comes e heard next (by_line line x none d) why = (why, (line ∷ [], by_line line x none d))

  caused_by : (fault : TakeFault) (event : Option Event) → IsFaultOf setting events fault event → ((e : Event) → event ≡ Some e → IsGrantOr Refused e) → IfSome event (λ e. IsGrantOr Refused e × ((line : List (List ℕ)) × Comes setting Refused events e line))
  caused_by fault None of why = tt
  caused_by Memory (Some e) of why = absurd (some_none e of)
  caused_by Disk (Some e) of why = refused_comes e of.1.0 of.0 of.1.1 (why e refl)
  caused_by (Full len add) (Some e) of why = refused_comes e of.1.0 of.0 of.1.1 (why e refl)
  caused_by Stopped (Some e) of why = absurd of

-- the event of the fault that was noted last is told of, where it is no grant
told_last : (P : Told → Type 0) (h front : List Entry) (fault : TakeFault) (e : Event) → h ≡ front ++ Failed fault (Some e) ∷ [] → AllAre P (told_of h) → (is_grant e ≡ true) ⊎ P (told_at e false)
told_last P h front fault e is all = by (is_grant e) refl
    (all_behind P (told_of front) (told_of (Failed fault (Some e) ∷ [])) (subst (AllAre P) (ap told_of is ∙ told-append front (Failed fault (Some e) ∷ [])) all))
  where
    by : (grant : Bool) → is_grant e ≡ grant → AllAre P ((if is_grant e then [] else told_at e false ∷ []) ++ []) → (is_grant e ≡ true) ⊎ P (told_at e false)
    by true is one = inl is
    by false is one = inr ((subst (λ (g : Bool). AllAre P ((if g then [] else told_at e false ∷ []) ++ [])) is one).0)

same_last : (h front : List Entry) (fault : TakeFault) (event : Option Event) (e : Event) → event ≡ Some e → h ≡ front ++ Failed fault event ∷ [] → h ≡ front ++ Failed fault (Some e) ∷ []
same_last h front fault event e some is = is ∙ ap (λ (o : Option Event). front ++ Failed fault o ∷ []) some

-- the events of grants are grants
grants_are : {T : Type 0} {stance : T → Stance} {b : Parts T} {es : List Entry} → Grants stance b es → AllAre (λ e. is_grant e ≡ true) (tooks es)
grants_are (none_due settled) = tt
grants_are (granted request executor is next more) = (refl, grants_are more)
grants_are (refused request executor Memory is may) = tt
grants_are (refused request executor Disk is may) = tt
grants_are (refused request executor (Full len add) is may) = tt
grants_are (refused request executor Stopped is may) = tt
grants_are not_found = tt

-- of grants, only a grant is refused
grants_refused : {T : Type 0} {stance : T → Stance} {b : Parts T} {es : List Entry} → Grants stance b es → AllAre (λ (t : Told). ⊥) (told_of es)
grants_refused g = subst (AllAre (λ (t : Told). ⊥)) (sym (grants_silent g).told) tt

-- a life that broke off so, with why the event came that was not taken
breaks_with : {D T : Type 0} (disk : DiskView D) (stance : T → Stance) (setting : Setting) (entry : Option (List ℕ)) (origin : D) (before : List Event)
    (Refused : Event → Type 0) (now : List Event) (fault : TakeFault) (kept : Kept D T) (event : Option Event) → (f : Fails disk stance setting entry origin before now fault kept) × (f.refused ≡ event)
    → IfSome event (λ e. IsGrantOr Refused e × ((heard : List (List ℕ)) × Comes setting Refused now e heard)) → BreaksBehind disk stance setting entry origin before Refused now fault kept
breaks_with disk stance setting entry origin before Refused now fault kept event f caused =
    record { fails = f.0; caused = subst (λ (r : Option Event). IfSome r (λ e. IsGrantOr Refused e × ((heard : List (List ℕ)) × Comes setting Refused now e heard))) (sym f.1) caused }

-- the counts of faults of a disk, by what was kept
pub counts_kept : (first last : ℕ) (kept : Option TakeFault) (Fails : Type 0) → first ≤ last → (kept ≡ Some Disk → Rose first last) → (¬ (kept ≡ Some Disk) → last ≡ first) → (Fails → kept ≡ Some Disk) → (kept ≡ Some Disk → Fails) → CountsFault first last Fails
counts_kept first last kept Fails below rose calm so is = record { never_falls = below; calm = λ other. calm (λ disk. other (is disk)); failed = λ failed. rose (so failed) }

module _ {D T : Type 0} (disk : DiskView D) (stance : T → Stance)
    (laws : DiskLaws disk) where
  module _ (setting : Setting) (entry : Option (List ℕ)) (origin : D) (before events : List Event) (durable : Kept D T) (lasts : Lasts disk stance setting entry origin before events durable) where
    abbrev shown_first : ShowsAll stance setting lasts.goes.proper durable.build events
    shown_first = record { same = lasts.goes.same; begun = lasts.goes.begun; stands = lasts.goes.stands }

    -- hosts that fit the events fit them behind others that came, and with one more that is accepted
    came_fit : (R : Event → Type 0) (now : List Event) (lines : List (List ℕ)) → GoesBy setting R events now lines → (hosts : List ExecutorHost) → fitting.AllFit setting events hosts → fitting.AllFit setting now hosts
    came_fit R now lines goes hosts fit =
        let taken = goes_taken setting R events now lines lasts.goes.begun goes in
        subst (λ (es : List Event). fitting.AllFit setting es hosts) (sym taken.1)
        (all_fit_more setting (tree_node lasts.goes.proper.tree) (of_tree stance setting lasts.goes.proper) (small stance setting lasts.goes.proper) events taken.0 hosts lasts.goes.begun taken.2 fit)

    next_fit : (R : Event → Type 0) (now : List Event) (lines : List (List ℕ)) → GoesBy setting R events now lines → (hosts : List ExecutorHost) → fitting.AllFit setting now hosts → (e : Event) → W.answer_to setting (W.world_in setting now) e ≡ Accepted
        → fitting.AllFit setting (now ++ e ∷ []) hosts
    next_fit R now lines goes hosts fit e accepted =
        let taken = goes_taken setting R events now lines lasts.goes.begun goes in
        let started : (W.world_in setting now).started ≡ true = subst (λ (es : List Event). (W.world_in setting es).started ≡ true) (sym taken.1) (begun_all setting events taken.0 lasts.goes.begun) in
        all_fit_more setting (tree_node lasts.goes.proper.tree) (of_tree stance setting lasts.goes.proper) (small stance setting lasts.goes.proper) now (e ∷ []) hosts started (record { begun = started; accepted = accepted }, tt) fit

    -- an opening that broke off behind these grants
    breaks_opening : (granted : List Event) (fault : TakeFault) (state : D) (k : Kept D T) → AllAre (λ e. is_grant e ≡ true) granted → GoesBy setting (λ e. ⊥) events (events ++ granted) [] → state ≡ k.journal.disk
        → BreaksBehind disk stance setting entry origin before (λ e. ⊥) (events ++ granted) fault k → OpeningBreaks disk stance setting entry origin before events fault state
    breaks_opening made fault state k are goes same breaks = record {
      granted = made;
      are_grants = are;
      goes = goes;
      kept = k;
      same = same;
      breaks = breaks;
      fits = came_fit (λ e. ⊥) (events ++ made) [] goes;
      fits_next = λ hosts fit e accepted. next_fit (λ e. ⊥) (events ++ made) [] goes hosts (came_fit (λ e. ⊥) (events ++ made) [] goes hosts fit) e accepted;
    }

    -- Memory was wanted before any grant that a stop had left out.
    pub opening_wants : (state : D) → state ≡ durable.journal.disk → OpeningBreaks disk stance setting entry origin before events Memory state
    opening_wants state same =
        let none : events ≡ events ++ [] = sym (append-nil events) in
        breaks_opening [] Memory state durable tt (subst (λ (es : List Event). GoesBy setting (λ e. ⊥) events es []) none begins) same
        (subst (λ (es : List Event). BreaksBehind disk stance setting entry origin before (λ e. ⊥) es Memory durable) none
        (breaks_with disk stance setting entry origin before (λ e. ⊥) events Memory durable None (wants disk stance setting entry origin before events durable lasts) tt))

    module _ (made : List Entry) (grants : Grants stance durable.build made) where
      -- the events behind the grants that a stop had left out
      abbrev begun : List Event
      begun = events ++ tooks made

      goes_made : GoesBy setting (λ e. ⊥) events begun []
      goes_made = subst (GoesBy setting (λ e. ⊥) events begun) (grants_silent grants).heard (grants_go stance setting lasts.goes.proper (λ e. ⊥) events grants events [] shown_first begins)

      -- The opening of a life that was refused.
      pub opening_breaks : (k : Kept D T) (fault : TakeFault) (state : D) → Facts disk stance durable k made → kept_fault made ≡ Some fault → state ≡ k.journal.disk
          → OpeningBreaks disk stance setting entry origin before events fault state
      opening_breaks k fault state facts kept same = by (grants_stop stance setting lasts.goes.proper (λ e. ⊥) events grants [] refl (subst (ShowsAll stance setting lasts.goes.proper durable.build) (sym (append-nil events)) shown_first))
        where
          by : (kept_fault made ≡ None) ⊎ StoppedBy stance setting lasts.goes.proper (λ e. ⊥) events made → OpeningBreaks disk stance setting entry origin before events fault state
          by (inl none) = absurd (no_fault fault (sym kept ∙ none))
          by (inr s) =
              let here : s.fault ≡ fault = same_fault s.fault fault (sym (kept_last s.front s.fault s.event s.none) ∙ ap kept_fault (sym s.is) ∙ kept) in
              let now_is : events ++ tooks s.front ≡ begun = ap (λ (es : List Event). events ++ es) (sym (tooks_front s.front s.fault s.event) ∙ ap tooks (sym s.is)) in
              let of : IsFaultOf setting begun s.fault s.event = subst (λ (es : List Event). IsFaultOf setting es s.fault s.event) now_is s.of in
              let fails = fails_on disk stance setting entry origin before events durable k made lasts facts s.front s.fault s.event s.is s.none (laws.told_image k.journal.disk) of in
              subst (λ (f : TakeFault). OpeningBreaks disk stance setting entry origin before events f state) here (breaks_opening (tooks made) s.fault state k (grants_are grants) goes_made same
              (breaks_with disk stance setting entry origin before (λ e. ⊥) begun s.fault k s.event fails (caused_by setting (λ e. ⊥) begun s.fault s.event of (λ e some. told_last (λ (t : Told). ⊥) made s.front s.fault e (same_last made s.front s.fault s.event e some s.is) (grants_refused grants)))))

      module _ (opened : Kept D T) (facts : Facts disk stance durable opened made) (none : kept_fault made ≡ None) where
        lasts_opened : Lasts disk stance setting entry origin before begun opened
        lasts_opened = lasts_on disk stance setting entry origin before events durable opened made lasts facts none

        shown_opened : ShowsAll stance setting lasts.goes.proper opened.build begun
        shown_opened = shows_shown stance setting lasts.goes.proper durable.build opened.build events (tooks made) shown_first (facts.shown none)

        module _ {H A : Type 0} (host : HostView H) (source : SourceView A) (looks : ℕ) {B : Type 0} (opening : B → Parts T) (start base : B) (old new : List (Member H A)) (h : List Entry) (how : Result Progress NoMemory)
            (life : Life host source looks (λ b history x y more. Says stance (opening b) history x y more) start base old new h how)
            (is_base : opening base ≡ opened.build) (kept : Kept D T) (capacity : ℕ) where
          abbrev turns : List (Turn H A)
          turns = turns_of life.rounds ++ life.last

          abbrev Reported : Event → Type 0
          Reported = IsReported disk stance host source looks turns

          abbrev Refused : Event → Type 0
          Refused = IsRefused disk stance host source looks turns

          abbrev now : List Event
          now = begun ++ tooks h

          told : ∥ At stance setting lasts.goes.proper Reported begun h ∥₁
          told = ∥∥₁_elim life.came ∥∥₁_prop (λ came. legal_at stance setting lasts.goes.proper Reported begun opened.build shown_opened opening base is_base h life.legal life.explained
              (subst (λ (b : Parts T). EachIs (Came (λ history x y more. Says stance b history x y more)) [] h) is_base came))

          -- the life that the build of the events replied to, and when tasks were claimed in it
          led : LifeOf host source looks (replies setting) begun old new turns h
          led = life_over (λ b history x y more. Says stance (opening b) history x y more) (replies setting) base begun
              (λ history x y more says. replies_so stance setting lasts.goes.proper opened.build begun shown_opened history x y more (subst (λ (b : Parts T). Says stance b history x y more) is_base says))
              host source looks start old new h how life

          claimed : ∥ EachIs (ClaimedInTime setting begun) [] h ∥₁
          claimed = claimed_in_time setting begun h led.life.legal

          module _ (at : At stance setting lasts.goes.proper Reported begun h) (site : Facts disk stance opened kept h) where
            goes_all : GoesBy setting Reported events now (lines h)
            goes_all = goes_then setting (λ e. ⊥) Reported events begun now [] (lines h) (λ x never. absurd never) goes_made at.goes

            started : (W.world_in setting events).started ≡ true
            started = lasts.goes.begun

            fits_all : AreHonest host old → AllFit host setting events old → AllFit host setting now new
            fits_all are fit =
                let p = tree_node lasts.goes.proper.tree in
                let e = of_tree stance setting lasts.goes.proper in
                let s = small stance setting lasts.goes.proper in
                let begun_first : (W.world_in setting begun).started ≡ true = shown_opened.begun in
                let later = goes_taken setting Reported begun now (lines h) begun_first at.goes in
                let taken_then : AllTaken setting begun (tooks h) = subst (AllTaken setting begun) (append_cancel_left begun later.0 (tooks h) (sym later.1)) later.2 in
                let fit_begun : AllFit host setting begun old = came_fit (λ e. ⊥) begun [] goes_made (hosts_of host old) fit in
                fit_life host source looks setting p e s begun begun_first (tooks h) taken_then old new _
                (came_all host source looks stance opening start base old new h how life (λ (t : _). t.accepted ≡ true → Some_of (λ x. x ≡ t.event) (tooks h))
                (λ (c : _). InLife setting begun (tooks h) c.executor c.task) (told_taken h) at.given)
                are fit_begun

            life_served : AreServed host source old new
            life_served = life_serves host source looks stance opening start base old new h how life

            -- it was stopped by a fault
            breaks_so : (s : StoppedBy stance setting lasts.goes.proper Reported begun h) → BreaksBehind disk stance setting entry origin before Refused now s.fault kept
            breaks_so s =
                let now_is : begun ++ tooks s.front ≡ now = ap (λ (es : List Event). begun ++ es) (sym (tooks_front s.front s.fault s.event) ∙ ap tooks (sym s.is)) in
                let of : IsFaultOf setting now s.fault s.event = subst (λ (es : List Event). IsFaultOf setting es s.fault s.event) now_is s.of in
                breaks_with disk stance setting entry origin before Refused now s.fault kept s.event
                (fails_on disk stance setting entry origin before begun opened kept h lasts_opened site s.front s.fault s.event s.is s.none (laws.told_image kept.journal.disk) of)
                (caused_by setting Refused now s.fault s.event of (λ e some. told_last _ h s.front s.fault e (same_last h s.front s.fault s.event e some s.is) life.told))

            -- it rests, or memory was wanted
            rests_or_wants : kept_fault h ≡ None → (r : Result Progress NoMemory) → IfOk r (λ come. RestsWith (rest_of come new) setting (W.world_in setting now) new)
                → EndsBehind disk stance setting entry origin before Refused now new kept (ended_as None r new)
            rests_or_wants calm (Ok come) rests = record {
              lasts = lasts_on disk stance setting entry origin before begun opened kept h lasts_opened site calm;
              rests = rests;
            }
            rests_or_wants calm (Err memory) rests =
                breaks_with disk stance setting entry origin before Refused now Memory kept None
                (wants_on disk stance setting entry origin before begun opened kept h lasts_opened site calm) tt

            ends_by : (kept_fault h ≡ None) ⊎ StoppedBy stance setting lasts.goes.proper Reported begun h → (kept_fault h ≡ None → IfOk how (λ come. RestsWith (rest_of come new) setting (W.world_in setting now) new))
                → EndsBehind disk stance setting entry origin before Refused now new kept (ended_as (kept_fault h) how new)
            ends_by (inl calm) rests = subst (λ (f : Option TakeFault). EndsBehind disk stance setting entry origin before Refused now new kept (ended_as f how new)) (sym calm) (rests_or_wants calm how (rests calm))
            ends_by (inr s) rests =
                subst (λ (f : Option TakeFault). EndsBehind disk stance setting entry origin before Refused now new kept (ended_as f how new)) (sym (ap kept_fault s.is ∙ kept_last s.front s.fault s.event s.none)) (breaks_so s)

            ends_so : (ended : Result Rest TakeFault) → AllAre (λ (turn : Turn H A). AllAre (IsOrderOf setting begun (tooks h)) (orders_in turn.calls)) turns → (operators old ≤ 1 → EachIs (HeardInTime setting begun) [] h) → EachIs (ClaimedInTime setting begun) [] h → ended ≡ ended_as (kept_fault h) how new
                → (kept_fault h ≡ None → IfOk how (λ come. RestsWith (rest_of come new) setting (W.world_in setting now) new))
                → Ends disk stance host source looks turns durable setting entry origin before events old new h kept ended
            ends_so ended orders in_time claims is rests = record {
              granted = tooks made;
              are_grants = grants_are grants;
              now = now;
              is = refl;
              counted = omega (arith, site.counted, facts.counted);
              goes = goes_all;
              led = led;
              claims = claims;
              orders = orders;
              in_time = in_time;
              ends = subst (EndsBehind disk stance setting entry origin before Refused now new kept) (sym is) (ends_by at.stops rests);
              fits = fits_all;
              fits_next = λ are fit e accepted. next_fit Reported now (lines h) goes_all (hosts_of host new) (fits_all are fit) e accepted;
              others = came_fit Reported now (lines h) goes_all;
              others_next = λ hosts fit e accepted. next_fit Reported now (lines h) goes_all hosts (came_fit Reported now (lines h) goes_all hosts fit) e accepted;
              once = λ are fit apart. once_fit host source looks setting (tree_node lasts.goes.proper.tree) (of_tree stance setting lasts.goes.proper) (small stance setting lasts.goes.proper) now old new life_served (fits_all are fit) apart;
            }

          -- what the last look said, of a state that no fault stopped
          look_rests : IsSite disk stance opened kept h capacity → kept_fault h ≡ None → (r : Result Progress NoMemory)
              → EndsWith (λ b history x y more. Says stance (opening b) history x y more) base life.last life.members life.before new life.part h r → ∥ IfOk r (λ come. RestsWith (rest_of come new) setting (W.world_in setting now) new) ∥₁
          look_rests site calm (Err memory) ends = ∣ tt ∣₁
          look_rests site calm (Ok come) ends =
              let says : AnswersOf stance opened.build h Look (reply.Progress come) [] =
              subst (λ (f : Option TakeFault). SaysAt stance opened.build h f Look (reply.Progress come) []) calm (subst (λ (b : Parts T). Says stance b h Look (reply.Progress come) []) is_base ends.4) in
              ∥∥₁_map says.0.1 (λ shown. rests_so stance setting lasts.goes.proper now says.0.0 kept.build new come (shows_shown stance setting lasts.goes.proper opened.build says.0.0 begun (tooks h) shown_opened shown)
              (shows_shown stance setting lasts.goes.proper opened.build kept.build begun (tooks h) shown_opened (site.facts.shown calm)) (site.settled calm) says.0.2 ends.5)

          -- the orders that were given, and when lines were heard
          asked : ∥ AllAre (λ (turn : Turn H A). AllAnswered (λ history x y more. Says stance opened.build history x y more) h turn.calls) turns ∥₁
          asked = subst (λ (b : Parts T). ∥ AllAre (λ (turn : Turn H A). AllAnswered (λ history x y more. Says stance b history x y more) h turn.calls) turns ∥₁) is_base life.answered

          ordered : ∥ AllAre (λ (turn : Turn H A). AllAre (IsOrderOf setting begun (tooks h)) (orders_in turn.calls)) turns ∥₁
          ordered = ∥∥₁_elim asked ∥∥₁_prop (λ all. turns_ordered stance opened.build h setting lasts.goes.proper begun shown_opened turns all)

          timed : ∥ (operators old ≤ 1 → EachIs (HeardInTime setting begun) [] h) ∥₁
          timed = few_known (operators old) (EachIs (HeardInTime setting begun) [] h) (λ few.
              ∥∥₁_elim (life.waited few) ∥∥₁_prop (λ waited. heard_in_time stance opened.build h setting lasts.goes.proper begun shown_opened [] h
              (subst (λ (b : Parts T). EachIs (Waited (λ history x y more. Says stance b history x y more)) [] h) is_base waited)))

          -- A life, by what its members did and by what is known of the state behind it.
          pub life_ends : ∥ IsSite disk stance opened kept h capacity ∥₁ → (ended : Result Rest TakeFault) → ended ≡ ended_as (kept_fault h) how new
              → ∥ Ends disk stance host source looks turns durable setting entry origin before events old new h kept ended ∥₁
          life_ends known ended is = ∥∥₁_elim known ∥∥₁_prop (λ site. ∥∥₁_elim told ∥∥₁_prop (λ at. ∥∥₁_elim ordered ∥∥₁_prop (λ orders. ∥∥₁_elim timed ∥∥₁_prop (λ in_time. ∥∥₁_elim claimed ∥∥₁_prop (λ claims. by site at orders in_time claims (calm_or_not (kept_fault h)))))))
            where
              calm_or_not : (f : Option TakeFault) → (f ≡ None) ⊎ (f ≡ None → ⊥)
              calm_or_not None = inl refl
              calm_or_not (Some f) = inr (λ none. no_fault f none)

              by : IsSite disk stance opened kept h capacity → At stance setting lasts.goes.proper Reported begun h → AllAre (λ (turn : Turn H A). AllAre (IsOrderOf setting begun (tooks h)) (orders_in turn.calls)) turns
                  → (operators old ≤ 1 → EachIs (HeardInTime setting begun) [] h) → EachIs (ClaimedInTime setting begun) [] h → (kept_fault h ≡ None) ⊎ (kept_fault h ≡ None → ⊥)
                  → ∥ Ends disk stance host source looks turns durable setting entry origin before events old new h kept ended ∥₁
              by site at orders in_time claims (inl calm) = ∥∥₁_map (look_rests site calm how life.ends) (λ rests. ends_so at site.facts ended orders in_time claims is (λ none. rests))
              by site at orders in_time claims (inr fault) = ∣ ends_so at site.facts ended orders in_time claims is (λ none. absurd (fault none)) ∣₁

    -- An opening that was refused, either way.
    pub opening_refused : (made : List Entry) (k : Kept D T) (fault : TakeFault) (state : D) → OpenRefuses stance durable k made fault → Facts disk stance durable k made → state ≡ k.journal.disk
        → OpeningBreaks disk stance setting entry origin before events fault state
    opening_refused made k fault state (inl refuses) facts same = opening_breaks made refuses.0 k fault state facts refuses.1 same
    opening_refused made k fault state (inr wants) facts same =
        subst (λ (f : TakeFault). OpeningBreaks disk stance setting entry origin before events f state) (sym wants.2) (opening_wants state (same ∙ ap (λ (n : Kept D T). n.journal.disk) wants.1))
