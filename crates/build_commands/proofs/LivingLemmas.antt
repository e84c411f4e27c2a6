-- The members of a build at the end of a life, and what became of them.
use Rattle.std.proofs.Common.{◌≡◌, ◌≤◌, ◌∙◌, ◌++◌, ◌||◌, ℕ, ℤ, suc, Bool, true, false, List, [], ◌∷◌, not, Option, Result, Ok, Err, length, take, drop, refl, sym, ap, subst, append-nil, arith}
use Rattle.std.specs.Prelude.{IfOk}
use Rattle.std.proofs.Math.Logic.{∥∥₁_map}
use Rattle.std.proofs.Math.Seq.{take-append_seam}
use Rattle.std.specs.Io.KnownBytes.{IsAtEnd}
use Rattle.std.specs.List.{AllZip}
use Rattle.device_faults.specs.Faults.{Rose}
use Rattle.task_host.specs.declared.call.Call.{Call}
use Rattle.task_host.specs.declared.order.Stream.{Stream}
use Rattle.journal_core.specs.declared.faults.TakeFault.{TakeFault}
use Rattle.agent_worker.specs.declared.member.Member.{Member}
use Rattle.agent_worker.specs.declared.member.Member.TheVariants.{Executor, Operator}
use Rattle.agent_worker.specs.Gate.{Told, Claimed as ClaimedTask}
use Rattle.build_life.specs.Lower.durable_build.Standing.{Kept}
use Rattle.model_syntax.specs.TreeNodes.{tree_node}
use Rattle.model_run.specs.declared.event.Event.{Event}
use Rattle.model_run.specs.declared.site.Executor.{Executor as SiteExecutor}
use Rattle.model_run.specs.State.{Setting}
use Rattle.model_run.specs.World.{world_in}
use Rattle.build_life.specs.declared.resting.Rest.{Rest}
use Rattle.build_life.specs.Lower.durable_build.Settings.{IsProper}
use Rattle.settle_laws.specs.Stances.{Stance}
use Rattle.launch_laws.proofs.LifeLaws.{all_fit_more}
use Rattle.build_life.specs.Lower.locked_build.declared.ask.Entry.{Entry}
use Rattle.build_life.specs.Lower.member_turns.Turns.{Turn}
use Rattle.build_life.specs.Lower.member_turns.Waiting.{operators}
use Rattle.build_life.specs.Ending.{AllReadOut, any_failed}
use Rattle.build_life.specs.Going.{begins}
use Rattle.build_life.specs.Lives.{Ends, OpeningBreaks}
use Rattle.build_life.specs.Replies.{replies}
use Rattle.build_life.specs.Serving.{AreServed, ReadOn, hosts_of}
use Rattle.build_life.specs.Telling.{AreHeard}
use Rattle.build_life.proofs.CloseLemmas.{no_turns}
use Rattle.build_life.proofs.MemberLemmas.{all_came, all_served}
use Rattle.build_life.proofs.WalkLemmas.{of_tree, small}
use Rattle.agent_worker.specs.Crews.{answers_in, hosts_in, IsCrew, members_of, others_of}
use Rattle.build_commands.specs.Living.{HeardOf, HostsStay, TakesBy}
use Rattle.jp_disk.specs.View.{DiskView}
use Rattle.task_host.specs.View.{HostView}
use Rattle.jp_io.specs.View.{SourceView}

same_answers : {A : Type 0} (a b : A) → a ∷ [] ≡ b ∷ [] → a ≡ b
same_answers a b is = cc

or_false : (b : Bool) → (b || false) ≡ b
or_false true = refl
or_false false = refl

module _ {H A : Type 0} where
  pub hosts_all : (xs : List SiteExecutor) (hosts : List H) (answers : A) → hosts_in (members_of xs hosts answers) ++ others_of xs hosts ≡ hosts
  hosts_all [] hosts answers = refl
  hosts_all (x ∷ xs) [] answers = refl
  hosts_all (x ∷ xs) (host ∷ hosts) answers = ap (λ (hs : List H). host ∷ hs) (hosts_all xs hosts answers)

  pub one_answer : (xs : List SiteExecutor) (hosts : List H) (answers : A) → answers_in (members_of xs hosts answers) ≡ answers ∷ []
  one_answer [] hosts answers = refl
  one_answer (x ∷ xs) [] answers = refl
  one_answer (x ∷ xs) (host ∷ hosts) answers = one_answer xs hosts answers

  pub one_operator : (xs : List SiteExecutor) (hosts : List H) (answers : A) → operators (members_of xs hosts answers) ≤ 1
  one_operator [] hosts answers = omega arith
  one_operator (x ∷ xs) [] answers = omega arith
  one_operator (x ∷ xs) (host ∷ hosts) answers = one_operator xs hosts answers

  pub is_crew : (xs : List SiteExecutor) (hosts : List H) (answers : A) → IsCrew (members_of xs hosts answers)
  is_crew [] hosts answers = refl
  is_crew (x ∷ xs) [] answers = refl
  is_crew (x ∷ xs) (host ∷ hosts) answers = is_crew xs hosts answers

  module _ (host : HostView H) (source : SourceView A) where
    abbrev Served : List (Member H A) → List (Member H A) → Type 0
    Served = AreServed host source

    none_served : (new : List (Member H A)) → Served [] new → new ≡ []
    none_served [] served = refl
    none_served (m ∷ ms) served = absurd served

    pub served_crew : (old new : List (Member H A)) → Served old new → IsCrew old → IsCrew new
    served_crew [] new served crew = absurd crew
    served_crew (Executor number machine ∷ old) [] served crew = absurd served
    served_crew (Executor number machine ∷ old) (Executor now next ∷ new) served crew = served_crew old new served.1 crew
    served_crew (Executor number machine ∷ old) (Operator next kept ended failed ∷ new) served crew = absurd served
    served_crew (Operator answers line ended failed ∷ old) [] served crew = absurd served
    served_crew (Operator answers line ended failed ∷ old) (Executor now next ∷ new) served crew = absurd served
    served_crew (Operator answers line ended failed ∷ old) (Operator next kept now_ended now_failed ∷ new) served crew = none_served new (subst (λ (ms : List (Member H A)). Served ms new) crew served.1)

    -- what became of the operator
    pub record OperatorCame (answers next : A) (new : List (Member H A)) : Type 0 where
      pub ended : Bool
      pub failed : Bool
      pub reads : ReadOn (source.left answers) (source.left next) (source.faults answers) (source.faults next) false ended false failed
      pub fails : any_failed new ≡ failed
      pub read_out : AllReadOut new → ended ≡ true

    operator_came : (answers next : A) (new : List (Member H A)) → Served (Operator answers [] false false ∷ []) new → answers_in new ≡ next ∷ [] → OperatorCame answers next new
    operator_came answers next [] served are = absurd served
    operator_came answers next (Executor now machine ∷ new) served are = absurd served
    operator_came answers next (Operator unread kept ended failed ∷ []) served are = record {
      ended = ended;
      failed = failed;
      reads = subst (λ (a : A). ReadOn (source.left answers) (source.left a) (source.faults answers) (source.faults a) false ended false failed) (same_answers unread next are) served.0;
      fails = or_false failed;
      read_out = λ out. out.0;
    }
    operator_came answers next (Operator unread kept ended failed ∷ (m ∷ new)) served are = absurd served.1

    pub crew_came : (xs : List SiteExecutor) (hosts : List H) (answers next : A) (new : List (Member H A)) → Served (members_of xs hosts answers) new → answers_in new ≡ next ∷ [] → OperatorCame answers next new
    crew_came [] hosts answers next new served are = operator_came answers next new served are
    crew_came (x ∷ xs) [] answers next new served are = operator_came answers next new served are
    crew_came (x ∷ xs) (machine ∷ hosts) answers next [] served are = absurd served
    crew_came (x ∷ xs) (machine ∷ hosts) answers next (Executor now h ∷ new) served are =
        let came = crew_came xs hosts answers next new served.1 are in
        record { ended = came.ended; failed = came.failed; reads = came.reads; fails = came.fails; read_out = came.read_out }
    crew_came (x ∷ xs) (machine ∷ hosts) answers next (Operator unread kept ended failed ∷ new) served are = absurd served

    -- where the answers could not be read in the end, their source counted a fault
    pub crew_failed : (xs : List SiteExecutor) (hosts : List H) (answers next : A) (new : List (Member H A)) → Served (members_of xs hosts answers) new → answers_in new ≡ next ∷ [] → any_failed new ≡ true → Rose (source.faults answers) (source.faults next)
    crew_failed xs hosts answers next new served are failed =
        let came = crew_came xs hosts answers next new served are in
        (came.reads.counts refl).failed (sym came.fails ∙ failed)

    -- where they were read out, they are at their end
    pub crew_read : (xs : List SiteExecutor) (hosts : List H) (answers next : A) (new : List (Member H A)) → Served (members_of xs hosts answers) new → answers_in new ≡ next ∷ [] → AllReadOut new → IsAtEnd (source.left next)
    crew_read xs hosts answers next new served are out =
        let came = crew_came xs hosts answers next new served are in
        came.reads.at_end refl (came.read_out out)

    -- what was heard of the answers
    not_more : (ended : Bool) → not ended ≡ false → ended ≡ true
    not_more true is = refl
    not_more false is = absurd (cc)

    still_more : (ended : Bool) → not ended ≡ true → ended ≡ false
    still_more true is = absurd (cc)
    still_more false is = refl

    not_true : (b : Bool) → (b ≡ true → ⊥) → b ≡ false
    not_true true never = absurd (never refl)
    not_true false never = refl

    operator_heard : (heard : List (List ℕ)) (answers next : A) (new : List (Member H A)) → Served (Operator answers [] false false ∷ []) new → AreHeard source heard (Operator answers [] false false ∷ []) new → answers_in new ≡ next ∷ [] → HeardOf source answers next heard
    operator_heard heard answers next [] served told are = absurd served
    operator_heard heard answers next (Executor now machine ∷ new) served told are = absurd served
    operator_heard heard answers next (Operator unread kept ended failed ∷ []) served told are =
        let so = told refl refl in
        subst (λ (a : A). HeardOf source answers a heard) (same_answers unread next are)
        (record { read = so.0; more = not ended; taken = so.1; at_end = λ is. served.0.at_end refl (not_more ended is); is = so.2; nothing_left = λ calm more. so.3 (not_true failed (λ bad. calm ((served.0.counts refl).failed bad))) (still_more ended more) })
    operator_heard heard answers next (Operator unread kept ended failed ∷ (m ∷ new)) served told are = absurd served.1

    crew_heard : (heard : List (List ℕ)) (xs : List SiteExecutor) (hosts : List H) (answers next : A) (new : List (Member H A)) → Served (members_of xs hosts answers) new → AreHeard source heard (members_of xs hosts answers) new
        → answers_in new ≡ next ∷ [] → HeardOf source answers next heard
    crew_heard heard [] hosts answers next new served told are = operator_heard heard answers next new served told are
    crew_heard heard (x ∷ xs) [] answers next new served told are = operator_heard heard answers next new served told are
    crew_heard heard (x ∷ xs) (machine ∷ hosts) answers next [] served told are = absurd served
    crew_heard heard (x ∷ xs) (machine ∷ hosts) answers next (Executor now h ∷ new) served told are = crew_heard heard xs hosts answers next new served.1 told are
    crew_heard heard (x ∷ xs) (machine ∷ hosts) answers next (Operator unread kept ended failed ∷ new) served told are = absurd served

    pub rest_heard : (heard : List (List ℕ)) (xs : List SiteExecutor) (hosts : List H) (answers next : A) (new : List (Member H A)) → Served (members_of xs hosts answers) new → answers_in new ≡ next ∷ []
        → (ended : Result Rest TakeFault) → IfOk ended (λ rest. ∥ AreHeard source heard (members_of xs hosts answers) new ∥₁) → IfOk ended (λ rest. ∥ HeardOf source answers next heard ∥₁)
    rest_heard heard xs hosts answers next new served are (Ok rest) told = ∥∥₁_map told (λ t. crew_heard heard xs hosts answers next new served t are)
    rest_heard heard xs hosts answers next new served are (Err fault) told = tt

    -- each host is at its place, and those that no member had are as they were
    pub stay_same : (hosts : List H) → HostsStay host hosts hosts
    stay_same [] = tt
    stay_same (machine ∷ hosts) = (record { honest_stays = (λ h. h, λ h. h); never_falls = omega arith; called = λ list is. (list, [], is, sym (append-nil list)) }, stay_same hosts)

    pub operator_alone : (answers : A) (new : List (Member H A)) → Served (Operator answers [] false false ∷ []) new → hosts_in new ≡ []
    operator_alone answers [] served = absurd served
    operator_alone answers (Executor number machine ∷ new) served = absurd served
    operator_alone answers (Operator next kept ended failed ∷ []) served = refl
    operator_alone answers (Operator next kept ended failed ∷ (m ∷ new)) served = absurd served.1

    pub crew_stay : (xs : List SiteExecutor) (hosts : List H) (answers : A) (new : List (Member H A)) → Served (members_of xs hosts answers) new → HostsStay host hosts (hosts_in new ++ others_of xs hosts)
    crew_stay [] hosts answers new served = subst (λ (hs : List H). HostsStay host hosts (hs ++ hosts)) (sym (operator_alone answers new served)) (stay_same hosts)
    crew_stay (x ∷ xs) [] answers new served = subst (λ (hs : List H). HostsStay host [] (hs ++ [])) (sym (operator_alone answers new served)) tt
    crew_stay (x ∷ xs) (machine ∷ hosts) answers [] served = absurd served
    crew_stay (x ∷ xs) (machine ∷ hosts) answers (Operator next kept ended failed ∷ new) served = absurd served
    crew_stay (x ∷ xs) (machine ∷ hosts) answers (Executor seat next ∷ new) served = (served.0.1, crew_stay xs hosts answers new served.1)

    -- as many members as before
    pub served_length : (old new : List (Member H A)) → Served old new → length new ≡ length old
    served_length [] [] served = refl
    served_length [] (m ∷ new) served = absurd served
    served_length (Executor number machine ∷ old) [] served = absurd served
    served_length (Executor number machine ∷ old) (Executor now next ∷ new) served = ap suc (served_length old new served.1)
    served_length (Executor number machine ∷ old) (Operator next kept ended failed ∷ new) served = absurd served
    served_length (Operator answers line ended failed ∷ old) [] served = absurd served
    served_length (Operator answers line ended failed ∷ old) (Executor now next ∷ new) served = absurd served
    served_length (Operator answers line ended failed ∷ old) (Operator next kept now_ended now_failed ∷ new) served = ap suc (served_length old new served.1)

module _ {H A : Type 0} (host : HostView H) (source : SourceView A) (looks : ℕ) where
  abbrev TakesSo : Setting → List Event → List (Member H A) → List (Member H A) → List (Turn H A) → List Entry → List Event → Type 0
  TakesSo = TakesBy host source looks

  -- members who had no turn
  pub still_served : (members : List (Member H A)) → AreServed host source members members
  still_served members = all_served host source looks (λ (t : Told). Unit {0}) (λ (c : ClaimedTask). Unit {0}) members members []
      (all_came host source looks (λ (t : Told). Unit {0}) (λ (c : ClaimedTask). Unit {0}) members [] members refl tt tt tt)

  -- and took nothing
  pub no_events : {T : Type 0} (stance : T → Stance) (setting : Setting) → IsProper setting → (before : List Event) → (world_in setting before).started ≡ true → (members : List (Member H A)) → TakesSo setting before members members [] [] before
  no_events stance setting proper before begun members = record {
    begun = begun;
    goes = begins;
    granted = [];
    are_grants = tt;
    is = sym (append-nil (before ++ []) ∙ append-nil before);
    led = no_turns host source looks (replies setting) (before ++ []) members;
    claims = tt;
    orders = tt;
    in_time = tt;
    fits = λ are fit. fit;
    fits_next = λ are fit e accepted.
        all_fit_more setting (tree_node proper.tree) (of_tree stance setting proper) (small stance setting proper) before (e ∷ []) (hosts_of host members) begun (record { begun = begun; accepted = accepted }, tt) fit;
    others = λ hosts fit. fit;
    others_next = λ hosts fit e accepted. all_fit_more setting (tree_node proper.tree) (of_tree stance setting proper) (small stance setting proper) before (e ∷ []) hosts begun (record { begun = begun; accepted = accepted }, tt) fit;
  }

  -- but for the grants that were made before the opening of their life was refused
  pub opening_events : {D T : Type 0} (disk : DiskView D) (stance : T → Stance) (setting : Setting) (entry : Option (List ℕ)) (origin : D)
      (before events : List Event) (fault : TakeFault) (state : D) (b : OpeningBreaks disk stance setting entry origin before events fault state) → (world_in setting events).started ≡ true → (members : List (Member H A)) → TakesSo setting events members members [] [] (events ++ b.granted)
  opening_events disk stance setting entry origin before events fault state b begun members = record {
    begun = begun;
    goes = b.goes;
    granted = b.granted;
    are_grants = b.are_grants;
    is = sym (append-nil (events ++ b.granted));
    led = no_turns host source looks (replies setting) (events ++ b.granted) members;
    claims = tt;
    orders = tt;
    in_time = tt;
    fits = λ are fit. b.fits (hosts_of host members) fit;
    fits_next = λ are fit e accepted. b.fits_next (hosts_of host members) fit e accepted;
    others = b.fits;
    others_next = b.fits_next;
  }

  -- those of a life that was led
  pub life_events : {D T : Type 0} (disk : DiskView D) (stance : T → Stance) {durable : Kept D T} (turns : List (Turn H A)) (setting : Setting) (entry : Option (List ℕ)) (origin : D)
      (before events : List Event) (old new : List (Member H A)) (history : List Entry) (kept : Kept D T) (ended : Result Rest TakeFault)
      (e : Ends disk stance host source looks turns durable setting entry origin before events old new history kept ended) → (world_in setting events).started ≡ true → operators old ≤ 1 → TakesSo setting events old new turns history e.now
  life_events disk stance turns setting entry origin before events old new history kept ended e begun one = record {
    begun = begun;
    goes = e.goes;
    granted = e.granted;
    are_grants = e.are_grants;
    is = e.is;
    led = e.led;
    claims = e.claims;
    orders = e.orders;
    in_time = e.in_time one;
    fits = e.fits;
    fits_next = e.fits_next;
    others = e.others;
    others_next = e.others_next;
  }
