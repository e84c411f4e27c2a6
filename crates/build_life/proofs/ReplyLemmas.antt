-- What the state of a life replied, by the events alone, and when its tasks were claimed.
use Rattle.std.proofs.Common.{◌≡◌, ◌∙◌, ℕ, Bool, false, List, [], ◌∷◌, ◌++◌, Option, Some, None, Result, Ok, Err, refl, sym, ap, subst, append_assoc, append-nil}
use Rattle.std.specs.Prelude.{true, if◌then◌else◌}
use Rattle.std.proofs.Math.Logic.{∥∥₁_elim, ∥∥₁_map, ∥∥₁_prop}
use Rattle.journal_core.specs.declared.faults.TakeFault.{TakeFault}
use Rattle.journal_core.specs.declared.faults.TakeFault.TheVariants.{Memory, Disk, Full, Stopped}
use Rattle.agent_worker.specs.declared.gate.Claim.{Claim}
use Rattle.agent_worker.specs.declared.gate.Claim.TheVariants as claim
use Rattle.agent_worker.specs.declared.gate.Heard.{Heard}
use Rattle.agent_worker.specs.declared.gate.Heard.TheVariants.{Decided, Skipped}
use Rattle.agent_worker.specs.declared.gate.Inputs.{Inputs}
use Rattle.build_store.specs.Lower.build_core.Builds.{Parts}
use Rattle.build_store.specs.Lower.build_core.Phases.{has_ended}
use Rattle.build_requests.specs.Waiting.{input_of, open_tasks, waiting_inputs}
use Rattle.model_run.specs.declared.event.Event.{Event}
use Rattle.model_run.specs.declared.event.Event.TheVariants.{Granted}
use Rattle.model_run.specs.declared.request.OpenRequest.{OpenRequest}
use Rattle.model_run.specs.declared.taken.Taken.{Taken}
use Rattle.model_run.specs.declared.taken.Taken.TheVariants.{Accepted, NotOpen, WrongPlace, Finished}
use Rattle.model_run.specs.State.{Setting}
use Rattle.model_run.specs.World as W
use Rattle.program_lock.specs.Legal.{IsRun, IsLegal}
use Rattle.build_store.specs.Lower.durable_build.Settings.{IsProper}
use Rattle.build_store.specs.Lower.build_images.Images.{world_image}
use Rattle.build_store.specs.Lower.delta_records.declared.weights.Weights.{Weights}
use Rattle.build_store.specs.Lower.durable_build.Standing.{world_before}
use Rattle.build_store.specs.Lower.durable_build.Taking.{DueAdds}
use Rattle.build_store.proofs.Lower.durable_build.Sizes.{due_adds}
use Rattle.build_store.specs.Lives.{image_after}
use Rattle.settle_laws.specs.Stances.{Stance}
use Rattle.build_store.proofs.Lower.store_laws.Stories.{world-more}
use Rattle.member_turns.specs.Lower.locked_build.declared.ask.Ask.{Ask}
use Rattle.member_turns.specs.Lower.locked_build.declared.ask.Ask.TheVariants as ask
use Rattle.member_turns.specs.Lower.locked_build.declared.ask.Entry.{Entry}
use Rattle.member_turns.specs.Lower.locked_build.declared.ask.Entry.TheVariants.{Took, Claimed, Line, Failed}
use Rattle.member_turns.specs.Lower.locked_build.declared.ask.Progress.{Progress}
use Rattle.member_turns.specs.Lower.locked_build.declared.ask.Reply.{Reply}
use Rattle.member_turns.specs.Lower.locked_build.declared.ask.Reply.TheVariants as reply
use Rattle.member_turns.specs.Lower.locked_build.Claims.{ClaimSays, busy_of, within_u32}
use Rattle.member_turns.specs.Lower.locked_build.Grants.{Grants, MayFail, RecordAdds, TakeSays, none_due, granted, refused, not_found}
use Rattle.member_turns.specs.Lower.locked_build.Hearing.{AnswerSays}
use Rattle.member_turns.specs.Lower.locked_build.Histories.{kept_fault, tooks}
use Rattle.member_turns.specs.Lower.locked_build.Says.{Answers, SaysAt, Says}
use Rattle.member_turns.specs.Lower.locked_build.Showing.{IsShown}
use Rattle.member_turns.specs.Coming.{EachIs}
use Rattle.build_life.specs.Replies as its
use Rattle.build_life.specs.Telling.{ClaimedInTime}
use Rattle.build_life.proofs.WalkLemmas.{ShowsAll, accepted_is, answer_is, due_is, found_task, line_decides, line_passed, requests_are, settled_none, shows_next, shows_shown}

module _ {T : Type 0} (stance : T → Stance) (setting : Setting) (proper : IsProper setting) where
  -- what the record of an event adds, by the images of the builds of the events before it and with it
  adds_so : (b : Parts T) (events : List Event) → ShowsAll stance setting proper b events → (e : Event) (add : ℕ) → RecordAdds stance b e add
      → (w : Weights) × DueAdds w (Some (image_after setting events)) e (image_after setting (events ++ e ∷ [])) add
  adds_so b events all e add r =
      let w : W.Build = W.world_in setting events in
      let front : r.before ≡ Some (image_after setting events) =
      r.is_before w all.stands ∙ ap (λ (s : Setting). world_before s w) all.same ∙ ap (λ (begun : Bool). if begun then Some (image_after setting events) else None) all.begun in
      let behind : r.image ≡ image_after setting (events ++ e ∷ []) =
      r.is_after w all.stands ∙ ap (λ (s : Setting). world_image s (W.after_one s w e)) all.same ∙ ap (world_image setting) (sym (world-more setting W.unbegun events e)) in
      (r.weights, due_adds r.weights r.weights r.before (Some (image_after setting events)) r.image (image_after setting (events ++ e ∷ [])) e add refl front behind r.adds)

  -- the grants behind an event
  grants_so : {b : Parts T} {entries : List Entry} → Grants stance b entries → (events : List Event) → ShowsAll stance setting proper b events → its.GrantsBehind setting events entries
  grants_so {b} (none_due settled) events all = its.none_due (settled_none stance setting proper b events all settled)
  grants_so {b} (granted {after = after} request executor is next more) events all =
      let e : Event = Granted request executor in
      its.granted request executor (due_is stance setting proper b events all ∙ is) (accepted_is stance setting proper b events all e next.accepted)
      (grants_so more (events ++ e ∷ []) (shows_next stance setting proper b events all e after next))
  grants_so {b} (refused request executor Memory is may) events all = its.failed request executor Memory (due_is stance setting proper b events all ∙ is) tt
  grants_so {b} (refused request executor Disk is may) events all =
      its.failed request executor Disk (due_is stance setting proper b events all ∙ is) (accepted_is stance setting proper b events all (Granted request executor) may)
  grants_so {b} (refused request executor (Full len add) is may) events all =
      its.failed request executor (Full len add) (due_is stance setting proper b events all ∙ is) (accepted_is stance setting proper b events all (Granted request executor) may.0, may.1, adds_so b events all (Granted request executor) add may.2)
  grants_so (refused request executor Stopped is may) events all = absurd may
  grants_so not_found events all = its.not_found

  module _ (b : Parts T) (events : List Event) (all : ShowsAll stance setting proper b events) where
    may_so : (e : Event) (fault : TakeFault) → MayFail stance b e fault → its.MayFail setting events e fault
    may_so e Memory may = tt
    may_so e Disk may = accepted_is stance setting proper b events all e may
    may_so e (Full len add) may = (accepted_is stance setting proper b events all e may.0, may.1, adds_so b events all e add may.2)
    may_so e Stopped may = absurd may

    takes_so : (e : Event) (r : Result Taken TakeFault) (new : List Entry) → TakeSays stance b e r new → its.Takes setting events e r new
    takes_so e (Ok Accepted) new says =
        (says.1, accepted_is stance setting proper b events all e says.2.accepted, grants_so says.3 (events ++ e ∷ []) (shows_next stance setting proper b events all e says.0 says.2), says.4)
    takes_so e (Ok NotOpen) new says = (answer_is stance setting proper b events all e ∙ says.0, says.1)
    takes_so e (Ok (WrongPlace kept)) new says = (answer_is stance setting proper b events all e ∙ says.0, says.1)
    takes_so e (Ok Finished) new says = (answer_is stance setting proper b events all e ∙ says.0, says.1)
    takes_so e (Err fault) new says = (may_so e fault says.0, says.1)

    hears_so : (line : List ℕ) (r : Result Heard TakeFault) (new : List Entry) → AnswerSays stance b line r new → its.Hears setting events line r new
    hears_so line (Ok (Decided request)) new says = (
      says.0,
      says.1,
      (record { request = request; answer = says.2.answer; open_now = ap (input_of says.2.answer.id) (requests_are stance setting proper b events all) ∙ says.2.open_now }, refl),
      takes_so says.0 (Ok Accepted) says.1 says.3,
      says.4,
    )
    hears_so line (Ok Skipped) new says = (line_passed stance setting proper b events all line says.0, says.1)
    hears_so line (Err Memory) new says = says
    hears_so line (Err Disk) new says = (says.1, line_decides stance setting proper b events all line says.0 says.1 says.2, takes_so says.1 (Err Disk) new says.3)
    hears_so line (Err (Full len add)) new says = (says.1, line_decides stance setting proper b events all line says.0 says.1 says.2, takes_so says.1 (Err (Full len add)) new says.3)
    hears_so line (Err Stopped) new says = absurd says.3.0

  module _ (opening : Parts T) (begun : List Event) (opened : ShowsAll stance setting proper opening begun) where
    shown_all : (h : List Entry) (b : Parts T) → IsShown stance opening (tooks h) b → ShowsAll stance setting proper b (begun ++ tooks h)
    shown_all h b shown = shows_shown stance setting proper opening b begun (tooks h) opened shown

    counts_so : (h : List Entry) (there : Inputs) (new : List Entry) (b : Parts T) → ShowsAll stance setting proper b (begun ++ tooks h) → there.waiting ≡ within_u32 (waiting_inputs b.shared.requests) → there.busy ≡ busy_of h b.shared.requests → new ≡ []
        → its.Calm setting (begun ++ tooks h) h ask.Inputs (reply.Inputs there) new
    counts_so h there new b all waiting busy none =
        let same = requests_are stance setting proper b (begun ++ tooks h) all in
        subst (λ (es : List Entry). its.Calm setting (begun ++ tooks h) h ask.Inputs (reply.Inputs there) es) (sym none)
        (its.counts there (waiting ∙ ap (λ (rs : List OpenRequest). within_u32 (waiting_inputs rs)) (sym same)) (busy ∙ ap (λ (rs : List OpenRequest). busy_of h rs) (sym same)))

    looks_so : (h : List Entry) (come : Progress) (new : List Entry) (b : Parts T) → ShowsAll stance setting proper b (begun ++ tooks h)
        → come ≡ record { ended = has_ended b.phase; stopped = false; tasks = within_u32 (open_tasks b.shared.requests); waiting = within_u32 (waiting_inputs b.shared.requests) } → new ≡ []
        → its.Calm setting (begun ++ tooks h) h ask.Look (reply.Progress come) new
    looks_so h come new b all is none =
        let same = requests_are stance setting proper b (begun ++ tooks h) all in
        subst (λ (es : List Entry). its.Calm setting (begun ++ tooks h) h ask.Look (reply.Progress come) es) (sym none)
        (its.looks come (is ∙ ap (λ (o : Bool). record { ended = o; stopped = false; tasks = within_u32 (open_tasks b.shared.requests); waiting = within_u32 (waiting_inputs b.shared.requests) }) (sym all.stands.ended)
        ∙ ap (λ (rs : List OpenRequest). record { ended = (W.world_in setting (begun ++ tooks h)).ended; stopped = false; tasks = within_u32 (open_tasks rs); waiting = within_u32 (waiting_inputs rs) }) (sym same)))

    -- the table, row by row
    calm_so : (h : List Entry) (a : Ask) (r : Reply) (new : List Entry) → Answers stance opening h a r new → ∥ its.Calm setting (begun ++ tooks h) h a r new ∥₁
    calm_so h (ask.Take e) (reply.Taken r) new says = ∥∥₁_map says.1 (λ shown. let all = shown_all h says.0 shown in its.takes e r (settled_none stance setting proper says.0 (begun ++ tooks h) all says.2.0) (takes_so says.0 (begun ++ tooks h) all e r new says.2.1))
    calm_so h (ask.Take e) (reply.Claimed c) new says = absurd says
    calm_so h (ask.Take e) (reply.Inputs there) new says = absurd says
    calm_so h (ask.Take e) (reply.Heard r) new says = absurd says
    calm_so h (ask.Take e) (reply.Progress come) new says = absurd says
    calm_so h (ask.Take e) reply.Halted new says = absurd says
    calm_so h (ask.Claim x) (reply.Taken r) new says = absurd says
    calm_so h (ask.Claim x) (reply.Claimed c) new says = ∥∥₁_map says.1 (λ shown. its.claims x c (subst (λ rs. ClaimSays rs h x c new) (sym (requests_are stance setting proper says.0 (begun ++ tooks h) (shown_all h says.0 shown))) says.2))
    calm_so h (ask.Claim x) (reply.Inputs there) new says = absurd says
    calm_so h (ask.Claim x) (reply.Heard r) new says = absurd says
    calm_so h (ask.Claim x) (reply.Progress come) new says = absurd says
    calm_so h (ask.Claim x) reply.Halted new says = absurd says
    calm_so h ask.Inputs (reply.Taken r) new says = absurd says
    calm_so h ask.Inputs (reply.Claimed c) new says = absurd says
    calm_so h ask.Inputs (reply.Inputs there) new says = ∥∥₁_map says.0.1 (λ shown. counts_so h there new says.0.0 (shown_all h says.0.0 shown) says.0.2.0 says.0.2.1 says.1)
    calm_so h ask.Inputs (reply.Heard r) new says = absurd says
    calm_so h ask.Inputs (reply.Progress come) new says = absurd says
    calm_so h ask.Inputs reply.Halted new says = absurd says
    calm_so h (ask.Answer line) (reply.Taken r) new says = absurd says
    calm_so h (ask.Answer line) (reply.Claimed c) new says = absurd says
    calm_so h (ask.Answer line) (reply.Inputs there) new says = absurd says
    calm_so h (ask.Answer line) (reply.Heard r) new says = ∥∥₁_map says.1 (λ shown. let all = shown_all h says.0 shown in its.hears line r (settled_none stance setting proper says.0 (begun ++ tooks h) all says.2.0) (hears_so says.0 (begun ++ tooks h) all line r new says.2.1))
    calm_so h (ask.Answer line) (reply.Progress come) new says = absurd says
    calm_so h (ask.Answer line) reply.Halted new says = absurd says
    calm_so h ask.Look (reply.Taken r) new says = absurd says
    calm_so h ask.Look (reply.Claimed c) new says = absurd says
    calm_so h ask.Look (reply.Inputs there) new says = absurd says
    calm_so h ask.Look (reply.Heard r) new says = absurd says
    calm_so h ask.Look (reply.Progress come) new says = ∥∥₁_map says.0.1 (λ shown. looks_so h come new says.0.0 (shown_all h says.0.0 shown) says.0.2 says.1)
    calm_so h ask.Look reply.Halted new says = absurd says
    calm_so h ask.Halt (reply.Taken r) new says = absurd says
    calm_so h ask.Halt (reply.Claimed c) new says = absurd says
    calm_so h ask.Halt (reply.Inputs there) new says = absurd says
    calm_so h ask.Halt (reply.Heard r) new says = absurd says
    calm_so h ask.Halt (reply.Progress come) new says = absurd says
    calm_so h ask.Halt reply.Halted new says = ∣ subst (λ (es : List Entry). its.Calm setting (begun ++ tooks h) h ask.Halt reply.Halted es) (sym says) its.halts ∣₁

    said_so : (h : List Entry) (f : Option TakeFault) (a : Ask) (r : Reply) (new : List Entry) → SaysAt stance opening h f a r new → ∥ its.RepliesAt setting (begun ++ tooks h) h f a r new ∥₁
    said_so h (Some kept) a r new says = ∣ says ∣₁
    said_so h None a r new says = calm_so h a r new says

    pub replies_so : (h : List Entry) (a : Ask) (r : Reply) (new : List Entry) → Says stance opening h a r new → its.replies setting begun h a r new
    replies_so h a r new says = said_so h (kept_fault h) a r new says

module _ (setting : Setting) (begun : List Event) where
  abbrev Claims : List Entry → Entry → Type 0
  Claims = ClaimedInTime setting begun

  -- a list that is this one
  each_same : (before es fs : List Entry) → es ≡ fs → EachIs Claims before fs → EachIs Claims before es
  each_same before es fs is each = subst (EachIs Claims before) (sym is) each

  each_more : (before es fs : List Entry) → EachIs Claims before es → EachIs Claims (before ++ es) fs → EachIs Claims before (es ++ fs)
  each_more before [] fs one more = subst (λ (b : List Entry). EachIs Claims b fs) (append-nil before) more
  each_more before (e ∷ es) fs one more = (one.0, each_more (before ++ e ∷ []) es fs one.1 (subst (λ (b : List Entry). EachIs Claims b fs) (sym (append_assoc before (e ∷ []) es)) more))

  -- no grant is a claim
  grants_claim : {events : List Event} {entries : List Entry} → its.GrantsBehind setting events entries → (before : List Entry) → EachIs Claims before entries
  grants_claim (its.none_due none) before = tt
  grants_claim (its.granted request executor due accepted more) before = (tt, grants_claim more (before ++ Took (Granted request executor) ∷ []))
  grants_claim (its.failed request executor Memory due may) before = (tt, tt)
  grants_claim (its.failed request executor Disk due may) before = (tt, tt)
  grants_claim (its.failed request executor (Full len add) due may) before = (tt, tt)
  grants_claim (its.failed request executor Stopped due may) before = absurd may
  grants_claim its.not_found before = (tt, tt)

  takes_claim : (events : List Event) (e : Event) (r : Result Taken TakeFault) (new : List Entry) → its.Takes setting events e r new → (before : List Entry) → EachIs Claims before new
  takes_claim events e (Ok Accepted) new t before = each_same before new (Took e ∷ t.0) t.3 (tt, grants_claim t.2 (before ++ Took e ∷ []))
  takes_claim events e (Ok NotOpen) new t before = each_same before new [] t.1 tt
  takes_claim events e (Ok (WrongPlace kept)) new t before = each_same before new [] t.1 tt
  takes_claim events e (Ok Finished) new t before = each_same before new [] t.1 tt
  takes_claim events e (Err Memory) new t before = each_same before new (Failed Memory None ∷ []) t.1 (tt, tt)
  takes_claim events e (Err Disk) new t before = each_same before new (Failed Disk (Some e) ∷ []) t.1 (tt, tt)
  takes_claim events e (Err (Full len add)) new t before = each_same before new (Failed (Full len add) (Some e) ∷ []) t.1 (tt, tt)
  takes_claim events e (Err Stopped) new t before = absurd t.0

  hears_claim : (events : List Event) (line : List ℕ) (r : Result Heard TakeFault) (new : List Entry) → its.Hears setting events line r new → (before : List Entry) → EachIs Claims before new
  hears_claim events line (Ok (Decided request)) new h before = each_same before new (Line line ∷ h.1) h.4 (tt, takes_claim events h.0 (Ok Accepted) h.1 h.3 (before ++ Line line ∷ []))
  hears_claim events line (Ok Skipped) new h before = each_same before new (Line line ∷ []) h.1 (tt, tt)
  hears_claim events line (Err Memory) new h before = each_same before new (Failed Memory None ∷ []) h (tt, tt)
  hears_claim events line (Err Disk) new h before = takes_claim events h.0 (Err Disk) new h.2 before
  hears_claim events line (Err (Full len add)) new h before = takes_claim events h.0 (Err (Full len add)) new h.2 before
  hears_claim events line (Err Stopped) new h before = takes_claim events h.0 (Err Stopped) new h.2 before

  claims_claim : (before : List Entry) (x : ℕ) (c : Claim) (new : List Entry) → ClaimSays (W.world_in setting (begun ++ tooks before)).shared.requests before x c new → EachIs Claims before new
  claims_claim before x (claim.Order order) new says =
      each_same before new (Claimed x says.0.number order.keep_out order.kept_log order.kept_out ∷ []) says.3 (found_task before x (W.world_in setting (begun ++ tooks before)).shared.requests says.0 says.1, tt)
  claims_claim before x (claim.Idle busy) new says = each_same before new [] says.3 tt
  claims_claim before x claim.Rest new says = each_same before new [] says.2 tt
  claims_claim before x claim.Memory new says = each_same before new [] says tt
  claims_claim before x claim.Stopped new says = absurd says

  calm_claim : (before : List Entry) (a : Ask) (r : Reply) (new : List Entry) → its.Calm setting (begun ++ tooks before) before a r new → EachIs Claims before new
  calm_claim before a r new (its.takes e answer none t) = takes_claim (begun ++ tooks before) e answer new t before
  calm_claim before a r new (its.claims x c says) = claims_claim before x c new says
  calm_claim before a r new (its.counts there waiting busy) = tt
  calm_claim before a r new (its.hears line answer none h) = hears_claim (begun ++ tooks before) line answer new h before
  calm_claim before a r new (its.looks come is) = tt
  calm_claim before a r new its.halts = (tt, tt)

  reply_claim : (before : List Entry) (f : Option TakeFault) (a : Ask) (r : Reply) (new : List Entry) → its.RepliesAt setting (begun ++ tooks before) before f a r new → EachIs Claims before new
  reply_claim before (Some kept) a r new says = each_same before new [] says.1 tt
  reply_claim before None a r new says = calm_claim before a r new says

  run_claim : (before : List Entry) (asked : List (Ask × Reply × List Entry)) (to : List Entry) → IsRun (its.replies setting) begun before asked to → EachIs Claims [] before → ∥ EachIs Claims [] to ∥₁
  run_claim before [] to run each = ∣ subst (EachIs Claims []) run each ∣₁
  run_claim before (x ∷ xs) to run each =
      ∥∥₁_elim run.0 ∥∥₁_prop (λ says. run_claim (before ++ x.2) xs to run.1 (each_more [] before x.2 each (reply_claim before (kept_fault before) x.0 x.1 x.2 says)))

  -- In a legal history each task was claimed while it was open.
  pub claimed_in_time : (h : List Entry) → IsLegal (its.replies setting) begun h → ∥ EachIs Claims [] h ∥₁
  claimed_in_time h legal = run_claim [] legal.0 h legal.1 tt
