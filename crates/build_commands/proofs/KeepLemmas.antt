-- What becomes of a store whose build is gone on with, whatever its records tell, and the two numbers of a full one.
use Rattle.std.proofs.Common.{◌≡◌, ◌⊎◌, ◌≤◌, ◌<◌, ◌+◌, ◌^◌, ◌∙◌, ℕ, zero, suc, Bool, true, false, List, [], ◌∷◌, ◌++◌, length, Option, Some, None, Result, Ok, Err, inl, inr, refl, sym, ap, subst, append-nil, ⊎_elim, arith}
use Rattle.std.specs.Prelude.{if◌then◌else◌, take as take_list}
use Rattle.std.specs.List.{AllByRecursion as AllAre}
use Rattle.jp_disk.proofs.MomentLemmas.{starts}
use Rattle.journal_core.specs.Records.{Has}
use Rattle.journal_core.proofs.StepLemmas.{stores_has}
use Rattle.build_life.specs.Lower.record_form.declared.record.EventRecord.{EventRecord}
use Rattle.image_form.specs.declared.image.Image.{Image}
use Rattle.build_life.specs.Lower.store_laws.Store.{Told as TellsRecords, events_of, last_image}
use Rattle.build_life.proofs.Lower.store_laws.Payloads.{image_behind_more, image_of_last, told_append, told_last}
use Rattle.build_life.proofs.Lower.durable_build.TakeLemmas.{stands_last}
use Rattle.program_lock.specs.declared.program.Memory.{Memory as NoMemory}
use Rattle.journal_core.specs.declared.faults.TakeFault.{TakeFault}
use Rattle.journal_core.specs.declared.faults.TakeFault.TheVariants as take
use Rattle.agent_worker.specs.declared.member.Member.{Member}
use Rattle.agent_worker.specs.Gate.{Told, told_at}
use Rattle.model_run.specs.declared.event.Event.{Event}
use Rattle.model_run.specs.declared.result.BuildResult.TheVariants.{Success, Unstable, Failure, NotBuilt, Aborted}
use Rattle.model_run.specs.State.{Setting}
use Rattle.model_run.specs.World.{Build}
use Rattle.settle_laws.specs.Stances.{Stance}
use Rattle.build_life.specs.Lower.build_core.Builds.{Parts, StandsFor, setting_in}
use Rattle.build_life.specs.Lower.build_core.Phases.{has_begun}
use Rattle.build_life.specs.Lower.build_images.Images.{image_in}
use Rattle.build_life.specs.Lower.delta_records.declared.weights.Weights.{Weights}
use Rattle.build_life.specs.Lower.durable_build.Kinds.{weights_of}
use Rattle.build_life.specs.Lower.durable_build.Standing.{Closing, IsWhole, Keeps, Kept, StandsBy}
use Rattle.build_life.specs.declared.resting.Rest.{Rest}
use Rattle.build_life.specs.declared.resting.Rest.TheVariants.{Ended, Waits, AnswersFailed}
use Rattle.build_commands.specs.Statuses.{HasLog, result_status}
use Rattle.build_life.specs.Lower.locked_build.declared.ask.Entry.{Entry}
use Rattle.build_life.specs.Lower.locked_build.declared.ask.Entry.TheVariants.{Took, Claimed, Line, Failed}
use Rattle.build_life.specs.Lower.locked_build.declared.ask.Progress.{Progress}
use Rattle.build_life.specs.Lower.locked_build.Facts.{Facts, Grown, HasFront, IsFull, IsFullAt}
use Rattle.build_life.specs.Lower.locked_build.Grants.{Grants, OpenRefuses, granted, none_due, not_found, refused}
use Rattle.build_life.specs.Lower.locked_build.Histories.{kept_fault, pending, tooks}
use Rattle.build_life.proofs.Lower.locked_build.HistoryLaws.{kept_fault-append, no_fault, pending-append, tooks-append}
use Rattle.build_life.specs.Lower.member_turns.Tales.{asked_for, is_grant, told_of}
use Rattle.build_life.proofs.Lower.member_turns.TaleLemmas.{grants_silent}
use Rattle.build_life.specs.Ending.{ended_as}
use Rattle.build_life.proofs.StoreLemmas.{no_payloads, no_records, told_take}
use Rattle.build_life.proofs.WalkLemmas.{all_behind}
use Rattle.build_commands.specs.declared.refusal.Refusal.{Refusal}
use Rattle.build_commands.specs.declared.end_text.EndText.{EndText}
use Rattle.build_commands.specs.declared.end_text.EndText.TheVariants as end
use Rattle.build_commands.specs.Finishing.{TellsEnd, TellsRest}
use Rattle.build_commands.specs.Refusals.{SaysTake, refusal_status, refusal_text}
use Rattle.build_commands.specs.Reporting.{AreGrants, EndsWhole, IsBroken, IsFullBehind, IsNoted, IsTooLong, KeepsRecords, ShowsEnd, image_status, length_with}
use Rattle.build_commands.specs.Texts.{full_text}
use Rattle.build_commands.specs.Writing as writing
use Rattle.build_commands.specs.Writing.{Tells, Writes}
use Rattle.build_commands.proofs.FinishLemmas.{broken_status}
use Rattle.jp_disk.specs.View.{DiskLaws, DiskView}

-- At most one event is kept from the disk by a fault, and none but by a fault of the disk.
few_pending : (h : List Entry) → length (pending h) ≤ 1
few_pending [] = omega arith
few_pending (Took e ∷ h) = few_pending h
few_pending (Claimed executor task keep_out kept_log kept_out ∷ h) = few_pending h
few_pending (Line line ∷ h) = few_pending h
few_pending (Failed take.Disk (Some e) ∷ h) = omega arith
few_pending (Failed take.Disk None ∷ h) = omega arith
few_pending (Failed take.Memory event ∷ h) = omega arith
few_pending (Failed (take.Full len add) event ∷ h) = omega arith
few_pending (Failed take.Stopped event ∷ h) = omega arith

not_risked : (h : List Entry) → (kept_fault h ≡ Some take.Disk → ⊥) → pending h ≡ []
not_risked [] never = refl
not_risked (Took e ∷ h) never = not_risked h never
not_risked (Claimed executor task keep_out kept_log kept_out ∷ h) never = not_risked h never
not_risked (Line line ∷ h) never = not_risked h never
not_risked (Failed take.Disk event ∷ h) never = absurd (never refl)
not_risked (Failed take.Memory event ∷ h) never = refl
not_risked (Failed (take.Full len add) event ∷ h) never = refl
not_risked (Failed take.Stopped event ∷ h) never = refl

as_many : (before : Option Image) (rs : List EventRecord) (ps : List (List ℕ)) → TellsRecords before rs ps → length ps ≡ length (events_of rs)
as_many before [] [] all = refl
as_many before [] (p ∷ ps) all = absurd all
as_many before (r ∷ rs) [] all = absurd all
as_many before (r ∷ rs) (p ∷ ps) all = ap suc (as_many (Some r.image) rs ps all.1)

same_fault : (f g : TakeFault) → Some f ≡ Some g → f ≡ g
same_fault f g is = cc

-- what was taken at an opening, and what failed there, are grants
grants_tell : {T : Type 0} {stance : T → Stance} {b : Parts T} {es : List Entry} → Grants stance b es → AreGrants (tooks es) × AreGrants (pending es)
grants_tell (none_due settled) = (tt, tt)
grants_tell (granted request executor is next more) = let g = grants_tell more in ((refl, g.0), g.1)
grants_tell (refused request executor take.Memory is may) = (tt, tt)
grants_tell (refused request executor take.Disk is may) = (tt, (refl, tt))
grants_tell (refused request executor (take.Full len add) is may) = (tt, tt)
grants_tell (refused request executor take.Stopped is may) = (tt, tt)
grants_tell not_found = (tt, tt)

-- The event whose record did not fit into the journal, in a history that keeps that fault: a grant, or it was asked for.
record RefusedFull {D T : Type 0} (stance : T → Stance) (w : Weights) (before : Option Image) (now : Kept D T) (Asked : Told → Type 0) (h : List Entry) (at add : ℕ) : Type 0 where
  event : Event
  asked : (is_grant event ≡ true) ⊎ Asked (told_at event false)
  is : IsFull stance w before now (take.Full at add) (Some event)
  noted : IsNoted h at add event

module _ {D T : Type 0} (stance : T → Stance) (w : Weights) (before : Option Image) (now : Kept D T) where
  full_behind : (made h : List Entry) → kept_fault made ≡ None → IsFullAt stance w before now (made ++ h) → IsFullAt stance w before now h
  full_behind [] h none full = full
  full_behind (Took e ∷ made) h none full = full_behind made h none full
  full_behind (Claimed executor task keep_out kept_log kept_out ∷ made) h none full = full_behind made h none full
  full_behind (Line line ∷ made) h none full = full_behind made h none full
  full_behind (Failed fault event ∷ made) h none full = absurd (no_fault fault none)

  module _ (Asked : Told → Type 0) where
    asked_one : (e : Event) (rest : List Told) → AllAre Asked (asked_for e false ++ rest) → (is_grant e ≡ true) ⊎ Asked (told_at e false)
    asked_one e rest all = by (is_grant e) refl all
      where
        by : (grant : Bool) → is_grant e ≡ grant → AllAre Asked ((if is_grant e then [] else told_at e false ∷ []) ++ rest) → (is_grant e ≡ true) ⊎ Asked (told_at e false)
        by true is one = inl is
        by false is one = inr ((subst (λ (g : Bool). AllAre Asked ((if g then [] else told_at e false ∷ []) ++ rest)) is one).0)

    refused_one : (fault : TakeFault) (event : Option Event) (rest : List Entry) (at add : ℕ) → fault ≡ take.Full at add → IsFull stance w before now fault event → AllAre Asked (told_of (Failed fault event ∷ rest)) → RefusedFull stance w before now Asked (Failed fault event ∷ rest) at add
    refused_one fault None rest at add is full told = absurd (subst (λ (f : TakeFault). IsFull stance w before now f None) is full)
    refused_one fault (Some e) rest at add is full told =
        record { event = e; asked = asked_one e (told_of rest) told; is = subst (λ (f : TakeFault). IsFull stance w before now f (Some e)) is full; noted = ([], rest, ap (λ (f : TakeFault). Failed f (Some e) ∷ rest) is) }

    refused_behind : (entry : Entry) (h : List Entry) (at add : ℕ) → RefusedFull stance w before now Asked h at add → RefusedFull stance w before now Asked (entry ∷ h) at add
    refused_behind entry h at add r = record { event = r.event; asked = r.asked; is = r.is; noted = (entry ∷ r.noted.0, r.noted.1, ap (λ (es : List Entry). entry ∷ es) r.noted.2) }

    refused_full : (h : List Entry) (at add : ℕ) → kept_fault h ≡ Some (take.Full at add) → IsFullAt stance w before now h → AllAre Asked (told_of h) → RefusedFull stance w before now Asked h at add
    refused_full [] at add is full told = absurd (no_fault (take.Full at add) (sym is))
    refused_full (Took e ∷ h) at add is full told = refused_behind (Took e) h at add (refused_full h at add is full (all_behind Asked (asked_for e true) (told_of h) told))
    refused_full (Claimed executor task keep_out kept_log kept_out ∷ h) at add is full told = refused_behind (Claimed executor task keep_out kept_log kept_out) h at add (refused_full h at add is full told)
    refused_full (Line line ∷ h) at add is full told = refused_behind (Line line) h at add (refused_full h at add is full told)
    refused_full (Failed fault event ∷ h) at add is full told = refused_one fault event h at add (same_fault fault (take.Full at add) is) full told

-- The last image of records of whole ones, behind a whole one, is whole.
last_whole : (setting : Setting) (first : Image) (rs : List EventRecord) → IsWhole setting first → AllAre (λ (r : EventRecord). IsWhole setting r.image) rs → (image : Image) × (image_of_last (Some first) rs ≡ Some image) × IsWhole setting image
last_whole setting first [] whole all = (first, refl, whole)
last_whole setting first (r ∷ rs) whole all = last_whole setting r.image rs all.0 all.1

whole_take : (setting : Setting) (k : ℕ) (rs : List EventRecord) → AllAre (λ (r : EventRecord). IsWhole setting r.image) rs → AllAre (λ (r : EventRecord). IsWhole setting r.image) (take_list k rs)
whole_take setting zero rs all = tt
whole_take setting (suc k) [] all = tt
whole_take setting (suc k) (r ∷ rs) all = (all.0, whole_take setting k rs all.1)

module _ {D T : Type 0} (disk : DiskView D) (stance : T → Stance) (k : Kept D T) (payloads : List (List ℕ)) (begun : has_begun k.build.phase ≡ true) (keeps : Keeps disk stance k payloads) where
  -- a build that has begun stands by the image of its last record
  closes_so : Closing (image_in stance k.build) payloads
  closes_so = sym (stands_last stance k.build k.script k.agents payloads keeps.stands) ∙ ap (λ (b : Bool). if b then Some (image_in stance k.build) else None) begun

  -- Where that is whole, and so are those of records behind it, the last image of the first ones of these is.
  sound_so : IsWhole (setting_in k.build) (image_in stance k.build) → (rs : List EventRecord) (ps : List (List ℕ)) → TellsRecords (last_image payloads) rs ps → AllAre (λ (r : EventRecord). IsWhole (setting_in k.build) r.image) rs
      → (n : ℕ) → EndsWhole (setting_in k.build) (payloads ++ take_list n ps)
  sound_so whole rs ps told all n =
      let last = last_whole (setting_in k.build) (image_in stance k.build) (take_list n rs) whole (whole_take (setting_in k.build) n rs all) in (
        last.0,
        image_behind_more None payloads (take_list n ps) ∙ told_last (last_image payloads) (take_list n rs) (take_list n ps) (told_take n (last_image payloads) rs ps told)
            ∙ ap (λ (o : Option Image). image_of_last o (take_list n rs)) closes_so ∙ last.1,
        last.2,
      )

-- why a life rests tells that it keeps no fault, and its fault is the kept one, but for want of memory
rest_keeps : {H A : Type 0} (o : Option TakeFault) (how : Result Progress NoMemory) (members : List (Member H A)) (rest : Rest) → Ok rest ≡ ended_as o how members → o ≡ None
rest_keeps None how members rest is = refl
rest_keeps (Some f) how members rest is = absurd (cc)

full_kept : {H A : Type 0} (o : Option TakeFault) (how : Result Progress NoMemory) (members : List (Member H A)) (at add : ℕ) → Err (take.Full at add) ≡ ended_as o how members → o ≡ Some (take.Full at add)
full_kept None (Ok come) members at add is = absurd (cc)
full_kept None (Err wanted) members at add is = absurd (cc)
full_kept (Some f) how members at add is = cc

log_not_full : (n : ℕ) → HasLog n → n ≡ 14 → ⊥
log_not_full n (inl (Success, is)) fourteen = omega (arith, is, fourteen)
log_not_full n (inl (Failure, is)) fourteen = omega (arith, is, fourteen)
log_not_full n (inl (Unstable, is)) fourteen = omega (arith, is, fourteen)
log_not_full n (inl (NotBuilt, is)) fourteen = omega (arith, is, fourteen)
log_not_full n (inl (Aborted, is)) fourteen = omega (arith, is, fourteen)
log_not_full n (inr is) fourteen = omega (arith, is, fourteen)

written_not_full : {old new : Option (List ℕ)} {a b n m : ℕ} {text : List ℕ} → Writes old new a b text n m → HasLog n → m ≡ 14 → ⊥
written_not_full {n = n} (writing.whole appends calm) log fourteen = log_not_full n log fourteen
written_not_full (writing.cut part rose) log fourteen = omega (arith, fourteen)

module _ (wrote now_written : Option (List ℕ)) (c d status : ℕ) where
  -- the two numbers of a refusal with 14
  record ToldFull (fault : TakeFault) : Type 0 where
    at : ℕ
    add : ℕ
    is : fault ≡ take.Full at add
    tells : Tells wrote now_written c d (full_text at add)

  broken_full : (f : TakeFault) (r : Refusal) → SaysTake f r → status ≡ refusal_status r → Tells wrote now_written c d (refusal_text r) → status ≡ 14 → ToldFull f
  broken_full take.Memory r says is told fourteen = let eight : status ≡ 8 = is ∙ ap refusal_status says in absurd (omega (arith, eight, fourteen))
  broken_full take.Disk r says is told fourteen = let five : status ≡ 5 = is ∙ ap refusal_status says in absurd (omega (arith, five, fourteen))
  broken_full take.Stopped r says is told fourteen = let eight : status ≡ 8 = is ∙ ap refusal_status says in absurd (omega (arith, eight, fourteen))
  broken_full (take.Full at add) r (inl none) is told fourteen = let eight : status ≡ 8 = is ∙ ap refusal_status none in absurd (omega (arith, eight, fourteen))
  broken_full (take.Full at add) r (inr same) is told fourteen = record { at = at; add = add; is = refl; tells = subst (λ (text : List ℕ). Tells wrote now_written c d text) same.1 told }

  broken_disk : (r : Refusal) → SaysTake take.Disk r → status ≡ refusal_status r → status ≡ 5
  broken_disk r says is = is ∙ ap refusal_status says

  module _ (kind : EndText) (records : ℕ) (Stands : Build → Type 0) (image : Image) where
    rest_not_full : TellsRest kind records Stands image wrote now_written c d status → status ≡ 14 → ⊥
    rest_not_full (inl told) fourteen = written_not_full told.wrote told.known fourteen
    rest_not_full (inr wanting) fourteen = let eight : status ≡ 8 = wanting.0 in omega (arith, eight, fourteen)

    end_full : (ended : Result Rest TakeFault) → TellsEnd kind records Stands image wrote now_written c d ended status → status ≡ 14 → (fault : TakeFault) × (ended ≡ Err fault) × ToldFull fault
    end_full (Ok AnswersFailed) told fourteen = let six : status ≡ 6 = told.0 in absurd (omega (arith, six, fourteen))
    end_full (Ok Ended) told fourteen = absurd (rest_not_full told fourteen)
    end_full (Ok Waits) told fourteen = absurd (rest_not_full told fourteen)
    end_full (Err f) told fourteen = (f, refl, broken_full f told.0 told.1 told.2 told.3 fourteen)

    end_disk : (ended : Result Rest TakeFault) → ended ≡ Err take.Disk → TellsEnd kind records Stands image wrote now_written c d ended status → status ≡ 5
    end_disk ended is told = let t = subst (λ (e : Result Rest TakeFault). TellsEnd kind records Stands image wrote now_written c d e status) is told in broken_disk t.0 t.1 t.2

  -- the record did not fit, by the journal and the image of now
  too_long : {D T : Type 0} (stance : T → Stance) (w : Weights) (before : Option Image) (now : Kept D T) (Asked : Event → Type 0) (Idle : Type 0) (history : List Entry) (at add : ℕ) (event : Event) → (is_grant event ≡ true) ⊎ Asked event
      → IsFull stance w before now (take.Full at add) (Some event) → IsNoted history at add event ⊎ ((history ≡ []) × Idle × (is_grant event ≡ true)) → Tells wrote now_written c d (full_text at add) → IsTooLong Asked Idle history wrote now_written c d
  too_long stance w before now Asked Idle history at add event asked full noted tells = record {
    event = event;
    asked = asked;
    before = before;
    image = image_in stance now.build;
    len = at;
    add = add;
    weights = w;
    adds = full.2;
    noted = noted;
    too_long = full.1;
    told = tells;
  }

module _ {D T : Type 0} (disk : DiskView D) (stance : T → Stance) (old kept : Kept D T) (payloads : List (List ℕ))
    (kind : EndText) (records : ℕ) (wrote now_written : Option (List ℕ)) (c d status : ℕ) where
  abbrev KeptSo : List Entry → Type 0
  KeptSo history = KeepsRecords disk (setting_in old.build) old.journal.disk payloads history kept.journal.disk wrote now_written c d status

  abbrev ShownSo : List (List ℕ) → Type 0
  ShownSo all = IsBroken status ⊎ ShowsEnd (setting_in old.build) all wrote now_written c d status

  -- the record that was due behind these records did not fit
  full_so : (ps : List (List ℕ)) (history : List Entry) (at add : ℕ) (event : Event) → kept.journal.len ≡ length_with ps → IsFull stance (weights_of ps) (last_image ps) kept (take.Full at add) (Some event)
      → IsNoted history at add event ⊎ ((history ≡ []) × (is_grant event ≡ true)) → Tells wrote now_written c d (full_text at add) → IsFullBehind ps history wrote now_written c d
  full_so ps history at add event ends full noted tells =
      let is : at ≡ length_with ps = full.0 ∙ ends in
      record {
        event = event;
        image = image_in stance kept.build;
        add = add;
        adds = full.2;
        noted = subst (λ (n : ℕ). IsNoted history n add event ⊎ ((history ≡ []) × (is_grant event ≡ true))) is noted;
        too_long = subst (λ (n : ℕ). 2 ^ 30 < n + add) is full.1;
        told = subst (λ (n : ℕ). Tells wrote now_written c d (full_text n add)) is tells;
      }

  -- of what was taken and what failed, the history tells all but the grants of the opening
  record Splits (all history : List Entry) : Type 0 where
    grants : List Event
    are_grants : AreGrants grants
    taken : tooks all ≡ grants ++ tooks history
    risked : (pending all ≡ pending history) ⊎ ((history ≡ []) × AreGrants (pending all))

  kept_by : (all history : List Entry) → ((rs : List EventRecord) (ps : List (List ℕ)) → TellsRecords (last_image payloads) rs ps → AllAre (λ (r : EventRecord). IsWhole (setting_in old.build) r.image) rs → (n : ℕ) → EndsWhole (setting_in old.build) (payloads ++ take_list n ps))
      → Splits all history → (kept_fault all ≡ Some take.Disk → status ≡ 5) → (g : Grown disk stance old kept all payloads)
      → ShownSo (payloads ++ g.added) → (status ≡ 14 → IsFullBehind (payloads ++ g.added) history wrote now_written c d) → KeptSo history
  kept_by all history sound s five g shown full = record {
    more = g.added;
    taken = record { granted = s.grants; are_grants = s.are_grants; records = g.records; events = g.events ∙ s.taken; spelled = g.spelled };
    risked = g.last;
    at_risk = record {
      records = g.last_records;
      events = ⊎_elim (λ same. inl (g.last_events ∙ same)) (λ opening. inr (opening.0, subst AreGrants (sym g.last_events) opening.1)) s.risked;
      spelled = g.last_spelled;
    };
    one = subst (λ (n : ℕ). n ≤ 1) (sym (as_many (last_image (payloads ++ g.added)) g.last_records g.last g.last_spelled ∙ ap length g.last_events)) (few_pending all);
    sure = λ other. no_payloads (last_image (payloads ++ g.added)) g.last_records g.last (no_records g.last_records (g.last_events ∙ not_risked all (λ is. other (five is)))) g.last_spelled;
    at_end = g.images;
    moments = g.moments;
    sound = sound (g.records ++ g.last_records) (g.added ++ g.last)
        (told_append (last_image payloads) g.records g.last_records g.added g.last g.spelled (subst (λ (o : Option Image). TellsRecords o g.last_records g.last) (image_behind_more None payloads g.added) g.last_spelled)) g.whole;
    shown = shown;
    full = full;
  }

  -- a build that had begun and kept these records ends in the image of the build that stands by them and others behind them
  ends_in : (ps more : List (List ℕ)) → has_begun old.build.phase ≡ true → StandsBy stance old.build old.script old.agents ps → StandsBy stance kept.build kept.script kept.agents (ps ++ more) → Closing (image_in stance kept.build) (ps ++ more)
  ends_in [] more begun stands now = let bad : true ≡ false = sym begun ∙ stands.0 in absurd (cc)
  ends_in (p ∷ ps) more begun stands now = now.2

  abbrev EndSo : Result Rest TakeFault → Type 0
  EndSo ended = TellsEnd kind records (StandsFor stance kept.build) (image_in stance kept.build) wrote now_written c d ended status

  rest_shown : kind ≡ end.Log → TellsRest kind records (StandsFor stance kept.build) (image_in stance kept.build) wrote now_written c d status → (all : List (List ℕ)) → Closing (image_in stance kept.build) all × IsWhole (setting_in old.build) (image_in stance kept.build) → ShownSo all
  rest_shown log (inr wanting) all ends = inl (inr (inr (inr wanting.0)))
  rest_shown log (inl told) all ends = inr (record {
    image = image_in stance kept.build;
    ends = ends.0;
    whole = ends.1;
    wrote = subst (λ (l : List ℕ). Writes wrote now_written c d l (image_status (image_in stance kept.build)) status) (told.shown log)
        (subst (λ (n : ℕ). Writes wrote now_written c d told.text n status) told.by_image told.wrote);
  })

  end_shown : kind ≡ end.Log → (ended : Result Rest TakeFault) (all : List (List ℕ)) → EndSo ended → ((rest : Rest) → ended ≡ Ok rest → Closing (image_in stance kept.build) all × IsWhole (setting_in old.build) (image_in stance kept.build)) → ShownSo all
  end_shown log (Ok AnswersFailed) all told ends = inl (inl told.0)
  end_shown log (Ok Ended) all told ends = rest_shown log told all (ends Ended refl)
  end_shown log (Ok Waits) all told ends = rest_shown log told all (ends Waits refl)
  end_shown log (Err f) all told ends = inl (subst IsBroken (sym told.2) (broken_status f told.0 told.1))

  -- a life that was led, behind the grants of its opening
  module _ {H A : Type 0} (made history : List Entry) (grants : Grants stance old.build made) (none : kept_fault made ≡ None) (facts : Facts disk stance old kept (made ++ history))
      (how : Result Progress NoMemory) (members : List (Member H A)) (ended : Result Rest TakeFault) (is : ended ≡ ended_as (kept_fault history) how members) (told : EndSo ended) where
    life_full : (w : Weights) (before : Option Image) → IsFullAt stance w before kept (made ++ history) → (Asked : Told → Type 0) → AllAre Asked (told_of history) → status ≡ 14
        → (at : ℕ) × (add : ℕ) × RefusedFull stance w before kept Asked history at add × Tells wrote now_written c d (full_text at add)
    life_full w before full Asked all fourteen =
        let f = end_full wrote now_written c d status kind records (StandsFor stance kept.build) (image_in stance kept.build) ended told fourteen in
        let fault : kept_fault history ≡ Some (take.Full f.2.at f.2.add) = full_kept (kept_fault history) how members f.2.at f.2.add (sym (f.1 ∙ ap Err f.2.is) ∙ is) in
        (f.2.at, f.2.add, refused_full stance w before kept Asked history f.2.at f.2.add fault (full_behind stance w before kept made history none full) all, f.2.tells)

    pub life_long : (Asked : Told → Type 0) (Idle : Type 0) → AllAre Asked (told_of history) → status ≡ 14 → IsTooLong (λ e. Asked (told_at e false)) Idle history wrote now_written c d
    life_long Asked Idle all fourteen =
        let f = life_full kept.weights facts.full.0 facts.full.1 Asked all fourteen in
        too_long wrote now_written c d status stance kept.weights facts.full.0 kept (λ e. Asked (told_at e false)) Idle history f.0 f.1 f.2.event f.2.asked f.2.is (inl f.2.noted) f.3

    any_told : (ts : List Told) → AllAre (λ (t : Told). Unit {0}) ts
    any_told [] = tt
    any_told (t ∷ ts) = (tt, any_told ts)

    life_splits : Splits (made ++ history) history
    life_splits = record { grants = tooks made; are_grants = (grants_tell grants).0; taken = tooks-append made history; risked = inl (pending-append made history none) }

    pub life_kept : kind ≡ end.Log → has_begun old.build.phase ≡ true → IsWhole (setting_in old.build) (image_in stance old.build) → (kept.stopped ≡ false → has_begun kept.build.phase ≡ true → IsWhole (setting_in kept.build) (image_in stance kept.build)) → Keeps disk stance old payloads → KeptSo history
    life_kept log begun first whole keeps =
        let g = facts.grown payloads keeps in
        let same = kept_fault-append made history none in
        let calm : (rest : Rest) → ended ≡ Ok rest → kept_fault (made ++ history) ≡ None = λ rest rests. same ∙ rest_keeps (kept_fault history) how members rest (sym rests ∙ is) in
        kept_by (made ++ history) history (sound_so disk stance old payloads begun keeps first) life_splits
        (λ state. end_disk wrote now_written c d status kind records (StandsFor stance kept.build) (image_in stance kept.build) ended (is ∙ ap (λ (o : Option TakeFault). ended_as o how members) (sym same ∙ state)) told) g
        (end_shown log ended (payloads ++ g.added) told (λ rest rests.
        let none_now = calm rest rests in
        let shown = facts.shown none_now in
        (ends_in payloads g.added begun keeps.stands (g.keeps none_now).stands, subst (λ (s : Setting). IsWhole s (image_in stance kept.build)) shown.setting (whole (facts.running none_now) shown.begun))))
        (λ fourteen.
        let all = payloads ++ g.added in
        let f = life_full (weights_of all) (last_image all) g.full (λ (t : Told). Unit {0}) (any_told (told_of history)) fourteen in
        full_so all history f.0 f.1 f.2.event g.ends f.2.is (inl f.2.noted) f.3)

  -- a life whose opening was refused
  module _ (made : List Entry) (facts : Facts disk stance old kept made) (fault : TakeFault) (refuses : OpenRefuses stance old kept made fault)
      (r : Refusal) (says : SaysTake fault r) (is : status ≡ refusal_status r) (told : Tells wrote now_written c d (refusal_text r)) where
    opening_fault : OpenRefuses stance old kept made fault → (f : TakeFault) → kept_fault made ≡ Some f → fault ≡ f
    opening_fault (inl grants) f kept_is = same_fault fault f (sym grants.1 ∙ kept_is)
    opening_fault (inr nothing) f kept_is = absurd (no_fault f (sym kept_is ∙ ap kept_fault nothing.0))

    opening_full : (w : Weights) (before : Option Image) → IsFullAt stance w before kept made → OpenRefuses stance old kept made fault → (at add : ℕ) → fault ≡ take.Full at add → RefusedFull stance w before kept (λ (t : Told). ⊥) made at add
    opening_full w before full (inl grants) at add full_is = refused_full stance w before kept (λ (t : Told). ⊥) made at add (grants.1 ∙ ap Some full_is) full (subst (AllAre (λ (t : Told). ⊥)) (sym (grants_silent grants.0).told) tt)
    opening_full w before full (inr nothing) at add full_is = let bad : take.Memory ≡ take.Full at add = sym nothing.2 ∙ full_is in absurd (cc)

    grant_of_opening : (w : Weights) (before : Option Image) (at add : ℕ) (f : RefusedFull stance w before kept (λ (t : Told). ⊥) made at add) → is_grant f.event ≡ true
    grant_of_opening w before at add f = ⊎_elim (λ it. it) (λ never. absurd never) f.asked

    pub opening_long : (Asked : Event → Type 0) (Idle : Type 0) → Idle → (history : List Entry) → history ≡ [] → status ≡ 14 → IsTooLong Asked Idle history wrote now_written c d
    opening_long Asked Idle idle history empty fourteen =
        let f = broken_full wrote now_written c d status fault r says is told fourteen in
        let full = opening_full kept.weights facts.full.0 facts.full.1 refuses f.at f.add f.is in
        let grant = grant_of_opening kept.weights facts.full.0 f.at f.add full in
        too_long wrote now_written c d status stance kept.weights facts.full.0 kept Asked Idle history f.at f.add full.event (inl grant) full.is (inr (empty, idle, grant)) f.tells

    opening_tells : OpenRefuses stance old kept made fault → AreGrants (tooks made) × AreGrants (pending made)
    opening_tells (inl grants) = grants_tell grants.0
    opening_tells (inr nothing) = subst (λ (es : List Entry). AreGrants (tooks es) × AreGrants (pending es)) (sym nothing.0) (tt, tt)

    opening_splits : (history : List Entry) → history ≡ [] → Splits made history
    opening_splits history empty = record {
      grants = tooks made;
      are_grants = (opening_tells refuses).0;
      taken = sym (append-nil (tooks made)) ∙ ap (λ (es : List Entry). tooks made ++ tooks es) (sym empty);
      risked = inr (empty, (opening_tells refuses).1);
    }

    pub opening_kept : has_begun old.build.phase ≡ true → IsWhole (setting_in old.build) (image_in stance old.build) → (history : List Entry) → history ≡ [] → Keeps disk stance old payloads → KeptSo history
    opening_kept begun first history empty keeps =
        let g = facts.grown payloads keeps in
        kept_by made history (sound_so disk stance old payloads begun keeps first) (opening_splits history empty) (λ state. broken_disk wrote now_written c d status r (subst (λ (f : TakeFault). SaysTake f r) (opening_fault refuses take.Disk state) says) is) g
        (inl (subst IsBroken (sym is) (broken_status fault r says)))
        (λ fourteen.
        let all = payloads ++ g.added in
        let f = broken_full wrote now_written c d status fault r says is told fourteen in
        let full = opening_full (weights_of all) (last_image all) g.full refuses f.at f.add f.is in
        full_so all history f.at f.add full.event g.ends full.is (inr (empty, grant_of_opening (weights_of all) (last_image all) f.at f.add full)) f.tells)

-- Nothing was done.
pub nothing_kept : {D T : Type 0} (disk : DiskView D) → DiskLaws disk → (stance : T → Stance) (kept : Kept D T)
    (payloads : List (List ℕ)) (history : List Entry) (wrote now_written : Option (List ℕ)) (c d status : ℕ) → has_begun kept.build.phase ≡ true → IsWhole (setting_in kept.build) (image_in stance kept.build) → Keeps disk stance kept payloads → history ≡ [] → status ≡ 8
    → KeepsRecords disk (setting_in kept.build) kept.journal.disk payloads history kept.journal.disk wrote now_written c d status
nothing_kept disk laws stance kept payloads history wrote now_written c d status begun first keeps empty eight =
    let has : (image : List ℕ) → disk.may_leave kept.journal.disk image → Has (payloads ++ []) image =
    λ image left. subst (λ (ps : List (List ℕ)). Has ps image) (sym (append-nil payloads)) (stores_has disk kept.journal.disk kept.journal.len payloads image keeps.holds left) in
    record {
      more = [];
      taken = record { granted = []; are_grants = tt; records = []; events = sym (ap tooks empty); spelled = tt };
      risked = [];
      at_risk = record { records = []; events = inl (sym (ap pending empty)); spelled = tt };
      one = omega arith;
      sure = λ other. refl;
      at_end = λ image left. inl (has image left);
      moments = starts disk kept.journal.disk (HasFront payloads []) (λ image left. (0, has image (laws.only_now kept.journal.disk image left)));
      sound = sound_so disk stance kept payloads begun keeps first [] [] tt tt;
      shown = inl (inr (inr (inr eight)));
      full = λ fourteen. absurd (omega (arith, eight, fourteen));
    }
