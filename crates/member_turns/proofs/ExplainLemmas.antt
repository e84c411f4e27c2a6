-- Where the events of a life come from.
use Rattle.std.proofs.Common.{◌≡◌, ◌⊎◌, ⊎_elim, inl, inr, ℕ, Bool, true, false, List, [], ◌∷◌, ◌++◌, Option, Some, None, Result, Ok, Err, refl, ap, subst}
use Rattle.std.specs.List.{AllByRecursion as AllAre}
use Rattle.std.specs.Prelude.{if◌then◌else◌}
use Rattle.model_run.specs.declared.event.Event.{Event}
use Rattle.journal_core.specs.declared.faults.TakeFault.{TakeFault}
use Rattle.journal_core.specs.declared.faults.TakeFault.TheVariants.{Memory, Disk, Full, Stopped}
use Rattle.agent_worker.specs.declared.gate.Heard.{Heard}
use Rattle.agent_worker.specs.declared.gate.Heard.TheVariants.{Decided, Skipped}
use Rattle.agent_worker.specs.declared.gate.GateCall.{GateCall}
use Rattle.agent_worker.specs.declared.gate.Said.{Said}
use Rattle.agent_worker.specs.declared.member.Member.{Member}
use Rattle.agent_worker.specs.declared.member.Member.TheVariants.{Executor, Operator}
use Rattle.agent_worker.specs.declared.worked.Worked.{Worked}
use Rattle.agent_worker.specs.Gate.{Told, told_at, Decides, IsToldOf}
use Rattle.agent_worker.specs.Operating.{Ask, Asked, Reads, Given, Halted, AreToldOf, given_in}
use Rattle.member_turns.specs.Lower.locked_build.declared.ask.Entry.{Entry}
use Rattle.member_turns.specs.Lower.locked_build.declared.ask.Entry.TheVariants.{Took, Claimed, Line, Failed}
use Rattle.member_turns.specs.Lower.locked_build.Histories.{tooks, at_risk, pending}
use Rattle.member_turns.specs.Tales.{is_grant, asked_for, failed_of, told_of}
use Rattle.member_turns.specs.Turning.{IsCausedBy}
use Rattle.member_turns.proofs.PartLemmas.{all_append, all_map}
use Rattle.member_turns.specs.Turns.{Turn, IsIn, HoldsOfOne, MadeOf, DidTurn, Explains, IsExplained}
use Rattle.member_turns.proofs.MadeLemmas.{all_merged}
use Rattle.task_host.specs.View.{HostView}
use Rattle.jp_io.specs.View.{SourceView}

module _ {A : Type 0} where
  in_first : (x : A) (xs ys : List A) → IsIn x xs → IsIn x (xs ++ ys)
  in_first x [] ys is = absurd is
  in_first x (y ∷ xs) ys (inl is) = inl is
  in_first x (y ∷ xs) ys (inr is) = inr (in_first x xs ys is)

  in_second : (x : A) (xs ys : List A) → IsIn x ys → IsIn x (xs ++ ys)
  in_second x [] ys is = is
  in_second x (y ∷ xs) ys is = inr (in_second x xs ys is)

  in_either : (x : A) (xs ys : List A) → IsIn x (xs ++ ys) → IsIn x xs ⊎ IsIn x ys
  in_either x [] ys is = inr is
  in_either x (y ∷ xs) ys (inl is) = inl (inl is)
  in_either x (y ∷ xs) ys (inr is) = ⊎_elim (λ (one : IsIn x xs). inl (inr one)) (λ (two : IsIn x ys). inr two) (in_either x xs ys is)

  of_one : (P : A → Type 0) (x : A) (xs : List A) → AllAre P xs → IsIn x xs → P x
  of_one P x [] all is = absurd is
  of_one P x (y ∷ xs) all (inl is) = subst P is all.0
  of_one P x (y ∷ xs) all (inr is) = of_one P x xs all.1 is

-- what an entry tells
abbrev told_by : Entry → List Told
told_by (Took e) = asked_for e true
told_by (Claimed executor task keep_out kept_log kept_out) = []
told_by (Line line) = []
told_by (Failed fault event) = failed_of event

-- this holds of all that an entry tells
abbrev EntryIs : (Told → Type 0) → Entry → Type 0
EntryIs P entry = AllAre P (told_by entry)

all_in : {A : Type 0} (P : A → Type 0) (xs : List A) → ((x : A) → IsIn x xs → P x) → AllAre P xs
all_in P [] holds = tt
all_in P (x ∷ xs) holds = (holds x (inl refl), all_in P xs (λ y is. holds y (inr is)))

entries_are : (P : Told → Type 0) (es : List Entry) → ((t : Told) → IsIn t (told_of es) → P t) → AllAre (EntryIs P) es
entries_are P [] holds = tt
entries_are P (Took e ∷ es) holds =
    (all_in P (asked_for e true) (λ t is. holds t (in_first t (asked_for e true) (told_of es) is)), entries_are P es (λ t is. holds t (in_second t (asked_for e true) (told_of es) is)))
entries_are P (Claimed executor task keep_out kept_log kept_out ∷ es) holds = (tt, entries_are P es holds)
entries_are P (Line line ∷ es) holds = (tt, entries_are P es holds)
entries_are P (Failed fault event ∷ es) holds =
    (all_in P (failed_of event) (λ t is. holds t (in_first t (failed_of event) (told_of es) is)), entries_are P es (λ t is. holds t (in_second t (failed_of event) (told_of es) is)))

told_are : (P : Told → Type 0) (es : List Entry) → AllAre (EntryIs P) es → AllAre P (told_of es)
told_are P [] all = tt
told_are P (Took e ∷ es) all = all_append P (asked_for e true) (told_of es) all.0 (told_are P es all.1)
told_are P (Claimed executor task keep_out kept_log kept_out ∷ es) all = told_are P es all.1
told_are P (Line line ∷ es) all = told_are P es all.1
told_are P (Failed fault event ∷ es) all = all_append P (failed_of event) (told_of es) all.0 (told_are P es all.1)

-- an event that is a grant, or of which this holds
abbrev OrGrant : (Told → Type 0) → Bool → Event → Type 0
OrGrant P accepted e = (is_grant e ≡ true) ⊎ P (told_at e accepted)

or_grant : (P : Told → Type 0) (e : Event) (accepted b : Bool) → is_grant e ≡ b → AllAre P (asked_for e accepted) → OrGrant P accepted e
or_grant P e accepted true is all = inl is
or_grant P e accepted false is all = inr ((subst (λ (b : Bool). AllAre P (if b then [] else told_at e accepted ∷ [])) is all).0)

tooks_are : (P : Told → Type 0) (es : List Entry) → AllAre (EntryIs P) es → AllAre (OrGrant P true) (tooks es)
tooks_are P [] all = tt
tooks_are P (Took e ∷ es) all = (or_grant P e true (is_grant e) refl all.0, tooks_are P es all.1)
tooks_are P (Claimed executor task keep_out kept_log kept_out ∷ es) all = tooks_are P es all.1
tooks_are P (Line line ∷ es) all = tooks_are P es all.1
tooks_are P (Failed fault event ∷ es) all = tooks_are P es all.1

at_risk_is : (P : Told → Type 0) (fault : TakeFault) (event : Option Event) → AllAre P (failed_of event) → AllAre (OrGrant P false) (at_risk fault event)
at_risk_is P Disk (Some e) all = (or_grant P e false (is_grant e) refl all, tt)
at_risk_is P Disk None all = tt
at_risk_is P Memory event all = tt
at_risk_is P (Full len add) event all = tt
at_risk_is P Stopped event all = tt

pending_are : (P : Told → Type 0) (es : List Entry) → AllAre (EntryIs P) es → AllAre (OrGrant P false) (pending es)
pending_are P [] all = tt
pending_are P (Took e ∷ es) all = pending_are P es all.1
pending_are P (Claimed executor task keep_out kept_log kept_out ∷ es) all = pending_are P es all.1
pending_are P (Line line ∷ es) all = pending_are P es all.1
pending_are P (Failed fault event ∷ es) all = at_risk_is P fault event all.0

-- A line that was given decides this event.
abbrev IsDecided : List Ask → Event → Type 0
IsDecided past e = (given : List ℕ) × IsIn given (given_in past) × ((request : ℕ) × Decides given request e)

decides_told : (line : List ℕ) (e : Event) (accepted : Bool) (more : List Told) (t : Told) (request : ℕ) → Decides line request e → more ≡ told_at e accepted ∷ [] → IsIn t more → (n : ℕ) × Decides line n t.event
decides_told line e accepted more t request d is one = (request, subst (Decides line request) (same (subst (IsIn t) is one)) d)
  where
    same : IsIn t (told_at e accepted ∷ []) → e ≡ t.event
    same (inl it) = ap (λ (x : Told). x.event) it
    same (inr it) = absurd it

told_decides : (line : List ℕ) (answer : Result Heard TakeFault) (more : List Told) (t : Told) → IsToldOf line answer more → IsIn t more → (n : ℕ) × Decides line n t.event
told_decides line (Ok (Decided request)) more t told is = decides_told line told.0 true more t request told.1 told.2 is
told_decides line (Ok Skipped) more t told is = absurd (subst (IsIn t) told is)
told_decides line (Err Memory) more t told is = absurd (subst (IsIn t) told is)
told_decides line (Err Disk) more t told is = decides_told line told.1 false more t told.0 told.2 told.3 is
told_decides line (Err (Full len add)) more t told is = decides_told line told.1 false more t told.0 told.2 told.3 is
told_decides line (Err Stopped) more t told is = absurd (subst (IsIn t) told is)

operator_told : (past : List Ask) (events : List Told) (t : Told) → AreToldOf past events → IsIn t events → IsDecided past t.event
operator_told [] events t told is = absurd (subst (IsIn t) told is)
operator_told (Asked inputs ∷ past) events t told is = operator_told past events t told is
operator_told (Reads bytes end ∷ past) events t told is = operator_told past events t told is
operator_told (Halted ∷ past) events t told is = operator_told past events t told is
operator_told (Given line answer ∷ past) events t told is = ⊎_elim
    (λ (before : IsIn t told.0). let d = operator_told past told.0 t told.2 before in (d.0, in_first d.0 (given_in past) (line ∷ []) d.1, d.2))
    (λ (more : IsIn t told.1). (line, in_second line (given_in past) (line ∷ []) (inl refl), told_decides line answer told.1 t told.3 more))
    (in_either t told.0 told.1 (subst (IsIn t) told.4 is))

module _ {H A : Type 0} (host : HostView H) (source : SourceView A) (looks : ℕ) where
  abbrev Did : Turn H A → Type 0
  Did turn = DidTurn host source looks turn

  abbrev Explained : Turn H A → Told → Type 0
  Explained turn t = Explains host source looks t.accepted t.event turn

  abbrev ExplainedBy : List (Turn H A) → Told → Type 0
  ExplainedBy turns t = HoldsOfOne (Explains host source looks t.accepted t.event) turns

  -- each event of a turn comes from its member
  turn_told : (old new : Member H A) (worked : Worked) (own : List Entry) (gate_calls : List GateCall) (said : Said) (is_open : Bool) (launched : List ℕ)
      → Did (record { old = old; now = new; worked = worked; own = own; calls = gate_calls; said = said; is_open = is_open; launches = launched })
      → (t : Told) → IsIn t (told_of own) → Explained (record { old = old; now = new; worked = worked; own = own; calls = gate_calls; said = said; is_open = is_open; launches = launched }) t
  turn_told (Executor number machine) (Executor now next) worked own gate_calls said is_open launched d t is = record {
    told = is;
    comes = (d.executed, of_one (λ (x : Told). IsCausedBy looks d.executed.past x.event) t (told_of own) d.executed.caused is);
  }
  turn_told (Operator answers line ended failed) (Operator next kept now_ended now_failed) worked own gate_calls said is_open launched d t is = record {
    told = is;
    comes = (d.works.0, operator_told d.works.0.past d.works.0.so_far.events t d.works.0.so_far.decided (subst (IsIn t) d.works.0.so_far.told is));
  }
  turn_told (Executor number machine) (Operator next kept now_ended now_failed) worked own gate_calls said is_open launched d t is = absurd d.works
  turn_told (Operator answers line ended failed) (Executor now next) worked own gate_calls said is_open launched d t is = absurd d.works

  turn_explains : (turn : Turn H A) → Did turn → AllAre (EntryIs (Explained turn)) turn.own
  turn_explains turn d = entries_are (Explained turn) turn.own (turn_told turn.old turn.now turn.worked turn.own turn.calls turn.said turn.is_open turn.launches d)

  made_explained : (turns all : List (Turn H A)) (before after : List Entry) → ((t : Told) → ExplainedBy turns t → ExplainedBy all t) → AllAre Did turns → MadeOf before turns after
      → AllAre (EntryIs (ExplainedBy all)) before → AllAre (EntryIs (ExplainedBy all)) after
  made_explained [] all before after into did made is = subst (AllAre (EntryIs (ExplainedBy all))) made is
  made_explained (turn ∷ turns) all before after into did made is = made_explained turns all made.0 after (λ t by. into t (inr by)) did.1 made.2
      (all_merged (EntryIs (ExplainedBy all)) before turn.own made.0 made.1 is
      (all_map (EntryIs (Explained turn)) (EntryIs (ExplainedBy all)) turn.own (λ entry. all_map (Explained turn) (ExplainedBy all) (told_by entry) (λ t by. into t (inl by))) (turn_explains turn did.0)))

  -- Each event of the history of a life comes from a member, or is a grant.
  pub events_explained : (turns : List (Turn H A)) (history : List Entry) → AllAre Did turns → MadeOf [] turns history
      → AllAre (λ (t : Told). HoldsOfOne (Explains host source looks t.accepted t.event) turns) (told_of history)
      × AllAre (IsExplained host source looks turns true) (tooks history)
      × AllAre (IsExplained host source looks turns false) (pending history)
  events_explained turns history did made =
      let all = made_explained turns turns [] history (λ t by. by) did made tt in
      (told_are (ExplainedBy turns) history all, tooks_are (ExplainedBy turns) history all, pending_are (ExplainedBy turns) history all)
