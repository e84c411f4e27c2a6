-- What a gate tells after more entries.
use Rattle.std.proofs.Common.{◌≡◌, ℕ, Bool, true, false, List, [], ◌∷◌, ◌++◌, Result, Ok, Err, refl, sym, ap, ◌∙◌, subst, append_assoc, append-nil}
use Rattle.std.specs.Prelude.{if◌then◌else◌}
use Rattle.model_run.specs.declared.event.Event.{Event}
use Rattle.model_run.specs.declared.event.Event.TheVariants.{Granted}
use Rattle.model_run.specs.declared.taken.Taken.{Taken}
use Rattle.model_run.specs.declared.taken.Taken.TheVariants.{Accepted, NotOpen, WrongPlace, Finished}
use Rattle.settle_laws.specs.Stances.{Stance}
use Rattle.locked_build.specs.Lower.build_core.Builds.{Parts}
use Rattle.journal_core.specs.declared.faults.TakeFault.{TakeFault}
use Rattle.journal_core.specs.declared.faults.TakeFault.TheVariants.{Memory, Disk, Full, Stopped}
use Rattle.agent_worker.specs.Gate.{Told, told_at, told_as, is_told, added_if, Claimed as ClaimedTask}
use Rattle.locked_build.specs.declared.ask.Entry.{Entry}
use Rattle.locked_build.specs.declared.ask.Entry.TheVariants.{Took, Claimed, Line, Failed}
use Rattle.locked_build.specs.Histories.{lines}
use Rattle.locked_build.specs.Grants.{noted, Grants, granted, refused, none_due, not_found, TakeSays}
use Rattle.member_turns.specs.Tales.{is_grant, asked_for, failed_of, told_of, claimed_of}

pub told-append : (xs ys : List Entry) → told_of (xs ++ ys) ≡ told_of xs ++ told_of ys
told-append [] ys = refl
told-append (Took e ∷ xs) ys = ap (λ (l : List Told). asked_for e true ++ l) (told-append xs ys) ∙ sym (append_assoc (asked_for e true) (told_of xs) (told_of ys))
told-append (Claimed executor task keep_out kept_log kept_out ∷ xs) ys = told-append xs ys
told-append (Line line ∷ xs) ys = told-append xs ys
told-append (Failed fault event ∷ xs) ys = ap (λ (l : List Told). failed_of event ++ l) (told-append xs ys) ∙ sym (append_assoc (failed_of event) (told_of xs) (told_of ys))

pub claimed-append : (xs ys : List Entry) → claimed_of (xs ++ ys) ≡ claimed_of xs ++ claimed_of ys
claimed-append [] ys = refl
claimed-append (Took e ∷ xs) ys = claimed-append xs ys
claimed-append (Claimed executor task keep_out kept_log kept_out ∷ xs) ys =
    ap (λ (l : List ClaimedTask). record { executor = executor; task = task; keep_out = keep_out; kept_log = kept_log; kept_out = kept_out } ∷ l) (claimed-append xs ys)
claimed-append (Line line ∷ xs) ys = claimed-append xs ys
claimed-append (Failed fault event ∷ xs) ys = claimed-append xs ys

pub lines-append : (xs ys : List Entry) → lines (xs ++ ys) ≡ lines xs ++ lines ys
lines-append [] ys = refl
lines-append (Took e ∷ xs) ys = lines-append xs ys
lines-append (Claimed executor task keep_out kept_log kept_out ∷ xs) ys = lines-append xs ys
lines-append (Line line ∷ xs) ys = ap (λ (l : List (List ℕ)). line ∷ l) (lines-append xs ys)
lines-append (Failed fault event ∷ xs) ys = lines-append xs ys

-- What the entries of one ask tell, behind those before it.
pub record Adds (old now : List Entry) (told : List Told) (claimed : List ClaimedTask) (heard : List (List ℕ)) : Type 0 where
  pub told_so : told_of now ≡ told_of old ++ told
  pub claimed_so : claimed_of now ≡ claimed_of old ++ claimed
  pub heard_so : lines now ≡ lines old ++ heard

pub adds_entries : (old new now : List Entry) → now ≡ old ++ new → Adds old now (told_of new) (claimed_of new) (lines new)
adds_entries old new now is = record {
  told_so = ap told_of is ∙ told-append old new;
  claimed_so = ap claimed_of is ∙ claimed-append old new;
  heard_so = ap lines is ∙ lines-append old new;
}

-- entries that tell nothing
pub record IsSilent (es : List Entry) : Type 0 where
  pub told : told_of es ≡ []
  pub claimed : claimed_of es ≡ []
  pub heard : lines es ≡ []

pub none_silent : IsSilent []
none_silent = record { told = refl; claimed = refl; heard = refl }

noted_grant : (request executor : ℕ) (fault : TakeFault) → IsSilent (noted (Granted request executor) (Err fault))
noted_grant request executor Memory = record { told = refl; claimed = refl; heard = refl }
noted_grant request executor Disk = record { told = refl; claimed = refl; heard = refl }
noted_grant request executor (Full len add) = record { told = refl; claimed = refl; heard = refl }
noted_grant request executor Stopped = record { told = refl; claimed = refl; heard = refl }

-- grants tell nothing
pub grants_silent : {T : Type 0} {stance : T → Stance} {b : Parts T} {es : List Entry} → Grants stance b es → IsSilent es
grants_silent (none_due settled) = none_silent
grants_silent (granted request executor is next rest) = let s = grants_silent rest in record { told = s.told; claimed = s.claimed; heard = s.heard }
grants_silent (refused request executor fault is may) = noted_grant request executor fault
grants_silent not_found = record { told = refl; claimed = refl; heard = refl }

-- what is told of an event and the answer to it
abbrev pub told_if_any : Event → Result Taken TakeFault → List Told
told_if_any e r = added_if (is_told r) (told_as e r) []

-- What the entries of a take tell, where its event is no grant.
pub record TellsTake (new : List Entry) (e : Event) (r : Result Taken TakeFault) : Type 0 where
  pub told : told_of new ≡ told_if_any e r
  pub claimed : claimed_of new ≡ []
  pub heard : lines new ≡ []

silent_take : (new : List Entry) (e : Event) (r : Result Taken TakeFault) → told_if_any e r ≡ [] → IsSilent new → TellsTake new e r
silent_take new e r none s = record { told = s.told ∙ sym none; claimed = s.claimed; heard = s.heard }

empty_take : (new : List Entry) (e : Event) (r : Result Taken TakeFault) → told_if_any e r ≡ [] → new ≡ [] → TellsTake new e r
empty_take new e r none is = silent_take new e r none (subst IsSilent (sym is) none_silent)

asked_one : (e : Event) (accepted : Bool) → is_grant e ≡ false → asked_for e accepted ≡ told_at e accepted ∷ []
asked_one e accepted plain = ap (λ (b : Bool). if b then [] else told_at e accepted ∷ []) plain

pub take_tells : {T : Type 0} (stance : T → Stance) (b : Parts T) (e : Event) (r : Result Taken TakeFault) (new : List Entry) → is_grant e ≡ false → TakeSays stance b e r new → TellsTake new e r
take_tells stance b e (Ok Accepted) new plain says =
    let s = grants_silent says.3 in
    record {
      told = ap told_of says.4 ∙ ap (λ (l : List Told). asked_for e true ++ l) s.told ∙ append-nil (asked_for e true) ∙ asked_one e true plain;
      claimed = ap claimed_of says.4 ∙ s.claimed;
      heard = ap lines says.4 ∙ s.heard;
    }
take_tells stance b e (Ok NotOpen) new plain says = empty_take new e (Ok NotOpen) refl says.1
take_tells stance b e (Ok (WrongPlace kept)) new plain says = empty_take new e (Ok (WrongPlace kept)) refl says.1
take_tells stance b e (Ok Finished) new plain says = empty_take new e (Ok Finished) refl says.1
take_tells stance b e (Err Memory) new plain says = silent_take new e (Err Memory) refl (subst IsSilent (sym says.1) (record { told = refl; claimed = refl; heard = refl }))
take_tells stance b e (Err Disk) new plain says =
    record { told = ap told_of says.1 ∙ append-nil (asked_for e false) ∙ asked_one e false plain; claimed = ap claimed_of says.1; heard = ap lines says.1 }
take_tells stance b e (Err (Full len add)) new plain says =
    record { told = ap told_of says.1 ∙ append-nil (asked_for e false) ∙ asked_one e false plain; claimed = ap claimed_of says.1; heard = ap lines says.1 }
take_tells stance b e (Err Stopped) new plain says = absurd says.0
