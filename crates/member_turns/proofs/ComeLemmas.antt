-- Whence the decisions of a history come, by the calls that put them there.
use Rattle.std.proofs.Common.{◌≡◌, ◌∙◌, inl, inr, ℕ, Bool, true, false, List, [], ◌∷◌, ◌++◌, Option, Some, None, Result, Ok, Err, refl, sym, ap, subst, append_assoc, append-nil}
use Rattle.std.specs.List.{AllByRecursion as AllAre}
use Rattle.program_lock.specs.History.{has, entries, numbered, NoneUnder}
use Rattle.program_lock.proofs.HistoryLemmas.{entries-append}
use Rattle.program_lock.proofs.NumberLemmas.{has-append}
use Rattle.model_run.specs.declared.event.Event.{Event}
use Rattle.model_run.specs.declared.event.Event.TheVariants.{Start, Granted, Output, Exited, Lost, Decided as DecidedEvent}
use Rattle.settle_laws.specs.Stances.{Stance}
use Rattle.member_turns.specs.Lower.build_core.Builds.{Parts}
use Rattle.journal_core.specs.declared.faults.TakeFault.{TakeFault}
use Rattle.journal_core.specs.declared.faults.TakeFault.TheVariants.{Memory, Disk, Full, Stopped}
use Rattle.agent_worker.specs.declared.gate.GateCall.{GateCall}
use Rattle.agent_worker.specs.declared.gate.GateCall.TheVariants as gate_call
use Rattle.agent_worker.specs.declared.gate.Heard.{Heard}
use Rattle.agent_worker.specs.declared.gate.Heard.TheVariants.{Decided, Skipped}
use Rattle.agent_worker.specs.Gate.{Told, told_as, is_told, added_if}
use Rattle.member_turns.specs.Lower.locked_build.declared.ask.Ask.{Ask}
use Rattle.member_turns.specs.Lower.locked_build.declared.ask.Ask.TheVariants as ask
use Rattle.member_turns.specs.Lower.locked_build.declared.ask.Entry.{Entry}
use Rattle.member_turns.specs.Lower.locked_build.declared.ask.Entry.TheVariants.{Took, Claimed, Line, Failed}
use Rattle.member_turns.specs.Lower.locked_build.declared.ask.Reply.{Reply}
use Rattle.member_turns.specs.Lower.locked_build.declared.ask.Reply.TheVariants as reply
use Rattle.member_turns.specs.Lower.locked_build.Hearing.{AnswerSays}
use Rattle.member_turns.specs.Lower.locked_build.Histories.{kept_fault}
use Rattle.member_turns.specs.Lower.locked_build.Says.{Says, SaysAt}
use Rattle.member_turns.specs.Saying.{AnswersCall, AreAnswered}
use Rattle.member_turns.specs.Tales.{is_of_task, asked_for, told_of}
use Rattle.member_turns.proofs.AskLemmas.{Asked, task_plain, claim_adds, take_adds, inputs_adds, halt_adds}
use Rattle.member_turns.proofs.TaleLemmas.{grants_silent}
use Rattle.member_turns.proofs.TrailLemmas.{no_second, no_first}
use Rattle.member_turns.specs.Coming.{is_decision, Came, EachIs, EachUnder}

-- not a decision
abbrev IsOther : Told → Type 0
IsOther t = is_decision t.event ≡ false

not_both : (b : Bool) → b ≡ false → b ≡ true → ⊥
not_both true f t = absurd (cc)
not_both false f t = absurd (cc)

all_front : (P : Told → Type 0) (xs ys : List Told) → AllAre P (xs ++ ys) → AllAre P xs × AllAre P ys
all_front P [] ys all = (tt, all)
all_front P (x ∷ xs) ys all = let rest = all_front P xs ys all.1 in ((all.0, rest.0), rest.1)

other_event : (e : Event) (accepted : Bool) → AllAre IsOther (asked_for e accepted) → is_decision e ≡ true → ⊥
other_event (DecidedEvent request proceed name) accepted all is = not_both true all.0 refl
other_event (Start script agents) accepted all is = absurd (cc)
other_event (Granted request executor) accepted all is = absurd (cc)
other_event (Output task stream place bytes) accepted all is = absurd (cc)
other_event (Exited task code) accepted all is = absurd (cc)
other_event (Lost task why) accepted all is = absurd (cc)

module _ (says : List Entry → Ask → Reply → List Entry → Type 0) where
  -- entries that tell of no decision
  each_other : (before es : List Entry) → AllAre IsOther (told_of es) → EachIs (Came says) before es
  each_other before [] all = tt
  each_other before (Took e ∷ es) all =
      let two = all_front IsOther (asked_for e true) (told_of es) all in
      (λ is. absurd (other_event e true two.0 is), each_other (before ++ Took e ∷ []) es two.1)
  each_other before (Claimed executor task keep_out kept_log kept_out ∷ es) all = (tt, each_other (before ++ Claimed executor task keep_out kept_log kept_out ∷ []) es all)
  each_other before (Line line ∷ es) all = (tt, each_other (before ++ Line line ∷ []) es all)
  each_other before (Failed fault None ∷ es) all = (tt, each_other (before ++ Failed fault None ∷ []) es all)
  each_other before (Failed fault (Some e) ∷ es) all =
      let two = all_front IsOther (asked_for e false) (told_of es) all in
      (λ is. absurd (other_event e false two.0 is), each_other (before ++ Failed fault (Some e) ∷ []) es two.1)

  each_silent : (before es : List Entry) → told_of es ≡ [] → EachIs (Came says) before es
  each_silent before es is = each_other before es (subst (AllAre IsOther) (sym is) tt)

other_task : (e : Event) → is_of_task e ≡ true → is_decision e ≡ false
other_task (DecidedEvent request proceed name) is = absurd (cc)
other_task (Start script agents) is = refl
other_task (Granted request executor) is = refl
other_task (Output task stream place bytes) is = refl
other_task (Exited task code) is = refl
other_task (Lost task why) is = refl

told_other : (b : Bool) (t : Told) → IsOther t → AllAre IsOther (added_if b t [])
told_other true t is = (is, tt)
told_other false t is = tt

abbrev pub said_by : {T : Type 0} → (T → Stance) → Parts T → List Entry → Ask → Reply → List Entry → Type 0
said_by stance b history a r new = Says stance b history a r new

module _ {T : Type 0} (stance : T → Stance) (b : Parts T) (h : List Entry) where
  abbrev said_here : List Entry → Ask → Reply → List Entry → Type 0
  said_here = said_by stance b

  pub asked_here : (a : Ask) (r : Reply) (new : List Entry) → Says stance b h a r new → Asked stance a r [] new
  asked_here a r new says = record { opening = b; before = h; new = new; says = says; own = refl }

  -- of a line and its answer
  answer_came : (now : Parts T) (line : List ℕ) (r : Result Heard TakeFault) (new : List Entry) → said_here h (ask.Answer line) (reply.Heard r) new → AnswerSays stance now line r new → EachIs (Came said_here) h new
  answer_came now line (Ok (Decided request)) new said a =
      let event = a.0 in
      let grants = a.3.1 in
      let is : new ≡ Line line ∷ Took event ∷ grants = a.4 ∙ ap (λ (l : List Entry). Line line ∷ l) a.3.4 in
      subst (EachIs (Came said_here) h) (sym is) (
        tt,
        (
          (λ d. record { front = h; line = line; is = refl; request = request; grants = grants; said = subst (said_here h (ask.Answer line) (reply.Heard (Ok (Decided request)))) is said }),
          each_silent said_here ((h ++ Line line ∷ []) ++ Took event ∷ []) grants (grants_silent a.3.3).told,
        ),
      )
  answer_came now line (Ok Skipped) new said a = subst (EachIs (Came said_here) h) (sym a.1) (tt, tt)
  answer_came now line (Err Memory) new said a = subst (EachIs (Came said_here) h) (sym a) (tt, tt)
  answer_came now line (Err Disk) new said a = subst (EachIs (Came said_here) h) (sym a.3.1) ((λ d. (line, subst (said_here h (ask.Answer line) (reply.Heard (Err Disk))) a.3.1 said)), tt)
  answer_came now line (Err (Full len add)) new said a = subst (EachIs (Came said_here) h) (sym a.3.1) ((λ d. (line, subst (said_here h (ask.Answer line) (reply.Heard (Err (Full len add)))) a.3.1 said)), tt)
  answer_came now line (Err Stopped) new said a = absurd a.3.0

  line_came : (f : Option TakeFault) (line : List ℕ) (r : Result Heard TakeFault) (new : List Entry) → said_here h (ask.Answer line) (reply.Heard r) new
      → SaysAt stance b h f (ask.Answer line) (reply.Heard r) new → EachIs (Came said_here) h new
  line_came (Some f) line r new said at = subst (EachIs (Came said_here) h) (sym at.1) tt
  line_came None line r new said at = answer_came at.0 line r new said at.2.1

  -- of each call of a gate
  pub call_came : (call : GateCall) (new : List Entry) → AnswersCall said_here h call new → EachIs (Came said_here) h new
  call_came (gate_call.Claim executor claim) new says = each_silent said_here h new (claim_adds executor (reply.Claimed claim) claim refl (asked_here (ask.Claim executor) (reply.Claimed claim) new says)).told_so
  call_came (gate_call.Report e r) new (inl says) =
      each_other said_here h new (subst (AllAre IsOther) (sym (take_adds e (reply.Taken r) r (task_plain e says.0) refl (asked_here (ask.Take e) (reply.Taken r) new says.1)).told_so) (told_other (is_told r) (told_as e r) (other_task e says.0)))
  call_came (gate_call.Report e r) new (inr none) = subst (EachIs (Came said_here) h) (sym none.2) tt
  call_came (gate_call.Inputs there) new says = each_silent said_here h new (inputs_adds (reply.Inputs there) there refl (asked_here ask.Inputs (reply.Inputs there) new says)).told_so
  call_came (gate_call.Answer line r) new (inl says) = line_came (kept_fault h) line r new says says
  call_came (gate_call.Answer line r) new (inr none) = subst (EachIs (Came said_here) h) (sym none.1) tt
  call_came gate_call.Halt new says = each_silent said_here h new (halt_adds reply.Halted (asked_here ask.Halt reply.Halted new says)).told_so

module _ (P : List Entry → Entry → Type 0) where
  pub each_append : (ns : List ℕ) (front xs ys : List (ℕ × Entry)) → EachUnder P ns front xs → EachUnder P ns (front ++ xs) ys → EachUnder P ns front (xs ++ ys)
  each_append ns front [] ys one two = subst (λ (l : List (ℕ × Entry)). EachUnder P ns l ys) (append-nil front) two
  each_append ns front (x ∷ xs) ys one two = (one.0, each_append ns (front ++ x ∷ []) xs ys one.1 (subst (λ (l : List (ℕ × Entry)). EachUnder P ns l ys) (sym (append_assoc front (x ∷ []) xs)) two))

  -- of none
  pub each_none : (ns : List ℕ) (front xs : List (ℕ × Entry)) → NoneUnder ns xs → EachUnder P ns front xs
  each_none ns front [] none = tt
  each_none ns front (x ∷ xs) none = (λ is. absurd (not_both (has ns x.0) none.0 is), each_none ns (front ++ x ∷ []) xs none.1)

  -- of the numbers of two, where none is the one's or the other's
  pub each_first : (ms ns : List ℕ) (front xs : List (ℕ × Entry)) → NoneUnder ns xs → EachUnder P ms front xs → EachUnder P (ms ++ ns) front xs
  each_first ms ns front [] none each = tt
  each_first ms ns front (x ∷ xs) none each =
      ((λ is. each.0 (sym (has-append ms ns x.0 ∙ no_second (has ms x.0) (has ns x.0) none.0) ∙ is)), each_first ms ns (front ++ x ∷ []) xs none.1 each.1)

  pub each_second : (ms ns : List ℕ) (front xs : List (ℕ × Entry)) → NoneUnder ms xs → EachUnder P ns front xs → EachUnder P (ms ++ ns) front xs
  each_second ms ns front [] none each = tt
  each_second ms ns front (x ∷ xs) none each =
      ((λ is. each.0 (sym (has-append ms ns x.0 ∙ no_first (has ms x.0) (has ns x.0) none.0) ∙ is)), each_second ms ns (front ++ x ∷ []) xs none.1 each.1)

  -- of the entries of one call
  each_here : (ns : List ℕ) (n : ℕ) (front : List (ℕ × Entry)) (es : List Entry) → EachIs P (entries front) es → EachUnder P ns front (numbered n es)
  each_here ns n front [] each = tt
  each_here ns n front (e ∷ es) each = ((λ is. each.0), each_here ns n (front ++ (n, e) ∷ []) es (subst (λ (l : List Entry). EachIs P l es) (sym (entries-append front ((n, e) ∷ []))) each.1))

module _ {T : Type 0} (stance : T → Stance) (b : Parts T) where
  -- Of all calls of a gate.
  pub calls_came : (ns : List ℕ) (n : ℕ) (front : List (ℕ × Entry)) (calls : List GateCall) (rest : List (ℕ × Entry)) → AreAnswered (said_by stance b) ns n front calls rest
      → EachUnder (Came (said_by stance b)) ns front rest
  calls_came ns n front [] rest a = each_none (Came (said_by stance b)) ns front rest a
  calls_came ns n front (call ∷ calls) rest a =
      let P = Came (said_by stance b) in
      subst (EachUnder P ns front) (sym a.3)
      (each_append P ns front a.0 (numbered n a.1 ++ a.2) (each_none P ns front a.0 a.4)
      (each_append P ns (front ++ a.0) (numbered n a.1) a.2 (each_here P ns n (front ++ a.0) a.1 (call_came stance b (entries (front ++ a.0)) call a.1 a.5))
      (subst (λ (l : List (ℕ × Entry)). EachUnder P ns l a.2) (sym (append_assoc front a.0 (numbered n a.1))) (calls_came ns n (front ++ (a.0 ++ numbered n a.1)) calls a.2 a.6))))
