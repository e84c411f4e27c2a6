-- Answer lines are heard only where an input was open since the line before.
use Rattle.std.proofs.Common.{◌≡◌, ◌⊎◌, ◌∙◌, ⊎_elim, inl, inr, ◌+◌, ◌≤◌, ◌<◌, ◌||◌, ℕ, suc, Bool, true, false, nat_lt, List, [], ◌∷◌, ◌++◌, length, map, Result, Ok, Err, refl, sym, ap, subst, append_assoc, append-nil, length-append, arith}
use Rattle.std.proofs.lemmas.Bool.Decides.{nat_tests}
use Rattle.std.specs.List.{AllByRecursion as AllAre}
use Rattle.program_lock.specs.declared.program.Memory.{Memory}
use Rattle.program_lock.specs.Merge.{IsMergeOf}
use Rattle.program_lock.proofs.NumberLemmas.{or_right, or_true}
use Rattle.settle_laws.specs.Stances.{Stance}
use Rattle.member_turns.specs.Lower.build_core.Builds.{Parts}
use Rattle.journal_core.specs.declared.faults.TakeFault.{TakeFault}
use Rattle.agent_worker.specs.declared.gate.GateCall.{GateCall}
use Rattle.agent_worker.specs.declared.gate.GateCall.TheVariants as gate_call
use Rattle.agent_worker.specs.declared.gate.Heard.{Heard}
use Rattle.agent_worker.specs.declared.gate.Inputs.{Inputs}
use Rattle.agent_worker.specs.declared.gate.Said.{Said}
use Rattle.agent_worker.specs.declared.gate.Said.TheVariants.{Nothing}
use Rattle.agent_worker.specs.declared.member.Member.{Member}
use Rattle.agent_worker.specs.declared.member.Member.TheVariants.{Executor, Operator}
use Rattle.agent_worker.specs.declared.worked.Worked.{Worked}
use Rattle.agent_worker.specs.Gate.{heard_of}
use Rattle.agent_worker.specs.Operating.{Ask as Deed, Asked, Reads, Given, Halted, FoundInput, IsOperating, operator_calls}
use Rattle.member_turns.specs.Lower.locked_build.declared.ask.Ask.{Ask}
use Rattle.member_turns.specs.Lower.locked_build.declared.ask.Ask.TheVariants as ask
use Rattle.member_turns.specs.Lower.locked_build.declared.ask.Entry.{Entry}
use Rattle.member_turns.specs.Lower.locked_build.declared.ask.Entry.TheVariants.{Took, Claimed, Line, Failed}
use Rattle.member_turns.specs.Lower.locked_build.declared.ask.Progress.{Progress}
use Rattle.member_turns.specs.Lower.locked_build.declared.ask.Reply.{Reply}
use Rattle.member_turns.specs.Lower.locked_build.declared.ask.Reply.TheVariants as reply
use Rattle.member_turns.specs.Lower.locked_build.Histories.{lines}
use Rattle.member_turns.specs.Saying.{AnswersCall}
use Rattle.member_turns.specs.Tales.{tells_of}
use Rattle.member_turns.proofs.AskLemmas.{task_plain, claim_adds, take_adds, inputs_adds, halt_adds, answer_adds}
use Rattle.member_turns.proofs.CallLemmas.{site_says}
use Rattle.member_turns.proofs.TaleLemmas.{lines-append}
use Rattle.member_turns.specs.Coming.{EachIs}
use Rattle.member_turns.specs.Lives.{EndsWith}
use Rattle.member_turns.specs.Rounds.{Round, WereAsked, AllAsked, AreTurnsOf, RoundsFrom, turns_of}
use Rattle.member_turns.specs.Turns.{Turn, MadeOf, Work, DidTurn}
use Rattle.member_turns.specs.Waiting.{InputWasOpen, Waited, operators}
use Rattle.member_turns.proofs.ComeLemmas.{said_by, asked_here}
use Rattle.member_turns.proofs.GoingLemmas.{both_true}
use Rattle.member_turns.proofs.MadeLemmas.{same_rest}
use Rattle.member_turns.proofs.WayLemmas.{all_two}
use Rattle.task_host.specs.View.{HostView}
use Rattle.jp_io.specs.View.{SourceView}

-- how many lines
abbrev count : List Entry → ℕ
count es = length (lines es)

count-append : (xs ys : List Entry) → count (xs ++ ys) ≡ count xs + count ys
count-append xs ys = ap length (lines-append xs ys) ∙ length-append (lines xs) (lines ys)

none_long : {A : Type 0} (xs : List A) → length xs ≤ 0 → xs ≡ []
none_long [] few = refl
none_long (x ∷ xs) few = absurd (omega arith)

each_is_append : (P : List Entry → Entry → Type 0) (before xs ys : List Entry) → EachIs P before xs → EachIs P (before ++ xs) ys → EachIs P before (xs ++ ys)
each_is_append P before [] ys one two = subst (λ (l : List Entry). EachIs P l ys) (append-nil before) two
each_is_append P before (x ∷ xs) ys one two = (one.0, each_is_append P (before ++ x ∷ []) xs ys one.1 (subst (λ (l : List Entry). EachIs P l ys) (sym (append_assoc before (x ∷ []) xs)) two))

pub each_behind : (P : List Entry → Entry → Type 0) (before part : List Entry) → EachIs P [] before → EachIs P before part → EachIs P [] (before ++ part)
each_behind P before part one two = each_is_append P [] before part one two

module _ (says : List Entry → Ask → Reply → List Entry → Type 0) where
  each_no_line : (before es : List Entry) → lines es ≡ [] → EachIs (Waited says) before es
  each_no_line before [] none = tt
  each_no_line before (Took e ∷ es) none = (tt, each_no_line (before ++ Took e ∷ []) es none)
  each_no_line before (Claimed executor task keep_out kept_log kept_out ∷ es) none = (tt, each_no_line (before ++ Claimed executor task keep_out kept_log kept_out ∷ []) es none)
  each_no_line before (Line line ∷ es) none = absurd (cc)
  each_no_line before (Failed fault event ∷ es) none = (tt, each_no_line (before ++ Failed fault event ∷ []) es none)

  -- an input that was open, behind more entries without a line
  open_more : (before more : List Entry) → lines more ≡ [] → InputWasOpen says before → InputWasOpen says (before ++ more)
  open_more before more none w = record {
    at = w.at;
    later = w.later ++ more;
    begins = sym (append_assoc w.at w.later more) ∙ ap (λ (l : List Entry). l ++ more) w.begins;
    no_line = lines-append w.later more ∙ (λ i. w.no_line i ++ none i);
    there = w.there;
    new = w.new;
    said = w.said;
    open_then = w.open_then;
  }

  each_one_line : (before es : List Entry) → count es ≤ 1 → InputWasOpen says before → EachIs (Waited says) before es
  each_one_line before [] few w = tt
  each_one_line before (Took e ∷ es) few w = (tt, each_one_line (before ++ Took e ∷ []) es few (open_more before (Took e ∷ []) refl w))
  each_one_line before (Claimed executor task keep_out kept_log kept_out ∷ es) few w =
      let one = Claimed executor task keep_out kept_log kept_out ∷ [] in (tt, each_one_line (before ++ one) es few (open_more before one refl w))
  each_one_line before (Line line ∷ es) few w = (w, each_no_line (before ++ Line line ∷ []) es (none_long (lines es) (omega arith)))
  each_one_line before (Failed fault event ∷ es) few w = (tt, each_one_line (before ++ Failed fault event ∷ []) es few (open_more before (Failed fault event ∷ []) refl w))

  -- the entries of a turn have no more lines than those among which they stand
  asked_fewer : (front : List Entry) (calls : List GateCall) (own rest : List Entry) → WereAsked says front calls own rest → count own ≤ count rest
  asked_fewer front [] own rest a = let none : count own ≡ 0 = ap count a in omega arith
  asked_fewer front (call ∷ calls) own rest a =
      let fewer = asked_fewer (front ++ (a.0 ++ a.1)) calls a.2 a.3 a.7 in
      let all : count rest ≡ count a.0 + (count a.1 + count a.3) = ap count a.4 ∙ count-append a.0 (a.1 ++ a.3) ∙ ap (λ (n : ℕ). count a.0 + n) (count-append a.1 a.3) in
      let mine : count own ≡ count a.1 + count a.2 = ap count a.5 ∙ count-append a.1 a.2 in
      omega arith

  -- where all lines are those of the turn, others put none
  only_own : (front : List Entry) (call : GateCall) (calls : List GateCall) (own rest : List Entry) (a : WereAsked says front (call ∷ calls) own rest) → lines rest ≡ lines own
      → (lines a.0 ≡ []) × (lines a.3 ≡ lines a.2)
  only_own front call calls own rest a same =
      let fewer = asked_fewer (front ++ (a.0 ++ a.1)) calls a.2 a.3 a.7 in
      let all : lines rest ≡ lines a.0 ++ (lines a.1 ++ lines a.3) = ap lines a.4 ∙ lines-append a.0 (a.1 ++ a.3) ∙ ap (λ (l : List (List ℕ)). lines a.0 ++ l) (lines-append a.1 a.3) in
      let mine : lines own ≡ lines a.1 ++ lines a.2 = ap lines a.5 ∙ lines-append a.1 a.2 in
      let long : count rest ≡ count a.0 + (count a.1 + count a.3) = ap length all ∙ length-append (lines a.0) (lines a.1 ++ lines a.3) ∙ ap (λ (n : ℕ). count a.0 + n) (length-append (lines a.1) (lines a.3)) in
      let own_long : count own ≡ count a.1 + count a.2 = ap length mine ∙ length-append (lines a.1) (lines a.2) in
      let both : count rest ≡ count own = ap length same in
      let none : lines a.0 ≡ [] = none_long (lines a.0) (omega arith) in
      (none, same_rest (lines a.1) (lines a.3) (lines a.2) (sym (ap (λ (l : List (List ℕ)). l ++ (lines a.1 ++ lines a.3)) none) ∙ sym all ∙ same ∙ mine))

  put_together : (front rest others new later : List Entry) → rest ≡ others ++ (new ++ later) → EachIs (Waited says) front others → EachIs (Waited says) (front ++ others) new
      → EachIs (Waited says) (front ++ (others ++ new)) later → EachIs (Waited says) front rest
  put_together front rest others new later is one two three =
      let P = Waited says in
      subst (EachIs P front) (sym is) (each_is_append P front others (new ++ later) one
      (each_is_append P (front ++ others) new later two (subst (λ (l : List Entry). EachIs P l later) (sym (append_assoc front others new)) three)))

-- Each line was given where an `inputs` had found one open since the line before it, or since the beginning, where `o` says that one is.
abbrev Heeded : Bool → List GateCall → Type 0
Heeded o [] = Unit {0}
Heeded o (gate_call.Inputs there ∷ calls) = Heeded (o || nat_lt 0 there.waiting) calls
Heeded o (gate_call.Answer line r ∷ calls) = (o ≡ true) × Heeded false calls
Heeded o (gate_call.Claim executor claim ∷ calls) = Heeded o calls
Heeded o (gate_call.Report event r ∷ calls) = Heeded o calls
Heeded o (gate_call.Halt ∷ calls) = Heeded o calls

abbrev open_after : Bool → List GateCall → Bool
open_after o [] = o
open_after o (gate_call.Inputs there ∷ calls) = open_after (o || nat_lt 0 there.waiting) calls
open_after o (gate_call.Answer line r ∷ calls) = open_after false calls
open_after o (gate_call.Claim executor claim ∷ calls) = open_after o calls
open_after o (gate_call.Report event r ∷ calls) = open_after o calls
open_after o (gate_call.Halt ∷ calls) = open_after o calls

heeded_more : (o : Bool) (calls : List GateCall) (call : GateCall) → Heeded o calls → Heeded (open_after o calls) (call ∷ []) → Heeded o (calls ++ call ∷ [])
heeded_more o [] call h one = one
heeded_more o (gate_call.Inputs there ∷ calls) call h one = heeded_more (o || nat_lt 0 there.waiting) calls call h one
heeded_more o (gate_call.Answer line r ∷ calls) call h one = (h.0, heeded_more false calls call h.1 one)
heeded_more o (gate_call.Claim executor claim ∷ calls) call h one = heeded_more o calls call h one
heeded_more o (gate_call.Report event r ∷ calls) call h one = heeded_more o calls call h one
heeded_more o (gate_call.Halt ∷ calls) call h one = heeded_more o calls call h one

open_more_calls : (o : Bool) (calls : List GateCall) (there : Inputs) → open_after o (calls ++ gate_call.Inputs there ∷ []) ≡ (open_after o calls || nat_lt 0 there.waiting)
open_more_calls o [] there = refl
open_more_calls o (gate_call.Inputs other ∷ calls) there = open_more_calls (o || nat_lt 0 other.waiting) calls there
open_more_calls o (gate_call.Answer line r ∷ calls) there = open_more_calls false calls there
open_more_calls o (gate_call.Claim executor claim ∷ calls) there = open_more_calls o calls there
open_more_calls o (gate_call.Report event r ∷ calls) there = open_more_calls o calls there
open_more_calls o (gate_call.Halt ∷ calls) there = open_more_calls o calls there

-- what an operator did heeds that
abbrev OperatorHeeds : List Deed → Type 0
OperatorHeeds past = Heeded false (operator_calls past []) × (FoundInput past → open_after false (operator_calls past []) ≡ true)

some_waiting : (there found : Inputs) (past before : List Deed) → Asked there ∷ past ≡ Asked found ∷ before → 0 < found.waiting → nat_lt 0 there.waiting ≡ true
some_waiting there found past before e more = let same : there ≡ found = cc in let here : 0 < there.waiting = subst (λ (i : Inputs). 0 < i.waiting) (sym same) more in grind (arith, nat_tests)

operator_heeds : (past : List Deed) → IsOperating past → OperatorHeeds past
operator_heeds [] lawful = (tt, λ found. absurd (no_deed found.0 found.1 found.2))
  where
    no_deed : (there : Inputs) (before : List Deed) → [] ≡ Asked there ∷ before → ⊥
    no_deed there before e = cc
operator_heeds (Asked there ∷ past) lawful =
    let before = operator_heeds past lawful.1 in (
      heeded_more false (operator_calls past []) (gate_call.Inputs there) before.0 tt,
      λ found. open_more_calls false (operator_calls past []) there ∙ or_right (open_after false (operator_calls past [])) (nat_lt 0 there.waiting) (some_waiting there found.0 past found.1 found.2 found.3),
    )
operator_heeds (Reads bytes end ∷ past) lawful = ((operator_heeds past lawful.1).0, λ found. absurd (cc))
operator_heeds (Halted ∷ past) lawful = (heeded_more false (operator_calls past []) gate_call.Halt (operator_heeds past lawful.1).0 tt, λ found. absurd (cc))
operator_heeds (Given line answer ∷ Reads bytes end ∷ past) lawful =
    let before = operator_heeds past lawful.1.1 in
    (heeded_more false (operator_calls past []) (gate_call.Answer line answer) before.0 (before.1 lawful.1.0.0, tt), λ found. absurd (cc))
operator_heeds (Given line answer ∷ []) lawful = absurd (cc)
operator_heeds (Given line answer ∷ Asked there ∷ past) lawful = absurd (cc)
operator_heeds (Given line answer ∷ Given other r ∷ past) lawful = absurd (cc)
operator_heeds (Given line answer ∷ Halted ∷ past) lawful = absurd (cc)

module _ {T : Type 0} (stance : T → Stance) (b : Parts T) where
  abbrev says : List Entry → Ask → Reply → List Entry → Type 0
  says = said_by stance b

  -- only an answer adds a line, and it one
  claim_silent : (h : List Entry) (executor : ℕ) (claim : _) (new : List Entry) → AnswersCall says h (gate_call.Claim executor claim) new → lines new ≡ []
  claim_silent h executor claim new a = (claim_adds executor (reply.Claimed claim) claim refl (asked_here stance b h (ask.Claim executor) (reply.Claimed claim) new a)).heard_so

  report_silent : (h : List Entry) (event : _) (r : _) (new : List Entry) → AnswersCall says h (gate_call.Report event r) new → lines new ≡ []
  report_silent h event r new (inl a) = (take_adds event (reply.Taken r) r (task_plain event a.0) refl (asked_here stance b h (ask.Take event) (reply.Taken r) new a.1)).heard_so
  report_silent h event r new (inr none) = ap lines none.2

  inputs_silent : (h : List Entry) (there : Inputs) (new : List Entry) → AnswersCall says h (gate_call.Inputs there) new → lines new ≡ []
  inputs_silent h there new a = (inputs_adds (reply.Inputs there) there refl (asked_here stance b h ask.Inputs (reply.Inputs there) new a)).heard_so

  halt_silent : (h new : List Entry) → AnswersCall says h gate_call.Halt new → lines new ≡ []
  halt_silent h new a = (halt_adds reply.Halted (asked_here stance b h ask.Halt reply.Halted new a)).heard_so

  one_heard : (line : List ℕ) (r : Result Heard TakeFault) → length (heard_of line r) ≤ 1
  one_heard line (Ok heard) = omega arith
  one_heard line (Err fault) = omega arith

  answer_one : (h : List Entry) (line : List ℕ) (r : Result Heard TakeFault) (new : List Entry) → AnswersCall says h (gate_call.Answer line r) new → count new ≤ 1
  answer_one h line r new (inl a) =
      let is : lines new ≡ heard_of line r = (answer_adds line (reply.Heard r) r refl (asked_here stance b h (ask.Answer line) (reply.Heard r) new a)).2.heard_so in
      subst (λ (l : List (List ℕ)). length l ≤ 1) (sym is) (one_heard line r)
  answer_one h line r new (inr none) = let is : count new ≡ 0 = ap count none.1 in omega arith

  -- behind a call that adds no line, an input that was open
  still_open : (front others new : List Entry) → lines others ≡ [] → lines new ≡ [] → InputWasOpen says front → InputWasOpen says (front ++ (others ++ new))
  still_open front others new one two w = open_more says front (others ++ new) (lines-append others new ∙ (λ i. one i ++ two i)) w

  now_open : (front others new : List Entry) (there : Inputs) → lines new ≡ [] → says (front ++ others) ask.Inputs (reply.Inputs there) new → nat_lt 0 there.waiting ≡ true → InputWasOpen says (front ++ (others ++ new))
  now_open front others new there none said more =
      record { at = front ++ others; later = new; begins = append_assoc front others new; no_line = none; there = there; new = new; said = said; open_then = grind (arith, nat_tests) }

  -- Each line among which only the turn put some had waited for an input.
  pub asked_waited : (o : Bool) (front : List Entry) (calls : List GateCall) (own rest : List Entry) → WereAsked says front calls own rest → lines rest ≡ lines own → Heeded o calls
      → (o ≡ true → InputWasOpen says front) → EachIs (Waited says) front rest
  asked_waited o front [] own rest a same h w = each_no_line says front rest (same ∙ ap lines a)
  asked_waited o front (gate_call.Claim executor claim ∷ calls) own rest a same h w =
      let s = only_own says front (gate_call.Claim executor claim) calls own rest a same in
      let none = claim_silent (front ++ a.0) executor claim a.1 a.6 in
      put_together says front rest a.0 a.1 a.3 a.4 (each_no_line says front a.0 s.0) (each_no_line says (front ++ a.0) a.1 none)
      (asked_waited o (front ++ (a.0 ++ a.1)) calls a.2 a.3 a.7 s.1 h (λ is. still_open front a.0 a.1 s.0 none (w is)))
  asked_waited o front (gate_call.Report event r ∷ calls) own rest a same h w =
      let s = only_own says front (gate_call.Report event r) calls own rest a same in
      let none = report_silent (front ++ a.0) event r a.1 a.6 in
      put_together says front rest a.0 a.1 a.3 a.4 (each_no_line says front a.0 s.0) (each_no_line says (front ++ a.0) a.1 none)
      (asked_waited o (front ++ (a.0 ++ a.1)) calls a.2 a.3 a.7 s.1 h (λ is. still_open front a.0 a.1 s.0 none (w is)))
  asked_waited o front (gate_call.Halt ∷ calls) own rest a same h w =
      let s = only_own says front gate_call.Halt calls own rest a same in
      let none = halt_silent (front ++ a.0) a.1 a.6 in
      put_together says front rest a.0 a.1 a.3 a.4 (each_no_line says front a.0 s.0) (each_no_line says (front ++ a.0) a.1 none)
      (asked_waited o (front ++ (a.0 ++ a.1)) calls a.2 a.3 a.7 s.1 h (λ is. still_open front a.0 a.1 s.0 none (w is)))
  asked_waited o front (gate_call.Inputs there ∷ calls) own rest a same h w =
      let s = only_own says front (gate_call.Inputs there) calls own rest a same in
      let none = inputs_silent (front ++ a.0) there a.1 a.6 in
      put_together says front rest a.0 a.1 a.3 a.4 (each_no_line says front a.0 s.0) (each_no_line says (front ++ a.0) a.1 none)
      (asked_waited (o || nat_lt 0 there.waiting) (front ++ (a.0 ++ a.1)) calls a.2 a.3 a.7 s.1 h
      (or_true o (nat_lt 0 there.waiting) (InputWasOpen says (front ++ (a.0 ++ a.1))) (λ is. still_open front a.0 a.1 s.0 none (w is)) (λ more. now_open front a.0 a.1 there none a.6 more)))
  asked_waited o front (gate_call.Answer line r ∷ calls) own rest a same h w =
      let s = only_own says front (gate_call.Answer line r) calls own rest a same in
      put_together says front rest a.0 a.1 a.3 a.4 (each_no_line says front a.0 s.0)
      (each_one_line says (front ++ a.0) a.1 (answer_one (front ++ a.0) line r a.1 a.6) (open_more says front a.0 s.0 (w h.0)))
      (asked_waited false (front ++ (a.0 ++ a.1)) calls a.2 a.3 a.7 s.1 h.1 (λ is. absurd (cc)))

-- the lines of entries that are made of two
lines_merge : (xs ys zs : List Entry) → IsMergeOf xs ys zs → IsMergeOf (lines xs) (lines ys) (lines zs)
lines_merge xs ys [] m = (ap lines m.0, ap lines m.1)
lines_merge xs ys (Took e ∷ zs) m = ⊎_elim
    (λ (l : (us : List Entry) × (xs ≡ Took e ∷ us) × IsMergeOf us ys zs). subst (λ (es : List Entry). IsMergeOf (lines es) (lines ys) (lines zs)) (sym l.1) (lines_merge l.0 ys zs l.2))
    (λ (r : (vs : List Entry) × (ys ≡ Took e ∷ vs) × IsMergeOf xs vs zs). subst (λ (es : List Entry). IsMergeOf (lines xs) (lines es) (lines zs)) (sym r.1) (lines_merge xs r.0 zs r.2))
    m
lines_merge xs ys (Claimed executor task keep_out kept_log kept_out ∷ zs) m = ⊎_elim
    (λ (l : (us : List Entry) × (xs ≡ Claimed executor task keep_out kept_log kept_out ∷ us) × IsMergeOf us ys zs). subst (λ (es : List Entry). IsMergeOf (lines es) (lines ys) (lines zs)) (sym l.1) (lines_merge l.0 ys zs l.2))
    (λ (r : (vs : List Entry) × (ys ≡ Claimed executor task keep_out kept_log kept_out ∷ vs) × IsMergeOf xs vs zs). subst (λ (es : List Entry). IsMergeOf (lines xs) (lines es) (lines zs)) (sym r.1) (lines_merge xs r.0 zs r.2))
    m
lines_merge xs ys (Line line ∷ zs) m = ⊎_elim
    (λ (l : (us : List Entry) × (xs ≡ Line line ∷ us) × IsMergeOf us ys zs). inl (lines l.0, ap lines l.1, lines_merge l.0 ys zs l.2))
    (λ (r : (vs : List Entry) × (ys ≡ Line line ∷ vs) × IsMergeOf xs vs zs). inr (lines r.0, ap lines r.1, lines_merge xs r.0 zs r.2))
    m
lines_merge xs ys (Failed fault event ∷ zs) m = ⊎_elim
    (λ (l : (us : List Entry) × (xs ≡ Failed fault event ∷ us) × IsMergeOf us ys zs). subst (λ (es : List Entry). IsMergeOf (lines es) (lines ys) (lines zs)) (sym l.1) (lines_merge l.0 ys zs l.2))
    (λ (r : (vs : List Entry) × (ys ≡ Failed fault event ∷ vs) × IsMergeOf xs vs zs). subst (λ (es : List Entry). IsMergeOf (lines xs) (lines es) (lines zs)) (sym r.1) (lines_merge xs r.0 zs r.2))
    m

merge_of_first : {A : Type 0} (xs zs : List A) → IsMergeOf xs [] zs → zs ≡ xs
merge_of_first xs [] m = sym m.0
merge_of_first xs (z ∷ zs) (inl l) = ap (λ us. z ∷ us) (merge_of_first l.0 zs l.2) ∙ sym l.1
merge_of_first xs (z ∷ zs) (inr r) = absurd (cc)

merge_of_second : {A : Type 0} (ys zs : List A) → IsMergeOf [] ys zs → zs ≡ ys
merge_of_second ys [] m = sym m.1
merge_of_second ys (z ∷ zs) (inl l) = absurd (cc)
merge_of_second ys (z ∷ zs) (inr r) = ap (λ us. z ∷ us) (merge_of_second r.0 zs r.2) ∙ sym r.1

module _ {H A : Type 0} where
  abbrev olds_of : List (Turn H A) → List (Member H A)
  olds_of turns = map (λ (turn : Turn H A). turn.old) turns

  abbrev nows_of : List (Turn H A) → List (Member H A)
  nows_of turns = map (λ (turn : Turn H A). turn.now) turns

  operators-append : (xs ys : List (Member H A)) → operators (xs ++ ys) ≡ operators xs + operators ys
  operators-append [] ys = omega arith
  operators-append (Executor number host ∷ xs) ys = operators-append xs ys
  operators-append (Operator answers line ended failed ∷ xs) ys = let rest = operators-append xs ys in omega arith

module _ {H A : Type 0} (host : HostView H) (source : SourceView A) (looks : ℕ) where
  abbrev Did : Turn H A → Type 0
  Did turn = DidTurn host source looks turn

  -- what a turn is: an executor's, which puts no line; or an operator's, which heeds what is open
  abbrev IsOfKind : Member H A → Member H A → List Entry → List GateCall → Type 0
  IsOfKind (Executor number machine) (Executor now next) own gate_calls = lines own ≡ []
  IsOfKind (Operator answers line ended failed) (Operator next kept now_ended now_failed) own gate_calls = Heeded false gate_calls
  IsOfKind (Executor number machine) (Operator next kept now_ended now_failed) own gate_calls = ⊥
  IsOfKind (Operator answers line ended failed) (Executor now next) own gate_calls = ⊥

  turn_kind : (m n : Member H A) (worked : Worked) (own : List Entry) (gate_calls : List GateCall) (said : Said) (is_open : Bool)
      → Work host source looks m n worked (tells_of [] [] Nothing false) (tells_of own gate_calls said is_open) → IsOfKind m n own gate_calls
  turn_kind (Executor number machine) (Executor now next) worked own gate_calls said is_open w = w.4
  turn_kind (Operator answers line ended failed) (Operator next kept now_ended now_failed) worked own gate_calls said is_open w =
      subst (Heeded false) (sym w.0.so_far.calls) (operator_heeds w.0.past w.0.so_far.lawful).0
  turn_kind (Executor number machine) (Operator next kept now_ended now_failed) worked own gate_calls said is_open w = absurd w
  turn_kind (Operator answers line ended failed) (Executor now next) worked own gate_calls said is_open w = absurd w

  kind_of : (turn : Turn H A) → Did turn → IsOfKind turn.old turn.now turn.own turn.calls
  kind_of turn d = turn_kind turn.old turn.now turn.worked turn.own turn.calls turn.said turn.is_open d.works

  -- a member is of one kind before its turn and behind it
  one_kind : (m n : Member H A) (ms ns : List (Member H A)) (own : List Entry) (gate_calls : List GateCall) → IsOfKind m n own gate_calls → operators ns ≡ operators ms → operators (n ∷ ns) ≡ operators (m ∷ ms)
  one_kind (Executor number machine) (Executor now next) ms ns own gate_calls k rest = rest
  one_kind (Operator answers line ended failed) (Operator next kept now_ended now_failed) ms ns own gate_calls k rest = ap suc rest
  one_kind (Executor number machine) (Operator next kept now_ended now_failed) ms ns own gate_calls k rest = absurd k
  one_kind (Operator answers line ended failed) (Executor now next) ms ns own gate_calls k rest = absurd k

  same_operators : (turns : List (Turn H A)) → AllAre Did turns → operators (nows_of turns) ≡ operators (olds_of turns)
  same_operators [] did = refl
  same_operators (turn ∷ turns) did = one_kind turn.old turn.now (olds_of turns) (nows_of turns) turn.own turn.calls (kind_of turn did.0) (same_operators turns did.1)

  -- one turn of a member, among those of others of whom none, or at most one, is an operator
  by_kind : (P : Type 0) (m n : Member H A) (ms : List (Member H A)) (own : List Entry) (gate_calls : List GateCall) (most : ℕ) → IsOfKind m n own gate_calls → operators (m ∷ ms) ≤ most
      → (lines own ≡ [] → operators ms ≤ most → P) → (Heeded false gate_calls → suc (operators ms) ≤ most → P) → P
  by_kind P (Executor number machine) (Executor now next) ms own gate_calls most k few one two = one k few
  by_kind P (Operator answers line ended failed) (Operator next kept now_ended now_failed) ms own gate_calls most k few one two = two k few
  by_kind P (Executor number machine) (Operator next kept now_ended now_failed) ms own gate_calls most k few one two = absurd k
  by_kind P (Operator answers line ended failed) (Executor now next) ms own gate_calls most k few one two = absurd k

  -- turns of executors put no line
  none_more : (turns : List (Turn H A)) (xs ys : List Entry) → AllAre Did turns → MadeOf xs turns ys → operators (olds_of turns) ≤ 0 → lines ys ≡ lines xs
  none_more [] xs ys did m few = sym (ap lines m)
  none_more (turn ∷ turns) xs ys did m few = by_kind (lines ys ≡ lines xs) turn.old turn.now (olds_of turns) turn.own turn.calls 0 (kind_of turn did.0) few
      (λ none less. none_more turns m.0 ys did.1 m.2 less ∙ merge_of_first (lines xs) (lines m.0) (subst (λ (l : List (List ℕ)). IsMergeOf (lines xs) l (lines m.0)) none (lines_merge xs turn.own m.0 m.1)))
      (λ heeds more. absurd (omega arith))

  -- all lines of a round are those of one turn, which heeded what was open; or there is none
  abbrev OneHeeds : (Turn H A → Type 0) → List Entry → Type 0
  OneHeeds P ys = (lines ys ≡ []) ⊎ ((turn : Turn H A) × P turn × Heeded false turn.calls × (lines ys ≡ lines turn.own))

  one_heeds : (P : Turn H A → Type 0) (turns : List (Turn H A)) (xs ys : List Entry) → AllAre Did turns → AllAre P turns → MadeOf xs turns ys → lines xs ≡ [] → operators (olds_of turns) ≤ 1 → OneHeeds P ys
  one_heeds P [] xs ys did all m none few = inl (sym (ap lines m) ∙ none)
  one_heeds P (turn ∷ turns) xs ys did all m none few = by_kind (OneHeeds P ys) turn.old turn.now (olds_of turns) turn.own turn.calls 1 (kind_of turn did.0) few
      (λ no_line less. one_heeds P turns m.0 ys did.1 all.1 m.2
      (merge_of_first (lines xs) (lines m.0) (subst (λ (l : List (List ℕ)). IsMergeOf (lines xs) l (lines m.0)) no_line (lines_merge xs turn.own m.0 m.1)) ∙ none) less)
      (λ heeds more. inr (
        turn,
        all.0,
        heeds,
        none_more turns m.0 ys did.1 m.2 (omega arith)
            ∙ merge_of_second (lines turn.own) (lines m.0) (subst (λ (l : List (List ℕ)). IsMergeOf l (lines turn.own) (lines m.0)) none (lines_merge xs turn.own m.0 m.1)),
      ))

  module _ {T : Type 0} (stance : T → Stance) (b : Parts T) where
    -- each line of a round had waited
    pub round_waited : (turns : List (Turn H A)) (before part : List Entry) → AllAre Did turns → MadeOf [] turns part → operators (olds_of turns) ≤ 1
        → AllAsked (said_by stance b) before part turns → EachIs (Waited (said_by stance b)) before part
    round_waited turns before part did made few all = ⊎_elim
        (λ (none : lines part ≡ []). each_no_line (said_by stance b) before part none)
        (λ (one : (turn : Turn H A) × WereAsked (said_by stance b) before turn.calls turn.own part × Heeded false turn.calls × (lines part ≡ lines turn.own)).
        asked_waited stance b false before one.0.calls one.0.own part one.1 one.3 one.2 (λ is. absurd (cc)))
        (one_heeds (λ (turn : Turn H A). WereAsked (said_by stance b) before turn.calls turn.own part) turns [] part did all made refl few)

    -- the operators of the first members are not more than all; and all are as many behind their turns
    pub few_olds : (turns : List (Turn H A)) (others olds nows : List (Member H A)) → AreTurnsOf turns others olds nows → operators olds ≤ 1 → operators (olds_of turns) ≤ 1
    few_olds turns others olds nows are few =
        let all : operators olds ≡ operators (olds_of turns) + operators others = ap operators are.0 ∙ operators-append (olds_of turns) others in omega arith

    pub few_nows : (turns : List (Turn H A)) (others olds nows : List (Member H A)) → AllAre Did turns → AreTurnsOf turns others olds nows → operators olds ≤ 1 → operators nows ≤ 1
    few_nows turns others olds nows did are few =
        let all : operators olds ≡ operators (olds_of turns) + operators others = ap operators are.0 ∙ operators-append (olds_of turns) others in
        let now : operators nows ≡ operators (nows_of turns) + operators others = ap operators are.1 ∙ operators-append (nows_of turns) others in
        let same = same_operators turns did in
        omega arith

  module _ {B T : Type 0} (stance : T → Stance) (opening : B → Parts T) (base : B) where
    abbrev P : List Entry → Entry → Type 0
    P = Waited (said_by stance (opening base))

    rounds_waited : (rounds : List (Round H A)) (olds nows : List (Member H A)) (before after : List Entry) → AllAre Did (turns_of rounds) → RoundsFrom (site_says stance opening) base rounds olds before nows after
        → operators olds ≤ 1 → ∥ EachIs P [] before ∥₁ → ∥ EachIs P [] after ∥₁ × (operators nows ≤ 1)
    rounds_waited [] olds nows before after did r few each = (subst (λ (es : List Entry). ∥ EachIs P [] es ∥₁) (sym r.1) each, subst (λ (ms : List (Member H A)). operators ms ≤ 1) (sym r.0) few)
    rounds_waited (round ∷ rounds) olds nows before after did r few each =
        let two = all_two Did round.turns (turns_of rounds) did in
        let more = both_true (λ (e : EachIs P [] before) (all : AllAsked (said_by stance (opening base)) before r.1 round.turns).
        each_behind P before r.1 e (round_waited stance (opening base) round.turns before r.1 two.0 r.3 (few_olds stance (opening base) round.turns [] olds r.0 r.2 few) all)) each r.6 in
        rounds_waited rounds r.0 nows (before ++ r.1) after two.1 r.7 (few_nows stance (opening base) round.turns [] olds r.0 two.0 r.2 few) more

    last_waited : (last : List (Turn H A)) (others olds nows : List (Member H A)) (before part history : List Entry) → AllAre Did last → AreTurnsOf last others olds nows → MadeOf [] last part → before ++ part ≡ history
        → ∥ AllAsked (site_says stance opening base) before part last ∥₁ → operators olds ≤ 1 → ∥ EachIs P [] before ∥₁ → ∥ EachIs P [] history ∥₁
    last_waited last others olds nows before part history did are made is asked few each = subst (λ (es : List Entry). ∥ EachIs P [] es ∥₁) is
        (both_true (λ (e : EachIs P [] before) (all : AllAsked (said_by stance (opening base)) before part last).
        each_behind P before part e (round_waited stance (opening base) last before part did made (few_olds stance (opening base) last others olds nows are few) all)) each asked)

    -- each line of a life with at most one operator had waited
    pub life_waited : (rounds : List (Round H A)) (last : List (Turn H A)) (olds members nows : List (Member H A)) (before part history : List Entry) (how : Result Progress Memory) → AllAre Did (turns_of rounds ++ last)
        → RoundsFrom (site_says stance opening) base rounds olds [] members before → EndsWith (site_says stance opening) base last members before nows part history how → operators olds ≤ 1 → ∥ EachIs P [] history ∥₁
    life_waited rounds last olds members nows before part history how did went ended few =
        let two = all_two Did (turns_of rounds) last did in
        let so_far = rounds_waited rounds olds members [] before two.0 went few ∣ tt ∣₁ in
        by how ended two.1 so_far.0 so_far.1
      where
        by : (how : Result Progress Memory) → EndsWith (site_says stance opening) base last members before nows part history how → AllAre Did last → ∥ EachIs P [] before ∥₁ → operators members ≤ 1 → ∥ EachIs P [] history ∥₁
        by (Ok come) e d each less = last_waited last [] members nows before part history d e.0 e.1 e.2 e.3 less each
        by (Err memory) e d each less = last_waited last e.0 members nows before part history d e.1 e.2 e.3 e.4 less each
