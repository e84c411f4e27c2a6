-- Which lines an operator heard in a life: those that it read.
use Rattle.std.proofs.Common.{◌≡◌, ◌⊎◌, ◌≤◌, ◌∙◌, ⊎_elim, inl, inr, ℕ, suc, ℤ, Bool, true, false, List, [], ◌∷◌, ◌++◌, map, Option, None, Result, Ok, Err, refl, sym, ap, subst, append_assoc, append-nil, arith}
use Rattle.std.specs.Prelude.{IfOk, not, if◌then◌else◌}
use Rattle.std.specs.List.{AllByRecursion as AllAre}
use Rattle.std.specs.Io.KnownBytes.{Consumes}
use Rattle.std.proofs.KnownBytes.{Consumes-nil, Consumes-trans}
use Rattle.std.proofs.Math.Logic.{∥∥₁_map}
use Rattle.std.proofs.Math.Seq.{take-nil}
use Rattle.program_lock.specs.declared.program.Memory.{Memory as NoMemory}
use Rattle.program_lock.specs.Legal.{Answers as AnswersOf}
use Rattle.program_lock.specs.Merge.{IsMergeOf}
use Rattle.build_life.specs.declared.resting.Rest.{Rest}
use Rattle.journal_core.specs.declared.faults.TakeFault.{TakeFault}
use Rattle.agent_worker.specs.declared.gate.GateCall.{GateCall}
use Rattle.agent_worker.specs.declared.gate.GateCall.TheVariants as gate_call
use Rattle.agent_worker.specs.declared.gate.Said.{Said}
use Rattle.agent_worker.specs.declared.gate.Said.TheVariants.{Nothing}
use Rattle.agent_worker.specs.declared.operator.LineEnd.{LineEnd}
use Rattle.agent_worker.specs.declared.operator.LineEnd.TheVariants as line_end
use Rattle.agent_worker.specs.declared.member.Member.{Member}
use Rattle.agent_worker.specs.declared.member.Member.TheVariants.{Executor, Operator}
use Rattle.agent_worker.specs.declared.worked.Worked.{Worked}
use Rattle.agent_worker.specs.declared.worked.Worked.TheVariants as worked
use Rattle.agent_worker.specs.AnswerBytes.{begun_after, last_line, lines_of, short}
use Rattle.agent_worker.specs.Operating.{Ask, Asked, Reads, Given, Halted, FoundInput, IsOperating, IsReadToEnd, NoMore, LastHeeded, MayAsk, First, Waited, PassedOver, Heeded, Operates, OperatorEnds, ReadLine, GivesLines, given_in, has_ended, read_in, operator_calls}
use Rattle.agent_worker.specs.Operating as operating
use Rattle.agent_worker.proofs.AnswerLemmas.{begun-on, lines-on}
use Rattle.build_store.specs.Lower.build_core.Builds.{Parts}
use Rattle.settle_laws.specs.Stances.{Stance}
use Rattle.task_host.specs.declared.call.Call.{Call}
use Rattle.task_host.specs.declared.order.Stream.{Stream}
use Rattle.member_turns.specs.Lower.locked_build.declared.ask.Ask.{Ask as AskState}
use Rattle.member_turns.specs.Lower.locked_build.declared.ask.Entry.{Entry}
use Rattle.member_turns.specs.Lower.locked_build.declared.ask.Progress.{Progress}
use Rattle.member_turns.specs.Lower.locked_build.declared.ask.Reply.{Reply}
use Rattle.member_turns.specs.Lower.locked_build.Histories.{kept_fault, lines}
use Rattle.member_turns.specs.Lower.locked_build.Says.{Says}
use Rattle.member_turns.specs.Tales.{tells_of}
use Rattle.member_turns.proofs.TaleLemmas.{lines-append}
use Rattle.member_turns.specs.Lives.{EndsWith, Life}
use Rattle.member_turns.specs.Rounds.{AreTurnsOf, Round, RoundsFrom, turns_of}
use Rattle.member_turns.specs.Orders.{AllAnswered}
use Rattle.member_turns.specs.Turns.{Turn, DidTurn, MadeOf, Work}
use Rattle.member_turns.specs.Waiting.{operators}
use Rattle.member_turns.proofs.WaitLemmas.{few_nows, few_olds}
use Rattle.build_life.specs.Ending.{ended_as}
use Rattle.build_life.specs.Going.{heard_in}
use Rattle.build_life.specs.Telling.{AreHeard}
use Rattle.build_life.proofs.CallLemmas.{in_last, no_halt, no_refusal}
use Rattle.build_life.proofs.FactLemmas.{rest_calm}
use Rattle.build_life.proofs.FitLemmas.{steps_all}
use Rattle.build_life.proofs.WalkLemmas.{all_behind, all_front}
use Rattle.build_life.proofs.MemberLemmas.{Steps, said_failed}
use Rattle.task_host.specs.View.{HostView}
use Rattle.jp_io.specs.View.{SourceView}

-- what an operator did last is no line that was refused, and no halt
abbrev IsWell : List Ask → Type 0
IsWell [] = Unit {0}
IsWell (Asked inputs ∷ past) = Unit {0}
IsWell (Reads bytes end ∷ past) = Unit {0}
IsWell (Given line (Ok heard) ∷ past) = Unit {0}
IsWell (Given line (Err fault) ∷ past) = ⊥
IsWell (Halted ∷ past) = ⊥

well_asked : (past : List Ask) → MayAsk past → IsWell past
well_asked past First = tt
well_asked past (Waited inputs before none) = tt
well_asked past (PassedOver bytes before) = tt
well_asked past (Heeded line heard bytes before) = tt

-- so each line that it gave was heard
all_heard : (past : List Ask) → IsOperating past → IsWell past → operating.heard_in past ≡ given_in past
all_heard [] lawful well = refl
all_heard (Asked inputs ∷ past) lawful well = all_heard past lawful.1 (well_asked past lawful.0)
all_heard (Reads bytes end ∷ past) lawful well = let found : FoundInput past = lawful.0.0 in all_heard past lawful.1 (subst IsWell (sym found.2) tt)
all_heard (Given line (Ok heard) ∷ past) lawful well =
    let read : ReadLine past = lawful.0 in ap (λ (l : List (List ℕ)). l ++ line ∷ []) (all_heard past lawful.1 (subst IsWell (sym read.3) tt))
all_heard (Given line (Err fault) ∷ past) lawful well = absurd well
all_heard (Halted ∷ past) lawful well = absurd well

well_read : (past : List Ask) → IsReadToEnd past → IsWell past
well_read past (NoMore bytes before) = tt
well_read past (LastHeeded line heard bytes before) = tt

well_ended : (old_ended : Bool) (past : List Ask) (w : Worked) → OperatorEnds old_ended past w → (w ≡ worked.Stopped → ⊥) → (w ≡ worked.Memory → ⊥) → IsWell past
well_ended old_ended past worked.Rest (inl over) going some = subst IsWell (sym over.1) tt
well_ended old_ended past worked.Rest (inr (inl read)) going some = well_read past read
well_ended old_ended past worked.Rest (inr (inr nothing)) going some = subst IsWell (sym nothing.2) tt
well_ended old_ended past worked.Stopped ends going some = absurd (going refl)
well_ended old_ended past worked.Memory ends going some = absurd (some refl)
well_ended old_ended past worked.AnswersFailed ends going some = subst IsWell (sym ends.2) tt

-- what an operator did last is no reading that broke off, and no halt
abbrev IsWhole : List Ask → Type 0
IsWhole [] = Unit {0}
IsWhole (Asked inputs ∷ past) = Unit {0}
IsWhole (Reads bytes line_end.Line ∷ past) = Unit {0}
IsWhole (Reads bytes line_end.End ∷ past) = Unit {0}
IsWhole (Reads bytes line_end.Failed ∷ past) = ⊥
IsWhole (Reads bytes line_end.Memory ∷ past) = ⊥
IsWhole (Given line answer ∷ past) = Unit {0}
IsWhole (Halted ∷ past) = ⊥

whole_asked : (past : List Ask) → MayAsk past → IsWhole past
whole_asked past First = tt
whole_asked past (Waited inputs before none) = tt
whole_asked past (PassedOver bytes before) = tt
whole_asked past (Heeded line heard bytes before) = tt

whole_line : (past : List Ask) → ReadLine past → IsWhole past
whole_line past read = subst IsWhole (sym read.3) (by read.1 read.4)
  where
    by : (end : LineEnd) → (end ≡ line_end.Line) ⊎ (end ≡ line_end.End) → IsWhole (Reads read.0 end ∷ read.2)
    by line_end.Line is = tt
    by line_end.End is = tt
    by line_end.Failed (inl is) = absurd (cc)
    by line_end.Failed (inr is) = absurd (cc)
    by line_end.Memory (inl is) = absurd (cc)
    by line_end.Memory (inr is) = absurd (cc)

whole_read : (past : List Ask) → IsReadToEnd past → IsWhole past
whole_read past (NoMore bytes before) = tt
whole_read past (LastHeeded line heard bytes before) = tt

whole_ended : (old_ended : Bool) (past : List Ask) (w : Worked) → OperatorEnds old_ended past w → (w ≡ worked.Stopped → ⊥) → (w ≡ worked.Memory → ⊥) → (w ≡ worked.AnswersFailed → ⊥) → IsWhole past
whole_ended old_ended past worked.Rest (inl over) going some told = subst IsWhole (sym over.1) tt
whole_ended old_ended past worked.Rest (inr (inl read)) going some told = whole_read past read
whole_ended old_ended past worked.Rest (inr (inr nothing)) going some told = subst IsWhole (sym nothing.2) tt
whole_ended old_ended past worked.Stopped ends going some told = absurd (going refl)
whole_ended old_ended past worked.Memory ends going some told = absurd (some refl)
whole_ended old_ended past worked.AnswersFailed ends going some told = absurd (told refl)

-- so nothing was read of a line that is not whole
reads_whole : (begun : List ℕ) → begun ≡ [] → (past : List Ask) → IsOperating past → IsWhole past → has_ended past ≡ false → begun_after begun (read_in past) ≡ []
reads_whole begun none [] lawful whole going = none
reads_whole begun none (Asked inputs ∷ past) lawful whole going = reads_whole begun none past lawful.1 (whole_asked past lawful.0) going
reads_whole begun none (Reads bytes line_end.Line ∷ past) lawful whole going = begun-on begun (read_in past) (bytes ++ 10 ∷ []) ∙ begun-on (begun_after begun (read_in past)) bytes (10 ∷ [])
reads_whole begun none (Reads bytes line_end.End ∷ past) lawful whole going = let bad : true ≡ false = going in absurd (cc)
reads_whole begun none (Reads bytes line_end.Failed ∷ past) lawful whole going = absurd whole
reads_whole begun none (Reads bytes line_end.Memory ∷ past) lawful whole going = absurd whole
reads_whole begun none (Given line answer ∷ past) lawful whole going = reads_whole begun none past lawful.1 (whole_line past lawful.0) going
reads_whole begun none (Halted ∷ past) lawful whole going = absurd whole

true_not_false : (b : Bool) → b ≡ true → b ≡ false → ⊥
true_not_false b is other = let bad : true ≡ false = sym is ∙ other in absurd (cc)

-- the lines of two that are merged, where one has none
lines_one : (z : Entry) (zs : List Entry) → lines (z ∷ zs) ≡ lines (z ∷ []) ++ lines zs
lines_one z zs = lines-append (z ∷ []) zs

none_both : (xs ys : List (List ℕ)) → xs ++ ys ≡ [] → (xs ≡ []) × (ys ≡ [])
none_both [] ys is = (refl, is)
none_both (x ∷ xs) ys is = absurd (cc)

lines_first : (xs ys zs : List Entry) → IsMergeOf xs ys zs → lines ys ≡ [] → lines zs ≡ lines xs
lines_first xs ys [] m none = sym (ap lines m.0)
lines_first xs ys (z ∷ zs) m none = ⊎_elim
    (λ (l : (us : List Entry) × (xs ≡ z ∷ us) × IsMergeOf us ys zs). lines_one z zs ∙ ap (λ (ls : List (List ℕ)). lines (z ∷ []) ++ ls) (lines_first l.0 ys zs l.2 none) ∙ sym (lines_one z l.0) ∙ sym (ap lines l.1))
    (λ (r : (vs : List Entry) × (ys ≡ z ∷ vs) × IsMergeOf xs vs zs).
    let parts = none_both (lines (z ∷ [])) (lines r.0) (sym (lines_one z r.0) ∙ sym (ap lines r.1) ∙ none) in
    lines_one z zs ∙ ap (λ (ls : List (List ℕ)). ls ++ lines zs) parts.0 ∙ lines_first xs r.0 zs r.2 parts.1)
    m

lines_second : (xs ys zs : List Entry) → IsMergeOf xs ys zs → lines xs ≡ [] → lines zs ≡ lines ys
lines_second xs ys [] m none = sym (ap lines m.1)
lines_second xs ys (z ∷ zs) m none = ⊎_elim
    (λ (l : (us : List Entry) × (xs ≡ z ∷ us) × IsMergeOf us ys zs).
    let parts = none_both (lines (z ∷ [])) (lines l.0) (sym (lines_one z l.0) ∙ sym (ap lines l.1) ∙ none) in
    lines_one z zs ∙ ap (λ (ls : List (List ℕ)). ls ++ lines zs) parts.0 ∙ lines_second l.0 ys zs l.2 parts.1)
    (λ (r : (vs : List Entry) × (ys ≡ z ∷ vs) × IsMergeOf xs vs zs). lines_one z zs ∙ ap (λ (ls : List (List ℕ)). lines (z ∷ []) ++ ls) (lines_second xs r.0 zs r.2 none) ∙ sym (lines_one z r.0) ∙ sym (ap lines r.1))
    m

module _ {H A : Type 0} where
  -- whether a turn of an operator ended without a fault
  abbrev EndsWell : Member H A → Worked → Type 0
  EndsWell (Executor number host) w = Unit {0}
  EndsWell (Operator answers line ended failed) w = (w ≡ worked.Stopped → ⊥) × (w ≡ worked.Memory → ⊥)

module _ {H A : Type 0} (host : HostView H) (source : SourceView A) (looks : ℕ) where
  abbrev DoesWork : Member H A → Member H A → Worked → List Entry → List GateCall → Said → Bool → Type 0
  DoesWork m n w own gate_calls said is_open = Work host source looks m n w (tells_of [] [] Nothing false) (tells_of own gate_calls said is_open)

  -- In a life that keeps no fault each turn of an operator ends so.
  well_turn : {T : Type 0} (stance : T → Stance) (opening : Parts T) (history : List Entry) → kept_fault history ≡ None → (m n : Member H A) (w : Worked) (own : List Entry) (gate_calls : List GateCall) (said : Said) (is_open : Bool)
      → DoesWork m n w own gate_calls said is_open → AllAnswered (λ h a r new. Says stance opening h a r new) history gate_calls → EndsWell m w
  well_turn stance opening history calm (Executor number machine) n w own gate_calls said is_open works asked = tt
  well_turn stance opening history calm (Operator answers line ended failed) (Executor now next) w own gate_calls said is_open works asked = absurd works
  well_turn stance opening history calm (Operator answers line ended failed) (Operator next kept now_ended now_failed) w own gate_calls said is_open works asked =
      let o : Operates _ _ (source.left answers) (source.left next) line kept ended now_ended w = works.0 in
      (stops w o.past o.so_far.calls o.ends, wants w o.past o.so_far.calls o.ends)
    where
      stops : (x : Worked) (past : List Ask) → gate_calls ≡ operator_calls past [] → OperatorEnds ended past x → x ≡ worked.Stopped → ⊥
      stops worked.Rest past are ends is = absurd (cc)
      stops worked.Stopped past are ends is =
          let calls_are : gate_calls ≡ operator_calls ends.2 [] ++ gate_call.Answer ends.0 (Err ends.1) ∷ [] = are ∙ ap (λ (p : List Ask). operator_calls p []) ends.3 in
          no_refusal stance opening history calm ends.0 ends.1 ends.4
          (subst (AllAnswered (λ h a r new. Says stance opening h a r new) history) calls_are asked (gate_call.Answer ends.0 (Err ends.1)) (in_last (operator_calls ends.2 []) (gate_call.Answer ends.0 (Err ends.1))))
      stops worked.Memory past are ends is = absurd (cc)
      stops worked.AnswersFailed past are ends is = absurd (cc)

      wants : (x : Worked) (past : List Ask) → gate_calls ≡ operator_calls past [] → OperatorEnds ended past x → x ≡ worked.Memory → ⊥
      wants worked.Rest past are ends is = absurd (cc)
      wants worked.Stopped past are ends is = absurd (cc)
      wants worked.Memory past are ends is =
          let calls_are : gate_calls ≡ operator_calls ends.0 [] ++ gate_call.Halt ∷ [] = are ∙ ap (λ (p : List Ask). operator_calls p []) ends.1 in
          no_halt stance opening history calm
          (subst (AllAnswered (λ h a r new. Says stance opening h a r new) history) calls_are asked gate_call.Halt (in_last (operator_calls ends.0 []) gate_call.Halt))
      wants worked.AnswersFailed past are ends is = absurd (cc)

  -- What an operator has read so far, what it keeps of the next line, and which lines were heard.
  record HeardSo (heard : List (List ℕ)) (answers next : A) (kept : List ℕ) (now_ended now_failed : Bool) : Type 0 where
    read : List ℕ
    consumes : Consumes (source.left answers) (source.left next) read
    keeps : kept ≡ short (if now_ended then [] else begun_after [] read)
    lines_are : heard ≡ heard_in read (not now_ended)
    whole : now_failed ≡ false → now_ended ≡ false → begun_after [] read ≡ []

  abbrev AllHeard : List (List ℕ) → List (Member H A) → List (Member H A) → Type 0
  AllHeard heard [] [] = heard ≡ []
  AllHeard heard (Executor number machine ∷ old) (Executor now next ∷ new) = AllHeard heard old new
  AllHeard heard (Operator answers line ended failed ∷ []) (Operator next kept now_ended now_failed ∷ []) = line ≡ [] → ended ≡ false → HeardSo heard answers next kept now_ended now_failed
  AllHeard heard (Operator answers line ended failed ∷ (o ∷ old)) (Operator next kept now_ended now_failed ∷ (m ∷ new)) = Unit {0}
  AllHeard heard (Executor number machine ∷ old) (Operator next kept now_ended now_failed ∷ new) = ⊥
  AllHeard heard (Operator answers line ended failed ∷ old) (Executor now next ∷ new) = ⊥
  AllHeard heard (Operator answers line ended failed ∷ []) (Operator next kept now_ended now_failed ∷ (m ∷ new)) = ⊥
  AllHeard heard (Operator answers line ended failed ∷ (o ∷ old)) (Operator next kept now_ended now_failed ∷ []) = ⊥
  AllHeard heard [] (member ∷ new) = ⊥
  AllHeard heard (member ∷ old) [] = ⊥

  heard_first : (ms : List (Member H A)) → AllHeard [] ms ms
  heard_first [] = refl
  heard_first (Executor number machine ∷ ms) = heard_first ms
  heard_first (Operator answers line ended failed ∷ []) = λ fresh going. record {
    read = [];
    consumes = Consumes-nil (source.left answers);
    keeps = fresh ∙ sym (take-nil 1026) ∙ ap (λ (e : Bool). short (if e then [] else [])) (sym going);
    lines_are = ap (λ (e : Bool). heard_in [] (not e)) (sym going);
    whole = λ calm more. refl;
  }
  heard_first (Operator answers line ended failed ∷ (m ∷ ms)) = tt

  -- one turn of the operator
  one_turn : (heard : List (List ℕ)) (answers next last : A) (kept held : List ℕ) (now_ended then_ended now_failed then_failed : Bool) (w : Worked) (own : List Entry) (gate_calls : List GateCall) (said : Said) (is_open : Bool)
      → Operates (tells_of [] [] Nothing false) (tells_of own gate_calls said is_open) (source.left next) (source.left last) kept held now_ended then_ended w → (w ≡ worked.Stopped → ⊥) × (w ≡ worked.Memory → ⊥)
      → (w ≡ worked.AnswersFailed → then_failed ≡ true) → ((w ≡ worked.AnswersFailed → ⊥) → then_failed ≡ now_failed)
      → HeardSo heard answers next kept now_ended now_failed → HeardSo (heard ++ lines own) answers last held then_ended then_failed
  one_turn heard answers next last kept held true then_ended now_failed then_failed w own gate_calls said is_open o well fails same h =
      let over = o.over refl in
      let nothing : lines own ≡ [] = o.so_far.lines ∙ ap operating.heard_in over.0 in
      let still : then_ended ≡ true = o.ended_so in
      record {
        read = h.read;
        consumes = subst (λ (l : Option (List ℕ)). Consumes (source.left answers) l h.read) (sym over.1) h.consumes;
        keeps = over.2 ∙ h.keeps ∙ ap (λ (e : Bool). short (if e then [] else begun_after [] h.read)) (sym still);
        lines_are = ap (λ (l : List (List ℕ)). heard ++ l) nothing ∙ append-nil heard ∙ h.lines_are ∙ ap (λ (e : Bool). heard_in h.read (not e)) (sym still);
        whole = λ calm going. absurd (true_not_false then_ended still going);
      }
  one_turn heard answers next last kept held false then_ended now_failed then_failed w own gate_calls said is_open o well fails same h =
      let x : List ℕ = read_in o.past in
      let begun : List ℕ = begun_after [] h.read in
      let gives : GivesLines begun held o.past w = o.gives begun h.keeps in
      let rest : begun_after [] (h.read ++ x) ≡ begun_after begun x = begun-on [] h.read x in
      let whole : lines_of [] (h.read ++ x) ≡ lines_of [] h.read ++ lines_of begun x = lines-on [] h.read x in
      let said_so : lines own ≡ given_in o.past = o.so_far.lines ∙ all_heard o.past o.so_far.lawful (well_ended false o.past w o.ends well.0 well.1) in
      let all : heard ++ lines own ≡ lines_of [] h.read ++ (lines_of begun x ++ (if has_ended o.past then last_line (begun_after begun x) else [])) = ap (λ (l : List (List ℕ)). l ++ lines own) h.lines_are ∙ ap (λ (l : List (List ℕ)). lines_of [] h.read ++ l) (said_so ∙ gives.given) in
      let still : then_ended ≡ has_ended o.past = o.ended_so in
      record {
        read = h.read ++ x;
        consumes = Consumes-trans (source.left answers) (source.left next) (source.left last) h.read x h.consumes o.read;
        keeps = gives.kept well.1 ∙ ap (λ (l : List ℕ). short (if has_ended o.past then [] else l)) (sym rest) ∙ ap (λ (e : Bool). short (if e then [] else begun_after [] (h.read ++ x))) (sym still);
        lines_are = all ∙ sum (has_ended o.past) h.read x begun rest whole ∙ ap (λ (e : Bool). heard_in (h.read ++ x) (not e)) (sym still);
        whole = λ calm going. rest ∙ by calm (sym still ∙ going) (said_failed w);
      }
    where
      by : then_failed ≡ false → has_ended o.past ≡ false → (w ≡ worked.AnswersFailed) ⊎ ¬ (w ≡ worked.AnswersFailed) → begun_after (begun_after [] h.read) (read_in o.past) ≡ []
      by calm going (inl is) = absurd (true_not_false then_failed (fails is) calm)
      by calm going (inr other) =
          reads_whole (begun_after [] h.read) (h.whole (sym (same other) ∙ calm) refl) o.past o.so_far.lawful (whole_ended false o.past w o.ends well.0 well.1 other) going

      sum : (e : Bool) (r x begun : List ℕ) → begun_after [] (r ++ x) ≡ begun_after begun x → lines_of [] (r ++ x) ≡ lines_of [] r ++ lines_of begun x
          → lines_of [] r ++ (lines_of begun x ++ (if e then last_line (begun_after begun x) else [])) ≡ heard_in (r ++ x) (not e)
      sum true r x begun rest whole = sym (append_assoc (lines_of [] r) (lines_of begun x) (last_line (begun_after begun x))) ∙ ap (λ (l : List (List ℕ)). l ++ last_line (begun_after begun x)) (sym whole) ∙ ap (λ (l : List ℕ). lines_of [] (r ++ x) ++ last_line l) (sym rest)
      sum false r x begun rest whole = ap (λ (l : List (List ℕ)). lines_of [] r ++ l) (append-nil (lines_of begun x)) ∙ sym whole

  -- one turn of one of the members
  heard_turn : (heard : List (List ℕ)) (os front back : List (Member H A)) (m n : Member H A) (w : Worked) (own : List Entry) (gate_calls : List GateCall) (said : Said) (is_open : Bool) → DoesWork m n w own gate_calls said is_open → EndsWell m w
      → AllHeard heard os (front ++ m ∷ back) → AllHeard (heard ++ lines own) os (front ++ n ∷ back)
  heard_turn heard [] [] back m n w own gate_calls said is_open works well h = absurd h
  heard_turn heard [] (k ∷ front) back m n w own gate_calls said is_open works well h = absurd h
  heard_turn heard (Executor number machine ∷ os) [] back (Executor now next) (Executor after last) w own gate_calls said is_open works well h =
      subst (λ (l : List (List ℕ)). AllHeard l os back) (sym (ap (λ (l : List (List ℕ)). heard ++ l) works.4 ∙ append-nil heard)) h
  heard_turn heard (Executor number machine ∷ os) [] back (Executor now next) (Operator last held then_ended then_failed) w own gate_calls said is_open works well h = absurd works
  heard_turn heard (Executor number machine ∷ os) [] back (Operator next kept now_ended now_failed) n w own gate_calls said is_open works well h = absurd h
  heard_turn heard (Executor number machine ∷ os) (Executor now next ∷ front) back m n w own gate_calls said is_open works well h = heard_turn heard os front back m n w own gate_calls said is_open works well h
  heard_turn heard (Executor number machine ∷ os) (Operator next kept now_ended now_failed ∷ front) back m n w own gate_calls said is_open works well h = absurd h
  heard_turn heard (Operator answers line ended failed ∷ []) [] [] (Operator next kept now_ended now_failed) (Operator last held then_ended then_failed) w own gate_calls said is_open works well h =
      λ fresh going. one_turn heard answers next last kept held now_ended then_ended now_failed then_failed w own gate_calls said is_open works.0 well works.2 works.3 (h fresh going)
  heard_turn heard (Operator answers line ended failed ∷ []) [] [] (Operator next kept now_ended now_failed) (Executor after last) w own gate_calls said is_open works well h = absurd works
  heard_turn heard (Operator answers line ended failed ∷ []) [] [] (Executor now next) n w own gate_calls said is_open works well h = absurd h
  heard_turn heard (Operator answers line ended failed ∷ []) [] (b ∷ back) (Operator next kept now_ended now_failed) n w own gate_calls said is_open works well h = absurd h
  heard_turn heard (Operator answers line ended failed ∷ []) [] (b ∷ back) (Executor now next) n w own gate_calls said is_open works well h = absurd h
  heard_turn heard (Operator answers line ended failed ∷ []) (Operator next kept now_ended now_failed ∷ []) back m n w own gate_calls said is_open works well h = absurd h
  heard_turn heard (Operator answers line ended failed ∷ []) (Operator next kept now_ended now_failed ∷ (k ∷ front)) back m n w own gate_calls said is_open works well h = absurd h
  heard_turn heard (Operator answers line ended failed ∷ []) (Executor now next ∷ front) back m n w own gate_calls said is_open works well h = absurd h
  heard_turn heard (Operator answers line ended failed ∷ (o ∷ os)) [] [] (Operator next kept now_ended now_failed) n w own gate_calls said is_open works well h = absurd h
  heard_turn heard (Operator answers line ended failed ∷ (o ∷ os)) [] [] (Executor now next) n w own gate_calls said is_open works well h = absurd h
  heard_turn heard (Operator answers line ended failed ∷ (o ∷ os)) [] (b ∷ back) (Operator next kept now_ended now_failed) (Operator last held then_ended then_failed) w own gate_calls said is_open works well h = tt
  heard_turn heard (Operator answers line ended failed ∷ (o ∷ os)) [] (b ∷ back) (Operator next kept now_ended now_failed) (Executor after last) w own gate_calls said is_open works well h = absurd works
  heard_turn heard (Operator answers line ended failed ∷ (o ∷ os)) [] (b ∷ back) (Executor now next) n w own gate_calls said is_open works well h = absurd h
  heard_turn heard (Operator answers line ended failed ∷ (o ∷ os)) (Operator next kept now_ended now_failed ∷ []) back m n w own gate_calls said is_open works well h = tt
  heard_turn heard (Operator answers line ended failed ∷ (o ∷ os)) (Operator next kept now_ended now_failed ∷ (k ∷ front)) back m n w own gate_calls said is_open works well h = tt
  heard_turn heard (Operator answers line ended failed ∷ (o ∷ os)) (Executor now next ∷ front) back m n w own gate_calls said is_open works well h = absurd h

  -- all turns
  abbrev lines_told : List (Turn H A) → List (List ℕ)
  lines_told [] = []
  lines_told (turn ∷ turns) = lines turn.own ++ lines_told turns

  abbrev Well : Turn H A → Type 0
  Well turn = EndsWell turn.old turn.worked

  heard_turns : (heard : List (List ℕ)) (os ms : List (Member H A)) (turns : List (Turn H A)) (ns : List (Member H A)) → Steps ms turns ns → AllAre (DidTurn host source looks) turns → AllAre Well turns
      → AllHeard heard os ms → AllHeard (heard ++ lines_told turns) os ns
  heard_turns heard os ms [] ns steps did well h = subst (λ (l : List (List ℕ)). AllHeard l os ns) (sym (append-nil heard)) (subst (AllHeard heard os) steps h)
  heard_turns heard os ms (turn ∷ turns) ns steps did well h =
      subst (λ (l : List (List ℕ)). AllHeard l os ns) (append_assoc heard (lines turn.own) (lines_told turns))
      (heard_turns (heard ++ lines turn.own) os (steps.0 ++ turn.now ∷ steps.1) turns ns steps.3 did.1 well.1
      (heard_turn heard os steps.0 steps.1 turn.old turn.now turn.worked turn.own turn.calls turn.said turn.is_open did.0.works well.0 (subst (AllHeard heard os) steps.2 h)))

  heard_at_end : (heard : List (List ℕ)) (os ns : List (Member H A)) → AllHeard heard os ns → AreHeard source heard os ns
  heard_at_end heard [] [] h = h
  heard_at_end heard (Executor number machine ∷ os) (Executor now next ∷ ns) h = heard_at_end heard os ns h
  heard_at_end heard (Operator answers line ended failed ∷ []) (Operator next kept now_ended now_failed ∷ []) h = λ fresh going. let s = h fresh going in (s.read, s.consumes, s.lines_are, s.whole)
  heard_at_end heard (Operator answers line ended failed ∷ (o ∷ os)) (Operator next kept now_ended now_failed ∷ (m ∷ ns)) h = tt
  heard_at_end heard (Executor number machine ∷ os) (Operator next kept now_ended now_failed ∷ ns) h = absurd h
  heard_at_end heard (Operator answers line ended failed ∷ os) (Executor now next ∷ ns) h = absurd h
  heard_at_end heard (Operator answers line ended failed ∷ []) (Operator next kept now_ended now_failed ∷ (m ∷ ns)) h = absurd h
  heard_at_end heard (Operator answers line ended failed ∷ (o ∷ os)) (Operator next kept now_ended now_failed ∷ []) h = absurd h
  heard_at_end heard [] (m ∷ ns) h = absurd h
  heard_at_end heard (o ∷ os) [] h = absurd h

  abbrev Did : Turn H A → Type 0
  Did turn = DidTurn host source looks turn

  abbrev olds : List (Turn H A) → List (Member H A)
  olds turns = map (λ (turn : Turn H A). turn.old) turns

  told-append : (xs ys : List (Turn H A)) → lines_told (xs ++ ys) ≡ lines_told xs ++ lines_told ys
  told-append [] ys = refl
  told-append (turn ∷ xs) ys = ap (λ (l : List (List ℕ)). lines turn.own ++ l) (told-append xs ys) ∙ sym (append_assoc (lines turn.own) (lines_told xs) (lines_told ys))

  -- one member's turn among others: it has put no line, or it is the operator
  one_of_kind : (P : Type 0) (m n : Member H A) (ms : List (Member H A)) (w : Worked) (own : List Entry) (gate_calls : List GateCall) (said : Said) (is_open : Bool) → DoesWork m n w own gate_calls said is_open
      → (lines own ≡ [] → operators (m ∷ ms) ≡ operators ms → P) → (operators (m ∷ ms) ≡ suc (operators ms) → P) → P
  one_of_kind P (Executor number machine) (Executor now next) ms w own gate_calls said is_open works one two = one works.4 refl
  one_of_kind P (Operator answers line ended failed) n ms w own gate_calls said is_open works one two = two refl
  one_of_kind P (Executor number machine) (Operator next kept now_ended now_failed) ms w own gate_calls said is_open works one two = absurd works

  -- where at most one of the members is an operator, the lines of a round are those of its turns
  made_told : (turns : List (Turn H A)) (xs ys : List Entry) → AllAre Did turns → MadeOf xs turns ys → operators (olds turns) ≤ 1 → (lines xs ≡ []) ⊎ (operators (olds turns) ≡ 0) → lines ys ≡ lines xs ++ lines_told turns
  made_told [] xs ys did made few or = sym (ap lines made) ∙ sym (append-nil (lines xs))
  made_told (turn ∷ turns) xs ys did made few or =
      one_of_kind (lines ys ≡ lines xs ++ (lines turn.own ++ lines_told turns)) turn.old turn.now (olds turns) turn.worked turn.own turn.calls turn.said turn.is_open did.0.works
      (λ none same.
      let mid : lines made.0 ≡ lines xs = lines_first xs turn.own made.0 made.1 none in
      made_told turns made.0 ys did.1 made.2 (subst (λ (n : ℕ). n ≤ 1) same few) (still mid same or) ∙ ap (λ (l : List (List ℕ)). l ++ lines_told turns) mid ∙ ap (λ (l : List (List ℕ)). lines xs ++ (l ++ lines_told turns)) (sym none))
      (λ more. by more or (λ least none. made_told turns made.0 ys did.1 made.2 least none))
    where
      still : lines made.0 ≡ lines xs → operators (olds (turn ∷ turns)) ≡ operators (olds turns) → (lines xs ≡ []) ⊎ (operators (olds (turn ∷ turns)) ≡ 0) → (lines made.0 ≡ []) ⊎ (operators (olds turns) ≡ 0)
      still mid same (inl none) = inl (mid ∙ none)
      still mid same (inr none) = inr (sym same ∙ none)

      by : operators (olds (turn ∷ turns)) ≡ suc (operators (olds turns)) → (lines xs ≡ []) ⊎ (operators (olds (turn ∷ turns)) ≡ 0)
          → (operators (olds turns) ≤ 1 → (lines made.0 ≡ []) ⊎ (operators (olds turns) ≡ 0) → lines ys ≡ lines made.0 ++ lines_told turns) → lines ys ≡ lines xs ++ (lines turn.own ++ lines_told turns)
      by more (inl none) later =
          let mid : lines made.0 ≡ lines turn.own = lines_second xs turn.own made.0 made.1 none in
          let no_other : operators (olds turns) ≡ 0 = rest_none (operators (olds (turn ∷ turns))) (operators (olds turns)) more few in
          later (none_few (operators (olds turns)) no_other) (inr no_other) ∙ ap (λ (l : List (List ℕ)). l ++ lines_told turns) mid ∙ ap (λ (l : List (List ℕ)). l ++ (lines turn.own ++ lines_told turns)) (sym none)
        where
          rest_none : (n k : ℕ) → n ≡ suc k → n ≤ 1 → k ≡ 0
          rest_none n k is few = grind (arith, is, few)

          none_few : (k : ℕ) → k ≡ 0 → k ≤ 1
          none_few k is = omega (arith, is)
      by more (inr none) later = absurd (never (operators (olds (turn ∷ turns))) (operators (olds turns)) more none)
        where
          never : (n k : ℕ) → n ≡ suc k → n ≡ 0 → ⊥
          never n k is none = grind (arith, is, none)

  module _ {B T : Type 0} (stance : T → Stance) (opening : B → Parts T) (base : B) where
    abbrev answers_of : AnswersOf B Entry AskState Reply
    answers_of = λ b history x y more. Says stance (opening b) history x y more

    part_told : (turns : List (Turn H A)) (others old now : List (Member H A)) (before part : List Entry) → AllAre Did turns → AreTurnsOf turns others old now → MadeOf [] turns part → operators old ≤ 1 → lines (before ++ part) ≡ lines before ++ lines_told turns
    part_told turns others old now before part did are made few =
        lines-append before part ∙ ap (λ (l : List (List ℕ)). lines before ++ l)
        (made_told turns [] part did made (few_olds host source looks stance (opening base) turns others old now are few) (inl refl))

    rounds_told : (rounds : List (Round H A)) (old : List (Member H A)) (before : List Entry) (now : List (Member H A)) (after : List Entry) → AllAre Did (turns_of rounds) → RoundsFrom answers_of base rounds old before now after → operators old ≤ 1
        → (lines after ≡ lines before ++ lines_told (turns_of rounds)) × (operators now ≤ 1)
    rounds_told [] old before now after did r few = (ap lines r.1 ∙ sym (append-nil (lines before)), subst (λ (ms : List (Member H A)). operators ms ≤ 1) (sym r.0) few)
    rounds_told (round ∷ rounds) old before now after did r few =
        let here = all_front Did round.turns (turns_of rounds) did in
        let first = part_told round.turns [] old r.0 before r.1 here r.2 r.3 few in
        let later = rounds_told rounds r.0 (before ++ r.1) now after (all_behind Did round.turns (turns_of rounds) did) r.7 (few_nows host source looks stance (opening base) round.turns [] old r.0 here r.2 few) in
        (later.0 ∙ ap (λ (l : List (List ℕ)). l ++ lines_told (turns_of rounds)) first ∙ append_assoc (lines before) (lines_told round.turns) (lines_told (turns_of rounds)) ∙ ap (λ (l : List (List ℕ)). lines before ++ l) (sym (told-append round.turns (turns_of rounds))), later.1)

    life_told : (history : List Entry) (rounds : List (Round H A)) (last : List (Turn H A)) (old members : List (Member H A)) (before : List Entry) (new : List (Member H A)) (part : List Entry) (how : Result Progress NoMemory) → AllAre Did (turns_of rounds ++ last)
        → RoundsFrom answers_of base rounds old [] members before → EndsWith answers_of base last members before new part history how → operators old ≤ 1 → lines history ≡ lines_told (turns_of rounds ++ last)
    life_told history rounds last old members before new part how did went ends few =
        let so_far = rounds_told rounds old [] members before (all_front Did (turns_of rounds) last did) went few in
        by how ends ∙ ap (λ (l : List (List ℕ)). l ++ lines_told last) so_far.0 ∙ sym (told-append (turns_of rounds) last)
      where
        by : (r : Result Progress NoMemory) → EndsWith answers_of base last members before new part history r → lines history ≡ lines before ++ lines_told last
        by (Ok come) e = sym (ap lines e.2) ∙ part_told last [] members new before part (all_behind Did (turns_of rounds) last did) e.0 e.1 (rounds_told rounds old [] members before (all_front Did (turns_of rounds) last did) went few).1
        by (Err memory) e = sym (ap lines e.3) ∙ part_told last e.0 members new before part (all_behind Did (turns_of rounds) last did) e.1 e.2 (rounds_told rounds old [] members before (all_front Did (turns_of rounds) last did) went few).1

  -- what is said of an operator that is the last of the members
  heard_same : (heard told : List (List ℕ)) (os ns : List (Member H A)) → (operators os ≤ 1 → heard ≡ told) → AreHeard source told os ns → AreHeard source heard os ns
  heard_same heard told [] [] same h = same (omega arith) ∙ h
  heard_same heard told (Executor number machine ∷ os) (Executor now next ∷ ns) same h = heard_same heard told os ns same h
  heard_same heard told (Operator answers line ended failed ∷ []) (Operator next kept now_ended now_failed ∷ []) same h = λ fresh going. let s = h fresh going in (s.0, s.1, same (omega arith) ∙ s.2, s.3)
  heard_same heard told (Operator answers line ended failed ∷ (o ∷ os)) (Operator next kept now_ended now_failed ∷ (m ∷ ns)) same h = tt
  heard_same heard told (Executor number machine ∷ os) (Operator next kept now_ended now_failed ∷ ns) same h = absurd h
  heard_same heard told (Operator answers line ended failed ∷ os) (Executor now next ∷ ns) same h = absurd h
  heard_same heard told (Operator answers line ended failed ∷ []) (Operator next kept now_ended now_failed ∷ (m ∷ ns)) same h = absurd h
  heard_same heard told (Operator answers line ended failed ∷ (o ∷ os)) (Operator next kept now_ended now_failed ∷ []) same h = absurd h
  heard_same heard told [] (m ∷ ns) same h = absurd h
  heard_same heard told (o ∷ os) [] same h = absurd h

  -- Where a life rests the lines of its history are those that its operator read.
  module _ {B T : Type 0} (stance : T → Stance) (opening : B → Parts T) (start base : B) (old new : List (Member H A)) (h : List Entry) (how : Result Progress NoMemory)
      (life : Life host source looks (λ b history x y more. Says stance (opening b) history x y more) start base old new h how) where
    abbrev turns : List (Turn H A)
    turns = turns_of life.rounds ++ life.last

    abbrev Its : List Entry → AskState → Reply → List Entry → Type 0
    Its history x y more = Says stance (opening base) history x y more

    well_turns : kept_fault h ≡ None → (ts : List (Turn H A)) → AllAre Did ts → AllAre (λ (turn : Turn H A). AllAnswered Its h turn.calls) ts → AllAre Well ts
    well_turns calm [] did asked = tt
    well_turns calm (turn ∷ ts) did asked =
        (well_turn stance (opening base) h calm turn.old turn.now turn.worked turn.own turn.calls turn.said turn.is_open did.0.works asked.0, well_turns calm ts did.1 asked.1)

    pub life_heard : (ended : Result Rest TakeFault) → ended ≡ ended_as (kept_fault h) how new → IfOk ended (λ rest. ∥ AreHeard source (lines h) old new ∥₁)
    life_heard (Err fault) is = tt
    life_heard (Ok rest) is =
        ∥∥₁_map life.answered (λ asked.
        heard_same (lines h) (lines_told turns) old new
        (life_told stance opening base h life.rounds life.last old life.members life.before new life.part how life.turns life.went_on life.ends)
        (heard_at_end (lines_told turns) old new
        (heard_turns [] old old turns new (steps_all host source looks stance opening start base old new h how life).0 life.turns
        (well_turns (rest_calm new how (kept_fault h) rest is) turns life.turns asked) (heard_first old))))
