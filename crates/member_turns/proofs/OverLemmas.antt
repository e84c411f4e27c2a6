-- A life is one over all replies that its own ones imply.
use Rattle.std.proofs.Common.{inl, inr, ℕ, List, [], ◌∷◌, ◌++◌, Option, Some, None, Result, Ok, Err, refl}
use Rattle.std.proofs.Math.Logic.{∥∥₁_map}
use Rattle.std.specs.List.{AllByRecursion as AllAre}
use Rattle.program_lock.specs.declared.program.Memory.{Memory}
use Rattle.program_lock.specs.Legal.{Answers, IsRun}
use Rattle.journal_core.specs.declared.faults.TakeFault.{TakeFault}
use Rattle.agent_worker.specs.declared.gate.GateCall.{GateCall}
use Rattle.agent_worker.specs.declared.gate.GateCall.TheVariants.{Claim, Report, Inputs, Answer, Halt}
use Rattle.agent_worker.specs.declared.member.Member.{Member}
use Rattle.agent_worker.specs.declared.member.Member.TheVariants.{Executor, Operator}
use Rattle.agent_worker.specs.Working.{Deed, Claims, Serves, Pauses, Halts}
use Rattle.model_run.specs.declared.event.Event.{Event}
use Rattle.member_turns.specs.Lower.locked_build.declared.ask.Ask.{Ask}
use Rattle.member_turns.specs.Lower.locked_build.declared.ask.Ask.TheVariants as ask
use Rattle.member_turns.specs.Lower.locked_build.declared.ask.Entry.{Entry}
use Rattle.member_turns.specs.Lower.locked_build.declared.ask.Entry.TheVariants.{Took, Claimed, Line, Failed}
use Rattle.member_turns.specs.Lower.locked_build.declared.ask.Progress.{Progress}
use Rattle.member_turns.specs.Lower.locked_build.declared.ask.Reply.{Reply}
use Rattle.member_turns.specs.Lower.locked_build.declared.ask.Reply.TheVariants as reply
use Rattle.member_turns.specs.Saying.{AnswersCall}
use Rattle.member_turns.proofs.PartLemmas.{all_map}
use Rattle.member_turns.specs.Coming.{Came, EachIs, FailedSo}
use Rattle.member_turns.specs.Lives.{EndsWith, Life, LifeOf}
use Rattle.member_turns.specs.Orders.{AllAnswered, ClaimsGaveSo, OrdersAreSo}
use Rattle.member_turns.specs.Rounds.{Round, AllAsked, RoundsFrom, WereAsked, turns_of}
use Rattle.member_turns.specs.Turns.{Turn}
use Rattle.member_turns.specs.Waiting.{Waited}
use Rattle.task_host.specs.View.{HostView}
use Rattle.jp_io.specs.View.{SourceView}

each_so : (P Q : List Entry → Entry → Type 0) → ((before : List Entry) (entry : Entry) → P before entry → Q before entry) → (before es : List Entry) → EachIs P before es → EachIs Q before es
each_so P Q so before [] each = tt
each_so P Q so before (entry ∷ es) each = (so before entry each.0, each_so P Q so (before ++ entry ∷ []) es each.1)

module _ {B C : Type 0} (answers : Answers B Entry Ask Reply) (others : Answers C Entry Ask Reply) (base : B) (at : C)
    (so : (h : List Entry) (a : Ask) (r : Reply) (new : List Entry) → answers base h a r new → others at h a r new) where
  run_so : (from : List Entry) (asked : List (Ask × Reply × List Entry)) (to : List Entry) → IsRun answers base from asked to → IsRun others at from asked to
  run_so from [] to run = run
  run_so from (x ∷ xs) to run = (so from x.0 x.1 x.2 run.0, run_so (from ++ x.2) xs to run.1)

  call_so : (h : List Entry) (call : GateCall) (new : List Entry) → AnswersCall (answers base) h call new → AnswersCall (others at) h call new
  call_so h (Claim executor claim) new said = so h (ask.Claim executor) (reply.Claimed claim) new said
  call_so h (Report event r) new (inl said) = inl (said.0, so h (ask.Take event) (reply.Taken r) new said.1)
  call_so h (Report event r) new (inr said) = inr said
  call_so h (Inputs there) new said = so h ask.Inputs (reply.Inputs there) new said
  call_so h (Answer line r) new (inl said) = inl (so h (ask.Answer line) (reply.Heard r) new said)
  call_so h (Answer line r) new (inr said) = inr said
  call_so h Halt new said = so h ask.Halt reply.Halted new said

  asked_so : (front : List Entry) (calls : List GateCall) (own rest : List Entry) → WereAsked (answers base) front calls own rest → WereAsked (others at) front calls own rest
  asked_so front [] own rest w = w
  asked_so front (call ∷ calls) own rest w = (w.0, w.1, w.2, w.3, w.4, w.5, call_so (front ++ w.0) call w.1 w.6, asked_so (front ++ (w.0 ++ w.1)) calls w.2 w.3 w.7)

  -- a decision came by its line
  failed_so : (before : List Entry) (fault : TakeFault) (event : Option Event) → FailedSo (answers base) before fault event → FailedSo (others at) before fault event
  failed_so before fault None failed = tt
  failed_so before fault (Some event) failed = λ is. let w = failed is in (w.0, so before (ask.Answer w.0) (reply.Heard (Err fault)) (Failed fault (Some event) ∷ []) w.1)

  came_so : (before : List Entry) (entry : Entry) → Came (answers base) before entry → Came (others at) before entry
  came_so before (Took event) came = λ is.
      let w = came is in
      record { front = w.front; line = w.line; is = w.is; request = w.request; grants = w.grants; said = so w.front (ask.Answer w.line) _ (Line w.line ∷ Took event ∷ w.grants) w.said }
  came_so before (Failed fault event) came = failed_so before fault event came
  came_so before (Claimed executor task keep_out kept_log kept_out) came = tt
  came_so before (Line line) came = tt

  -- and a line was heard while an input was open
  waited_so : (before : List Entry) (entry : Entry) → Waited (answers base) before entry → Waited (others at) before entry
  waited_so before (Line line) w = record { at = w.at; later = w.later; begins = w.begins; no_line = w.no_line; there = w.there; new = w.new; said = so w.at ask.Inputs (reply.Inputs w.there) w.new w.said; open_then = w.open_then }
  waited_so before (Took event) w = tt
  waited_so before (Claimed executor task keep_out kept_log kept_out) w = tt
  waited_so before (Failed fault event) w = tt

  gave_so : (history : List Entry) (executor : ℕ) (past : List Deed) → ClaimsGaveSo (answers base) history executor past → ClaimsGaveSo (others at) history executor past
  gave_so history executor [] gave = tt
  gave_so history executor (Claims claim ∷ past) gave =
      let g = gave.0 in
      ((g.0, g.1, g.2, g.3, so g.0 (ask.Claim executor) (reply.Claimed claim) g.2 g.4), gave_so history executor past gave.1)
  gave_so history executor (Serves order acts answer ∷ past) gave = gave_so history executor past gave
  gave_so history executor (Pauses ∷ past) gave = gave_so history executor past gave
  gave_so history executor (Halts ∷ past) gave = gave_so history executor past gave

  module _ {H A : Type 0} where
    ordered_so : (history : List Entry) (member : Member H A) (calls : List GateCall) → OrdersAreSo (answers base) history member calls → OrdersAreSo (others at) history member calls
    ordered_so history (Executor number host) calls ordered = λ past is. gave_so history number past (ordered past is)
    ordered_so history (Operator line answers ended failed) calls ordered = tt

    all_asked_so : (before part : List Entry) (turns : List (Turn H A)) → AllAsked (answers base) before part turns → AllAsked (others at) before part turns
    all_asked_so before part turns all = all_map (λ (turn : Turn H A). WereAsked (answers base) before turn.calls turn.own part) (λ (turn : Turn H A). WereAsked (others at) before turn.calls turn.own part) turns
        (λ turn w. asked_so before turn.calls turn.own part w) all

    all_answered_so : (history : List Entry) (turns : List (Turn H A)) → AllAre (λ (turn : Turn H A). AllAnswered (answers base) history turn.calls) turns → AllAre (λ (turn : Turn H A). AllAnswered (others at) history turn.calls) turns
    all_answered_so history turns all = all_map (λ (turn : Turn H A). AllAnswered (answers base) history turn.calls) (λ (turn : Turn H A). AllAnswered (others at) history turn.calls) turns
        (λ turn asked call there. let a = asked call there in (a.0, a.1, a.2, a.3, call_so a.0 call a.1 a.4)) all

    all_ordered_so : (history : List Entry) (turns : List (Turn H A)) → AllAre (λ (turn : Turn H A). OrdersAreSo (answers base) history turn.old turn.calls) turns → AllAre (λ (turn : Turn H A). OrdersAreSo (others at) history turn.old turn.calls) turns
    all_ordered_so history turns all = all_map (λ (turn : Turn H A). OrdersAreSo (answers base) history turn.old turn.calls) (λ (turn : Turn H A). OrdersAreSo (others at) history turn.old turn.calls) turns
        (λ turn ordered. ordered_so history turn.old turn.calls ordered) all

    rounds_so : (rounds : List (Round H A)) (old : List (Member H A)) (before : List Entry) (now : List (Member H A)) (after : List Entry) → RoundsFrom answers base rounds old before now after → RoundsFrom others at rounds old before now after
    rounds_so [] old before now after r = r
    rounds_so (round ∷ rounds) old before now after r = (
      r.0,
      r.1,
      r.2,
      r.3,
      so (before ++ r.1) ask.Look (reply.Progress round.come) [] r.4,
      r.5,
      ∥∥₁_map r.6 (all_asked_so before r.1 round.turns),
      rounds_so rounds r.0 (before ++ r.1) now after r.7,
    )

    ends_so : (last : List (Turn H A)) (members : List (Member H A)) (before : List Entry) (now : List (Member H A)) (part history : List Entry) (how : Result Progress Memory)
        → EndsWith answers base last members before now part history how → EndsWith others at last members before now part history how
    ends_so last members before now part history (Ok come) e = (e.0, e.1, e.2, ∥∥₁_map e.3 (all_asked_so before part last), so history ask.Look (reply.Progress come) [] e.4, e.5)
    ends_so last members before now part history (Err memory) e = (e.0, e.1, e.2, e.3, ∥∥₁_map e.4 (all_asked_so before part last))

    module _ (host : HostView H) (source : SourceView A) (looks : ℕ) where
      pub life_over : (start : B) (old now : List (Member H A)) (history : List Entry) (how : Result Progress Memory)
          → (life : Life host source looks answers start base old now history how)
          → LifeOf host source looks others at old now (turns_of life.rounds ++ life.last) history
      life_over start old now history how life =
          let turns = turns_of life.rounds ++ life.last in
          record {
            how = how;
            life = record {
              base_stays = refl;
              legal = (life.legal.0, run_so [] life.legal.0 history life.legal.1);
              rounds = life.rounds;
              last = life.last;
              members = life.members;
              before = life.before;
              part = life.part;
              went_on = rounds_so life.rounds old [] life.members life.before life.went_on;
              ends = ends_so life.last life.members life.before now life.part history how life.ends;
              turns = life.turns;
              ways = life.ways;
              answered = ∥∥₁_map life.answered (all_answered_so history turns);
              halted = life.halted;
              orders = ∥∥₁_map life.orders (all_ordered_so history turns);
              claimed_once = life.claimed_once;
              launched_once = life.launched_once;
              told = life.told;
              came = ∥∥₁_map life.came (each_so (Came (answers base)) (Came (others at)) came_so [] history);
              waited = λ few. ∥∥₁_map (life.waited few) (each_so (Waited (answers base)) (Waited (others at)) waited_so [] history);
              explained = life.explained;
              at_risk = life.at_risk;
            };
            are = refl;
          }
