-- What is known of a life when its lock is closed.
use Rattle.std.proofs.Common.{◌≡◌, ◌∙◌, ℕ, List, [], ◌++◌, Some, Result, Ok, Err, sym, ap, subst}
use Rattle.std.proofs.Math.Logic.{∥∥₁_map}
use Rattle.std.specs.List.{AllZip, AllByRecursion as AllAre}
use Rattle.program_lock.specs.declared.program.Memory.{Memory}
use Rattle.program_lock.specs.declared.view.Known.{Known}
use Rattle.program_lock.specs.History.{entries_of}
use Rattle.program_lock.specs.Calls.{Ends}
use Rattle.settle_laws.specs.Stances.{Stance}
use Rattle.member_turns.specs.Lower.build_core.Builds.{Parts}
use Rattle.agent_worker.specs.declared.member.Member.{Member}
use Rattle.member_turns.specs.Lower.locked_build.declared.ask.Ask.{Ask}
use Rattle.member_turns.specs.Lower.locked_build.declared.ask.Entry.{Entry}
use Rattle.member_turns.specs.Lower.locked_build.declared.ask.Progress.{Progress}
use Rattle.member_turns.specs.Lower.locked_build.declared.ask.Reply.{Reply}
use Rattle.member_turns.proofs.ClaimLaws.{claims_differ}
use Rattle.member_turns.proofs.PartLemmas.{all_map}
use Rattle.member_turns.specs.Lives.{EndsWith, Life}
use Rattle.member_turns.proofs.CallLemmas.{site_says}
use Rattle.member_turns.specs.Coming.{Came, EachIs, EachUnder}
use Rattle.member_turns.specs.Passing.{CameUnder, TakesRounds}
use Rattle.member_turns.proofs.GoingLemmas.{each_all}
use Rattle.member_turns.specs.Rounds.{RoundsFrom, turns_of}
use Rattle.member_turns.specs.Turns.{Turn, MadeOf, Launches, DidTurn}
use Rattle.member_turns.specs.Ways.{Way}
use Rattle.member_turns.proofs.ExplainLemmas.{events_explained}
use Rattle.member_turns.proofs.LaunchLaws.{launches_differ}
use Rattle.member_turns.proofs.LookLemmas.{same_base}
use Rattle.member_turns.proofs.MadeLemmas.{made_behind, made_join}
use Rattle.member_turns.proofs.RoundsLemmas.{rounds_made}
use Rattle.member_turns.proofs.OrderLemmas.{life_answered, life_halted, life_orders}
use Rattle.member_turns.proofs.WaitLemmas.{life_waited}
use Rattle.member_turns.proofs.WayLemmas.{no_way, are_ways, rounds_ways}
use Rattle.task_host.specs.View.{HostView}
use Rattle.jp_io.specs.View.{SourceView}

module _ {H A : Type 0} (host : HostView H) (source : SourceView A) (looks : ℕ) where
  abbrev Did : Turn H A → Type 0
  Did turn = DidTurn host source looks turn

  module _ {S B T : Type 0} (stance : T → Stance) (opening : B → Parts T) (history : S → List Entry) (base : S → B) where
    abbrev answers : B → List Entry → Ask → Reply → List Entry → Type 0
    answers = site_says stance opening

    -- the entries of the last turns, whole round or not
    last_made : (b : B) (last : List (Turn H A)) (members : List (Member H A)) (before : List Entry) (now : List (Member H A)) (part all : List Entry) (how : Result Progress Memory)
        → EndsWith answers b last members before now part all how → MadeOf before last all
    last_made b last members before now part all (Ok come) e = subst (MadeOf before last) e.2 (made_behind before last part e.1)
    last_made b last members before now part all (Err memory) e = subst (MadeOf before last) e.3 (made_behind before last part e.2)

    last_ways : (b : B) (olds : List (Member H A)) (last : List (Turn H A)) (members : List (Member H A)) (before : List Entry) (now : List (Member H A)) (part all : List Entry) (how : Result Progress Memory)
        → EndsWith answers b last members before now part all how → AllAre Did last → AllZip (Way Did before) olds members → AllZip (Way Did all) olds now
    last_ways b olds last members before now part all (Ok come) e did w = are_ways Did last [] olds members now before all e.0 (last_made b last members before now part all (Ok come) e) did w
    last_ways b olds last members before now part all (Err memory) e did w = are_ways Did last e.0 olds members now before all e.1 (last_made b last members before now part all (Err memory) e) did w

    -- of no entry
    none_came : (v : Known Entry B) → v.seen ≡ [] → CameUnder answers v
    none_came v first b is = subst (EachUnder (Came (answers b)) v.numbers []) (sym first) tt

    -- Rounds over a lock that was just opened, and its closing, are a life.
    pub lives : (old now : List (Member H A)) (v w : Known Entry B) (state : S) (start : B) (how : Result Progress Memory) → v.base ≡ Some start → v.seen ≡ []
        → TakesRounds Did answers old now v w how → Ends history base answers w state
        → Life host source looks answers start (base state) old now (history state) how
    lives old now v w state start how is first r e =
        let begun : entries_of v.numbers v.seen ≡ [] = ap (entries_of v.numbers) first in
        let went = subst (λ (es : List Entry). RoundsFrom answers (base state) r.rounds old es r.members r.before) begun (r.went_on (base state) e.start e.own) in
        let ended : EndsWith answers (base state) r.last r.members r.before now r.part (history state) how =
        subst (λ (es : List Entry). EndsWith answers (base state) r.last r.members r.before now r.part es how) (sym e.past) (r.ends (base state) e.start e.own) in
        let made : MadeOf [] (turns_of r.rounds ++ r.last) (history state) = made_join (turns_of r.rounds) r.last [] r.before (history state)
        (rounds_made answers (base state) r.rounds old r.members [] r.before went)
        (last_made (base state) r.last r.members r.before now r.part (history state) how ended) in
        let events = events_explained host source looks (turns_of r.rounds ++ r.last) (history state) r.did made in
        let answered = life_answered answers (base state) r.rounds r.last old r.members now r.before r.part (history state) how went ended in
        let ways = rounds_ways Did answers (base state) r.rounds r.last old old r.members [] r.before r.did went (no_way Did old) in
        record {
          base_stays = same_base (base state) start (sym e.start ∙ r.goes.base_stays ∙ is);
          legal = e.legal;
          rounds = r.rounds;
          last = r.last;
          members = r.members;
          before = r.before;
          part = r.part;
          went_on = went;
          ends = ended;
          turns = r.did;
          ways = last_ways (base state) old r.last r.members r.before now r.part (history state) how ended ways.1 ways.0;
          answered = answered;
          halted = life_halted host source looks stance (opening (base state)) (turns_of r.rounds ++ r.last) (history state) r.did answered;
          orders = life_orders answers (base state) (turns_of r.rounds ++ r.last) (history state) answered;
          claimed_once = claims_differ stance opening (base state) (history state) e.legal;
          launched_once = launches_differ stance opening (base state) host (turns_of r.rounds ++ r.last) (history state) e.legal made
              (all_map Did (λ (turn : Turn H A). Launches host turn.old turn.now turn.own turn.launches) (turns_of r.rounds ++ r.last) (λ turn d. d.launched) r.did);
          told = events.0;
          came = ∥∥₁_map r.goes.came (λ (f : CameUnder answers v → CameUnder answers w).
              subst (EachIs (Came (answers (base state))) []) (sym e.past)
              (each_all (Came (answers (base state))) w.numbers [] w.seen e.own (f (none_came v first) (base state) e.start)));
          waited = life_waited host source looks stance opening (base state) r.rounds r.last old r.members now r.before r.part (history state) how r.did went ended;
          explained = events.1;
          at_risk = events.2;
        }
