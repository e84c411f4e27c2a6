-- Rounds one after the other, with looks between them.
use Rattle.std.proofs.Common.{◌≡◌, ◌∙◌, true, false, List, [], ◌∷◌, ◌++◌, Some, Result, Ok, Err, refl, sym, ap, subst, append_assoc, append-nil}
use Rattle.std.proofs.Math.Logic.{∥∥₁_map}
use Rattle.std.specs.List.{AllByRecursion as AllAre}
use Rattle.program_lock.specs.declared.program.Memory.{Memory}
use Rattle.program_lock.specs.declared.view.Known.{Known}
use Rattle.program_lock.specs.History.{entries, entries_of}
use Rattle.program_lock.specs.Legal.{Answers}
use Rattle.program_lock.proofs.HistoryLemmas.{entries-append}
use Rattle.settle_laws.specs.Stances.{Stance}
use Rattle.member_turns.specs.Lower.build_core.Builds.{Parts}
use Rattle.agent_worker.specs.declared.member.Member.{Member}
use Rattle.member_turns.specs.Lower.locked_build.declared.ask.Ask.{Ask}
use Rattle.member_turns.specs.Lower.locked_build.declared.ask.Ask.TheVariants.{Look}
use Rattle.member_turns.specs.Lower.locked_build.declared.ask.Entry.{Entry}
use Rattle.member_turns.specs.Lower.locked_build.declared.ask.Progress.{Progress}
use Rattle.member_turns.specs.Lower.locked_build.declared.ask.Reply.{Reply}
use Rattle.member_turns.specs.Lower.locked_build.declared.ask.Reply.TheVariants as reply
use Rattle.member_turns.proofs.PartLemmas.{all_append}
use Rattle.member_turns.specs.Ending.{goes_on}
use Rattle.member_turns.specs.Passing.{IsWhole, GoesOn, TakesRound, TakesRounds}
use Rattle.member_turns.specs.Rounds.{Round, AllAsked, AreTurnsOf, IsRound, RoundsFrom, turns_of}
use Rattle.member_turns.specs.Turns.{Turn, MadeOf}
use Rattle.member_turns.proofs.LookLemmas.{SawProgress}
use Rattle.member_turns.proofs.CallLemmas.{site_says}
use Rattle.member_turns.proofs.GoingLemmas.{goes_same, goes_further}
use Rattle.member_turns.proofs.MadeLemmas.{made_join, made_behind, same_rest}

module _ {H A B : Type 0} (answers : Answers B Entry Ask Reply) (base : B) where
  -- one round more
  pub rounds_more : (rounds : List (Round H A)) (round : Round H A) (old members now : List (Member H A)) (before mid part : List Entry)
      → RoundsFrom answers base rounds old before members mid → IsRound round.turns members now → MadeOf [] round.turns part → answers base (mid ++ part) Look (reply.Progress round.come) []
      → goes_on round.come now ≡ true → ∥ AllAsked (answers base) mid part round.turns ∥₁ → RoundsFrom answers base (rounds ++ round ∷ []) old before now (mid ++ part)
  rounds_more [] round old members now before mid part r is made look goes asked = (
    now,
    part,
    subst (λ (ms : List (Member H A)). IsRound round.turns ms now) r.0 is,
    made,
    subst (λ (es : List Entry). answers base (es ++ part) Look (reply.Progress round.come) []) r.1 look,
    goes,
    subst (λ (es : List Entry). ∥ AllAsked (answers base) es part round.turns ∥₁) r.1 asked,
    (refl, ap (λ (es : List Entry). es ++ part) r.1),
  )
  rounds_more (first ∷ rounds) round old members now before mid part r is made look goes asked =
      (r.0, r.1, r.2, r.3, r.4, r.5, r.6, rounds_more rounds round r.0 members now (before ++ r.1) mid part r.7 is made look goes asked)

  -- all entries of rounds are made by their turns
  pub rounds_made : (rounds : List (Round H A)) (old now : List (Member H A)) (before after : List Entry) → RoundsFrom answers base rounds old before now after → MadeOf before (turns_of rounds) after
  rounds_made [] old now before after r = sym r.1
  rounds_made (round ∷ rounds) old now before after r =
      made_join round.turns (turns_of rounds) before (before ++ r.1) after (made_behind before round.turns r.1 r.3) (rounds_made rounds r.0 now (before ++ r.1) after r.7)

module _ {H A : Type 0} where
  pub turns_of-append : (xs ys : List (Round H A)) → turns_of (xs ++ ys) ≡ turns_of xs ++ turns_of ys
  turns_of-append [] ys = refl
  turns_of-append (x ∷ xs) ys = ap (λ (l : List (Turn H A)). x.turns ++ l) (turns_of-append xs ys) ∙ sym (append_assoc x.turns (turns_of xs) (turns_of ys))

-- the entries of a pass of which all that it has seen is its own
whole_entries : {B : Type 0} (k : Known Entry B) → IsWhole k → entries_of k.numbers k.seen ≡ entries k.seen
whole_entries k whole = ap entries whole

module _ {H A B T : Type 0} (Did : Turn H A → Type 0) (stance : T → Stance) (opening : B → Parts T) (old : List (Member H A)) (v : Known Entry B) where
  abbrev answers : B → List Entry → Ask → Reply → List Entry → Type 0
  answers = site_says stance opening

  -- where all that the pass has seen is its own
  abbrev pub WentOn : List (Round H A) → List (Member H A) → List Entry → Known Entry B → Type 0
  WentOn rounds now after w = (base : B) → w.base ≡ Some base → IsWhole w → RoundsFrom answers base rounds old (entries_of v.numbers v.seen) now after

  -- the rounds so far, behind each of which the work goes on
  pub record RoundsSoFar (now : List (Member H A)) (w : Known Entry B) : Type 0 where
    pub goes : GoesOn answers v w
    pub rounds : List (Round H A)
    pub went_on : WentOn rounds now (entries_of w.numbers w.seen) w
    pub did : AllAre Did (turns_of rounds)

  pub no_round : RoundsSoFar old v
  no_round = record { goes = goes_same answers v; rounds = []; went_on = λ base is whole. (refl, refl); did = tt }

  pub went_further : (rounds : List (Round H A)) (now : List (Member H A)) (after : List Entry) (w u : Known Entry B) → GoesOn answers w u → WentOn rounds now after w → WentOn rounds now after u
  went_further rounds now after w u g went base is whole = went base (sym g.base_stays ∙ is) (g.whole whole)

  no_other : (turns : List (Turn H A)) (others ms ns : List (Member H A)) → AreTurnsOf turns others ms ns → others ≡ [] → IsRound turns ms ns
  no_other turns others ms ns are none = subst (λ (rest : List (Member H A)). AreTurnsOf turns rest ms ns) none are

  -- the entries of a round stand behind all others, where all that was seen is its own
  round_asked : (ms ns : List (Member H A)) (w u : Known Entry B) (how : Result (Unit {0}) Memory) (r : TakesRound Did answers ms ns w u how) (base : B) → u.base ≡ Some base → IsWhole u
      → ∥ AllAsked (answers base) (entries_of w.numbers w.seen) r.part r.turns ∥₁
  round_asked ms ns w u how r base is whole =
      let front : entries_of w.numbers w.seen ≡ entries w.seen = whole_entries w (r.goes.whole whole) in
      let both : entries_of w.numbers w.seen ++ entries r.goes.more ≡ entries_of w.numbers w.seen ++ r.part =
      ap (λ (es : List Entry). es ++ entries r.goes.more) front ∙ sym (entries-append w.seen r.goes.more) ∙ ap entries r.goes.begins ∙ sym (whole_entries u whole) ∙ r.added in
      let rest : entries r.goes.more ≡ r.part = same_rest (entries_of w.numbers w.seen) (entries r.goes.more) r.part both in
      ∥∥₁_map r.asked (λ (all : (b : B) → u.base ≡ Some b → AllAsked (answers b) (entries w.seen) (entries r.goes.more) r.turns).
      subst (λ (es : List Entry). AllAsked (answers base) (entries_of w.numbers w.seen) es r.turns) rest
      (subst (λ (es : List Entry). AllAsked (answers base) es (entries r.goes.more) r.turns) (sym front) (all base is)))

  pub one_round : (ms ns : List (Member H A)) (w u x : Known Entry B) (come : Progress) → TakesRound Did answers ms ns w u (Ok tt) → SawProgress stance opening u x come → goes_on come ns ≡ true
      → RoundsSoFar ms w → RoundsSoFar ns x
  one_round ms ns w u x come r saw goes s =
      let round : Round H A = record { turns = r.turns; come = come } in
      let further : GoesOn answers w x = goes_further answers w u x r.goes saw.goes in
      let all : entries_of w.numbers w.seen ++ r.part ≡ entries_of x.numbers x.seen = sym r.added ∙ sym saw.own in
      record {
        goes = goes_further answers v w x s.goes further;
        rounds = s.rounds ++ round ∷ [];
        went_on = λ base is whole.
            subst (λ (es : List Entry). RoundsFrom answers base (s.rounds ++ round ∷ []) old (entries_of v.numbers v.seen) ns es) all
            (rounds_more answers base s.rounds round old ms ns (entries_of v.numbers v.seen) (entries_of w.numbers w.seen) r.part
            (went_further s.rounds ms (entries_of w.numbers w.seen) w x further s.went_on base is whole)
            (no_other r.turns r.others ms ns r.are r.all) r.made
            (subst (λ (es : List Entry). answers base es Look (reply.Progress come) []) (sym (whole_entries x whole) ∙ sym all) (saw.said base is)) goes
            (round_asked ms ns w u (Ok tt) r base (sym saw.goes.base_stays ∙ is) (saw.goes.whole whole)));
        did = subst (AllAre Did) (sym (turns_of-append s.rounds (round ∷ []))) (all_append Did (turns_of s.rounds) (turns_of (round ∷ [])) s.did (subst (AllAre Did) (sym (append-nil r.turns)) r.did));
      }

  pub last_round : (ms ns : List (Member H A)) (w u x : Known Entry B) (come : Progress) → TakesRound Did answers ms ns w u (Ok tt) → SawProgress stance opening u x come → goes_on come ns ≡ false
      → RoundsSoFar ms w → TakesRounds Did answers old ns v x (Ok come)
  last_round ms ns w u x come r saw goes s =
      let further : GoesOn answers w x = goes_further answers w u x r.goes saw.goes in
      record {
        goes = goes_further answers v w x s.goes further;
        rounds = s.rounds;
        last = r.turns;
        members = ms;
        before = entries_of w.numbers w.seen;
        part = r.part;
        went_on = went_further s.rounds ms (entries_of w.numbers w.seen) w x further s.went_on;
        ends = λ base is whole. (
          no_other r.turns r.others ms ns r.are r.all,
          r.made,
          sym r.added ∙ sym saw.own ∙ whole_entries x whole,
          round_asked ms ns w u (Ok tt) r base (sym saw.goes.base_stays ∙ is) (saw.goes.whole whole),
          saw.said base is,
          goes,
        );
        did = all_append Did (turns_of s.rounds) r.turns s.did r.did;
      }

  pub cut_round : (ms ns : List (Member H A)) (w u : Known Entry B) (memory : Memory) → TakesRound Did answers ms ns w u (Err memory) → RoundsSoFar ms w → TakesRounds Did answers old ns v u (Err memory)
  cut_round ms ns w u memory r s = record {
    goes = goes_further answers v w u s.goes r.goes;
    rounds = s.rounds;
    last = r.turns;
    members = ms;
    before = entries_of w.numbers w.seen;
    part = r.part;
    went_on = went_further s.rounds ms (entries_of w.numbers w.seen) w u r.goes s.went_on;
    ends = λ base is whole. (r.others, r.are, r.made, sym r.added ∙ whole_entries u whole, round_asked ms ns w u (Err memory) r base is whole);
    did = all_append Did (turns_of s.rounds) r.turns s.did r.did;
  }
