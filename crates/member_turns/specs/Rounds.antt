-- The rounds of a life (this product's own).
use Rattle.std.specs.Prelude.{◌≡◌, true, List, [], ◌∷◌, ◌++◌, map}
use Rattle.std.specs.List.{AllByRecursion as AllAre}
use Rattle.program_lock.specs.Legal.{Answers}
use Rattle.agent_worker.specs.declared.gate.GateCall.{GateCall}
use Rattle.agent_worker.specs.declared.member.Member.{Member}
use Rattle.member_turns.specs.Lower.locked_build.declared.ask.Ask.{Ask}
use Rattle.member_turns.specs.Lower.locked_build.declared.ask.Ask.TheVariants.{Look}
use Rattle.member_turns.specs.Lower.locked_build.declared.ask.Entry.{Entry}
use Rattle.member_turns.specs.Lower.locked_build.declared.ask.Progress.{Progress}
use Rattle.member_turns.specs.Lower.locked_build.declared.ask.Reply.{Reply}
use Rattle.member_turns.specs.Lower.locked_build.declared.ask.Reply.TheVariants as reply
use Rattle.member_turns.specs.Saying.{AnswersCall}
use Rattle.member_turns.specs.Ending.{goes_on}
use Rattle.member_turns.specs.Turns.{Turn, MadeOf}

-- a round: its turns, and what a look behind it said
pub record Round (H A : Type 0) : Type 0 where
  pub turns : List (Turn H A)
  pub come : Progress

module _ {H A : Type 0} where
  -- A turn for each of the first members, in their order; the others stay as they were.
  abbrev pub AreTurnsOf : List (Turn H A) → List (Member H A) → List (Member H A) → List (Member H A) → Type 0
  AreTurnsOf turns others old now = (old ≡ map (λ (turn : Turn H A). turn.old) turns ++ others) × (now ≡ map (λ (turn : Turn H A). turn.now) turns ++ others)

  -- a turn for each member, in their order
  abbrev pub IsRound : List (Turn H A) → List (Member H A) → List (Member H A) → Type 0
  IsRound turns old now = AreTurnsOf turns [] old now

  -- all turns of these rounds
  abbrev pub turns_of : List (Round H A) → List (Turn H A)
  turns_of [] = []
  turns_of (round ∷ rounds) = round.turns ++ turns_of rounds

-- Behind this beginning of a history and within what follows it each of these calls was answered so, one behind the other; the entries of
-- each stand there, and they are these.
abbrev pub WereAsked : (List Entry → Ask → Reply → List Entry → Type 0) → List Entry → List GateCall → List Entry → List Entry → Type 0
WereAsked says front [] own rest = own ≡ []
WereAsked says front (call ∷ calls) own rest =
    (others : List Entry) × (new : List Entry) × (mine : List Entry) × (later : List Entry) × (rest ≡ others ++ (new ++ later)) × (own ≡ new ++ mine)
    × AnswersCall says (front ++ others) call new × WereAsked says (front ++ (others ++ new)) calls mine later

-- The calls of each of these turns were answered so behind these entries and within these.
abbrev pub AllAsked : {H A : Type 0} → (List Entry → Ask → Reply → List Entry → Type 0) → List Entry → List Entry → List (Turn H A) → Type 0
AllAsked {H} {A} says before part turns = AllAre (λ (turn : Turn H A). WereAsked says before turn.calls turn.own part) turns

module _ {H A B : Type 0} (answers : Answers B Entry Ask Reply) (base : B) where
  -- Rounds after each of which the work goes on, as a look behind it says: from these members and entries to those. The entries of each round
  -- stand behind those of the rounds before it; and each answer that a member was given in it is the state's reply behind these.
  abbrev pub RoundsFrom : List (Round H A) → List (Member H A) → List Entry → List (Member H A) → List Entry → Type 0
  RoundsFrom [] old before now after = (now ≡ old) × (after ≡ before)
  RoundsFrom (round ∷ rounds) old before now after =
      (members : List (Member H A)) × (part : List Entry) × IsRound round.turns old members × MadeOf [] round.turns part
      × answers base (before ++ part) Look (reply.Progress round.come) [] × (goes_on round.come members ≡ true) × ∥ AllAsked (answers base) before part round.turns ∥₁
      × RoundsFrom rounds members (before ++ part) now after
