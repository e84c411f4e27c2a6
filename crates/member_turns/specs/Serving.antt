-- A member's work through a pass of its own (this product's own).
use Rattle.std.specs.Prelude.{◌≡◌, [], length, Option, Some}
use Rattle.program_lock.specs.declared.program.PassOf.{PassOf}
use Rattle.program_lock.specs.declared.view.Known.{Known}
use Rattle.program_lock.specs.History.{entries_of}
use Rattle.program_lock.specs.Legal.{Answers}
use Rattle.program_lock.specs.Passes.{known, own_entries}
use Rattle.agent_worker.specs.declared.member.Member.{Member}
use Rattle.member_turns.specs.Lower.locked_build.declared.ask.Ask.{Ask}
use Rattle.member_turns.specs.Lower.locked_build.declared.ask.Entry.{Entry}
use Rattle.member_turns.specs.Lower.locked_build.declared.ask.Reply.{Reply}
use Rattle.member_turns.specs.Saying.{WereAnswered}
use Rattle.member_turns.specs.Turns.{Turn}

-- The entries of the pass are those of a turn of this member, which was as `Did` says, and each answer that it was given is the state's reply;
-- the pass has its numbers and its parts of the right to close. It knew v before, and knows w behind it.
pub record Served {H A B : Type 0} (Did : Turn H A → Type 0) (answers : Answers B Entry Ask Reply) (old now : Member H A) (v w : Known Entry B) : Type 0 where
  pub turn : Turn H A
  pub old_is : turn.old ≡ old
  pub now_is : turn.now ≡ now
  pub own : turn.own ≡ entries_of w.numbers w.seen
  pub did : Did turn
  pub numbers : w.numbers ≡ v.numbers
  pub parts : w.parts ≡ v.parts
  pub answered : ∥ WereAnswered answers v.numbers v.number (length v.seen) w turn.calls ∥₁

-- A member with a pass that has no entry yet works through it, and has it again.
abbrev pub Serves : {S B H A : Type 0} → (Turn H A → Type 0) → Answers B Entry Ask Reply → Option (PassOf S Entry B) → Option (PassOf S Entry B) → Member H A → Member H A → Type 0
Serves {S} {B} Did answers before after old now =
    (p : PassOf S Entry B) → before ≡ Some p → own_entries p ≡ [] → (q : PassOf S Entry B) × (after ≡ Some q) × (q.seat.table_id ≡ p.seat.table_id) × Served Did answers old now (known p) (known q)
