-- Rounds of members who work in threads, and what a vector has behind a call on its slice.
use Rattle.std.proofs.Common.{◌≡◌, ◌∙◌, ℕ, List, [], ◌++◌, length, take, drop, Result, Err, refl, sym, ap, subst, append-nil}
use Rattle.std.proofs.Math.Seq.{take-append_seam}
use Rattle.program_lock.specs.declared.program.Memory.{Memory}
use Rattle.program_lock.specs.declared.view.Known.{Known}
use Rattle.program_lock.specs.History.{entries_of}
use Rattle.program_lock.specs.Legal.{Answers}
use Rattle.settle_laws.specs.Stances.{Stance}
use Rattle.member_turns.specs.Lower.build_core.Builds.{Parts}
use Rattle.agent_worker.specs.declared.member.Member.{Member}
use Rattle.member_turns.specs.Lower.locked_build.declared.ask.Ask.{Ask}
use Rattle.member_turns.specs.Lower.locked_build.declared.ask.Entry.{Entry}
use Rattle.member_turns.specs.Lower.locked_build.declared.ask.Progress.{Progress}
use Rattle.member_turns.specs.Lower.locked_build.declared.ask.Reply.{Reply}
use Rattle.member_turns.proofs.CallLemmas.{site_says}
use Rattle.member_turns.specs.Passing.{TakesRounds}
use Rattle.member_turns.specs.Turns.{Turn}
use Rattle.member_turns.proofs.GoingLemmas.{goes_same}
use Rattle.member_turns.proofs.RoundsLemmas.{no_round, cut_round}

module _ {H A B T : Type 0} (Did : Turn H A → Type 0) (stance : T → Stance) (opening : B → Parts T) where
  abbrev answers : Answers B Entry Ask Reply
  answers = site_says stance opening

  -- memory was wanted before the first round
  pub nothing_taken : (members now : List (Member H A)) (v : Known Entry B) (memory : Memory) → now ≡ members → TakesRounds Did answers members now v v (Err memory)
  nothing_taken members now v memory same =
      subst (λ (ms : List (Member H A)). TakesRounds Did answers members ms v v (Err memory)) (sym same)
      (cut_round Did stance opening members v members members v v memory
      (record { goes = goes_same answers v; turns = []; others = members; are = (refl, refl); all = tt; part = []; made = refl; added = sym (append-nil (entries_of v.numbers v.seen)); did = tt; asked = ∣ (λ base is. tt) ∣₁ })
      (no_round Did stance opening members v))

  -- the members are these
  pub taken_of : (old members new now : List (Member H A)) (v w : Known Entry B) (how : Result Progress Memory) → old ≡ members → new ≡ now → TakesRounds Did answers old new v w how → TakesRounds Did answers members now v w how
  taken_of old members new now v w how was is r =
      subst (λ (ms : List (Member H A)). TakesRounds Did answers ms now v w how) was (subst (λ (ms : List (Member H A)). TakesRounds Did answers old ms v w how) is r)

module _ {M : Type 0} where
  -- a vector has what its slice had at the end
  pub whole_slice : (n : ℕ) (old now : List M) → n ≡ length now → take n (now ++ drop (length now) old) ≡ now
  whole_slice n old now is = ap (λ (m : ℕ). take m (now ++ drop (length now) old)) is ∙ take-append_seam now (drop (length now) old)
