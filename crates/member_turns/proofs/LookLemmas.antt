-- What a look through a pass tells.
use Rattle.std.proofs.Common.{◌≡◌, ◌∙◌, ℕ, List, [], ◌++◌, Option, Some, None, sym, ap, subst, append-nil}
use Rattle.program_lock.specs.declared.view.Known.{Known}
use Rattle.program_lock.specs.History.{entries, numbered, entries_of}
use Rattle.program_lock.specs.Calls.{Steps}
use Rattle.program_lock.proofs.EntryLemmas.{entries_of-step}
use Rattle.settle_laws.specs.Stances.{Stance}
use Rattle.member_turns.specs.Lower.build_core.Builds.{Parts}
use Rattle.journal_core.specs.declared.faults.TakeFault.{TakeFault}
use Rattle.member_turns.specs.Lower.locked_build.declared.ask.Ask.{Ask}
use Rattle.member_turns.specs.Lower.locked_build.declared.ask.Ask.TheVariants.{Look}
use Rattle.member_turns.specs.Lower.locked_build.declared.ask.Entry.{Entry}
use Rattle.member_turns.specs.Lower.locked_build.declared.ask.Progress.{Progress}
use Rattle.member_turns.specs.Lower.locked_build.declared.ask.Reply.{Reply}
use Rattle.member_turns.specs.Lower.locked_build.declared.ask.Reply.TheVariants as reply
use Rattle.member_turns.specs.Lower.locked_build.Histories.{kept_fault}
use Rattle.member_turns.specs.Lower.locked_build.Says.{Says, SaysAt}
use Rattle.member_turns.specs.Passing.{IsProgress, GoesOn}
use Rattle.member_turns.proofs.CallLemmas.{site_says}
use Rattle.member_turns.proofs.GoingLemmas.{goes_without}

-- A look is told how far the build has come, and adds nothing.
pub record OnlyLooks (r : Reply) (new : List Entry) : Type 0 where
  pub come : IsProgress r
  pub none : new ≡ []

module _ {T : Type 0} (stance : T → Stance) (opening : Parts T) (history : List Entry) where
  looks_at : (kept : Option TakeFault) (r : Reply) (new : List Entry) → SaysAt stance opening history kept Look r new → OnlyLooks r new
  looks_at (Some fault) r new says = record { come = subst IsProgress (sym says.0) tt; none = says.1 }
  looks_at None (reply.Progress come) new says = record { come = tt; none = says.1 }
  looks_at None (reply.Taken r) new says = absurd says
  looks_at None (reply.Claimed c) new says = absurd says
  looks_at None (reply.Inputs there) new says = absurd says
  looks_at None (reply.Heard r) new says = absurd says
  looks_at None reply.Halted new says = absurd says

  pub only_looks : (r : Reply) (new : List Entry) → Says stance opening history Look r new → OnlyLooks r new
  only_looks r new says = looks_at (kept_fault history) r new says

pub same_base : {B : Type 0} (a b : B) → Some a ≡ Some b → a ≡ b
same_base a b e = cc

-- What a pass knows behind a look: it has seen more, and none of it is its own.
pub record SawProgress {B T : Type 0} (stance : T → Stance) (opening : B → Parts T) (v w : Known Entry B) (come : Progress) : Type 0 where
  pub goes : GoesOn (site_says stance opening) v w
  pub parts : w.parts ≡ v.parts
  pub own : entries_of w.numbers w.seen ≡ entries_of v.numbers v.seen
  pub said : (base : B) → w.base ≡ Some base → Says stance (opening base) (entries w.seen) Look (reply.Progress come) []

module _ {B T : Type 0} (stance : T → Stance) (opening : B → Parts T) (v w : Known Entry B) where
  abbrev answers : B → List Entry → Ask → Reply → List Entry → Type 0
  answers base history ask r new = Says stance (opening base) history ask r new

  pub saw_progress : (come : Progress) → Steps answers v Look (reply.Progress come) w → SawProgress stance opening v w come
  saw_progress come s =
      let none : s.new ≡ [] = (only_looks stance (opening s.base) (entries s.before) (reply.Progress come) s.new s.answered).none in
      let seen : w.seen ≡ s.before = ap (λ k. k.seen) s.now ∙ ap (λ (es : List Entry). s.before ++ numbered v.number es) none ∙ append-nil s.before in
      let own : entries_of w.numbers w.seen ≡ entries_of v.numbers v.seen =
      entries_of-step answers v Look (reply.Progress come) w s ∙ ap (λ (es : List Entry). entries_of v.numbers v.seen ++ es) none ∙ append-nil (entries_of v.numbers v.seen) in
      record {
        goes = goes_without answers v w s.begins.0 (ap (λ k. k.base) s.now) (ap (λ k. k.numbers) s.now) (s.begins.1 ∙ sym seen) s.begins.2;
        parts = ap (λ k. k.parts) s.now;
        own = own;
        said = λ base is. subst (λ (b : B). Says stance (opening b) (entries w.seen) Look (reply.Progress come) []) (same_base s.base base (sym s.base_is ∙ sym (ap (λ k. k.base) s.now) ∙ is))
            (subst (λ (log : List (ℕ × Entry)). Says stance (opening s.base) (entries log) Look (reply.Progress come) []) (sym seen)
            (subst (λ (es : List Entry). Says stance (opening s.base) (entries s.before) Look (reply.Progress come) es) none s.answered));
      }
