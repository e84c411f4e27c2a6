-- A site state between two asks.
use Rattle.std.proofs.Common.{arith, ◌≡◌, ◌+◌, ◌≤◌, ◌<◌, ℕ, Bool, true, false, List, [], ◌++◌, length, Option, Some, None, is_some, Result, Ok, Err, is_err, OnOk, refl, sym, subst}
use Rattle.std.proofs.Props.{props}
use Rattle.std.proofs.Math.Logic.{∥∥₁_map, ∥∥₁_elim}
use Rattle.settle_laws.specs.Stances.{Stance}
use Rattle.durable_build.specs.Lower.build_core.Builds.{Parts}
use Rattle.durable_build.specs.Lower.build_core.Phases.{has_begun}
use Rattle.journal_core.specs.declared.faults.TakeFault.{TakeFault}
use Rattle.durable_build.specs.Standing.{Kept}
use Rattle.locked_build.specs.declared.ask.Ask.{Ask}
use Rattle.locked_build.specs.declared.ask.Entry.{Entry}
use Rattle.locked_build.specs.declared.ask.Reply.{Reply}
use Rattle.locked_build.specs.Histories.{tooks, kept_fault}
use Rattle.locked_build.specs.Showing.{IsSettled, IsShown}
use Rattle.locked_build.specs.Facts.{Facts, IsSite}
use Rattle.locked_build.specs.Says.{Answers, SaysAt, Says, stopped_reply}
use Rattle.locked_build.proofs.FactLaws.{facts_start}
use Rattle.jp_disk.specs.View.{DiskLaws, DiskView}

bool_prop : (a b : Bool) → IsProp (a ≡ b)
bool_prop a b = hlevel props

less_prop : (m n : ℕ) → IsProp (m < n)
less_prop m n = hlevel props

bottom_prop : (a b : ⊥) → a ≡ b
bottom_prop a b = absurd a

settled_prop : {T : Type 0} (b : Parts T) → IsProp (IsSettled b)
settled_prop b f g = λ i request executor is accepted. bottom_prop (f request executor is accepted) (g request executor is accepted) i

pub is_none : (f : Option TakeFault) → is_some f ≡ false → f ≡ None
is_none None is = refl
is_none (Some f) is = absurd (cc)

-- what a call says where it did not fail
pub said_ok : {T E P : Type 0} (r : Result T E) → is_err r ≡ false → OnOk r P → P
said_ok (Ok x) is said = said
said_ok (Err e) is said = absurd (cc)

pub at_least_one : {n m : ℕ} → n + 1 ≤ m → n < m
at_least_one more = omega arith

pub some_is : (f : Option TakeFault) → is_some f ≡ true → (kept : TakeFault) × (f ≡ Some kept)
some_is None is = absurd (cc)
some_is (Some f) is = (f, refl)

module _ {D T : Type 0} (disk : DiskView D) (stance : T → Stance) (opening now : Kept D T) (history : List Entry) (capacity : ℕ)
    (stands : ∥ IsSite disk stance opening now history capacity ∥₁) where
  pub site_after : (new : Kept D T) (later : List Entry) (room : ℕ) → (Facts disk stance opening now history → Facts disk stance opening new later)
      → (kept_fault later ≡ None → length later < room) → (kept_fault later ≡ None → IsSettled new.build) → ∥ IsSite disk stance opening new later room ∥₁
  site_after new later room more has_room settled = ∥∥₁_map stands (λ s. record { facts = more s.facts; room = has_room; settled = settled })

  module _ (none : kept_fault history ≡ None) where
    pub site_running : now.stopped ≡ false
    site_running = ∥∥₁_elim stands (bool_prop now.stopped false) (λ s. s.facts.running none)

    pub site_begun : has_begun now.build.phase ≡ true
    site_begun = ∥∥₁_elim stands (bool_prop (has_begun now.build.phase) true) (λ s. (s.facts.shown none).begun)

    pub site_room : length history < capacity
    site_room = ∥∥₁_elim stands (less_prop (length history) capacity) (λ s. s.room none)

    pub site_settled : IsSettled now.build
    site_settled = ∥∥₁_elim stands (settled_prop now.build) (λ s. s.settled none)

    pub site_shown : ∥ IsShown stance opening.build (tooks history) now.build ∥₁
    site_shown = ∥∥₁_map stands (λ s. s.facts.shown none)

module _ {T : Type 0} (stance : T → Stance) (opening : Parts T) (h : List Entry) (ask : Ask) (r : Reply) where
  pub says_now : (given : Ask) → ask ≡ given → (new : List Entry) → kept_fault h ≡ None → Answers stance opening h given r new → Says stance opening h ask r new
  says_now given is new none says =
      subst (λ (f : Option TakeFault). SaysAt stance opening h f ask r new) (sym none) (subst (λ (a : Ask). Answers stance opening h a r new) (sym is) says)

  pub says_stopped : is_some (kept_fault h) ≡ true → r ≡ stopped_reply ask → Says stance opening h ask r []
  says_stopped some is = let k = some_is (kept_fault h) some in subst (λ (f : Option TakeFault). SaysAt stance opening h f ask r []) (sym k.1) (is, refl)

pub only_new : (made es after : List Entry) → made ≡ [] → after ≡ made ++ es → after ≡ es
only_new made es after none is = subst (λ (xs : List Entry). after ≡ xs ++ es) none is

pub site_begins : {D T : Type 0} (disk : DiskView D) (stance : T → Stance)
    → DiskLaws disk → (before k opening : Kept D T) (es h : List Entry) (capacity : ℕ) → Facts disk stance before k es → kept_fault es ≡ None
    → IsSettled k.build → opening ≡ k → h ≡ [] → length h < capacity → ∥ IsSite disk stance opening k h capacity ∥₁
site_begins disk stance laws before k opening es h capacity facts none settled same empty room =
    subst (λ (o : Kept _ _). ∥ IsSite disk stance o k h capacity ∥₁) (sym same)
    (∣ record {
      facts = subst (λ (xs : List Entry). Facts disk stance k k xs) (sym empty) (facts_start disk stance laws k (facts.running none) (facts.shown none).begun);
      room = λ _. room;
      settled = λ _. settled;
    } ∣₁)
