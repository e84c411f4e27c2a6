-- Passes of seats: handed out for a round, and taken in behind it (this product's own). v is what the pass of whoever has the lock open
-- knew before, and w what it knows.
use Rattle.std.specs.Prelude.{◌≡◌, ◌≤◌, ◌+◌, ℕ, List, [], ◌∷◌, ◌++◌, length, map, Option, Some, None, Result, IfOk}
use Rattle.std.specs.List.{AllByRecursion as AllAre}
use Rattle.program_lock.specs.declared.program.Memory.{Memory}
use Rattle.program_lock.specs.declared.program.PassOf.{PassOf}
use Rattle.program_lock.specs.declared.view.Known.{Known}
use Rattle.program_lock.specs.History.{AreApart, NoneUnder}
use Rattle.program_lock.specs.Passes.{known}
use Rattle.member_turns.specs.Lower.locked_build.declared.ask.Entry.{Entry}

-- It has seen all that it had seen, and more, of which nothing stands under the numbers that it had.
pub record SeesMore {B : Type 0} (v w : Known Entry B) : Type 0 where
  pub base_stays : w.base ≡ v.base
  pub more : List (ℕ × Entry)
  pub begins : v.seen ++ more ≡ w.seen
  pub others : NoneUnder v.numbers more

-- A pass that was split off since: it has one number, under which it had seen nothing, and has seen a beginning of what the other has seen.
pub record IsNew {B : Type 0} (v w p : Known Entry B) : Type 0 where
  pub numbers : p.numbers ≡ p.number ∷ []
  pub front : List (ℕ × Entry)
  pub goes : v.seen ++ front ≡ p.seen
  pub rest : List (ℕ × Entry)
  pub begins : p.seen ++ rest ≡ w.seen
  pub none : NoneUnder p.numbers p.seen

-- It is within what the other has seen, with no further entry of its own.
pub record IsWithin {B : Type 0} (w q : Known Entry B) : Type 0 where
  pub base : q.base ≡ w.base
  pub later : List (ℕ × Entry)
  pub begins : q.seen ++ later ≡ w.seen
  pub others : NoneUnder q.numbers later

module _ {S B : Type 0} where
  -- the numbers of a pass, where there is one, and its parts of the right to close
  abbrev pub numbers_of : Option (PassOf S Entry B) → List ℕ
  numbers_of None = []
  numbers_of (Some p) = (known p).numbers

  abbrev pub parts_of : Option (PassOf S Entry B) → ℕ
  parts_of None = 0
  parts_of (Some p) = (known p).parts

  abbrev pub total : List (Option (PassOf S Entry B)) → ℕ
  total [] = 0
  total (p ∷ ps) = parts_of p + total ps

  -- the numbers of all of them
  abbrev pub all_numbers : List (Option (PassOf S Entry B)) → List ℕ
  all_numbers [] = []
  all_numbers (p ∷ ps) = numbers_of p ++ all_numbers ps

  abbrev pub WithinIf : Known Entry B → Option (PassOf S Entry B) → Type 0
  WithinIf w None = Unit {0}
  WithinIf w (Some q) = IsWithin w (known q)

  -- the numbers of each are none of these, nor of those before it
  abbrev pub AreAllApart : List ℕ → List (Option (PassOf S Entry B)) → Type 0
  AreAllApart ns [] = Unit {0}
  AreAllApart ns (p ∷ ps) = AreApart ns (numbers_of p) × AreAllApart (ns ++ numbers_of p) ps

  -- the first have these passes, and the others what they had
  abbrev pub given : List (PassOf S Entry B) → List (Option (PassOf S Entry B)) → List (Option (PassOf S Entry B))
  given [] old = old
  given (p ∷ ps) [] = []
  given (p ∷ ps) (o ∷ old) = Some p ∷ given ps old

  -- The first of the seats have a new pass each, and no part is lost; where all had one none was refused.
  pub record HandsOut (old now : List (Option (PassOf S Entry B))) (v w : Known Entry B) (how : Result (Unit {0}) Memory) : Type 0 where
    pub goes : SeesMore v w
    pub numbers : w.numbers ≡ v.numbers
    pub passes : List (PassOf S Entry B)
    pub out : now ≡ given passes old
    pub few : length passes ≤ length old
    pub all : IfOk how (λ _. length passes ≡ length old)
    pub fresh : AllAre (λ (p : PassOf S Entry B). IsNew v w (known p)) passes
    pub parts : w.parts + total (map (λ (p : PassOf S Entry B). Some p) passes) ≡ v.parts

  -- The passes of all seats are taken in, with their numbers and their parts, one after the other.
  pub record TakesIn (old : List (Option (PassOf S Entry B))) (v w : Known Entry B) : Type 0 where
    pub goes : SeesMore v w
    pub numbers : w.numbers ≡ v.numbers ++ all_numbers old
    pub within : AllAre (WithinIf w) old
    pub apart : AreAllApart v.numbers old
    pub parts : w.parts ≡ v.parts + total old
