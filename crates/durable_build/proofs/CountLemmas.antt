-- How many records a journal has; and journals that were only read.
use Rattle.std.proofs.Common.{◌≡◌, ◌+◌, ◌<◌, ℕ, List, [], ◌∷◌, length, Option, ◌∙◌, arith}
use Rattle.journal_core.specs.Answers.{StandInTurn}
use Rattle.journal_core.specs.declared.record.Record.{Record}
use Rattle.journal_core.specs.State.{State, Holds}
use Rattle.journal_core.specs.Moments.{OnlyReads}
use Rattle.jp_disk.specs.View.{DiskView}

-- it has fewer records than bytes
pub few_entries : (at : ℕ) (entries : List Record) (len : ℕ) → StandInTurn at entries len → at + length entries < len
few_entries at [] len turn = omega (arith, turn)
few_entries at (e ∷ es) len turn = omega (arith, few_entries (at + 5 + e.len) es len turn.1)

module _ {D : Type 0} (disk : DiskView D) where
  -- reading leaves the records
  pub still_holds : (old new : State D) (ps : List (List ℕ)) → OnlyReads disk old.disk new.disk → new.len ≡ old.len
      → Holds disk old ps → Holds disk new ps
  still_holds old new ps quiet len holds = record {
    gate = holds.gate;
    rest = holds.rest;
    closed = holds.closed;
    told = quiet.told ∙ holds.told;
    ends = len ∙ holds.ends;
    fit = holds.fit;
    durable = λ image left. holds.durable image (quiet.images image left);
  }
