-- Seats before a round and behind it (this product's own).
use Rattle.std.specs.Prelude.{◌≡◌, ℕ, List, map, None}
use Rattle.std.specs.List.{AllByRecursion as AllAre}
use Rattle.atomic_table.specs.Seated.{TableId}
use Rattle.member_turns.specs.Lower.cps_frames.declared.shared.Shared.{Shared}
use Rattle.green_threads.specs.declared.runner.Runner as Runner
use Rattle.jp_disk.specs.declared.disk.Disk as Disk
use Rattle.member_turns.specs.Lower.script_thread.declared.thread.ScriptThread as ScriptThread
use Rattle.member_turns.specs.declared.seat.Seat.{Seat}

module _ {W D R H A : Type 0} {gd : Disk.Ghosts D} {gs : ScriptThread.Ghosts R} {gr : Runner.Ghosts R Shared} where
  -- They are at the lock of this table, each with so many looks, and none has a pass.
  pub record AreReady (table : TableId) (count : ℕ) (seats : List (Seat W D R H A gd gs gr)) : Type 0 where
    pub over : AllAre (λ program. program.now.table.shared.table_id ≡ table) (map (λ (seat : Seat W D R H A gd gs gr). seat.program) seats)
    pub looks : AllAre (λ own. own ≡ count) (map (λ (seat : Seat W D R H A gd gs gr). seat.looks) seats)
    pub vacant : AllAre (λ own. own ≡ None) (map (λ (seat : Seat W D R H A gd gs gr). seat.pass) seats)
