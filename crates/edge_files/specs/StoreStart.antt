-- What a file may be that is to be a store. This product's own rule.
use Rattle.std.specs.Prelude.{◌+◌, ◌&&◌, ℕ, if◌then◌else◌, nat_eq, nat_le}
use Rattle.edge_files.specs.declared.store_start.StoreStart.{StoreStart}
use Rattle.edge_files.specs.declared.store_start.StoreStart.TheVariants as start

-- A record is an open gate, which is 1, its length in four bytes, so many bytes, and a gate. The first
-- write is of one byte, and may leave any. The next one leaves a closed gate, which is 0, and behind it no more than one
-- record. So it goes by how long the file is, by its
-- first byte, and by the number in the four behind that.
abbrev pub start_of : ℕ → ℕ → ℕ → StoreStart
start_of len gate payload =
    if nat_eq len 0 then start.Nothing
    else if nat_eq len 1 then start.CutShort
    else if nat_eq gate 1 && nat_le 6 len then start.Record
    else if nat_eq gate 0 && nat_le len (6 + payload) then start.CutShort
    else start.Other
