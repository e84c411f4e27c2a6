-- What the program writes where it does not write a log or a graph. This product's own.
use Rattle.std.specs.Prelude.{ℕ, List, ◌++◌, codes}
use Rattle.std.specs.Fmt.{decimal}

abbrev pub out_of_memory_text : List ℕ
out_of_memory_text = codes "controller: out of memory\n"

abbrev pub disk_failed_text : List ℕ
disk_failed_text = codes "controller: disk failed\n"

abbrev pub no_build_text : List ℕ
no_build_text = codes "program.dat: no build\n"

abbrev pub has_build_text : List ℕ
has_build_text = codes "program.dat: already has a build\n"

-- the place of the damaged record's gate
abbrev pub damaged_text : ℕ → List ℕ
damaged_text at = codes "program.dat: damaged at " ++ (decimal at ++ codes "\n")

-- the journal's length, and what the record of the refused event would have added
abbrev pub full_text : ℕ → ℕ → List ℕ
full_text len add = codes "program.dat: full: " ++ (decimal len ++ (codes " + " ++ (decimal add ++ codes " > 1073741824\n")))

-- what `check` writes of a script and an agents file without a fault
abbrev pub ok_text : List ℕ
ok_text = codes "ok\n"
