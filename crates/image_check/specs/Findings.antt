-- What is wrong in an image, and where.
use Rattle.std.specs.Prelude.{ℕ, nat_lt, if◌then◌else◌}
use Rattle.image_check.specs.declared.finding.Finding.{Finding}
use Rattle.image_check.specs.declared.finding.CheckKind.{CheckKind}

-- the number that stands for no thread and for no frame
abbrev pub nowhere : ℕ
nowhere = 4294967295

abbrev pub outside : CheckKind → Finding
outside k = record { thread = nowhere; frame = nowhere; kind = k }

abbrev pub in_thread : ℕ → CheckKind → Finding
in_thread thread k = record { thread = thread; frame = nowhere; kind = k }

-- from the 4294967295th frame on the number stands still
abbrev pub frame_number : ℕ → ℕ
frame_number place = if nat_lt place nowhere then place else nowhere

abbrev pub in_frame : ℕ → ℕ → CheckKind → Finding
in_frame thread place k = record { thread = thread; frame = frame_number place; kind = k }
