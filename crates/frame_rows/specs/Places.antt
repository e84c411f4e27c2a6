-- The place of a frame as an image has it: how many parts of its node are done (this product's own).
use Rattle.std.specs.Prelude.{ℕ, suc, ◌-◌, Bool, [], if◌then◌else◌}
use Rattle.model_run.specs.declared.frame.FrameKind.{FrameKind}
use Rattle.model_run.specs.Around.{Shape, arity}
use Rattle.model_run.specs.FrameTable.{frame_row}

-- whether the frames of a kind tell the parts of a node apart
abbrev pub tells : FrameKind → Shape → Bool
tells k sh = (frame_row k sh 0 []).told

-- how many parts still come behind the one that is being evaluated, where so many are done
abbrev pub left_at : FrameKind → Shape → ℕ → ℕ
left_at k sh at = if tells k sh then arity sh - suc at else 0
