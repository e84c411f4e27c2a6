-- The frames of a build that an image tells of (this product's own).
use Rattle.std.specs.Prelude.{◌≡◌, ℕ, None, slice_get}
use Rattle.std.specs.Option.{unwrap_or}
use Rattle.model_run.specs.declared.frame.Frame.{Frame}
use Rattle.model_run.specs.declared.frame.FrameKind.{FrameKind}
use Rattle.model_run.specs.declared.frame.FrameKind.TheVariants as kind
use Rattle.model_run.specs.Fitting.{EnvFits, known}
use Rattle.model_run.specs.Nesting.{FrameFits, row_at, shape_at}
use Rattle.model_run.specs.Scoping.{names_for}
use Rattle.model_run.specs.State.{Common}
use Rattle.model_run.specs.Terms.{Term}
use Rattle.image_form.specs.declared.image.ImageFrame.{ImageFrame}
use Rattle.frame_rows.specs.Kinds.{kinds}
use Rattle.frame_rows.specs.Places.{left_at}

-- the kind of a number, where there is one; any other number is refused before its kind matters
abbrev pub kind_of : ℕ → FrameKind
kind_of n = unwrap_or (slice_get kinds n) kind.Statement

-- a frame, with the parts that still come in place of those that are done
abbrev pub frame_in : Term → ImageFrame → Frame
frame_in root f = record {
  kind = kind_of f.kind;
  node = f.node;
  left = left_at (kind_of f.kind) (shape_at root f.node) f.at;
  env = f.env;
  values = f.values;
}

-- its kind is one, and its place is that which its row tells
abbrev pub IsTold : Term → ImageFrame → Type 0
IsTold root f = (slice_get kinds f.kind ≡ None → ⊥) × (f.at ≡ (row_at root (frame_in root f)).done)

-- A frame of an image that stands, in a shared state: it meets the table, and each of its names is that of a variable.
pub record FrameStands (root : Term) (u : Common) (f : ImageFrame) : Type 0 where
  pub told : IsTold root f
  pub fits : FrameFits (known u) root (frame_in root f)
  pub variables : EnvFits u.cells (names_for root (frame_in root f)) (frame_in root f).env
