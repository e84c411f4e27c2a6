-- The tests of a frame of an image.
use Rattle.std.specs.Prelude.{ℕ, nat_eq, nat_lt, Bool, true, false, not, ◌&&◌, ◌||◌, if◌then◌else◌, List, [], ◌∷◌, length, Option, Some, None, slice_get, is_some}
use Rattle.model_values.specs.declared.cell.Cell.{Cell}
use Rattle.model_run.specs.Nesting.{Spot, row_at, spot_in}
use Rattle.model_run.specs.Scoping.{names_for}
use Rattle.model_run.specs.Terms.{Term, nodes_of}
use Rattle.image_form.specs.declared.image.ImageFrame.{ImageFrame}
use Rattle.frame_rows.specs.Kinds.{kinds}
use Rattle.frame_rows.specs.Values.{values_fit}
use Rattle.script_names.specs.Given.{are_named}
use Rattle.script_names.specs.Variables.{are_variables}
use Rattle.image_frames.specs.Leading.{stands_at}
use Rattle.image_frames.specs.Standings.{frame_in}
use Rattle.image_frames.specs.declared.fault.FrameFault.{FrameFault}
use Rattle.image_frames.specs.declared.fault.FrameFault.TheVariants as fault

-- it is of some kind
abbrev pub has_kind : ImageFrame → Bool
has_kind f = is_some (slice_get kinds f.kind)

-- it stands at a node of the script at which its row stands
abbrev pub has_node : Term → ImageFrame → Bool
has_node root f = nat_lt f.node (length (nodes_of root)) && (row_at root (frame_in root f)).stands

-- and at a part of that node
abbrev pub has_place : Term → ImageFrame → Bool
has_place root f = nat_lt (frame_in root f).left (row_at root (frame_in root f)).limit && nat_eq f.at (row_at root (frame_in root f)).done

abbrev pub has_row : Term → ImageFrame → Bool
has_row root f = has_kind f && (has_node root f && has_place root f)

-- its values are those of its row
abbrev pub has_values : Term → List Cell → ℕ → ImageFrame → Bool
has_values root h nodes f = values_fit h nodes (row_at root (frame_in root f)).further (row_at root (frame_in root f)).values f.values

-- A frame may stand at a spot. Nothing is said of one that has no kind or no node of the script, which is a fault of its own.
abbrev pub may_stand_at : Term → ImageFrame → Spot → Bool
may_stand_at root f at = not (has_kind f && nat_lt f.node (length (nodes_of root))) || stands_at root (frame_in root f) at

-- what stands directly inside a frame that has a row
abbrev pub spot_inside : Term → ImageFrame → Option Spot
spot_inside root f = if has_row root f then Some (spot_in root (frame_in root f)) else None

-- the first that is wrong, where something is
abbrev pub unless : Bool → FrameFault → Option FrameFault → Option FrameFault
unless true f o = o
unless false f o = Some f

-- the first that is wrong with what a frame holds
abbrev pub content_fault : Term → List Cell → ℕ → ImageFrame → Option FrameFault
content_fault root h nodes f =
    unless (has_values root h nodes f) fault.Values
    (unless (are_variables h f.env) fault.Cell
    (unless (are_named (names_for root (frame_in root f)) f.env) fault.Name None))

-- the first that is wrong with a frame; whether what stands directly inside it fits is asked for
abbrev pub frame_fault : Term → List Cell → ℕ → Bool → ImageFrame → Option FrameFault
frame_fault root h nodes inside f =
    unless (has_kind f && inside) fault.Kind
    (unless (has_node root f) fault.Node
    (unless (has_place root f) fault.Place
    (content_fault root h nodes f)))
