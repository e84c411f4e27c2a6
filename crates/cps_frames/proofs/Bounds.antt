-- A frame that stands by the laws of evaluation meets the table exactly, and such a frame stands by these laws.
use Rattle.model_run.specs.declared.frame.Frame.{Frame}
use Rattle.model_run.specs.State.{Common}
use Rattle.model_run.specs.Terms.{Term}
use Rattle.run_laws.specs.Soundness.{Sits}
use Rattle.run_laws.proofs.SortLaws.{meets_table, sits_by}
use Rattle.cps_frames.specs.Places.{FrameStands}

pub stands_exactly : (root : Term) (u : Common) (f : Frame) → Sits root u f → FrameStands root u f
stands_exactly root u f sits = record { fits = meets_table root u f sits; names = sits.names }

pub sits_loosely : (root : Term) (u : Common) (f : Frame) → FrameStands root u f → Sits root u f
sits_loosely root u f h = sits_by root u f h.fits h.names
