-- Definitions of the crates below, passed on to the crates above: these name this crate alone for them.
pub use Rattle.build_core.specs as build_core
pub use Rattle.image_changes.specs as image_changes
pub use Rattle.image_check.specs as image_check
pub use Rattle.saved_thread.specs as saved_thread
pub use Rattle.saved_thread.specs.Lower.cps_frames
pub use Rattle.saved_thread.specs.Lower.script_thread
