-- Definitions of the crates below, passed on to the crates above: these name this crate alone for them.
pub use Rattle.cps_frames.specs as cps_frames
pub use Rattle.frame_rows.specs as frame_rows
pub use Rattle.image_frames.specs as image_frames
pub use Rattle.script_thread.specs as script_thread
pub use Rattle.thread_fits.specs as thread_fits
