-- Definitions of the crates below, passed on to the crates above: these name this crate alone for them.
pub use Rattle.locked_build.specs as locked_build
pub use Rattle.locked_build.specs.Lower.build_core
pub use Rattle.locked_build.specs.Lower.cps_frames
pub use Rattle.locked_build.specs.Lower.durable_build
pub use Rattle.locked_build.specs.Lower.saved_thread
pub use Rattle.locked_build.specs.Lower.script_thread
