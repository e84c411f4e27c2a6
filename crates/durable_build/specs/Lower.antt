-- Definitions of the crates below, passed on to the crates above: these name this crate alone for them.
pub use Rattle.build_images.specs as build_images
pub use Rattle.build_images.specs.Lower.build_core
pub use Rattle.build_images.specs.Lower.cps_frames
pub use Rattle.build_images.specs.Lower.saved_thread
pub use Rattle.build_images.specs.Lower.script_thread
pub use Rattle.delta_records.specs as delta_records
pub use Rattle.delta_records.specs.Lower.record_form
pub use Rattle.store_laws.specs as store_laws
