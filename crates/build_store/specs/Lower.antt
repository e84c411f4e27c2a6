-- Definitions of the crates below, passed on to the crates above: these name this crate alone for them.
pub use Rattle.durable_build.specs as durable_build
pub use Rattle.durable_build.specs.Lower.build_core
pub use Rattle.durable_build.specs.Lower.build_images
pub use Rattle.durable_build.specs.Lower.cps_frames
pub use Rattle.durable_build.specs.Lower.delta_records
pub use Rattle.durable_build.specs.Lower.record_form
pub use Rattle.durable_build.specs.Lower.store_laws
