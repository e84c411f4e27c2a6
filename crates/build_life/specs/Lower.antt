-- Definitions of the crates below, passed on to the crates above: these name this crate alone for them.
pub use Rattle.build_store.specs as build_store
pub use Rattle.build_store.specs.Lower.build_core
pub use Rattle.build_store.specs.Lower.build_images
pub use Rattle.build_store.specs.Lower.cps_frames
pub use Rattle.build_store.specs.Lower.delta_records
pub use Rattle.build_store.specs.Lower.durable_build
pub use Rattle.build_store.specs.Lower.record_form
pub use Rattle.build_store.specs.Lower.store_laws
pub use Rattle.member_turns.specs as member_turns
pub use Rattle.member_turns.specs.Lower.locked_build
