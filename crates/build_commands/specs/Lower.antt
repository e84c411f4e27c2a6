-- Definitions of the crates below, passed on to the crates above: these name this crate alone for them.
pub use Rattle.build_life.specs as build_life
pub use Rattle.build_life.specs.Lower.delta_records
pub use Rattle.build_life.specs.Lower.durable_build
pub use Rattle.build_life.specs.Lower.record_form
pub use Rattle.build_life.specs.Lower.build_store
pub use Rattle.build_life.specs.Lower.member_turns
pub use Rattle.build_life.specs.Lower.locked_build
pub use Rattle.build_life.specs.Lower.store_laws
