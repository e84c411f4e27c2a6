-- Lemmas of the crates below, passed on to the crates above: these name this crate alone for them.
pub use Rattle.build_life.proofs as build_life
pub use Rattle.build_life.proofs.Lower.durable_build
pub use Rattle.build_life.proofs.Lower.build_store
pub use Rattle.build_life.proofs.Lower.member_turns
