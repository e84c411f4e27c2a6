-- Lemmas of the crates below, passed on to the crates above: these name this crate alone for them.
pub use Rattle.build_store.proofs as build_store
pub use Rattle.build_store.proofs.Lower.durable_build
pub use Rattle.build_store.proofs.Lower.store_laws
pub use Rattle.member_turns.proofs as member_turns
pub use Rattle.member_turns.proofs.Lower.locked_build
