-- Lemmas of the crates below, passed on to the crates above: these name this crate alone for them.
pub use Rattle.durable_build.proofs as durable_build
pub use Rattle.durable_build.proofs.Lower.store_laws
