-- Lemmas of the crates below, passed on to the crates above: these name this crate alone for them.
pub use Rattle.locked_build.proofs as locked_build
