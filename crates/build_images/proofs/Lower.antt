-- Lemmas of the crates below, passed on to the crates above: these name this crate alone for them.
pub use Rattle.fit_laws.proofs as fit_laws
pub use Rattle.image_changes.proofs as image_changes
