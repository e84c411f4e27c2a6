-- Lemmas of the crates below, passed on to the crates above: these name this crate alone for them.
pub use Rattle.build_images.proofs as build_images
pub use Rattle.store_laws.proofs as store_laws
