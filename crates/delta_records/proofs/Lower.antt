-- Lemmas of the crates below, passed on to the crates above: these name this crate alone for them.
pub use Rattle.delta_form.proofs as delta_form
pub use Rattle.record_form.proofs as record_form
