pub mod Entries
pub mod Callers
pub mod Evaluations
pub mod Continuations
pub mod CallSeats
pub mod CallWorlds
