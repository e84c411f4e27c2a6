mod ControlLemmas
mod Pieces
mod Quoting
