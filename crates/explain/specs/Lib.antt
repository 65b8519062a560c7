-- What the contracts of `explain` cite.
pub mod Explain
pub mod Flat
pub mod Rework
