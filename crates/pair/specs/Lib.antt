-- What the contracts of `pair` cite.
pub mod Pair
pub mod Division
