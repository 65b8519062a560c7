-- The definitions of the crate `text`.
pub mod Parts
pub mod Cuts
pub mod Decimal
pub mod Number
pub mod Fields
pub mod Put
pub mod Wrote
