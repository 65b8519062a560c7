-- The definitions of the crate `abi`.
pub mod Words
pub mod Abi
pub mod Clear
