-- What loading floats into nodes means.
pub mod Load
pub mod Size
pub mod Plain
pub mod Demand2
pub mod Order6
