-- What the contracts of `lookup` cite.
pub mod Lookup
pub mod Answer
pub mod Flat
pub mod Demand2
pub mod Order5
pub mod Order6
pub mod Order7
