-- The definitions of the header text.
pub mod Items
pub mod Whole
pub mod Header
pub mod Demand2
