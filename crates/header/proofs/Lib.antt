-- The laws of the header text.
pub mod ItemLaws
pub mod WholeLaws
pub mod HeaderLaws
pub mod TripLaws
pub mod WriteLaws
pub mod LengthLaws
pub mod ShapeLaws
pub mod FormedLaws
pub mod TableLaws
pub mod Demand2
