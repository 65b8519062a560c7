-- The laws of the C interface.
pub mod SmallLaws
pub mod AnswerLaws
pub mod ShownLaws
pub mod Demand1
pub mod Demand2
pub mod Order1
pub mod Order2
pub mod Order4
