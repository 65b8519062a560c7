-- The definitions of the C interface, and what it promises.
pub mod Answers
pub mod InForce
pub mod Screen
pub mod Shown
pub mod Demand1
pub mod Demand2
pub mod Order1
pub mod Order2
pub mod Order4
