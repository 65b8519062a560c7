-- The laws of grids in force over rectangles with owners.
pub mod GridLaws
pub mod OrderLaws
pub mod NearLaws
pub mod EntryLaws
pub mod Demand3
