-- The laws of grids in force and of the hole, demand 3, and orders 2 and 5.
pub mod FlatLaws
pub mod ShownLaws
pub mod AreaLaws
pub mod GroupLaws
pub mod StageLaws
pub mod Demand3
pub mod Order2
pub mod Order5
pub mod TableLaws
