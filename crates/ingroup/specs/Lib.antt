-- The choice in a group, and order 5 of it.
pub mod InGroup
pub mod Order5
