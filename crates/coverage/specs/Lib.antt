-- What the contracts of `coverage` cite.
pub mod Rectangles
pub mod InForce
pub mod Listing
pub mod Demand3
pub mod Steps
