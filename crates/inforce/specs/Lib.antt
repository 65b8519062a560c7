-- What the contracts of `inforce` cite, demand 3, and orders 2 and 5.
pub mod Area
pub mod InForce
pub mod Handed
pub mod Hole
pub mod Demand3
pub mod Order2
pub mod Order5
pub mod Flat
