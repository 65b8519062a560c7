-- What the contracts of `extent` cite.
pub mod Extent
pub mod Sizes
pub mod Sides
pub mod Order5
