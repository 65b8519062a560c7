-- What the contracts of `cell` cite.
pub mod Cell
pub mod Sizes
pub mod Used
pub mod Unsigned
pub mod TwoParts
pub mod Order6
