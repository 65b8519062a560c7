-- What the contracts of `group` cite.
pub mod Numbers
pub mod Record
pub mod Shapes
pub mod Limits
pub mod Refusals
pub mod Blank
pub mod Order6
