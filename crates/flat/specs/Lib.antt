-- What the contracts of `flat` cite.
pub mod Rects
pub mod Frames
pub mod Functions
pub mod Lists
pub mod Order
pub mod Turned
