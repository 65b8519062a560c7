-- What the contracts of `choice` cite.
pub mod Rect
pub mod Choice
pub mod Blocks
pub mod Holder
