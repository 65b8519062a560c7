-- The definitions of the lines of a header.
pub mod Names
pub mod Lines
pub mod Numbers
pub mod Counted
