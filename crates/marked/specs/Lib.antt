-- Document 01's marked cases.
pub mod Marked
