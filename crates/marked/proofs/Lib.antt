-- Document 01's marked cases, proved of the written meanings.
pub mod Marked
