-- What the contracts of `timed` cite.
pub mod Timed
