-- The laws of a point's offset in its grid and of its fix.
pub mod OffsetLaws
pub mod FixLaws
pub mod NodeLaws
pub mod PartLaws
