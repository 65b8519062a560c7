-- The laws of the search for the first point.
pub mod SearchLaws
pub mod FreeLaws
