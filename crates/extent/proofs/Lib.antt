-- The laws of a grid's sides.
pub mod SideLaws
pub mod MeetLaws
pub mod Order5
