-- The laws of the choice at a point.
pub mod RectLaws
pub mod ChoiceLaws
pub mod Turn
pub mod TurnHolds
pub mod PartLaws
pub mod HolderLaws
