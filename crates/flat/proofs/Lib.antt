-- The laws of the flat lists: what is stored is read back, and what stands elsewhere stays.
pub mod RectLaws
pub mod FrameLaws
pub mod FillLaws
pub mod OrderSteps
pub mod OrderLaws
pub mod TurnedLaws
