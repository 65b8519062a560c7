-- The laws of logs.
pub mod EntryLaws
pub mod EqualLaws
pub mod PlaceLaws
pub mod LengthLaws
pub mod TurnLaws
pub mod LoopLaws
pub mod WrittenLaws
pub mod TableLaws
pub mod SaysLaws
pub mod KindLaws
pub mod NumberLaws
pub mod FaultLaws
pub mod OwnLaws
pub mod Order4
pub mod Order6
