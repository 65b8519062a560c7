-- Laws of the lines of a header.
pub mod LineLaws
pub mod NameLaws
pub mod LimitLaws
pub mod KindLaws
pub mod NumberLaws
pub mod ReadLaws
pub mod RoomLaws
