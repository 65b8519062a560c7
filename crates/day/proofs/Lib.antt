-- The laws of the day factor and of the result, and order 7's promises.
pub mod DayLaws
pub mod Order7
