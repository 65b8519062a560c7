-- The laws of a group as words.
pub mod ListLaws
pub mod NumberLaws
pub mod FunctionLaws
pub mod ShapeLaws
pub mod ClearLaws
pub mod GroupLaws
pub mod WordLaws
pub mod EntryLaws
pub mod BackLaws
