-- The laws of a whole exercise.
pub mod ScaleLaws
pub mod TableLaws
pub mod StageLaws
pub mod FilledLaws
pub mod CallLaws
pub mod SmallLaws
pub mod ColumnLaws
pub mod Order1
pub mod Order6
