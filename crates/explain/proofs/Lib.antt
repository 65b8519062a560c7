-- The laws of what a lookup is made of.
pub mod RankLaws
pub mod CellLaws
pub mod WorkedLaws
pub mod StoreLaws
pub mod PieceLaws
pub mod ExplainLaws
pub mod Rework
