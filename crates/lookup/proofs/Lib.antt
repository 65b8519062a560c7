-- The laws of the lookup: choice, offsets, stages and promises.
pub mod OffsetLaws
pub mod FixAtLaws
pub mod BridgeLaws
pub mod FunctionLaws
pub mod StageLaws
pub mod TableLaws
pub mod BestLaws
pub mod RowLaws
pub mod RefusedLaws
pub mod FoundLaws
pub mod ResultLaws
pub mod SameLaws
pub mod Demand2
pub mod Order5
pub mod AnswerLaws
pub mod Order6
pub mod Order7
