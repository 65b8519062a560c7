-- The laws of the judge.
pub mod LimitLaws
pub mod KeyLaws
pub mod ScanLaws
pub mod JudgeLaws
pub mod GridStages
pub mod Accepted
pub mod TableLaws
pub mod KeptLaws
pub mod StoredLaws
pub mod Order5
pub mod Order7
