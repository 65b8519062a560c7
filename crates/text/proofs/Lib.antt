-- The laws of the crate `text`.
pub mod PartLaws
pub mod DecimalLaws
pub mod NumberLaws
pub mod CutLaws
pub mod FieldLaws
pub mod PutLaws
