-- The laws of the cell, of its weights and of its value.
pub mod AlongLaws
pub mod WeightLaws
pub mod WideLaws
pub mod ValueLaws
pub mod SumLaws
pub mod NearLaws
pub mod Order6
