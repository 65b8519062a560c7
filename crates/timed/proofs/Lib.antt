-- The laws of lists that are rounded one by one.
pub mod RoundedLaws
