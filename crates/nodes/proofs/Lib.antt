-- Laws of loading.
pub mod Marks
pub mod Signed
pub mod ScaledLaws
pub mod Fields
pub mod Steps
pub mod High
pub mod LoadLaws
pub mod Plain
pub mod Blocks
pub mod TableLaws
pub mod Demand2
pub mod Order6
