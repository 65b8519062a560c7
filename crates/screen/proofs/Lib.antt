-- Laws of the screen.
pub mod Exact
pub mod TableLaws
pub mod ShownLaws
