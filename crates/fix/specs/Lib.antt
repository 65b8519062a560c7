-- What the contracts of `fix` cite.
pub mod Fix
pub mod Inside
pub mod Answers
pub mod Parts
