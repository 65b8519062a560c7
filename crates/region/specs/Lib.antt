-- What the contracts of `region` cite.
pub mod First
pub mod Earlier
pub mod Free
pub mod Rows
