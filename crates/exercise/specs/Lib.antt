-- What the contracts of `exercise` cite, and what it promises.
pub mod Exercise
pub mod Tables
pub mod Order1
pub mod Order6
