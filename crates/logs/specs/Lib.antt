-- What the contracts of `logs` cite, and what it promises.
pub mod Kinds
pub mod Line
pub mod Log
pub mod Writing
pub mod Reading
pub mod Order4
pub mod Order6
