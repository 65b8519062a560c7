-- What the contracts of `judge` cite, and what it promises.
pub mod Judge
pub mod Keys
pub mod Rules
pub mod Order5
pub mod Order7
