-- What the contracts of `day` cite, and order 7's promises.
pub mod Day
pub mod Flat
pub mod Even
pub mod Order7
