-- What the contracts of `numbers` cite, and order 3's promise.
pub mod Round
pub mod Order3
pub mod First
pub mod Order
pub mod Lists
pub mod Circle
