-- What the screen shows, and what it promises.
pub mod Screen
pub mod Shown
