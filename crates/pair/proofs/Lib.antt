-- The laws of two-word whole numbers, of a quotient's digits and of the shift before a division.
pub mod PairLaws
pub mod DigitLaws
pub mod ScaleLaws
