-- The laws of rounding, of signed numbers as unsigned ones, of the first index at which a test holds, and of lists of numbers.
pub mod Bools
pub mod Nearest
pub mod RoundZ
pub mod Order3
pub mod Diff
pub mod Machine
pub mod FirstLaws
pub mod OrderLaws
pub mod Lists
pub mod KeptLaws
pub mod ShiftLaws
pub mod RoundLaws
pub mod SignedLaws
