-- The laws of the limits, of unused entries, of refusals and of what C lends.
pub mod LimitLaws
pub mod BlankLaws
pub mod RefusalLaws
pub mod LayoutLaws
pub mod Order6
