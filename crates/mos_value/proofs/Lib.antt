mod SameScalars
mod NumberLemmas
mod TextOrder
pub mod CollectionLemmas
mod SetLemmas
mod IndexLemmas
mod SetLaws
mod RangeLemmas
mod RangeLaws
