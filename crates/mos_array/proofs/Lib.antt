pub mod RowLemmas
mod PlaceLemmas
mod Outcomes
mod WritingLaws
mod PlaceLaws
