pub mod AddressLemmas
pub mod CourseLemmas
pub mod TextParts
pub mod GivenValues
pub mod GivenItems
