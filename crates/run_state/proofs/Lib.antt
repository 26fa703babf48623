pub mod RefusedItems
