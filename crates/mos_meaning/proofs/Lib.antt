pub mod Fine
pub mod WorkingModels
