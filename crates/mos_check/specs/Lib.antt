pub mod Forms
pub mod NotBuilt
pub mod Names
pub mod Laws
