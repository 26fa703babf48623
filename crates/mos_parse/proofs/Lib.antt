pub mod Forms
pub mod OneWay
pub mod Whole
