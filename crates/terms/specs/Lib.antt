pub mod Columns
pub mod Terms
pub mod Choice
