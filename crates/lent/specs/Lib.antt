pub mod Lent
pub mod Row
pub mod Given
