pub mod Numbers
pub mod Room
pub mod Round
pub mod Given
pub mod Written
pub mod Marked
