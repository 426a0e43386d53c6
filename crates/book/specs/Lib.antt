pub mod Reading
pub mod Sound
pub mod Given
pub mod BookOf
