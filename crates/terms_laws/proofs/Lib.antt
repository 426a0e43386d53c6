pub mod Classes
pub mod Decided
pub mod Choice
pub mod Told
