pub mod Goals
pub mod Pins
pub mod Buffers
pub mod Laid
pub mod Read
