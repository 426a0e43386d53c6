pub mod Masks
pub mod Fill
pub mod Goals
pub mod Kept
pub mod Shared
pub mod Aside
pub mod Pins
