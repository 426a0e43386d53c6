pub mod Order
pub mod Unhit
pub mod Weights
pub mod Tree
pub mod Bound
pub mod Root
pub mod Rising
pub mod Pins
