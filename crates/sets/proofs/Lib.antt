pub mod Bits
pub mod Collect
pub mod Flip
pub mod Shared
pub mod Weight
pub mod Order
