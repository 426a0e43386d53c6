pub mod Flat
pub mod Packed
pub mod Writes
