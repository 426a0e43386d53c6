pub mod Masks
pub mod Kept
pub mod Answer
