pub mod Sets
pub mod Collect
