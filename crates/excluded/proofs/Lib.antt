pub mod Left
pub mod Reader
pub mod Calls
