pub mod Records
pub mod Refuses
pub mod Calls
pub mod Accepts
