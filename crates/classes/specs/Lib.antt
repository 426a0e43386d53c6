pub mod Classes
pub mod Undetectable
