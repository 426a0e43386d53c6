pub mod Tables
pub mod Small
pub mod Excluded
