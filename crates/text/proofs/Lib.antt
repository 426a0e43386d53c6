pub mod Decimal
pub mod Adds
