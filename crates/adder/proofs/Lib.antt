pub mod Fill
pub mod Rule
pub mod Book
pub mod Pins
