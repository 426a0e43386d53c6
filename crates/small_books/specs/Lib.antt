pub mod Claim
pub mod Books
