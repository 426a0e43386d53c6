pub mod Table
pub mod WellFormed
pub mod Test
pub mod Answers
pub mod Fitting
pub mod Goals
