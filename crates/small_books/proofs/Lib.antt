pub mod Test
pub mod Proved
