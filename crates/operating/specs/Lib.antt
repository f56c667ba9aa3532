pub mod Operations
pub mod Meaning
