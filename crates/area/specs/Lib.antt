pub mod Networks
pub mod Areas
pub mod Meaning
pub mod Loads
