pub mod Links
pub mod Tables
pub mod Makings
pub mod Meaning
pub mod TwoWays
