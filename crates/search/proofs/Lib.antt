pub mod Offers
pub mod Rounds
pub mod Shorts
pub mod Lines
pub mod Loops
