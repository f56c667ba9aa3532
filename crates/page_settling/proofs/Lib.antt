pub mod SetSteps
pub mod Rests
pub mod Turns
