pub mod Directions
pub mod Files
pub mod Written
