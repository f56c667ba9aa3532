pub mod Befores
pub mod Offers
pub mod Joins
