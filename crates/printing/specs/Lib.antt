pub mod Output
pub mod Roots
pub mod Rooms
