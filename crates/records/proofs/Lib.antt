pub mod Places
pub mod Slots
pub mod Tidies
pub mod Rooms
pub mod Calls
pub mod Making
