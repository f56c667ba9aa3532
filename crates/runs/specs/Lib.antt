pub mod Calls
pub mod Ledgers
pub mod Laws
