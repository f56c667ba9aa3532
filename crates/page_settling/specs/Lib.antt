pub mod Settled
pub mod Hops
