pub mod Order
pub mod Heap
pub mod Waiting
pub mod Runs
