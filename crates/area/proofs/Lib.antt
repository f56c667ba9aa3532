pub mod Numbers
pub mod Settles
pub mod Loading
pub mod Files
pub mod Walking
