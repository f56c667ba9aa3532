pub mod RightHops
pub mod Faithful
pub mod RightWalks
pub mod RightPaths
pub mod Ties
pub mod Theorems
