pub mod Costs
pub mod Sums
pub mod Paths
pub mod PathLaws
pub mod SumLaws
