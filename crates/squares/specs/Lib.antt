pub mod Networks
pub mod Meaning
pub mod Chosen
pub mod Squares
pub mod Numbers
pub mod Known
pub mod Sequences
pub mod Found
