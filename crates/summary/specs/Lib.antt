pub mod Rules
pub mod Summaries
pub mod Printed
