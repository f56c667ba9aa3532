pub mod Pages
pub mod Walks
