pub mod NumberLaws
pub mod ListLaws
