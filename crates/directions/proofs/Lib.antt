pub mod FileLaws
pub mod WrittenLaws
