pub mod RootLaws
pub mod LoadLaws
