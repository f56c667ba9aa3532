pub mod PathLaws
pub mod MemberLaws
pub mod WalkLaws
