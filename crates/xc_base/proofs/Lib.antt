pub mod Giving
pub mod NameLemmas
pub mod KeyOrder
pub mod EscapeLaws
pub mod WordLaws
pub mod Worked
