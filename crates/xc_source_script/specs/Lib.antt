pub mod Kinds
pub mod Words
pub mod SourceText
pub mod Allowed
pub mod Spelled
pub mod Made
