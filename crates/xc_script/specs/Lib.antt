pub mod Kinds
pub mod Words
pub mod LineText
pub mod ScriptText
pub mod Allowed
pub mod Spelled
pub mod Lines
pub mod Parts
