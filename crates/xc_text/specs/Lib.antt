pub mod Kinds
pub mod Lines
pub mod OneOp
pub mod LogText
pub mod Printed
pub mod Spelled
pub mod Spans
pub mod Verbs
