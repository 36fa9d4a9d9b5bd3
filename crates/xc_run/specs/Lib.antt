pub mod Streams
pub mod Ran
pub mod Texts
