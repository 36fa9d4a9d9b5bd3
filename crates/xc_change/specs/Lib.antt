pub mod Reader
pub mod Taken
