pub mod Padded
pub mod Names
pub mod Escapes
pub mod Causes
pub mod Told
pub mod Calls
pub mod Status
pub mod Words
