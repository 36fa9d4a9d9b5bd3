pub mod Floors
pub mod Stands
pub mod Rows
pub mod Laws
pub mod Sessions
pub mod Lines
