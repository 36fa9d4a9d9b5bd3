pub mod HeldOps
pub mod Gifts
pub mod Links
pub mod Slots
