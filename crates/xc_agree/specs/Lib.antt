pub mod Audit
pub mod Runs
pub mod Slots
pub mod Tally
pub mod Seen
pub mod Held
pub mod Cases
