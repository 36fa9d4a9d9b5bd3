pub mod Batch
pub mod Contents
pub mod Room
pub mod State
