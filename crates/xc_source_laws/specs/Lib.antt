pub mod Laws
pub mod Workloads
pub mod Finished
