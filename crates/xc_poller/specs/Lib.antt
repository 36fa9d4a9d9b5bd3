pub mod Delivery
pub mod Poller
pub mod Polled
