pub mod HeaderFacts
pub mod ValidFacts
pub mod FeedFacts
