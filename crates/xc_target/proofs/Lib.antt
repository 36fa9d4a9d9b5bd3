pub mod LookLaws
pub mod SessionLaws
pub mod MoveLaws
pub mod ReadLaws
pub mod NewLaws
pub mod PollLaws
pub mod PollFacts
pub mod PollFits
pub mod PollSteps
mod PruneLaws
pub mod ScanLaws
pub mod CursorLaws
pub mod DrainLaws
pub mod PassLaws
