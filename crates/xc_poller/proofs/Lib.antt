pub mod BatchLaws
pub mod PollLaws
pub mod StandLaws
