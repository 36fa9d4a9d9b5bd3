pub mod WordLists
pub mod StepLaws
pub mod AllowedLaws
pub mod SpelledWords
pub mod SpelledRun
pub mod ReadBack
pub mod MadeLaws
mod WorkedSources
