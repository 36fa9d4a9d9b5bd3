pub mod Prefixes
pub mod ReportLaws
pub mod WordLists
pub mod LineTextLaws
pub mod StepLaws
pub mod AllowedLaws
pub mod SpelledWords
pub mod SpelledRun
pub mod ReadBack
mod WorkedScripts
