pub mod CutLaws
pub mod PlainFronts
pub mod NumberLaws
pub mod OpsLaws
pub mod SubsRead
pub mod LineLaws
pub mod StepLaws
pub mod ValidParts
pub mod OpsHeld
pub mod ValidLaws
pub mod PrintedWords
pub mod PlainOps
pub mod PrintedLines
pub mod PrintedHeaders
pub mod PrintedLaws
pub mod PrintedEnds
pub mod Filled
pub mod SpelledRun
pub mod PrintedSpelled
pub mod ReadWords
pub mod ReadBack
mod WorkedTexts
mod WorkedSpelling
