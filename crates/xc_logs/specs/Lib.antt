pub mod LogSet
pub mod Feed
