pub mod RetainLaws
