pub mod WorkedLogs
pub mod WorkedRows
mod WorkedSteps
mod WorkedSubs
pub mod ListLaws
pub mod NumberLaws
pub mod UniqueLaws
pub mod ShareLaws
pub mod OrderLaws
pub mod AcceptedLaws
pub mod SafeLaws
pub mod HeaderLists
pub mod HeaderLaws
pub mod RangeLaws
pub mod ChildLaws
pub mod ValidLaws
pub mod PathLaws
pub mod RowLaws
pub mod IntentLaws
pub mod StragglerKeys
pub mod AgreementLaws
pub mod FirstCase
pub mod OpsLaws
pub mod PackedLaws
pub mod SubsLaws
