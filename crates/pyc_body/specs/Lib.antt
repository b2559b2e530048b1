pub mod FileUnits
pub mod FileUnitView
pub mod FoundMessages
pub mod CheckerView
pub mod FoundLaws
