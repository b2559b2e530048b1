pub mod Values
pub mod TypeLaws
pub mod StateLaws
pub mod TestLaws
pub mod Conditions
pub mod ConditionLaws
