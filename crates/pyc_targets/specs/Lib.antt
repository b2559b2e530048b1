pub mod TargetTypes
pub mod NameTargets
pub mod AttributeTargets
pub mod ItemTargets
pub mod Views
