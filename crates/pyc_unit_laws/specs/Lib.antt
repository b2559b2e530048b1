pub mod AnnotationRows
pub mod ClassRows
pub mod FunctionRows
pub mod TargetRows
pub mod FileKeys
pub mod RequiredRows
pub mod ImportRows
pub mod UnitKeys
