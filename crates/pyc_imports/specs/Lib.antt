pub mod ImportReadings
pub mod Names
pub mod LocalImports
