pub mod InputLemmas
pub mod StringLemmas
pub mod ExpressionSet
pub mod PartLemmas
pub mod ReadingLemmas
