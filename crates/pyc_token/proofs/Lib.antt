pub mod BoundaryLemmas
pub mod CutLemmas
pub mod KeywordLemmas
pub mod NameLemmas
pub mod OperatorLemmas
pub mod StringLemmas
