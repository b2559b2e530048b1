pub mod SoFarLemmas
pub mod PartedLemmas
pub mod ChainLemmas
pub mod PiecesEnds
pub mod SingleTargets
pub mod Steps
