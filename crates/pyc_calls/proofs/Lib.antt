pub mod Kept
pub mod WalkLemmas
pub mod EndLemmas
pub mod CallLemmas
pub mod WaitLemmas
pub mod DepthLemmas
