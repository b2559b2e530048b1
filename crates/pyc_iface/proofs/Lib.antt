pub mod CarryLemmas
pub mod ComparedLemmas
pub mod FlagLemmas
pub mod MemberLookLemmas
