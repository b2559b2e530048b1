pub mod MemberLemmas
pub mod NameLemmas
pub mod MroLemmas
pub mod TableLemmas
