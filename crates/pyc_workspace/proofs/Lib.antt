pub mod FreshLemmas
pub mod Texts
pub mod WorkspaceLemmas
pub mod FileLemmas
pub mod CountLemmas
pub mod TakenLemmas
