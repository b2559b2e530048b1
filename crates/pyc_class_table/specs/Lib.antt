pub mod Entries
pub mod EntryView
pub mod Numbers
pub mod NumberView
pub mod ClassMros
pub mod MroView
pub mod MroLaws
