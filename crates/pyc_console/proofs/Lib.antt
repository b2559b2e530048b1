pub mod CheckFilesLemmas
pub mod FirstBytes
pub mod CommandLine
pub mod TextLemmas
