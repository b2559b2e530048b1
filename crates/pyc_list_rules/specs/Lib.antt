pub mod ReadsExpressions
