pub mod TypeExprs
pub mod TypeExprView
