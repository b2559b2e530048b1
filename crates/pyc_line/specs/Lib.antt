pub mod LineFault
pub mod ReadsExactly
pub use Rattle.pyc_tree.specs.Headers
pub use Rattle.pyc_tree.specs.LineView
pub use Rattle.pyc_tree.specs.Lines
pub use Rattle.pyc_tree.specs.WellLines
