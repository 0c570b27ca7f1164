pub mod Before
pub mod Lines
pub mod Pieces
pub mod Ranges
pub mod Verdicts
pub mod Widths
