pub mod Asking
pub mod CallCounts
pub mod Raises
pub mod Rising
