pub mod RunRecords
pub mod Worked
