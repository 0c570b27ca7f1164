pub mod Answered
pub mod Ledgers
pub mod Records
pub mod Reports
pub mod Shown
pub mod Versions
