-- What calls of threads on one table say together: the law of runs, by its parts.
pub mod Entries
pub mod Hands
pub mod Notes
pub mod Owned
pub mod Taking
