pub mod Falls
pub mod Helping
pub mod Queues
pub mod Readers
pub mod Tables
