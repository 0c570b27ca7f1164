pub mod Contents
pub mod Items
pub mod QueueReads
pub mod Stands
