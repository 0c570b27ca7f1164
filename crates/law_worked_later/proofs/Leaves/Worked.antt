pub mod HandedOver
pub mod PassedOn
pub mod Wrong
