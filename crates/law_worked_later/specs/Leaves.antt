pub mod HandedOver
pub mod PassedOn
pub mod Settings
pub mod WrongAnswers
pub mod WrongLists
pub mod WrongRows
