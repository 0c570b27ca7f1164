pub use Rattle.model_record.specs as records
pub use Rattle.model_record.specs.defs as defs
pub use Rattle.wfe_words.specs as words
pub mod AnswerLaw
pub mod EraLaw
pub mod Fits
pub mod Good
pub mod Histories
pub mod HistoryAnswers
pub mod HistoryEras
pub mod HistoryHolds
pub mod HistoryRows
pub mod HistoryScans
pub mod HistorySteps
pub mod HistoryTable
pub mod HistoryTurns
pub mod HoldLaw
pub mod Laws
pub mod Lists
pub mod MapLaw
pub mod NoReuse
pub mod Once
pub mod QueueLaw
pub mod Ranges
pub mod ScanLaw
pub mod Standing
pub mod StateAt
pub mod StepLaw
pub mod StructuresAt
