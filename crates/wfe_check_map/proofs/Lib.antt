pub mod ListStepsLemmas
pub mod MarksLemmas
pub mod SeatsLemmas
pub mod SpansLemmas
pub mod StepsLemmas
pub mod ValuesLemmas
