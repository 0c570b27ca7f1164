pub mod ClockTimes
pub mod Current
pub mod EraLaw
