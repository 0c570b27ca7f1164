pub mod Free
pub mod RiseSteps
pub mod RiseTells
pub mod Rises
