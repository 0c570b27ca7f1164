pub use Rattle.wfe_text.proofs.Decimals as Decimals
pub use Rattle.wfe_text.proofs.Digits as Digits
pub use Rattle.wfe_text.proofs.EventWords as EventWords
pub use Rattle.wfe_text.proofs.Numerals as Numerals
pub mod Judged
pub mod Lengths
pub mod Reasons
pub mod Settings
pub mod Versions
