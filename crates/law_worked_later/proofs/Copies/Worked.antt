pub mod AtVersion
pub mod Copied
pub mod CopiedAnew
pub mod KeptTwice
pub mod Wrong
