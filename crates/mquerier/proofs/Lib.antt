mod Common
pub mod Breakings
pub mod Checkings
pub mod Conversions
pub mod Lines
pub mod Replayed
pub mod Seen
pub mod Takings
pub mod Telling
pub mod Worked
