mod Common
pub mod Answered
pub mod Listed
pub mod Parts
pub mod Unescaped
