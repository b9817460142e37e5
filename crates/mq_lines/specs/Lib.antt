pub mod Line
pub mod Messages
pub mod Numbered
pub mod Objects
pub mod Text
