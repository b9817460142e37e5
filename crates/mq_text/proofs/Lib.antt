pub mod Digits
pub mod Hexadecimal
pub mod LongestRun
pub mod Pairs
pub mod Passing
pub mod PutGroups
pub mod Spelled
