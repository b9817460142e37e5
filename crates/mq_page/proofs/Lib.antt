mod Common
pub mod Marked
pub mod ShownChecks
