pub mod Checks
pub mod Groups
pub mod Schedules
pub mod Links
pub mod ManySources
pub mod Named
pub mod Replays
