pub mod Finished
pub mod Headers
pub mod ReadSoFar
pub mod ReportedOver
pub mod Rooms
pub mod Ticking
pub mod WalkedOver
pub mod WrittenReports
