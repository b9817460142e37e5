pub mod Asked
pub mod Calls
pub mod Faults
pub mod Sentences
pub mod Sizes
pub mod Statuses
pub mod Telling
pub mod TextRooms
