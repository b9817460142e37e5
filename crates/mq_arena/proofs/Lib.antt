mod Arms
mod Cell
mod Common
mod EmptyVectors
mod InTurn
mod Kept
mod Rooms
mod Taken
pub mod Takes
mod Walks
