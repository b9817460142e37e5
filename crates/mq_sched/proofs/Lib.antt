pub mod Asked
pub mod Below
pub mod Collecting
mod Common
pub mod Counts
pub mod DeadlineTree
pub mod DueLeaves
pub mod Electing
pub mod Fits
pub mod FittingRounds
pub mod InPortions
pub mod LeafMoves
pub mod Leaves
pub mod NumbersAtLeaves
pub mod Rounds
pub mod Shrinking
pub mod StayHeld
pub mod WrittenAbove
