pub mod AddedSources
pub mod Amounts
pub mod AskedInPlace
mod AskedMoments
mod Common
pub mod CountedRows
pub mod DueInOrder
pub mod DueNumbers
mod EarliestHeld
pub mod Entries
pub mod GroupPages
pub mod GroupsInOrder
mod HeldInOrder
pub mod HeldMoments
pub mod Inside
pub mod KeysByNumber
pub mod LeastMoments
pub mod LeftNumbers
pub mod Located
mod MadeGroup
pub mod MomentCounts
mod NamedWalks
pub mod OrderedAmounts
pub mod OrderedGroups
pub mod OrderedItems
pub mod Places
pub mod RestartedEach
mod RestartedRows
pub mod RestartedTimers
pub mod Sorted
pub mod StoredEdits
mod StoredMoments
pub mod TakenGroups
pub mod TakenItems
