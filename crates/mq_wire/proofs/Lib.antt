pub mod Addresses
pub mod CodeValues
mod Common
pub mod Cuts
pub mod Faults
pub mod FoundCodes
pub mod Queried
pub mod RecordLists
pub mod Spans
pub mod Spelled
pub mod SpelledQueries
pub mod Sums
pub mod Written
pub mod WrittenParts
