mod Common
pub mod Leaving
pub mod Explicit
pub mod KnownGroups
pub mod KnownSendings
pub mod KnownLinks
pub mod KnownRecords
pub mod KnownReceipts
pub mod KnownMoments
pub mod Worked
pub mod Alike
pub mod AlikeGroups
pub mod AlikeLinks
pub mod SeveralMessages
pub mod KnownChanges
pub mod Captures
pub mod KnownReplays
