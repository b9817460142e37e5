mod Common
pub mod ChangeTexts
pub mod ChangedGroups
pub mod EndLines
pub mod EventLines
pub mod Growing
pub mod ListedOver
pub mod OnePacket
pub mod Packets
pub mod PrintedQueries
pub mod ReplayTexts
pub mod ReplayedOver
pub mod Shown
pub mod TickedReplays
pub mod WalkedPackets
pub mod WrittenEarly
