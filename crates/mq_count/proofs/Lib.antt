mod Common
pub mod Spent
pub mod TimedMoments
