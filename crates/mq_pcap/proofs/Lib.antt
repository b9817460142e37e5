pub mod FileHeader
pub mod Filled
pub mod Headers
pub mod IpOptions
pub mod Records
pub mod Walk
