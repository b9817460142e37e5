pub mod Capture
pub mod Filling
pub mod Frame
pub mod IpOptions
pub mod Options
pub mod Reading
pub mod Tests
