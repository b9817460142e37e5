pub mod AddressV4
pub mod AddressV6
pub mod Digits
pub mod Printing
pub mod Reading
