pub mod Arenas
pub mod Blocks
pub mod Ownership
pub mod Units
pub mod Vectors
