pub mod Sights
pub mod Copies
