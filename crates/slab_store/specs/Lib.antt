pub mod Labels
pub mod Slabs
