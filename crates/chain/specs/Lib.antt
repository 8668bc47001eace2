pub mod Cells
pub mod Chains
pub mod Heads
pub mod Lents
