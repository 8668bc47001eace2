pub mod Blocks
pub mod Meaning
pub mod Names
pub mod Packets
pub mod Questions
pub mod Rows
