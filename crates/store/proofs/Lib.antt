pub mod Answered
pub mod Blocks
pub mod Gathered
pub mod Kept
pub mod Maps
pub mod Tables
