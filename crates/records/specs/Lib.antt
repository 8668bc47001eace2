pub mod Tables
pub mod Glances
