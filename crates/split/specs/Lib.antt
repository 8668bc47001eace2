pub mod Carry
pub mod Places
pub mod Splits
