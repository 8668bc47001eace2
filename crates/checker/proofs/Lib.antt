pub mod Each
pub mod Aliases
pub mod Places
pub mod Reading
pub mod Giving
pub mod Tails
pub mod Paths
pub mod Verdicts
