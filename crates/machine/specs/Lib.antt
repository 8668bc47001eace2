pub mod States
pub mod Moves
pub mod Observed
pub mod Network
pub mod Runs
