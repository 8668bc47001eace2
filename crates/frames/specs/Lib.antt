pub mod Giving
pub mod Threads
