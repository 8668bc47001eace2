pub mod Sharing
pub mod Lists
pub mod Stacks
