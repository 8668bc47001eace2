pub mod Wider
pub mod Seeing
pub mod Nodes
pub mod Arguments
pub mod Copying
