pub mod Signatures
pub mod Typing
pub mod Marks
pub mod Layers
pub mod Theorems
pub mod Cases
