pub mod Numbers
pub mod State
pub mod Rules
pub mod Calls
pub mod Promises
pub mod Cases
