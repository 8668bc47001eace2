pub mod Answers
pub mod Calls
pub mod Replies
pub mod Requests
pub mod States
