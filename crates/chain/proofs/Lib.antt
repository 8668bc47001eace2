mod Changes
mod Joined
mod Linked
mod Rows
mod Wiping
