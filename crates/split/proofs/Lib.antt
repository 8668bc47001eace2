mod Carrying
mod States
mod Merging
