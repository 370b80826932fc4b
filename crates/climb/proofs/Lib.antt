mod Taken
mod Finds
mod Climbing
