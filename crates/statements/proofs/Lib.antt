mod Ample
mod Changes
mod Worked
mod Serving
mod Run
mod All
