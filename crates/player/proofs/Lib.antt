mod Epochs
mod Storing
