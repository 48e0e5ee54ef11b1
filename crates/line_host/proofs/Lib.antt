mod Staying
mod Loops
mod Sites
