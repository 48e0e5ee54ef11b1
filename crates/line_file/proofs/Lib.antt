mod Texts
mod Owners
