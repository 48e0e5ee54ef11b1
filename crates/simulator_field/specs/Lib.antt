pub mod Network
pub mod Bag
pub mod inside
pub mod Field
