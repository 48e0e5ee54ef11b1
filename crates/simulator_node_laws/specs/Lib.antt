pub mod Told
pub mod Lives
pub mod Split
pub mod Shown
pub mod Said
pub mod Readings
pub mod Contacts
pub mod Worked
