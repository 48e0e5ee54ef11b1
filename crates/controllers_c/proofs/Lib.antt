pub mod SectionsLeft
pub mod SectionsSpelled
pub mod Startedness
