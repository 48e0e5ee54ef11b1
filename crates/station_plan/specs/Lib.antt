pub mod Subjects
pub mod Strokes
pub mod Faces
pub mod Plan
pub mod inside
