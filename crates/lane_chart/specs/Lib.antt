pub mod Subjects
pub mod Spans
pub mod Shown
pub mod Drawn
pub mod Strokes
pub mod Faces
pub mod Chart
pub mod inside
