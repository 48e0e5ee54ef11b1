pub mod Escaped
pub mod Svg
