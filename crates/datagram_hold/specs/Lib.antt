pub mod Came
pub mod Sequence
pub mod Hold
pub mod Runs
pub mod Order
pub mod Worked
pub mod Intake
