pub mod Saving
pub mod Worked
