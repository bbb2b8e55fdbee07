pub mod Saved
pub mod Earlier
pub mod Cases
