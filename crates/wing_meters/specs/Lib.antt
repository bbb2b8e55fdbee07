pub mod Afresh
pub mod Level
pub mod Window
pub mod Kept
pub mod Calls
pub mod Moving
pub mod Answers
pub mod Cases
