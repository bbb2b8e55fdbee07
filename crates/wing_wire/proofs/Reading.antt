-- From bytes to answers.
pub mod Columns
pub mod Zeros
pub mod Powers
pub mod Underway
pub mod Clears
mod Turns
pub mod Overs
pub mod Pieces
pub mod Inners
pub mod Plains
pub mod Steps
pub mod Bounds
pub mod Sound
pub mod Ranges
pub mod Runs
pub mod Refusing
pub mod Handled
pub mod Beside
pub mod Few
pub mod ByUnits
pub mod Repeats
pub mod WholeTokens
pub mod Cuts
pub mod Along
pub mod Channels
pub mod NextUnits
pub mod CarriedOver
