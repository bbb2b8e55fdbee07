mod Signs
mod Effects
mod Loads
mod Keeps
mod Pairs
mod Listed
mod Read
pub mod Said
mod Answered
pub mod SaidDefinitions
pub mod SaidWindows
