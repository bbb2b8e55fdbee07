-- Ordered lists and tables of any width; Laying and the end of Tests are about records of 264 bytes.
pub mod Ordered
pub mod Chunks
pub mod Stays
pub mod Moves
pub mod Laying
pub mod Placing
pub mod Finds
pub mod HighEnd
pub mod Numbers
pub mod Tests
pub mod Images
pub mod Members
