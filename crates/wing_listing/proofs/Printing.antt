-- A table as text: hex pairs, the parts of a line, and lines one after the other.
pub mod Pairs
pub mod Values
pub mod Lines
