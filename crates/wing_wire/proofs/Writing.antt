-- From commands and packets to bytes.
pub mod Lays
pub mod Choices
pub mod Sizes
pub mod Totals
pub mod Requests
pub mod Packets
