-- A decoder state as plain bytes.
pub mod Fronts
pub mod Heads
pub mod Trips
pub mod Types
pub mod Before
