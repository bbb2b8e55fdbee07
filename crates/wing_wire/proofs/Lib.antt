pub mod Worked
pub mod Reading
pub mod Writing
pub mod BothWays
pub mod Laws
