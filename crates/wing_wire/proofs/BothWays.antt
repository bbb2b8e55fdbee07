-- What was written is read back: demand 2.
mod Trips
pub mod RoundTrip
pub mod Orders
