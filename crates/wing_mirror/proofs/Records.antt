-- Records and tables of any layout; Words, Formed, Trips, Said, Full and Placing are about records of 264 bytes.
pub mod Choices
pub mod Usables
pub mod Words
pub mod Ready
pub mod Formed
pub mod Lasting
pub mod Said
pub mod Equals
pub mod Trips
pub mod Ids
pub mod Full
pub mod Before
pub mod Entries
pub mod Lookups
pub mod Searches
