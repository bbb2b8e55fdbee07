pub mod Tables
pub mod Lists
pub mod Records
pub mod Calls
pub mod Histories
pub mod Worked
