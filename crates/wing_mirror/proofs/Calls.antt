-- What feed, set and recall do, call by call.
pub mod Orders
pub mod Sends
pub mod Turns
pub mod Outcomes
pub mod Tallies
pub mod Feeds
