-- Lists of any elements, by a key: looked up, filtered, inserted one by one, merged, rearranged.
pub mod LookedUp
pub mod Distinct
pub mod Inserted
pub mod Filtered
pub mod FilteredInserts
pub mod Merged
pub mod Permuted
