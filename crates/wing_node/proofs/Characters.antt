-- UTF-8 and its grammar.
pub mod Rows
pub mod Fronts
pub mod LeadBytes
pub mod Chars
pub mod HighBits
pub mod Grammar
