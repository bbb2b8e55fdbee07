-- Numbers as digits, in two's complement, in fields and as decimals.
pub mod Numbers
pub mod Signs
pub mod Placed
pub mod Spelled
pub mod Answers
pub mod BigEndian
