-- The laws that the proofs of the functions cite.
pub mod Spans
pub mod Within
pub mod Order
pub mod Others
