-- The tables as words of 16 bits: how a record is words, where each word stands, and what a function that writes them leaves.
pub mod Words
pub mod Image
pub mod Put
pub mod Tested
pub mod Lent
