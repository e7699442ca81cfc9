-- The laws that the proofs of this crate and of those above it cite.
pub mod Copied
pub mod Compare
pub mod Lent
