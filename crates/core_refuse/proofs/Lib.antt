-- The laws that the proofs of the functions cite.
pub mod Orders
pub mod Asked
pub mod Stages
pub mod Needs
pub mod Frames
