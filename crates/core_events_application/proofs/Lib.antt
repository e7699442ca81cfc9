-- The laws that the proofs of the functions cite, by event.
pub mod Activities
pub mod OwnPages
pub mod Cloaking
pub mod Uncloaking
pub mod Touching
