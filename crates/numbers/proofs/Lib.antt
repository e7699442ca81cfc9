-- The laws that the proofs of the functions cite, and that each contract leaves one answer.
pub mod Laws
pub mod OneAnswer
