-- What writing rests on, for the theorems to cite.
pub mod Opening
pub mod Refusals
pub mod Outputs
pub mod OneAnswer
