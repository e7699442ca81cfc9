-- What the contracts of shape cite beside the rules.
pub mod Stages
