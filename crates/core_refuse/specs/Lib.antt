-- What the crate's contracts cite beside the rules.
pub mod Stages
