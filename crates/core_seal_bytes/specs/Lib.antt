-- What the contracts of core_seal_bytes cite beside the rules.
pub mod Moved
