pub mod Past
pub mod Stale
