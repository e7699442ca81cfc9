-- What the exported functions leave.
pub mod Leaves
pub mod Told
