-- The words of the theorems: a run of the code, and what it tells.
pub mod Calls
pub mod Told
