-- When what is handed in is acceptable.
pub mod Acceptable
