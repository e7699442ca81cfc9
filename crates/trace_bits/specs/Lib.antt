-- How fields of any width stand in a number.
pub mod Packing
