-- The laws of packing, once, over any widths.
pub mod Laws
pub mod Bytes
pub mod OneAnswer
