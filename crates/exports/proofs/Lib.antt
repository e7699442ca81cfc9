-- What the exported functions rest on.
pub mod OneAnswer
