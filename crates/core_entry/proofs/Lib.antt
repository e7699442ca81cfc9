-- What the entry points leave, and that their promises allow one answer.
pub mod Steps
pub mod OneAnswer
