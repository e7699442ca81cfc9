-- Main.antt holds the theorems. The files before it go from single calls to whole runs; each says at its head what it shows.
pub mod Calls
pub mod Fresh
pub mod Stands
pub mod Refused
pub mod Follows
pub mod AnswerBytes
pub mod TwoRuns
pub mod Points
pub mod Reached
pub mod Freshness
pub mod Secrecy
pub mod OlderSignatures
pub mod Main
