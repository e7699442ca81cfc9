-- Main.antt holds the theorems, and Example.antt two runs that meet their premises. The files under them go from single operations, by
-- events, to whole runs; each says at its head what it shows.
pub mod FreedFrames
pub mod Alike
pub mod ShownRegisters
pub mod CloakAlike
pub mod ReadAndWriteAlike
pub mod EventsAlike
pub mod TwoRuns
pub mod TwoStarts
pub mod Main
pub mod Example
