-- Main.antt holds the theorems. The files under it go from single rules, by single operations and events, to whole runs; each says at its
-- head what it shows.
pub mod FramesAndSlots
pub mod SoundRecords
pub mod SoundPages
pub mod SealPage
pub mod SealFrames
pub mod MakeClear
pub mod TouchCases
pub mod PageFates
pub mod BringIn
pub mod ReadAndWrite
pub mod EndOfDomain
pub mod ContextsAndMappings
pub mod CloakAndUncloak
pub mod OwnPages
pub mod EventsPerformed
pub mod Counts
pub mod DoneOrRefused
pub mod Answer10
pub mod Start
pub mod EveryRun
pub mod Eights
pub mod Main
