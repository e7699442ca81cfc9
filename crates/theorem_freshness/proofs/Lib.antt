-- Main.antt holds the theorems. The files under it say what becomes of contexts and pages, that a run's past tells it, and when a domain
-- stops; each says at its head what it shows.
pub mod PageContents
pub mod ContextFates
pub mod ToldContexts
pub mod ToldPages
pub mod ToldByEvents
pub mod PastIsTrue
pub mod ReadAndResume
pub mod OlderSignatures
pub mod NotLatestStops
pub mod LastWritten
pub mod Main
