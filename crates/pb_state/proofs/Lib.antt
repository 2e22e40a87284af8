pub mod Taking
pub mod Rising
pub mod Outcomes
pub mod Newest
pub mod FirstAfter
pub mod NewState
pub mod ItsDeclaration
pub mod ReadsTaken
pub mod EntryWalks
mod MoreMarks
mod MarkedBehind
pub mod Walks
mod Walking
mod SameCells
mod SameRuns
mod Behind
pub mod SnapshotViews
mod VersionOrder
mod Carrying
pub mod GotParts
mod CarriedSound
