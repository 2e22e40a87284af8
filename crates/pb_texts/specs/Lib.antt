pub mod Adding
pub mod CommandLines
pub mod TrialWords
pub mod ExcerptWords
pub mod StoryLines
