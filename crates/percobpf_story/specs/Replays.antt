-- The story of a replay: a schedule's events in a world of a manifest's observers and a script's changes. It is that
-- of a replay with the ending of a story in place of that of a report. `tell_texts` promises it.
use Rattle.std.specs.Prelude.{◌⊎◌, ℕ, List, Result, Ok, Err}
use Rattle.pb_parse.specs.declared.event.Event.{Event}
use Rattle.pb_world.specs.Events.{WorldOf}
use Rattle.pb_driver.specs.declared.fault.RunFault.{RunFault}
use Rattle.pb_driver.specs.Texts.{IsReplayUnread}
use Rattle.pb_driver.specs.Replays.{OpensReplay}
use Rattle.pb_base.specs.Taking.{Taking, TookNothing}
use Rattle.pb_texts.specs.declared.words.choice.Excerpt.{Excerpt}
use Rattle.pb_story.specs.declared.fault.StoryFault.{StoryFault}
use Rattle.pb_story.specs.Stories.{StoryEnds}

-- the fault of a story as one of a replay
abbrev pub of_story : StoryFault → RunFault
of_story (StoryFault.Event f) = RunFault.Event f
of_story StoryFault.Output = RunFault.Output
of_story (StoryFault.NoMemory refused) = RunFault.NoMemory refused

-- the story of the schedule's events, with the lines of this excerpt, ended so in the world that the three texts open
pub record ToldOn (excerpt : Excerpt) (places last : ℕ) (manifest script schedule : List ℕ) (out : Taking) (result : Result (Unit {0}) StoryFault) : Type 0 where
  pub world : WorldOf
  pub events : List Event
  pub opens : OpensReplay places last manifest script schedule world events
  pub after : WorldOf
  pub ends : StoryEnds excerpt world events after out result

-- How the story of three texts ended, and what the sink took. Where memory was refused before the first event, nothing was
-- written.
abbrev pub TellsTexts : Excerpt → ℕ → ℕ → List ℕ → List ℕ → List ℕ → Taking → Result (Unit {0}) RunFault → Type 0
TellsTexts excerpt places last manifest script schedule out (Ok u) = ToldOn excerpt places last manifest script schedule out (Ok u)
TellsTexts excerpt places last manifest script schedule out (Err (RunFault.NoMemory refused)) = ToldOn excerpt places last manifest script schedule out (Err (StoryFault.NoMemory refused)) ⊎ TookNothing out
TellsTexts excerpt places last manifest script schedule out (Err RunFault.Output) = ToldOn excerpt places last manifest script schedule out (Err StoryFault.Output)
TellsTexts excerpt places last manifest script schedule out (Err (RunFault.Event f)) = ToldOn excerpt places last manifest script schedule out (Err (StoryFault.Event f))
TellsTexts excerpt places last manifest script schedule out (Err f) = IsReplayUnread manifest script schedule f × TookNothing out
