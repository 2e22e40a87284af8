-- The line of an event: its number, its seat, what it does and its note. The world before it defines what it does, since that
-- has the job's next step, and what came of it defines the note. `open_line`, `end_line` and `is_shown` cite these.
use Rattle.std.specs.Prelude.{◌≡◌, ℕ, Bool, true, false, not, ◌&&◌, ◌||◌, if◌then◌else◌, List, [], ◌++◌, codes, Option, Some, None, decimal}
use Rattle.pb_story.specs.Words.{ObserverOf, Step, Event, Job, ActorJob, Note, next_of, IsSlotOf, WorldOf, held_job, Excerpt, is_within}
use Rattle.pb_story.specs.Cells.{observer_name}
use Rattle.pb_story.specs.Steps.{step_text}
use Rattle.pb_story.specs.Answers.{answer_text}

-- the text grew by one of which this holds
abbrev pub GrowsBy : (List ℕ → Type 0) → List ℕ → List ℕ → Type 0
GrowsBy Is old new = (more : List ℕ) × Is more × (new ≡ old ++ more)

-- ---- what an event does

-- an actor has the seat of its number; what no actor does, the main seat does
abbrev pub seat_of : Event → ℕ
seat_of (Event.Launch k job) = k
seat_of (Event.Step k) = k
seat_of (Event.Crash k) = k
seat_of e = 0

-- what an actor is launched for, in a schedule's words
abbrev pub job_text : List ObserverOf → Job → List ℕ
job_text observers (Job.Change k) = codes "change " ++ decimal k
job_text observers (Job.Run o row) = codes "run " ++ (observer_name observers o ++ (codes " " ++ decimal row.0))

-- the instruction of this slot, or else this step of the table
abbrev pub turn_text : List ObserverOf → Option ℕ → Option Step → List ℕ
turn_text observers (Some slot) step = codes "instruction " ++ decimal slot
turn_text observers None (Some step) = step_text observers step
turn_text observers None None = codes "step"

-- what an actor with this job does next: its machine's next instruction, or its next step
abbrev pub IsTurn : List ObserverOf → Option ActorJob → List ℕ → Type 0
IsTurn observers None text = text ≡ codes "step"
IsTurn observers (Some j) text = (slot : Option ℕ) × IsSlotOf j slot × (text ≡ turn_text observers slot (next_of j))

-- what the event does in a world
abbrev pub IsDeed : WorldOf → Event → List ℕ → Type 0
IsDeed w (Event.Launch k job) text = text ≡ codes "launch " ++ job_text w.shared.state.observers job
IsDeed w (Event.Step k) text = IsTurn w.shared.state.observers (held_job w k) text
IsDeed w (Event.Crash k) text = text ≡ codes "crash"
IsDeed w (Event.Settle x) text = text ≡ step_text w.shared.state.observers (Step.Settle x)
IsDeed w (Event.Clear x) text = text ≡ step_text w.shared.state.observers (Step.Clear x)
IsDeed w (Event.Sweep x) text = text ≡ step_text w.shared.state.observers (Step.Sweep x)

-- ---- what it came to

-- an instruction has no note in words
abbrev pub note_text : List ObserverOf → Note → List ℕ
note_text observers Note.Launched = codes " -> launched"
note_text observers (Note.Called answer) = codes " -> " ++ answer_text observers answer
note_text observers (Note.Refused code) = codes " -> refused " ++ decimal code
note_text observers Note.Instruction = []
note_text observers Note.Crashed = codes " -> crashed"
note_text observers Note.Idle = codes " -> idle"

-- ---- the line

-- up to the note, of the event of this number that is to happen in a world
pub record IsOpenLine (w : WorldOf) (number : ℕ) (e : Event) (text : List ℕ) : Type 0 where
  pub deed : List ℕ
  pub does : IsDeed w e deed
  pub text_is : text ≡ decimal number ++ (codes " " ++ (decimal (seat_of e) ++ (codes " " ++ deed)))

-- with its note, where it led to another world, whose observers are the same
pub record IsLine (w : WorldOf) (number : ℕ) (e : Event) (n : Note) (v : WorldOf) (text : List ℕ) : Type 0 where
  pub opening : List ℕ
  pub opens : IsOpenLine w number e opening
  pub text_is : text ≡ opening ++ (note_text v.shared.state.observers n ++ codes "\n")

-- ---- whether it is printed

-- the event found its actor without a job
abbrev pub is_idle : Note → Bool
is_idle Note.Idle = true
is_idle other = false

-- the event of this number, to which this was noted, is one of the excerpt
abbrev pub is_shown : Excerpt → ℕ → Note → Bool
is_shown x number n = is_within x.first x.last number && (x.idle || not (is_idle n))

-- what is printed of an event's line
abbrev pub shown_line : Excerpt → ℕ → Note → List ℕ → List ℕ
shown_line x number n line = if is_shown x number n then line else []
