-- The later steps of a table that was carried over: each is one of the whole table, with the same answer. So its past, with what
-- came later, is one legal journal, of which all laws of journals hold as they stand.
use Rattle.std.specs.Prelude.{◌≡◌, ℕ, ◌<◌, ◌≤◌, ◌↔◌, ◌⊎◌, List, [], ◌∷◌, ◌++◌}
use Rattle.pb_generations.specs.Words.{Cell, Revision, ObserverOf, Entries, IsVersion, StateOf, Transactions, TableStep, Answer, Step, IsLegal, JournalLeads, Entry}
use Rattle.pb_generations.specs.Mirrored.{IsMirroredBy, IsPartOf, SameVersion, carried}
use Rattle.pb_generations.specs.SameButMarks.{IsLegalButMarks}

-- the step names no transaction that had begun by c
abbrev pub NamesLate : ℕ → Step → Type 0
NamesLate c (Step.Read s x) = c < s.0
NamesLate c (Step.ReadAt s x t) = c < s.0
NamesLate c (Step.Declare s what) = c < s.0
NamesLate c (Step.Prewrite s x) = c < s.0
NamesLate c (Step.Stamp s) = c < s.0
NamesLate c (Step.CommitPrimary s) = c < s.0
NamesLate c (Step.CommitSecondary s x) = c < s.0
NamesLate c _ = Unit {0}

-- it names none, and reads at no timestamp below the version that its cell had at c
abbrev pub IsLateStep : ℕ → StateOf → Step → Type 0
IsLateStep c old (Step.ReadAt s x t) = NamesLate c (Step.ReadAt s x t) × ((v : Revision) → IsVersion old.entries x c v → v.commit.0 ≤ t.0)
IsLateStep c old step = NamesLate c step

-- what was kept of x serves for a read at t: that isn't below the version that was kept at c, or the version at t is the same
abbrev pub ServesAt : ℕ → Entries → Entries → Cell → ℕ → Type 0
ServesAt c whole kept x t = ((v : Revision) → IsVersion kept x c v → v.commit.0 ≤ t) ⊎ SameVersion t whole kept x

-- it names none, and where it reads at a timestamp, what was kept serves for that
abbrev pub IsServedStep : ℕ → Entries → StateOf → Step → Type 0
IsServedStep c whole old (Step.ReadAt s x t) = NamesLate c (Step.ReadAt s x t) × ServesAt c whole old.entries x t.0
IsServedStep c whole old step = NamesLate c step

-- The whole table takes the step too, with the same answer. What the carried one leaves serves for what it leaves, of no cell
-- is the version at c another, and what was kept of earlier ones still is, and has nothing of its own.
pub record Carries (c : ℕ) (whole : StateOf) (e : Entries) (seat : ℕ) (step : Step) (answer : Answer) (new : StateOf) : Type 0 where
  pub after : StateOf
  pub entries : Entries
  pub transactions : Transactions
  pub taken : TableStep whole seat step answer after
  pub mirrors : IsMirroredBy c after entries transactions
  pub new_is : new ≡ carried after entries transactions
  pub versions : (x : Cell) (v : Revision) → IsVersion whole.entries x c v ↔ IsVersion after.entries x c v
  pub before : (x : Cell) (u : ℕ) → u ≤ c → SameVersion u whole.entries e x → SameVersion u after.entries entries x
  pub within : IsPartOf whole.entries e → IsPartOf after.entries entries

-- a step of a carried table that is served is one of the whole table
abbrev pub StepsCarryOver : Type 0
StepsCarryOver =
    (c : ℕ) (whole new : StateOf) (e : Entries) (ts : Transactions) (seat : ℕ) (step : Step) (answer : Answer) → IsMirroredBy c whole e ts → IsServedStep c whole.entries (carried whole e ts) step
    → TableStep (carried whole e ts) seat step answer new → Carries c whole e seat step answer new

-- each step of the journal is late, where the table takes it
abbrev pub AreLateSteps : ℕ → StateOf → List Entry → Type 0
AreLateSteps c old [] = Unit {0}
AreLateSteps c old (e ∷ es) = IsLateStep c old e.step × ((new : StateOf) → TableStep old e.seat e.step e.answer new → AreLateSteps c new es)

-- the journal is a legal one of a whole table but for steps of marks, and what is there now serves for that
pub record StandsForWhole (observers : List ObserverOf) (seats clock c : ℕ) (journal : List Entry) (now : StateOf) : Type 0 where
  pub whole : StateOf
  pub legal : IsLegalButMarks observers seats clock journal whole
  pub mirrors : IsMirroredBy c whole now.entries now.transactions
  pub now_is : now ≡ carried whole now.entries now.transactions

-- what a carried table does is a legal journal of the whole: the past, and then what came later
abbrev pub GenerationsAreOne : Type 0
GenerationsAreOne =
    (observers : List ObserverOf) (seats clock c : ℕ) (past later : List Entry) (whole now : StateOf) (e : Entries) (ts : Transactions)
    → IsLegal observers seats clock past whole → IsMirroredBy c whole e ts → AreLateSteps c (carried whole e ts) later → JournalLeads (carried whole e ts) later now
    → StandsForWhole observers seats clock c (past ++ later) now
