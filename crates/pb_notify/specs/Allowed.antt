-- No step of a job comes at a wrong time, or declares what isn't its run: in a legal journal it is refused for want
-- of a timestamp alone. The law `jobs_are_allowed` cites it. Of a legal journal it asks one thing, that nobody
-- else names the run's start (`HasRun`).
use Rattle.std.specs.Prelude.{◌≡◌, ℕ, ◌<◌, ◌^◌, List, ◌++◌, map, Some, slice_get}
use Rattle.pb_notify.specs.Words.{Reason, Row, Ts, Work, Step, Answer, ObserverOf, StateOf, step_reason, Entry, Received, entries_of, IsLegal, Has, entries_naming, told}
use Rattle.pb_notify.specs.Runs.{RunOf, watch_of, fresh, next_of}
use Rattle.pb_notify.specs.Conversations.{Reaches}

-- a conversation as entries of this seat
abbrev pub entries_by : ℕ → List Received → List Entry
entries_by seat said = map (λ r. record { seat = seat; step = r.step; answer = r.answer }) said

-- the entries that name the start which the run was given, its begin and its reads among them, are this seat's, and
-- those of this conversation that do
abbrev pub HasRun : List Entry → ℕ → ℕ → Row → List Received → Type 0
HasRun journal seat o row said = (s : Ts) → Has said (told (Step.Begin (Work.Run o row)) (Answer.At s)) → entries_naming s.0 journal ≡ entries_naming s.0 (entries_by seat said)

-- the next step of a job of an observer of the table, with its program and its column, and with row and column that a
-- record has room for, is refused only where no timestamp is left
abbrev pub JobsAreAllowed : Type 0
JobsAreAllowed = (observers : List ObserverOf) (seats clock : ℕ) (journal : List Entry) (state : StateOf) → IsLegal observers seats clock journal state
    → (seat o : ℕ) (observer : ObserverOf) (row : Row) (said : List Received) (k : RunOf) (step : Step) (why : Reason)
    → seat < state.seats → slice_get observers o ≡ Some observer → row.0 < 2 ^ 64 → observer.column < 2 ^ 64
    → Reaches (fresh (watch_of o observer row)) said k → HasRun journal seat o row said → next_of k ≡ Some step
    → step_reason state seat step ≡ Some why → why ≡ Reason.OutOfTimestamps

-- it is so where the seat's entries end with the conversation
abbrev pub RunsAreKept : Type 0
RunsAreKept = (observers : List ObserverOf) (seats clock : ℕ) (journal : List Entry) (state : StateOf) → IsLegal observers seats clock journal state
    → (seat o : ℕ) (row : Row) (before said : List Received) → entries_of seat journal ≡ before ++ said → HasRun journal seat o row said
