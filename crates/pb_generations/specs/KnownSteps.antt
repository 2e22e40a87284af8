-- What a run of a known observer asks names known cells alone, and so does a change. Each cell that it looks at is a data cell or
-- its own acknowledgment, and each other one is the primary of a lock that it was answered.
use Rattle.std.specs.Prelude.{◌≡◌, ℕ, ◌<◌, true, List, Some}
use Rattle.pb_generations.specs.Words.{Writes, is_batch, Row, ObserverOf, Step, Has, Received, ChangeOf, new_change, Reaches, RunOf, fresh, next_of, watch_of}
use Rattle.pb_txn.specs.Changes as changes
use Rattle.pb_generations.specs.LeftOut.{AnswersKnown, NamesKnown}

-- each primary that was answered is known
abbrev pub AreKnownAnswers : ℕ → List Received → Type 0
AreKnownAnswers n said = (r : Received) → Has said r → AnswersKnown n r.answer

-- the next step of a run of one of the first n observers, where all primaries that it was answered are known
abbrev pub RunsNameKnown : Type 0
RunsNameKnown =
    (n o : ℕ) (observer : ObserverOf) (row : Row) (said : List Received) (k : RunOf) (step : Step) → o < n → Reaches (fresh (watch_of o observer row)) said k → AreKnownAnswers n said
    → next_of k ≡ Some step → NamesKnown n step

-- and of a change of data cells, whatever it was answered
abbrev pub ChangesNameKnown : Type 0
ChangesNameKnown = (n : ℕ) (batch : Writes) (said : List Received) (j : ChangeOf) (step : Step) → is_batch batch ≡ true → changes.Converses (new_change batch) said j → changes.next_of j ≡ Some step → NamesKnown n step
