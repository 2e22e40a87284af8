-- The entries of a plan's conversation are those of its run's, its looks aside.
use Rattle.std.proofs.Common.{arith, ◌≡◌, ℕ, Bool, false, cond, List, [], ◌∷◌, ◌++◌, refl, filter}
use Rattle.std.proofs.lemmas.List.Elements.{filter-append}
use Rattle.pb_notify.specs.Words.{Ts, Step, Answer, Entry, Received, names_start, entries_naming, names, HasSaid}
use Rattle.pb_notify.specs.Allowed.{entries_by}
use Rattle.pb_notify.proofs.RecordedReads.{bare_of}

-- what names no start, or another, is left out either way
named_no : (s : ℕ) (step : Step) (answer : Answer) → names_start s step answer ≡ false → names s step ≡ false
named_no s step answer n = grind arith

-- the entries that name a start, reads aside
abbrev named_in : ℕ → List Entry → List Entry
named_in s journal = filter (λ e. names s e.step) journal

-- what names the start and is no read is among all that name it
of_naming : (s : ℕ) (journal : List Entry) → named_in s (entries_naming s journal) ≡ named_in s journal
of_naming s [] = refl
of_naming s (e ∷ es) = grind (arith, named_no, e.step, e.answer, of_naming s es)

if_kept : (b : Bool) (seat : ℕ) (r : Received) (rs : List Received) → cond b (record { seat = seat; step = r.step; answer = r.answer } ∷ entries_by seat rs) (entries_by seat rs) ≡ entries_by seat (cond b (r ∷ rs) rs)
if_kept b seat r rs = grind arith

-- so it is in a conversation
of_said : (s : Ts) (seat : ℕ) (said : List Received) → named_in s.0 (entries_by seat said) ≡ entries_by seat (bare_of s said)
of_said s seat [] = refl
of_said s seat (r ∷ rs) = grind (arith, if_kept, bare_of, r.step, r.answer, of_said s seat rs)

-- a plan's entries are those of its run, reads aside, since a run's looks are all reads
pub has_said : (journal : List Entry) (seat : ℕ) (s : Ts) (base plan : List Received) → bare_of s base ≡ [] → entries_naming s.0 journal ≡ entries_naming s.0 (entries_by seat (base ++ plan))
    → HasSaid journal seat s.0 plan
has_said journal seat s base plan bare has = grind (arith, of_naming, of_said, filter-append, bare_of)
