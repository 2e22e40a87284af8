-- What a table without some of its observers has as the whole one does: what stands on known cells, and the clock.
use Rattle.std.proofs.Common.{◌≡◌, ℕ, true, List, length, Some, slice_get, sym, ap, subst, ◌∙◌, arith}
use Rattle.std.proofs.lemmas.Option.{slice_get_within}
use Rattle.pb_generations.specs.Words.{Cell, Content, Revision, Row, ObserverOf, Entries, Sort, IsVersion, data_at, data_of, lock_at, primary_of, write_at, StateOf}
use Rattle.pb_generations.specs.LeftOut.{LacksOthers, is_known_cell, known_entries}
use Rattle.pb_generations.proofs.KnownEntries.{known_same}
use Rattle.pb_generations.proofs.LeftOutMirrors.{record_at, record_of, stored_of, version_on, version_back}

-- an acknowledgment of one of these is known
pub known_ack : (observers : List ObserverOf) (o : ℕ) (observer : ObserverOf) (row : Row) (column : ℕ) → slice_get observers o ≡ Some observer → is_known_cell (length observers) (Cell.Ack o row column) ≡ true
known_ack observers o observer row column there = let within = slice_get_within observers o observer there in grind (arith, within)

module _ (c : ℕ) (gone : List ObserverOf) (whole lean : StateOf) (lacks : LacksOthers c gone whole lean) where
  abbrev size : ℕ
  size = length lean.observers

  entries_are : lean.entries ≡ known_entries size whole.entries
  entries_are = ap (λ (z : StateOf). z.entries) lacks.lean_is

  pub same_clock : lean.clock ≡ whole.clock
  same_clock = ap (λ (z : StateOf). z.clock) lacks.lean_is

  module _ (x : Cell) (known : is_known_cell size x ≡ true) where
    pub lean_record : (d : ℕ) → write_at lean.entries x d ≡ write_at whole.entries x d
    lean_record d = ap (λ (e : Entries). write_at e x d) entries_are ∙ record_at size whole.entries x known d

    pub lean_stored : (s : ℕ) → data_at lean.entries x s ≡ data_at whole.entries x s
    lean_stored s = ap (λ (e : Entries). data_at e x s) entries_are ∙ ap data_of (known_same size whole.entries x Sort.Data s known)

    pub lean_version : (u : ℕ) (v : Revision) → IsVersion whole.entries x u v → IsVersion lean.entries x u v
    lean_version u v is = subst (λ (e : Entries). IsVersion e x u v) (sym entries_are) (version_on size whole.entries x known u v is)

    pub version_there : (u : ℕ) (v : Revision) → IsVersion lean.entries x u v → IsVersion whole.entries x u v
    version_there u v is = version_back size whole.entries x known u v (subst (λ (e : Entries). IsVersion e x u v) entries_are is)

    pub lean_lock : (s : ℕ) → lock_at lean.entries x s ≡ lock_at whole.entries x s
    lean_lock s = ap (λ (e : Entries). lock_at e x s) entries_are ∙ ap primary_of (known_same size whole.entries x Sort.Lock s known)

  -- what stands in it stands in the whole table
  pub whole_record : (x : Cell) (d s : ℕ) → write_at lean.entries x d ≡ Some s → write_at whole.entries x d ≡ Some s
  whole_record x d s there = record_of size whole.entries x d s (sym (ap (λ (e : Entries). write_at e x d) entries_are) ∙ there)

  pub whole_stored : (x : Cell) (s : ℕ) (k : Content) → data_at lean.entries x s ≡ Some k → data_at whole.entries x s ≡ Some k
  whole_stored x s k there = stored_of size whole.entries x s k (sym (ap (λ (e : Entries). data_at e x s) entries_are) ∙ there)
