-- Where each cell that an observer isn't up to date on is marked, no change is left unmarked that isn't acknowledged.
use Rattle.std.proofs.Common.{◌≡◌, ℕ, ◌≤◌, inl, inr, Bool, true, false, List, Option, Some, None, is_some, slice_get, length, refl, ap, ◌∙◌, arith}
use Rattle.std.proofs.lemmas.Bool.{cases_lt}
use Rattle.pb_base.proofs.Logic.{not_both}
use Rattle.pb_generations.specs.Words.{Cell, Revision, Row, ObserverOf, Entries, Marks, AllUpToDate, SomeBehind, is_marked, IsNewestVersion, IsVersion, last_timestamp, write_at, StateOf, HasData, IsSoundTable, Entry}
use Rattle.pb_steps.specs.Marks.{stamp_in}
use Rattle.pb_history.proofs.Agreement.{Agrees}
use Rattle.pb_history.proofs.MarksCover.{up_to_date}
use Rattle.pb_generations.specs.KeptTables.{AreCovered}
use Rattle.pb_generations.specs.LeftOut.{LacksOthers, is_known_cell}
use Rattle.pb_generations.specs.Mirrored.{SameVersion}
use Rattle.pb_generations.proofs.KnownMarks.{newest_there}
use Rattle.pb_generations.proofs.LeanTables.{lean_record}
use Rattle.pb_generations.proofs.NewestVersions.{newest_or_none}

-- a cell has a newest version or none
newest : (e : Entries) → HasData e → (x : Cell) → (v : Option Revision) × IsNewestVersion e x v
newest e has x = elim (newest_or_none e has x last_timestamp) [
  | inl v ↦ (Some v.0, v.1)
  | inr none ↦ (None, none)
]

-- what stands at a timestamp is the newest, or has one above it
newest_above : (e : Entries) (x : Cell) (d : ℕ) (v : Revision) → IsVersion e x last_timestamp v → d ≤ last_timestamp → is_some (write_at e x d) ≡ true → d ≤ v.commit.0
newest_above e x d v is low some = elim (cases_lt v.commit.0 d) [
  | inl above ↦ absurd (none_is_some (ap is_some (is.newest d above low)) some)
  | inr by_then ↦ by_then
]
  where
    none_is_some : {b : Bool} → b ≡ false → b ≡ true → ⊥
    none_is_some p q = cc

-- where none is late on a cell, all are up to date
all_if : (os : List ObserverOf) (e : Entries) → HasData e → (row : Row) (column : ℕ) → (SomeBehind os e (Cell.Data row column) → ⊥) → AllUpToDate os e (Cell.Data row column)
all_if os e has row column none p observer there observes d low some =
    let ack = newest e has (Cell.Ack p row column) in
    elim (cases_lt (stamp_in ack.0) d) [
      | inl behind ↦ elim (newest_or_none e has (Cell.Data row column) last_timestamp) [
        | inl v ↦
            let above = newest_above e (Cell.Data row column) d v.0 v.1 low some in
            absurd (none (
              p,
              record {
                version = v.0;
                newest = v.1;
                acknowledged = ack.0;
                acknowledges = record { observer = observer; there = there; observes = observes; newest = ack.1 };
                newer = omega (arith, behind, above);
              },
            ))
        | inr nothing ↦ absurd (no_record (ap is_some (nothing d low)) some)
      ]
      | inr fine ↦ (ack.0, ack.1, fine)
    ]
  where
    no_record : {b : Bool} → b ≡ false → b ≡ true → ⊥
    no_record p q = cc

-- The entries are what a table without some observers is given, with its newest versions.
module _ (journal : List Entry) (c : ℕ) (gone : List ObserverOf) (whole lean : StateOf) (a : Agrees journal whole) (sound : IsSoundTable whole) (lacks : LacksOthers c gone whole lean) (e : Entries) (has : HasData e)
    (same : (x : Cell) → SameVersion last_timestamp lean.entries e x) (os : List ObserverOf)
    (known : (o : ℕ) (observer : ObserverOf) (row : Row) (column : ℕ) → slice_get os o ≡ Some observer → is_known_cell (length lean.observers) (Cell.Ack o row column) ≡ true) where
  newest_same : (x : Cell) (v : Option Revision) → IsNewestVersion e x v → IsNewestVersion lean.entries x v
  newest_same x None is = (same x).none.1 is
  newest_same x (Some v) is = ((same x).there v).1 is

  -- a record of the whole table has the newest version of its cell in them
  pub written_there : (row : Row) (column d : ℕ) → d ≤ last_timestamp → is_some (write_at whole.entries (Cell.Data row column) d) ≡ true → (v : Revision) × IsVersion e (Cell.Data row column) last_timestamp v × (d ≤ v.commit.0)
  written_there row column d low some =
      let x = Cell.Data row column in
      let here = ap is_some (lean_record c gone whole lean lacks x refl d) ∙ some in
      elim (newest_or_none e has x last_timestamp) [
        | inl v ↦ (v.0, v.1, newest_above lean.entries x d v.0 (((same x).there v.0).1 v.1) low here)
        | inr none ↦ absurd (no_record (ap is_some ((same x).none.1 none d low)) here)
      ]
    where
      no_record : {b : Bool} → b ≡ false → b ≡ true → ⊥
      no_record p q = cc

  -- who is up to date there is up to date in the whole table
  all_in_whole : (row : Row) (column : ℕ) → AllUpToDate os e (Cell.Data row column) → AllUpToDate os whole.entries (Cell.Data row column)
  all_in_whole row column all p observer there observes d low some =
      let v = written_there row column d low some in
      let k = all p observer there observes v.0.commit.0 v.1.low (ap is_some v.1.written) in
      let high = v.2 in
      let stamp = k.2 in
      (k.0, newest_there c gone whole lean lacks (Cell.Ack p row column) (known p observer row column there) k.0 (newest_same (Cell.Ack p row column) k.0 k.1), omega (arith, high, stamp))

  -- a record of a cell that isn't marked is acknowledged
  pub marked_covered : (marks : Marks) → ((x : Cell) → SomeBehind os e x → is_marked marks x ≡ true) → AreCovered os marks whole.entries
  marked_covered marks marked o observer there row off d u written =
      let x = Cell.Data row observer.column in
      let all = all_if os e has row observer.column (λ behind. not_both (is_marked marks x) (marked x behind) off) in
      up_to_date journal whole a sound os o row observer there (all_in_whole row observer.column all) d u written
