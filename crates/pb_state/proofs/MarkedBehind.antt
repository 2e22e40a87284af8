-- The marks of a walk are those that cells want on which an observer isn't up to date.
use Rattle.std.proofs.Common.{◌≡◌, ℕ, inl, inr, List, [], Err, OnErr, OnOk, Ok, subst, sym}
use Rattle.std.specs.declared.result.Result.{Result}
use Rattle.pb_state.specs.Keeping.{parts_as_state}
use Rattle.pb_state.specs.Words.{Cell, Entries, IsSoundTable, ObserverOf, SomeBehind, StateOf, TableOf, Transactions}
use Rattle.pb_state.specs.MoreMarks.{AddsMarks, AreMarkedBefore, WasWritten}
use Rattle.pb_state.specs.MarkedBehind.{HasSomeMarked, IsMarkedBehind}
use Rattle.pb_state.proofs.MoreMarks.{marked_or_left}

-- a cell that one isn't up to date on has a write record
has_record : (observers : List ObserverOf) (e : Entries) (x : Cell) → SomeBehind observers e x → WasWritten e x
has_record observers e (Cell.Data row column) b = (b.1.version.commit.0, b.1.version.start.0, b.1.newest.written)
has_record observers e (Cell.Ack o row column) b = absurd b

module _ (table table' : TableOf) (observers : List ObserverOf) (clock seats : ℕ) (ts : Transactions) (entries : table'.contents.entries ≡ table.contents.entries) where
  abbrev Behind : Cell → Type 0
  Behind = SomeBehind observers table.contents.entries

  pub some_marked : AddsMarks Behind table.contents.entries table.contents.marks table'.contents.marks
      → (old : StateOf) → parts_as_state table observers clock seats ts ≡ old → HasSomeMarked old (parts_as_state table' observers clock seats ts)
  some_marked adds old view = subst (λ (z : StateOf). HasSomeMarked z (parts_as_state table' observers clock seats ts)) view (record {
    is = λ i. record { entries = entries i; marks = table'.contents.marks; observers = observers; clock = clock; seats = seats; transactions = ts };
    kept = adds.kept;
    only = λ x m. elim (adds.only x m) [ inl was ↦ inl was | inr p ↦ inr p.0 ];
  })

  pub all_marked : AreMarkedBefore Behind table.contents.entries [] table.contents.marks table'.contents.marks
      → (old : StateOf) → parts_as_state table observers clock seats ts ≡ old → IsMarkedBehind old (parts_as_state table' observers clock seats ts)
  all_marked so old view = subst (λ (z : StateOf). IsMarkedBehind z (parts_as_state table' observers clock seats ts)) view (record {
    is = λ i. record { entries = entries i; marks = table'.contents.marks; observers = observers; clock = clock; seats = seats; transactions = ts };
    kept = so.adds.kept;
    marked = λ x b. let r = has_record observers table.contents.entries x b in marked_or_left (so.marked x r.0 r.1 b r.2);
    only = λ x m. elim (so.adds.only x m) [ inl was ↦ inl was | inr p ↦ inr p.0 ];
  })

-- a sound state stays sound, since that doesn't speak of marks
pub sound_when_marked : {A E : Type 0} (old new : StateOf) (r : Result A E) → OnOk r (IsMarkedBehind old new) → OnErr r (HasSomeMarked old new) → IsSoundTable old → IsSoundTable new
sound_when_marked old new (Ok x) ok err sound = subst IsSoundTable (sym ok.is) sound
sound_when_marked old new (Err e) ok err sound = subst IsSoundTable (sym err.is) sound
