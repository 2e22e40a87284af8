-- What serves for a table shows all that may still be viewed of it.
use Rattle.std.proofs.Common.{ℕ, ◌≤◌, inl, inr, arith}
use Rattle.std.proofs.lemmas.Bool.{cases_lt}
use Rattle.pb_generations.specs.Words.{Cell, Entries, StateOf, Transactions}
use Rattle.pb_generations.specs.Mirrored.{IsMirroredBy, SameVersion, carried}
use Rattle.pb_generations.specs.Snapshots.{AreAcknowledgedLate, HasAcknowledged, IsViewedAt, ServeAcknowledged, ShowsViewed}
use Rattle.pb_generations.proofs.SameVersions.{same_later, same_on, serves_same}
use Rattle.pb_generations.proofs.VersionsAbove.{kept_version}

module _ (c : ℕ) (whole : StateOf) (e : Entries) (ts : Transactions) (m : IsMirroredBy c whole e ts) (serve : ServeAcknowledged whole.observers c whole.entries e) (late : AreAcknowledgedLate whole.observers c whole) where
  -- what may be viewed of the one may be of the other
  pub viewed_there : (x : Cell) (t : ℕ) → IsViewedAt whole x t → IsViewedAt (carried whole e ts) x t
  viewed_there x t (inl at) = inl at
  viewed_there x t (inr a) = inr (record {
    o = a.o;
    row = a.row;
    observer = a.observer;
    there = a.there;
    cell = a.cell;
    w = a.w;
    is = kept_version c whole.entries e m.entries_are (Cell.Ack a.o a.row a.observer.column) whole.clock m.since a.w a.is;
    stamp = a.stamp;
  })

  -- what was acknowledged by c is so still
  by_then : (x : Cell) (t : ℕ) → (a : HasAcknowledged whole.observers whole.entries whole.clock x t) → a.w.commit.0 ≤ c → HasAcknowledged whole.observers whole.entries c x t
  by_then x t a low = record {
    o = a.o;
    row = a.row;
    observer = a.observer;
    there = a.there;
    cell = a.cell;
    w = a.w;
    is = record { low = low; written = a.is.written; content = a.is.content; newest = λ d above by_c. let since = m.since in a.is.newest d above (omega (arith, by_c, since)) };
    stamp = a.stamp;
  }

  -- and there both have the same version
  pub viewed_same : (x : Cell) (t : ℕ) → IsViewedAt whole x t → SameVersion t whole.entries e x
  viewed_same x t (inl at) = let since = m.since in same_later c whole.entries e m.entries_are x t (omega (arith, at, since))
  viewed_same x t (inr a) = elim (cases_lt c a.w.commit.0) [
    | inl later ↦ let above = late a.o a.row a.observer a.there a.w a.is later in let stamp = a.stamp in same_later c whole.entries e m.entries_are x t (omega (arith, above, stamp))
    | inr low ↦ serves_same c whole.entries e m.entries_are x t (serve x t (by_then x t a low))
  ]

  -- so what shows that of the one shows it of the other
  pub shows_whole : (f : Entries) → ShowsViewed (carried whole e ts) f → ShowsViewed whole f
  shows_whole f is = record {
    viewed = λ x t at. same_on t whole.entries x e x f x (viewed_same x t at) (is.viewed x t (viewed_there x t at));
    by_then = is.by_then;
    stored_by_then = is.stored_by_then;
    unlocked = is.unlocked;
  }
