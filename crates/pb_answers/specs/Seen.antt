-- What a table has of a cell, by its entries alone: the write records and the data beside them (OSDI 2010, section 2.2). These
-- define the answers, since a table that was kept has entries and no journal.
use Rattle.std.specs.Prelude.{◌≡◌, ℕ, ◌<◌, ◌≤◌, Option, Some, None}
use Rattle.std.specs.Option.{option_and_then}
use Rattle.pb_answers.specs.Words.{Cell, Content, Entries, Newest, data_at, write_at}

-- what commit c wrote to x: the data of the start that its write record names
abbrev pub written_at : Entries → Cell → ℕ → Option Content
written_at e x c = option_and_then (data_at e x) (write_at e x c)

-- what the snapshot at a timestamp has of x: of the writes with a commit at most s, the one with the greatest
abbrev pub IsSeenIn : Entries → ℕ → Cell → Option Newest → Type 0
IsSeenIn e s x None = (c : ℕ) → c ≤ s → written_at e x c ≡ None
IsSeenIn e s x (Some n) = (n.commit.0 ≤ s) × (written_at e x n.commit.0 ≡ Some n.content) × ((c : ℕ) → n.commit.0 < c → c ≤ s → written_at e x c ≡ None)
