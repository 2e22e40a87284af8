-- The answer to `since`: the committed writes of data cells above a commit, in the order of their commits.
use Rattle.std.specs.Prelude.{◌≡◌, ℕ, ◌<◌, true, List, ◌++◌, map, Contains, Some, codes}
use Rattle.std.specs.List.{flat_map}
use Rattle.std.specs.List.Sorted.{IsStrictlySortedBy}
use Rattle.std.specs.Ordering.{nat_cmp, on, then_cmp}
use Rattle.std.specs.declared.cmp.Ordering.{Ordering}
use Rattle.pb_answers.specs.Words.{Cell, Content, Ts, Entries, StateOf, cell_cmp, is_data, cell_line}
use Rattle.pb_answers.specs.Seen.{written_at}

-- a commit, and a cell that it wrote
abbrev pub WriteKey : Type 0
WriteKey = Ts × Cell

-- in the order of commits, and of cells within one commit
abbrev pub key_cmp : WriteKey → WriteKey → Ordering
key_cmp = then_cmp (on (λ k. k.0.0) nat_cmp) (on (λ k. k.1) cell_cmp)

-- the table has this content of a data cell from a commit above this one
pub record IsWriteSince (e : Entries) (above : ℕ) (k : WriteKey) (content : Content) : Type 0 where
  pub of_data : is_data k.1 ≡ true
  pub later : above < k.0.0
  pub written : written_at e k.1 k.0.0 ≡ Some content

-- these are all such writes, each once, in that order
pub record AreWritesSince (e : Entries) (above : ℕ) (writes : List (WriteKey × Content)) : Type 0 where
  pub rising : IsStrictlySortedBy key_cmp (map (λ w. w.0) writes)
  pub sound : (k : WriteKey) (content : Content) → Contains writes (k, content) → IsWriteSince e above k content
  pub whole : (k : WriteKey) (content : Content) → IsWriteSince e above k content → Contains writes (k, content)

-- the line of a write, as a report has it
abbrev pub since_line : WriteKey × Content → List ℕ
since_line w = cell_line w.0.1 (record { commit = w.0.0; content = w.1 })

-- the answer to `since`: the lines of these writes, and a last line
pub record IsWritesAnswer (state : StateOf) (above : ℕ) (text : List ℕ) : Type 0 where
  pub writes : List (WriteKey × Content)
  pub these : AreWritesSince state.entries above writes
  pub lines : text ≡ flat_map since_line writes ++ codes "end\n"
