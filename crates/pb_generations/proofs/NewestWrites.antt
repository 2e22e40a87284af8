-- What is newest of an unlocked cell, in a table to which a legal journal leads, is the newest write of the journal's history, and
-- what has the same write records above a timestamp has each later one.
use Rattle.std.proofs.Common.{◌≡◌, ℕ, ◌<◌, ◌≤◌, inl, inr, arith, List, Option, Some, None, sym, ap, ◌∙◌}
use Rattle.std.proofs.lemmas.Bool.{cases_lt}
use Rattle.std.proofs.lemmas.Option.{none-some}
use Rattle.pb_generations.specs.Words.{Cell, Content, Revision, Entries, IsNewestVersion, NoLock, data_at, last_timestamp, write_at, StateOf, InHistory, Member, WritesTo, IsSoundTable, view_of, Entry}
use Rattle.pb_history.proofs.Agreement.{Agrees}
use Rattle.pb_history.proofs.SnapshotsTold.{phase_in_view, content_in_view, stands_at, written_by}
use Rattle.pb_generations.specs.KeptTables.{IsNewestWrite, HasWritesAbove}

-- above c a cell has the same write records in both, of starts above c, and the same data of these
pub record SameAbove (c : ℕ) (whole kept : Entries) (x : Cell) : Type 0 where
  pub records : (d : ℕ) → c < d → write_at kept x d ≡ write_at whole x d
  pub starts : (d s : ℕ) → c < d → write_at whole x d ≡ Some s → c < s
  pub stored : (s : ℕ) → c < s → data_at kept x s ≡ data_at whole x s

module _ (journal : List Entry) (whole : StateOf) (g : Agrees journal whole) (i : IsSoundTable whole) (x : Cell) (unlocked : NoLock whole.entries x) where
  -- a committed write up to the last timestamp has its write record
  recorded : (n : Member) (k : Content) → InHistory whole.observers journal n → WritesTo n x k → n.commit ≤ last_timestamp → write_at whole.entries x n.commit ≡ Some n.start
  recorded n k there writes low = elim (stands_at journal whole g i n there x k writes) [
    | inl written ↦ written
    | inr locked ↦
        let begun = (i.stamped n.start n.commit (inr (phase_in_view journal whole g i n there))).0 in
        absurd (none-some locked.0 (sym (unlocked n.start (omega (arith, begun, low))) ∙ locked.1))
  ]

  pub newest_write : (v : Option Revision) → IsNewestVersion whole.entries x v → IsNewestWrite whole.observers journal x v
  newest_write None is = λ n k there writes. elim (cases_lt last_timestamp n.commit) [
    | inl above ↦ above
    | inr low ↦ absurd (none-some n.start (sym (is n.commit low) ∙ recorded n k there writes low))
  ]
  newest_write (Some v) is =
      let w = written_by journal whole g i x v.commit.0 v.start.0 is.written in
      record {
        m = w.m;
        in_history = w.in_history;
        start_is = w.start_is;
        commit_is = w.commit_is;
        writes = sym (content_in_view journal whole g i w.m w.in_history x) ∙ ap (λ (s : ℕ). (view_of whole).content s x) w.start_is ∙ sym (i.record_data x v.commit.0 v.start.0 is.written) ∙ is.content;
        seen = is.low;
        greatest = λ n k there writes low. elim (cases_lt v.commit.0 n.commit) [
          | inl above ↦ absurd (none-some n.start (sym (is.newest n.commit above low) ∙ recorded n k there writes low))
          | inr fine ↦ fine
        ];
      }

  -- and its content
  has_content : (n : Member) (k : Content) → InHistory whole.observers journal n → WritesTo n x k → write_at whole.entries x n.commit ≡ Some n.start → data_at whole.entries x n.start ≡ Some k
  has_content n k there writes written = i.record_data x n.commit n.start written ∙ content_in_view journal whole g i n there x ∙ writes

  -- what has the same records above c has those writes
  pub writes_above : (c : ℕ) (e : Entries) → SameAbove c whole.entries e x → HasWritesAbove whole.observers c journal e x
  writes_above c e m = record {
    each = λ n k there writes above.
        let low = (i.stamped n.start n.commit (inr (phase_in_view journal whole g i n there))).1 in
        let written = recorded n k there writes (omega (arith, low, i.small)) in
        (m.records n.commit above ∙ written, m.stored n.start (m.starts n.commit n.start above written) ∙ has_content n k there writes written);
    only = λ d s above there. written_by journal whole g i x d s (sym (m.records d above) ∙ there);
  }
