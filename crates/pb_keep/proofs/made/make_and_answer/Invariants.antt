use Rattle.std.proofs.Common.{◌≡◌, ◌≤◌, ◌+◌, ◌*◌, ◌++◌, ℕ, List, length}
use Rattle.std.specs.Prelude.{string_bytes}
use Rattle.std.specs.Vec.Iter.{into_iter_items, into_iter_len}
use Rattle.pb_keep.specs.Words.{Writes, Keeps, KeptTable, kept_table}
use Rattle.pb_keep.specs.Left.{most_timestamps}
use Rattle.pb_keep.specs.Waits.{changes_in, AreAnswers}
use Rattle.pb_keep.proofs.made.make_and_answer.Given as goal

-- the lines so far are answered
abbrev pub invariant-loop-item : goal.invariant-loop-item
invariant-loop-item g l = record {
  parts : l.fn.items.items ≡ l.yielded ++ into_iter_items l.item-iterator;
  counted : into_iter_len l.item-iterator ≡ length (into_iter_items l.item-iterator);
  answers : (more : List ℕ) × (string_bytes l.text ≡ string_bytes l.initial.text ++ more) × AreAnswers l.limit l.yielded (kept_table l.initial.state l.initial.stats.items) (kept_table l.state l.stats.items) more;
  same : l.state.observers ≡ l.initial.state.observers;
  clock : l.state.clock ≤ l.initial.state.clock + length (changes_in l.yielded) * most_timestamps;
  keeps : (first : KeptTable) (changes : List Writes) → Keeps l.limit first changes (kept_table l.initial.state l.initial.stats.items) → Keeps l.limit first (changes ++ changes_in l.yielded) (kept_table l.state l.stats.items);
}
