-- What a fault leaves.
use Rattle.std.proofs.Common.{◌≡◌, ℕ, List, [], ◌++◌, Option, sym, ap, subst, ◌∙◌}
use Rattle.pb_keep.specs.Words.{AppendsPart, KeptTable, Writes}
use Rattle.pb_keep.specs.declared.fault.KeepFault.{KeepFault}
use Rattle.pb_keep.specs.declared.waiting.Waits.{Waits}
use Rattle.pb_keep.specs.Kept.{IsLogOf, Origin}
use Rattle.pb_keep.specs.Waits.{changes_in, AreAnswers, AreSomeAnswers}
use Rattle.pb_keep.specs.Left.{IsLeftBy, IsLeftInLog, IsLeftMade, IsOfLog, IsOfMaking}
use Rattle.std.proofs.lemmas.List.{append-nil}
use Rattle.pb_keep.proofs.Putting.{rest_has_changes}

module _ (limit : ℕ) (origin : Origin) (changes : List Writes) (items : List Waits) (old new : KeptTable) (was_written written : Option (List ℕ)) (may_leave : List ℕ → Type 0) where
  pub left_in_log : (e : KeepFault) → IsOfLog e → IsLeftInLog origin changes items old new was_written written may_leave → IsLeftBy limit origin changes items old new was_written written may_leave e
  left_in_log (KeepFault.Log e) of l = l
  left_in_log _ of l = absurd of

  pub left_in_making : (e : KeepFault) → IsOfMaking e → IsLeftMade limit origin changes items old was_written written may_leave → IsLeftBy limit origin changes items old new was_written written may_leave e
  left_in_making (KeepFault.NoMemory e) of l = l
  left_in_making KeepFault.NoTimestamp of l = l
  left_in_making _ of l = absurd of

  pub left_in_writing : (e : KeepFault) → e ≡ KeepFault.Output → IsLeftMade limit origin changes items old was_written written may_leave → IsLeftBy limit origin changes items old new was_written written may_leave e
  left_in_writing e is l = subst (λ f. IsLeftBy limit origin changes items old new was_written written may_leave f) (sym is) l

  pub left_made : (seen : List ℕ) (end : ℕ) (text : List ℕ) → IsLogOf origin (changes ++ changes_in items) seen may_leave end → AreSomeAnswers limit items old [] text → AppendsPart was_written written text
      → IsLeftMade limit origin changes items old was_written written may_leave
  left_made seen end text log answers part = record {
    crash = rest_has_changes origin (changes ++ changes_in items) seen may_leave end log;
    text = text;
    answers = answers;
    is_written = part;
  }

-- ---- answers

-- all answers are some of them
pub all_are_some : (limit : ℕ) (items : List Waits) (old new : KeptTable) (before after more : List ℕ) → before ≡ [] → after ≡ before ++ more → AreAnswers limit items old new more → AreSomeAnswers limit items old [] after
all_are_some limit items old new before after more none e a = record {
  front = items;
  rest = [];
  parts = sym (append-nil items);
  now = new;
  text = more;
  answers = a;
  added = e ∙ ap (λ l. l ++ more) none;
}

pub some_are_some : (limit : ℕ) (items : List Waits) (old : KeptTable) (before after : List ℕ) → before ≡ [] → AreSomeAnswers limit items old before after → AreSomeAnswers limit items old [] after
some_are_some limit items old before after none a = subst (λ l. AreSomeAnswers limit items old l after) none a
